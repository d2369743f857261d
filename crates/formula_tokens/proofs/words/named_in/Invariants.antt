use Rattle.std.proofs.Common.{◌≡◌, drop}
use Rattle.formula_tokens.specs.Words.{upper, named_in}
use Rattle.formula_tokens.proofs.words.named_in.Given as goal

abbrev pub invariant-loop-fun : goal.invariant-loop-fun
invariant-loop-fun l = named_in (drop l.fun-index l.functions) (upper l.word) ≡ named_in l.functions (upper l.word)
