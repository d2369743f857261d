use Rattle.std.proofs.Common.{◌∙◌, sym, arith}
use Rattle.formula_tokens.proofs.Numbers.{column_done}
use Rattle.formula_tokens.proofs.words.column_number.Goals as goal

pub returns : goal.returns
returns c = sym (column_done c.loop-letter.number c.loop-letter.letter-index c.args.letters.now (omega arith) c.loop-letter.invariant.0) ∙ c.loop-letter.invariant.1
