use Rattle.std.proofs.Common.{◌≡◌, ◌-◌, length, drop, string_bytes}
use Rattle.std.specs.Str.{IsCharBoundary}
use Rattle.formula_tokens.specs.Lexemes.{literal_from}
use Rattle.formula_tokens.proofs.Literals.{before}
use Rattle.formula_tokens.proofs.lexemes.read_literal.Given as goal

abbrev pub invariant-loop-length : goal.invariant-loop-length
invariant-loop-length l = IsCharBoundary l.text l.start × (before (string_bytes l.literal) l.start (literal_from (drop l.start l.text)) ≡ literal_from l.text)

abbrev pub decreases-loop-length : goal.decreases-loop-length
decreases-loop-length l = length l.text - l.start
