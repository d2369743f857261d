use Rattle.std.proofs.Common.{length, ◌-◌, drop}
use Rattle.formula_tokens.specs.Lexemes.{lexemes_at}
use Rattle.formula_tokens.proofs.Reading.{Reads}
use Rattle.formula_tokens.proofs.lexer.read_tokens.Given as goal

abbrev pub invariant-loop-place : goal.invariant-loop-place
invariant-loop-place l = Reads l.sheets l.fn.texts l.text l.texts l.spots.items (lexemes_at l.sheets l.place 0 l.prefixed (drop l.place l.text))

abbrev pub decreases-loop-place : goal.decreases-loop-place
decreases-loop-place l = length l.text - l.place
