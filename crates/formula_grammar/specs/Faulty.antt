-- The fault that is answered.
use Rattle.std.specs.Prelude.{ℕ, List}
use Rattle.formula_tokens.specs.declared.token.Spot.{Spot}
use Rattle.formula_grammar.specs.declared.faults.FormulaFault.{FormulaFault}
use Rattle.formula_grammar.specs.declared.faults.FormulaFault.TheVariants.{Bad, OutOfMemory}
use Rattle.formula_grammar.specs.Fault.{FirstFault}

-- it is the first one, unless memory ran out
abbrev pub IsFault : List Spot → ℕ → FormulaFault → Type 0
IsFault spots end (Bad place k) = FirstFault spots end place k
IsFault spots end OutOfMemory = Unit {0}
