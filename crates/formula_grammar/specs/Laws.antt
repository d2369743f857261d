-- What holds of all tokens.
use Rattle.std.specs.Prelude.{◌≡◌, ℕ, List, ◌⊎◌}
use Rattle.cell_values.specs.declared.address.Addr.{Addr}
use Rattle.formula_trees.specs.Expr.{Expr}
use Rattle.formula_trees.specs.Sound.{IsSound}
use Rattle.formula_tokens.specs.declared.token.Spot.{Spot}
use Rattle.formula_tokens.specs.declared.token.Token.{Token}
use Rattle.formula_grammar.specs.declared.faults.FaultKind.{FaultKind}
use Rattle.formula_grammar.specs.Fault.{Reads, FirstFault, tokens_of}

-- tokens have a tree or a first fault
abbrev pub TreeOrFault : Type 0
TreeOrFault = (at : Addr) (spots : List Spot) (end : ℕ) → ((x : Expr) × Reads at (tokens_of spots) x) ⊎ ((place : ℕ) × (k : FaultKind) × FirstFault spots end place k)

-- and never both
abbrev pub NeverBoth : Type 0
NeverBoth = (at : Addr) (spots : List Spot) (end place : ℕ) (k : FaultKind) (x : Expr) → Reads at (tokens_of spots) x → FirstFault spots end place k → ⊥

-- they have one tree at a cell
abbrev pub OneTree : Type 0
OneTree = (at : Addr) (tokens : List Token) (x y : Expr) → Reads at tokens x → Reads at tokens y → x ≡ y

-- and one first fault
abbrev pub OneFault : Type 0
OneFault = (spots : List Spot) (end p q : ℕ) (j k : FaultKind) → FirstFault spots end p j → FirstFault spots end q k → (p ≡ q) × (j ≡ k)

-- a tree that is read is a sound formula's
abbrev pub ReadIsSound : Type 0
ReadIsSound = (at : Addr) (tokens : List Token) (x : Expr) → Reads at tokens x → IsSound at x
