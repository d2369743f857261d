-- Which tree the text of a formula has, and which fault.
use Rattle.std.specs.Prelude.{◌≡◌, ℕ, ◌<◌, ◌≤◌, ◌⊎◌, List, length, true, Result, Ok, Err}
use Rattle.cell_values.specs.declared.address.Addr.{Addr}
use Rattle.cell_values.specs.Interned.{KeepsTexts}
use Rattle.cell_values.specs.Texts.{Texts}
use Rattle.formula_trees.specs.declared.TheConstants.{MAX_FORMULA_BYTES}
use Rattle.formula_trees.specs.Expr.{Expr}
use Rattle.formula_tokens.specs.Tokens.{spots_of, HoldsLiterals}
use Rattle.formula_tokens.specs.Words.{begins_with}
use Rattle.formula_grammar.specs.declared.faults.FaultKind.{FaultKind}
use Rattle.formula_grammar.specs.declared.faults.FormulaFault.{FormulaFault}
use Rattle.formula_grammar.specs.Fault.{Reads, FirstFault, tokens_of}

-- the text is a formula: `=` and then tokens that mean the tree at the cell, in at most 1,024 bytes; and these texts
-- hold its literals
pub record Means (names : List (List ℕ)) (ts : Texts) (at : Addr) (text : List ℕ) (tree : Expr) : Type 0 where
  pub formula : begins_with 61 text ≡ true
  pub short : length text ≤ MAX_FORMULA_BYTES
  pub literals : HoldsLiterals names ts text
  pub reads : Reads at (tokens_of (spots_of names ts text)) tree

-- the text's fault: it is too long, at place 0, where it has more than 1,024 bytes; else that of the first token that
-- has one
abbrev pub HasFault : List (List ℕ) → Texts → List ℕ → ℕ → FaultKind → Type 0
HasFault names ts text place k =
    ((MAX_FORMULA_BYTES < length text) × (place ≡ 0) × (k ≡ FaultKind.TooLong))
    ⊎ ((length text ≤ MAX_FORMULA_BYTES) × FirstFault (spots_of names ts text) (length text) place k)

-- the fault is the text's, unless memory ran out
abbrev pub IsFaultOf : List (List ℕ) → Texts → List ℕ → FormulaFault → Type 0
IsFaultOf names ts text (FormulaFault.Bad place k) = HasFault names ts text place k
IsFaultOf names ts text FormulaFault.OutOfMemory = Unit {0}

-- it is this fault, unless memory ran out
abbrev pub IsThisFault : ℕ → FaultKind → FormulaFault → Type 0
IsThisFault place k (FormulaFault.Bad p j) = (p ≡ place) × (j ≡ k)
IsThisFault place k FormulaFault.OutOfMemory = Unit {0}

-- a text has a tree or a fault, never both, and not two of either
pub record HasTreeOrFault (names : List (List ℕ)) (ts : Texts) (at : Addr) (text : List ℕ) : Type 0 where
  pub one : ((tree : Expr) × Means names ts at text tree) ⊎ ((place : ℕ) × (k : FaultKind) × HasFault names ts text place k)
  pub not_both : (tree : Expr) (place : ℕ) (k : FaultKind) → Means names ts at text tree → HasFault names ts text place k → ⊥
  pub one_tree : (a b : Expr) → Means names ts at text a → Means names ts at text b → a ≡ b
  pub one_fault : (p q : ℕ) (j k : FaultKind) → HasFault names ts text p j → HasFault names ts text q k → (p ≡ q) × (j ≡ k)

-- so has each text that begins with `=`, over texts that hold its literals
abbrev pub TextHasOne : Type 0
TextHasOne = (names : List (List ℕ)) (ts : Texts) (at : Addr) (text : List ℕ) → begins_with 61 text ≡ true → HoldsLiterals names ts text → HasTreeOrFault names ts at text

-- longer texts that begin with those which hold its literals give a formula the same tree
abbrev pub LongerMean : Type 0
LongerMean = (names : List (List ℕ)) (ts more : Texts) (at : Addr) (text : List ℕ) (tree : Expr) → KeepsTexts ts more → Means names ts at text tree → Means names more at text tree

-- the texts do not matter for a fault
abbrev pub FaultsStay : Type 0
FaultsStay = (names : List (List ℕ)) (ts others : Texts) (text : List ℕ) (place : ℕ) (k : FaultKind) → HasFault names ts text place k → HasFault names others text place k

-- what texts read as: trees, or faults with their places
abbrev pub Reading : Type 0
Reading = Texts → Addr → List ℕ → Result Expr (ℕ × FaultKind)

-- it is what the text reads as
abbrev pub IsReadAs : List (List ℕ) → Texts → Addr → List ℕ → Result Expr (ℕ × FaultKind) → Type 0
IsReadAs names ts at text (Ok tree) = Means names ts at text tree
IsReadAs names ts at text (Err fault) = HasFault names ts text fault.0 fault.1

-- each text that begins with `=`, over texts that hold its literals, reads as the tree or the fault that it has
abbrev pub IsReading : List (List ℕ) → Reading → Type 0
IsReading names read = (ts : Texts) (at : Addr) (text : List ℕ) → begins_with 61 text ≡ true → HoldsLiterals names ts text → IsReadAs names ts at text (read ts at text)

-- there is a reading
abbrev pub IsReadable : Type 0
IsReadable = (names : List (List ℕ)) → (read : Reading) × IsReading names read

-- and any two agree on each such text
abbrev pub ReadingsAgree : Type 0
ReadingsAgree = (names : List (List ℕ)) (f g : Reading) → IsReading names f → IsReading names g → (ts : Texts) (at : Addr) (text : List ℕ) → begins_with 61 text ≡ true → HoldsLiterals names ts text → f ts at text ≡ g ts at text
