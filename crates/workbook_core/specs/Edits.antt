-- What fields put into a book, and why an edit fails.
use Rattle.std.specs.Prelude.{◌≡◌, ℕ, true, Option, Some, None, List}
use Rattle.cell_values.specs.declared.address.Addr.{Addr}
use Rattle.cell_values.specs.declared.address.Area.{Area}
use Rattle.cell_values.specs.declared.fields.Raw.{Raw}
use Rattle.cell_values.specs.Numbers.{fits}
use Rattle.cell_values.specs.Texts.{Texts}
use Rattle.formula_trees.specs.Expr.{Expr}
use Rattle.formula_tokens.specs.Tokens.{with_literals}
use Rattle.formula_tokens.specs.Words.{begins_with}
use Rattle.formula_grammar.specs.declared.faults.FaultKind.{FaultKind}
use Rattle.formula_grammar.specs.Reading.{Means, HasFault}
use Rattle.demand_spec.specs.Book.{Content}
use Rattle.demand_spec.specs.Edits.{Cells, Put, Copy, IsTooLarge}
use Rattle.workbook_core.specs.declared.edits.EditFault.{EditFault}

-- what a field puts into a cell: nothing, its value, or the tree that its formula means there
abbrev pub Puts : List (List ℕ) → Texts → Addr → Raw → Option Content → Type 0
Puts names ts at Raw.Nothing held = held ≡ None
Puts names ts at (Raw.Number n) held = held ≡ Some (Content.Number n)
Puts names ts at (Raw.Text t) held = held ≡ Some (Content.Text t)
Puts names ts at (Raw.Bool b) held = held ≡ Some (Content.Truth b)
Puts names ts at (Raw.Formula text) held =
    (tree : Expr) × Means names (with_literals names ts text) at text tree × (held ≡ Some (Content.Formula tree))

-- the texts with those of the field's formula
abbrev pub with_field : List (List ℕ) → Texts → Raw → Texts
with_field names ts (Raw.Formula text) = with_literals names ts text
with_field names ts _ = ts

-- the field is a formula with this fault
abbrev pub FieldHasFault : List (List ℕ) → Texts → Raw → ℕ → FaultKind → Type 0
FieldHasFault names ts (Raw.Formula text) place k = HasFault names (with_literals names ts text) text place k
FieldHasFault names ts _ place k = ⊥

-- a number fits, and a formula begins with `=`
abbrev pub IsField : Raw → Type 0
IsField (Raw.Number n) = fits n ≡ true
IsField (Raw.Formula text) = begins_with 61 text ≡ true
IsField _ = Unit {0}

-- why a field is not put
abbrev pub IsPutFault : List (List ℕ) → Texts → Cells → Addr → Raw → EditFault → Type 0
IsPutFault names ts old at raw (EditFault.BadFormula place k) = FieldHasFault names ts raw place k
IsPutFault names ts old at raw EditFault.TooManyCells =
    (held : Option Content) × Puts names ts at raw held × IsTooLarge (Put at held) old
IsPutFault names ts old at raw EditFault.OutOfMemory = Unit {0}

-- why cells are not copied
abbrev pub IsCopyFault : Cells → Addr → Area → EditFault → Type 0
IsCopyFault old from to (EditFault.BadFormula place k) = ⊥
IsCopyFault old from to EditFault.TooManyCells = IsTooLarge (Copy from to) old
IsCopyFault old from to EditFault.OutOfMemory = Unit {0}

-- it is this fault of a formula, unless memory ran out
abbrev pub IsThisFault : ℕ → FaultKind → EditFault → Type 0
IsThisFault place k (EditFault.BadFormula p j) = (p ≡ place) × (j ≡ k)
IsThisFault place k EditFault.TooManyCells = ⊥
IsThisFault place k EditFault.OutOfMemory = Unit {0}

-- there are too many cells, unless memory ran out
abbrev pub IsTooMany : EditFault → Type 0
IsTooMany (EditFault.BadFormula place k) = ⊥
IsTooMany EditFault.TooManyCells = Unit {0}
IsTooMany EditFault.OutOfMemory = Unit {0}
