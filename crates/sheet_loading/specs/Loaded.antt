-- What a loader has of the sheets so far.
use Rattle.std.specs.Prelude.{ℕ, ◌<◌, ◌≤◌, List, [], ◌∷◌, length, Option, Some, None, Result, Ok, Err}
use Rattle.std.specs.List.{AllByRecursion}
use Rattle.cell_values.specs.declared.TheConstants.{MAX_BOOK_CELLS}
use Rattle.cell_values.specs.declared.address.Addr.{Addr}
use Rattle.cell_values.specs.declared.fields.Raw.{Raw}
use Rattle.cell_values.specs.Addresses.{IsOnSheet}
use Rattle.cell_values.specs.Fields.{IsRawOf}
use Rattle.cell_values.specs.Names.{AreSheetNames}
use Rattle.cell_values.specs.Order.{InOrder, addresses}
use Rattle.cell_values.specs.Texts.{Texts}
use Rattle.formula_trees.specs.Expr.{Expr}
use Rattle.formula_grammar.specs.declared.faults.FaultKind.{FaultKind}
use Rattle.formula_grammar.specs.Reading.{Reading, Means}
use Rattle.demand_spec.specs.Book.{Book, Content}
use Rattle.demand_spec.specs.Edits.{Cells, with_cell}
use Rattle.workbook_core.specs.Edits.{IsField}
use Rattle.sheet_loading.specs.declared.TheConstants.{SHEET_BYTES}
use Rattle.sheet_loading.specs.Contents.{Names}

-- the names of all sheets, the texts so far, the fields so far in order of their cells, how many bytes may still come,
-- and the number of the next sheet
pub record LoadedSheets : Type 0 where
  pub names : Names
  pub texts : Texts
  pub fields : List (Addr × Raw)
  pub left : ℕ
  pub sheet : ℕ

abbrev pub held_tree : Result Expr (ℕ × FaultKind) → Option Content
held_tree (Ok tree) = Some (Content.Formula tree)
held_tree (Err fault) = None

-- what a cell holds by its field, over texts with those of its formula
abbrev pub held_by : Reading → Texts → Addr → Raw → Option Content
held_by read ts at Raw.Nothing = None
held_by read ts at (Raw.Number n) = Some (Content.Number n)
held_by read ts at (Raw.Text t) = Some (Content.Text t)
held_by read ts at (Raw.Bool b) = Some (Content.Truth b)
held_by read ts at (Raw.Formula text) = held_tree (read ts at text)

-- the cells of the fields
unfoldable pub cells_in : Reading → Texts → List (Addr × Raw) → Cells
cells_in read ts [] = []
cells_in read ts (c ∷ rest) = with_cell c.0 (held_by read ts c.0 c.1) (cells_in read ts rest)

-- the book of the sheets so far
unfoldable pub book_of : Reading → LoadedSheets → Book
book_of read l = record { cells = cells_in read l.texts l.fields; texts = l.texts }

-- the field is not empty
abbrev pub IsFilled : Raw → Type 0
IsFilled Raw.Nothing = ⊥
IsFilled _ = Unit {0}

-- the formula of the field has a tree over these texts
abbrev pub HasTree : Names → Texts → Addr → Raw → Type 0
HasTree names ts at (Raw.Formula text) = (tree : Expr) × Means names ts at text tree
HasTree names ts at _ = Unit {0}

abbrev pub HaveTrees : Names → Texts → List (Addr × Raw) → Type 0
HaveTrees names ts fields = AllByRecursion (λ c. HasTree names ts c.0 c.1) fields

-- the field is one of a cell of the first sheets
pub record IsPlaced (ts : Texts) (sheets : ℕ) (c : Addr × Raw) : Type 0 where
  pub on_sheet : IsOnSheet c.0
  pub earlier : c.0.sheet < sheets
  pub text : IsRawOf ts c.1
  pub field : IsField c.1
  pub filled : IsFilled c.1

-- the fields of a loader's sheets
pub record IsLoader (known : Names) (ts : Texts) (cells : List (Addr × Raw)) (bytes next : ℕ) : Type 0 where
  pub names : AreSheetNames known
  pub sheets : next ≤ length known
  pub left : bytes ≤ SHEET_BYTES
  pub order : InOrder (addresses cells)
  pub few : length cells ≤ MAX_BOOK_CELLS
  pub placed : AllByRecursion (IsPlaced ts next) cells
  pub trees : HaveTrees known ts cells
