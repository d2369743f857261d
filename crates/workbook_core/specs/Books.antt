-- A workbook as its callers see it.
use Rattle.std.specs.Prelude.{◌≡◌, ℕ, ◌<◌, ◌≤◌, Bool, true, cond, ◌==◌, Option, Some, None, List, [], ◌∷◌, length}
use Rattle.cell_values.specs.declared.TheConstants.{MAX_BOOK_CELLS}
use Rattle.cell_values.specs.declared.address.Addr.{Addr}
use Rattle.cell_values.specs.Addresses.{IsBefore, IsOnSheet}
use Rattle.cell_values.specs.Numbers.{fits}
use Rattle.cell_values.specs.Texts.{Texts}
use Rattle.cell_values.specs.Order.{InOrder, addresses, entry_at}
use Rattle.formula_trees.specs.SheetNumbers.{SheetsBelow}
use Rattle.demand_spec.specs.Book.{Book, Content}
use Rattle.demand_spec.specs.Edits.{is_before}
use Rattle.demand_spec.specs.Listed.{IsSoundAt, IsContentOf}
use Rattle.demand_spec.specs.Sheets.{last_row, last_column}
use Rattle.shared_expressions.specs.Trees.{Trees}
use Rattle.workbook_core.specs.declared.Content.{Content as Held}
use Rattle.workbook_core.specs.Held.{content_in, cells_in, IsHeldOf}

-- the book, the names of its sheets, and the trees that its formulas share, by number
pub record SharedBook : Type 0 where
  pub book : Book
  pub names : List (List ℕ)
  pub pool : Trees

-- the sheets that a formula names are among so many
abbrev pub NamesSheetsBelow : ℕ → Content → Type 0
NamesSheetsBelow count (Content.Formula t) = SheetsBelow count t
NamesSheetsBelow count _ = Unit {0}

-- a number fits
abbrev pub NumberFits : Content → Type 0
NumberFits (Content.Number n) = fits n ≡ true
NumberFits _ = Unit {0}

-- a cell of a book with these texts and so many sheets: it lies on one of them, its number fits, its formula is
-- sound there and names these texts and sheets alone
pub record IsCell (ts : Texts) (count : ℕ) (a : Addr) (c : Content) : Type 0 where
  pub on_sheet : IsOnSheet a
  pub sheet : a.sheet < count
  pub fits : NumberFits c
  pub sound : IsSoundAt a c
  pub texts : IsContentOf ts c
  pub sheets : NamesSheetsBelow count c

-- the cells are in order, at most as many as a book may have, and each is a cell of the book
pub record IsWorkbook (w : SharedBook) : Type 0 where
  pub order : InOrder (addresses w.book.cells)
  pub few : length w.book.cells ≤ MAX_BOOK_CELLS
  pub cells : (a : Addr) (c : Content) → entry_at w.book.cells a ≡ Some c → IsCell w.book.texts (length w.names) a c

-- the same, of cells that are held with ids of a pool
abbrev pub shared_book : List (Addr × Held) → Texts → List (List ℕ) → Trees → SharedBook
shared_book es ts names p = record { book = record { cells = cells_in p es; texts = ts }; names = names; pool = p }

pub record IsKept (es : List (Addr × Held)) (ts : Texts) (names : List (List ℕ)) (p : Trees) : Type 0 where
  pub workbook : IsWorkbook (shared_book es ts names p)
  pub ids : (a : Addr) (h : Held) → entry_at es a ≡ Some h → IsHeldOf p h

-- nothing is told of an address that is none
abbrev pub LiesAfter : Option Addr → Addr → Type 0
LiesAfter None a = Unit {0}
LiesAfter (Some b) a = IsBefore b a

-- the first cell behind an address, or of all
pub record IsNextCell (cells : List (Addr × Content)) (after : Option Addr) (next : Addr) : Type 0 where
  pub cell : (c : Content) × (entry_at cells next ≡ Some c)
  pub behind : LiesAfter after next
  pub least : (a : Addr) (c : Content) → entry_at cells a ≡ Some c → LiesAfter after a → IsBefore a next → ⊥

-- no cell lies behind the address
abbrev pub IsLastCell : List (Addr × Content) → Option Addr → Type 0
IsLastCell cells after = (a : Addr) → LiesAfter after a → entry_at cells a ≡ None

-- the last row that holds a cell of the sheet
pub record IsLastRow (cells : List (Addr × Content)) (sheet : ℕ) (row : ℕ) : Type 0 where
  pub there : (a : Addr) × (c : Content) × (a.sheet ≡ sheet) × (a.row ≡ row) × (entry_at cells a ≡ Some c)
  pub within : (a : Addr) (c : Content) → a.sheet ≡ sheet → entry_at cells a ≡ Some c → a.row ≤ row

-- the last column that holds a cell of the sheet
pub record IsLastColumn (cells : List (Addr × Content)) (sheet : ℕ) (col : ℕ) : Type 0 where
  pub there : (a : Addr) × (c : Content) × (a.sheet ≡ sheet) × (a.col ≡ col) × (entry_at cells a ≡ Some c)
  pub within : (a : Addr) (c : Content) → a.sheet ≡ sheet → entry_at cells a ≡ Some c → a.col ≤ col

-- both
abbrev pub IsExtent : List (Addr × Content) → ℕ → ℕ × ℕ → Type 0
IsExtent cells sheet last = IsLastRow cells sheet last.0 × IsLastColumn cells sheet last.1

-- the sheet holds no cell
abbrev pub IsEmptySheet : List (Addr × Content) → ℕ → Type 0
IsEmptySheet cells sheet = (a : Addr) → a.sheet ≡ sheet → entry_at cells a ≡ None

-- the address lies behind another, or none is given
abbrev pub lies_after : Option Addr → Addr → Bool
lies_after None a = true
lies_after (Some b) a = is_before b a

-- the first cell of the list behind an address, or of all
abbrev pub next_in : List (Addr × Content) → Option Addr → Option Addr
next_in [] after = None
next_in (c ∷ rest) after = cond (lies_after after c.0) (Some c.0) (next_in rest after)

-- the last row and the last column that hold a cell of the sheet, none where no cell does
abbrev pub extent_in : ℕ → List (Addr × Content) → Option (ℕ × ℕ)
extent_in sheet cells = cond (last_row sheet cells == 0) None (Some (last_row sheet cells, last_column sheet cells))

-- what is held may stand in the cell
abbrev pub MayHold : Texts → ℕ → Trees → Addr → Option Held → Type 0
MayHold ts count p at None = Unit {0}
MayHold ts count p at (Some h) = IsHeldOf p h × IsCell ts count at (content_in p h)
