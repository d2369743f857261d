-- All sheets saved, and loaded again.
use Rattle.std.specs.Prelude.{◌≡◌, ℕ, ◌≤◌, Some, None, Ok, List, [], get_or, length, map, unwrap_or}
use Rattle.std.specs.List.{concat}
use Rattle.cell_values.specs.declared.address.Addr.{Addr}
use Rattle.cell_values.specs.declared.interned.TextId.{TextId}
use Rattle.cell_values.specs.Areas.{numbers_from}
use Rattle.cell_values.specs.Interned.{AreDistinct, number_of}
use Rattle.cell_values.specs.Names.{AreSheetNames}
use Rattle.cell_values.specs.Order.{entry_at}
use Rattle.cell_values.specs.ShownText.{shown_text}
use Rattle.cell_values.specs.Texts.{Texts, text_at}
use Rattle.formula_trees.specs.Expr.{Expr, Ref, Range}
use Rattle.formula_trees.specs.Mapped.{mapped}
use Rattle.formula_trees.specs.TextNumbers.{TextsBelow}
use Rattle.formula_grammar.specs.Reading.{IsReading, Reading}
use Rattle.demand_spec.specs.Book.{Book, Content, shown}
use Rattle.workbook_core.specs.Books.{IsWorkbook, SharedBook}
use Rattle.sheet_loading.specs.declared.TheConstants.{SHEET_BYTES}
use Rattle.sheet_loading.specs.Sheets.{sheets_read}
use Rattle.book_save.specs.Rows.{AreUtf8, first_long, saved_rows}

-- the saved rows of a sheet, as the bytes of a file
abbrev pub saved_sheet : List (List ℕ) → Book → ℕ → List ℕ
saved_sheet names b sheet = concat (saved_rows names b sheet)

-- those of all sheets
abbrev pub saved_sheets : List (List ℕ) → Book → List (List ℕ)
saved_sheets names b = map (saved_sheet names b) (numbers_from 0 (length names))

-- the number that a text has among others
abbrev pub renumbered_text : Texts → Texts → TextId → TextId
renumbered_text ts us t = record { 0 = unwrap_or (number_of us (text_at ts t)) 0 }

-- a formula with its texts under the numbers that they have among others
abbrev pub renumbered_tree : Texts → Texts → Expr → Expr
renumbered_tree ts us t = mapped (λ r. Ref r) (λ r s. Range r s) (renumbered_text ts us) t

abbrev pub renumbered : Texts → Texts → Content → Content
renumbered ts us (Content.Number n) = Content.Number n
renumbered ts us (Content.Text t) = Content.Text (renumbered_text ts us t)
renumbered ts us (Content.Truth b) = Content.Truth b
renumbered ts us (Content.Formula t) = Content.Formula (renumbered_tree ts us t)

-- the text with this number in the one has a number in the other
pub record HasNumber (ts us : Texts) (i : ℕ) : Type 0 where
  pub number : ℕ
  pub is : number_of us (get_or ts i []) ≡ Some number

-- each text of what a cell holds has one
abbrev pub ContentHasNumbers : Texts → Texts → Content → Type 0
ContentHasNumbers ts us (Content.Number n) = Unit {0}
ContentHasNumbers ts us (Content.Text t) = HasNumber ts us t.0
ContentHasNumbers ts us (Content.Truth b) = Unit {0}
ContentHasNumbers ts us (Content.Formula t) = TextsBelow (HasNumber ts us) t

-- the same book but for its list of texts and their numbers: each cell shows the same text
pub record IsSameBook (b c : Book) : Type 0 where
  pub numbers : (a : Addr) (x : Content) → entry_at b.cells a ≡ Some x → ContentHasNumbers b.texts c.texts x
  pub cells : c.cells ≡ map (λ x. (x.0, renumbered b.texts c.texts x.1)) b.cells
  pub shows : (a : Addr) → shown_text c.texts (shown c a) ≡ shown_text b.texts (shown b a)

-- each sheet can be saved, and what is saved of all is not more than a loader takes
pub record AreSaved (w : SharedBook) : Type 0 where
  pub workbook : IsWorkbook w
  pub names : AreSheetNames w.names
  pub distinct : AreDistinct w.book.texts
  pub utf8 : (sheet : ℕ) → AreUtf8 w.names w.book sheet
  pub short : (sheet : ℕ) → first_long w.names w.book sheet ≡ None
  pub few : length (concat (saved_sheets w.names w.book)) ≤ SHEET_BYTES

-- what is saved of all sheets is loaded as the same book
abbrev pub BookReadsBack : Type 0
BookReadsBack = (read : Reading) (w : SharedBook) → IsReading w.names read → AreSaved w →
    (c : Book) × (sheets_read read w.names (saved_sheets w.names w.book) ≡ Ok c) × IsSameBook w.book c
