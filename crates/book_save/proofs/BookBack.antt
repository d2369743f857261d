-- All sheets that are saved are loaded as the same book.
use Rattle.std.proofs.Common.{◌≡◌, ℕ, ◌<◌, Bool, true, false, cond, List, [], ◌∷◌, length, map, Some, None, refl, ap, subst, arith}
use Rattle.std.specs.List.{filter}
use Rattle.cell_values.specs.declared.address.Addr.{Addr}
use Rattle.cell_values.specs.Order.{entry_at}
use Rattle.cell_values.specs.Texts.{Texts}
use Rattle.cell_values.proofs.Numbering.{none_distinct}
use Rattle.sheet_csv.proofs.SheetFacts.{kept_none}
use Rattle.demand_spec.specs.Book.{Book, Content}
use Rattle.demand_spec.specs.Edits.{Cells}
use Rattle.workbook_core.specs.Books.{IsCell, IsWorkbook, SharedBook}
use Rattle.sheet_loading.specs.Sheets.{no_cells, sheets_read}
use Rattle.book_save.specs.Fields.{is_long}
use Rattle.book_save.specs.Loaded.{AreSaved, BookReadsBack, ContentHasNumbers, renumbered}
use Rattle.book_save.specs.Rows.{cells_on, first_address}
use Rattle.book_save.proofs.CellsBack.{cells_of_sheet}
use Rattle.book_save.proofs.Each.{EachCell, each_cell, each_found, each_with}
use Rattle.book_save.proofs.Partition.{all_sheets}
use Rattle.book_save.proofs.Reloaded.{IsSaved, behind_sheets, cells_from, sheets_numbered, sheets_over}
use Rattle.book_save.proofs.SameBook.{shows_same}

none_long : (names : List (List ℕ)) (ts : Texts) (cells : Cells) → first_address (filter (λ c. is_long names ts c.0 c.1) cells) ≡ None → EachCell (λ a c. is_long names ts a c ≡ false) cells
none_long names ts [] e = tt
none_long names ts (x ∷ cells) e = go (is_long names ts x.0 x.1) refl e (none_long names ts cells)
  where
    go : (t : Bool) → is_long names ts x.0 x.1 ≡ t → first_address (cond t (x ∷ filter (λ c. is_long names ts c.0 c.1) cells) (filter (λ c. is_long names ts c.0 c.1) cells)) ≡ None →
        (first_address (filter (λ c. is_long names ts c.0 c.1) cells) ≡ None → EachCell (λ a c. is_long names ts a c ≡ false) cells) → (is_long names ts x.0 x.1 ≡ false) × EachCell (λ a c. is_long names ts a c ≡ false) cells
    go true p q later = cc
    go false p q later = (p, later q)

each_saved : (w : SharedBook) → AreSaved w → (sheet : ℕ) → EachCell (IsSaved w.names w.book.texts) (cells_on sheet w.book.cells)
each_saved w s sheet =
    each_with (IsCell w.book.texts (length w.names)) (λ a c. is_long w.names w.book.texts a c ≡ false) (IsSaved w.names w.book.texts) (cells_on sheet w.book.cells) (λ a c h k. (h, k))
    (cells_of_sheet w sheet s.workbook) (none_long w.names w.book.texts (cells_on sheet w.book.cells) (s.short sheet))

whole : (w : SharedBook) → IsWorkbook w → cells_from w 0 (length w.names) ≡ w.book.cells
whole w h = all_sheets (length w.names) w.book.cells h.order (each_cell (λ a c. a.sheet < length w.names) w.book.cells h.order (λ a c e. (h.cells a c e).sheet))

pub book_reads_back : BookReadsBack
unfolding sheets_read
book_reads_back read w right s =
    let h = s.workbook in
    let n = length w.names in
    let ts = w.book.texts in
    let each = each_saved w s in
    let us = behind_sheets read w right s.names h s.utf8 each [] 0 n in
    let kept = kept_none us in
    let all = whole w h in
    let few = h.few in
    let count = ap length all in
    let c : Book = record { cells = map (λ x. (x.0, renumbered ts us x.1)) (cells_from w 0 n); texts = us } in
    let same : c.cells ≡ map (λ x. (x.0, renumbered ts us x.1)) w.book.cells = ap (map (λ (x : Addr × Content). (x.0, renumbered ts us x.1))) all in
    let numbered = sheets_numbered read w right s.names h s.utf8 each [] us 0 n none_distinct kept in
    let numbers : (a : Addr) (x : Content) → entry_at w.book.cells a ≡ Some x → ContentHasNumbers ts us x
    = λ a x e. each_found (λ a c. ContentHasNumbers ts us c) w.book.cells a x (subst (EachCell (λ a c. ContentHasNumbers ts us c)) all numbered) e in (
      c,
      sheets_over read w right s.names h s.utf8 each us 0 n _ no_cells none_distinct kept s.few (omega (arith, few, count)),
      record {
        numbers = numbers;
        cells = same;
        shows = shows_same w.book c same numbers;
      },
    )
