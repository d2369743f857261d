-- One more sheet.
use Rattle.std.proofs.Common.{◌≡◌, ℕ, ◌+◌, ◌-◌, ◌<◌, ◌≤◌, List, [], ◌∷◌, ◌++◌, length, arith, true, false, nat_lt, cond, Option, Some, None, Ok, Err, refl, sym, subst, ap, ◌∙◌}
use Rattle.std.specs.List.{AllByRecursion}
use Rattle.std.specs.Result.{result_map_both}
use Rattle.cell_values.specs.declared.TheConstants.{MAX_BOOK_CELLS}
use Rattle.cell_values.specs.declared.address.Addr.{Addr}
use Rattle.cell_values.specs.declared.fields.Raw.{Raw}
use Rattle.cell_values.specs.Interned.{KeepsTexts}
use Rattle.cell_values.specs.Texts.{Texts}
use Rattle.formula_grammar.specs.Reading.{Reading, IsReading}
use Rattle.demand_spec.specs.Book.{Book, Content}
use Rattle.demand_spec.specs.Edits.{Cells, with_cell}
use Rattle.sheet_loading.specs.declared.faults.LoadFault.{LoadFault}
use Rattle.sheet_loading.specs.declared.faults.SheetRefusal.{SheetRefusal}
use Rattle.sheet_loading.specs.Contents.{Names}
use Rattle.sheet_loading.specs.Faults.{IsLoadFault}
use Rattle.sheet_loading.specs.Loaded.{HasTree, HaveTrees, IsFilled, IsLoader, IsPlaced, book_of, cells_in, held_by, held_tree}
use Rattle.sheet_loading.specs.Sheets.{sheet_added, sheet_read, with_sheet}
use Rattle.sheet_loading.specs.Steps.{ReadsSheet}
use Rattle.sheet_loading.proofs.Placed.{both, in_order_both, placed_stay}
use Rattle.sheet_loading.proofs.Trees.{cells_stay, reads_tree, trees_stay}

-- each field gives one cell

held_is_there : (names : Names) (ts : Texts) (at : Addr) (raw : Raw) (cells : Cells) → IsFilled raw → HasTree names ts at raw → (read : Reading) → IsReading names read → length (with_cell at (held_by read ts at raw) cells) ≡ length cells + 1
held_is_there names ts at Raw.Nothing cells f h read right = absurd f
held_is_there names ts at (Raw.Number n) cells f h read right = omega arith
held_is_there names ts at (Raw.Text t) cells f h read right = omega arith
held_is_there names ts at (Raw.Bool b) cells f h read right = omega arith
held_is_there names ts at (Raw.Formula text) cells f h read right =
    let one : length cells + 1 ≡ length ((at, Content.Formula h.0) ∷ cells) = omega arith in
    ap (λ r. length (with_cell at (held_tree r) cells)) (reads_tree names ts at text h.0 h.1 read right) ∙ sym one

cells_counted : (names : Names) (ts : Texts) (sheet : ℕ) (fields : List (Addr × Raw)) → AllByRecursion (IsPlaced ts sheet) fields → HaveTrees names ts fields → (read : Reading) → IsReading names read → length (cells_in read ts fields) ≡ length fields
unfolding cells_in
cells_counted names ts sheet [] p h read right = refl
cells_counted names ts sheet (c ∷ rest) p h read right =
    let one = held_is_there names ts c.0 c.1 (cells_in read ts rest) p.0.filled h.0 read right in
    let others = cells_counted names ts sheet rest p.1 h.1 read right in
    omega (arith, one, others)

with_both : (at : Addr) (held : Option Content) (xs ys : Cells) → with_cell at held (xs ++ ys) ≡ with_cell at held xs ++ ys
with_both at (Some x) xs ys = refl
with_both at None xs ys = refl

cells_both : (read : Reading) (ts : Texts) (xs ys : List (Addr × Raw)) → cells_in read ts (xs ++ ys) ≡ cells_in read ts xs ++ cells_in read ts ys
unfolding cells_in
cells_both read ts [] ys = refl
cells_both read ts (c ∷ xs) ys = ap (with_cell c.0 (held_by read ts c.0 c.1)) (cells_both read ts xs ys) ∙ with_both c.0 (held_by read ts c.0 c.1) (cells_in read ts xs) (cells_in read ts ys)

-- what a loader keeps

pub loader_grows : (names : Names) (ts us : Texts) (fields : List (Addr × Raw)) (left sheet : ℕ) → KeepsTexts ts us → IsLoader names ts fields left sheet → IsLoader names us fields left sheet
loader_grows names ts us fields left sheet k h = record {
  names = h.names;
  sheets = h.sheets;
  left = h.left;
  order = h.order;
  few = h.few;
  placed = placed_stay ts us sheet sheet fields k (omega arith) h.placed;
  trees = trees_stay names ts us fields k h.trees;
}

pub loader_adds : (names : Names) (ts us : Texts) (fields more all : List (Addr × Raw)) (left room sheet : ℕ) (bytes : List ℕ) → IsLoader names ts fields left sheet → KeepsTexts ts us →
    ReadsSheet names sheet ts us room bytes more → all ≡ fields ++ more → length all ≤ MAX_BOOK_CELLS → sheet < length names → IsLoader names us all (left - length bytes) (sheet + 1)
loader_adds names ts us fields more all left room sheet bytes h k r e few next =
    subst (λ (cs : List (Addr × Raw)). length cs ≤ MAX_BOOK_CELLS → IsLoader names us cs (left - length bytes) (sheet + 1)) (sym e) (λ l. record {
      names = h.names;
      sheets = omega (arith, next);
      left = (let low = h.left in omega (arith, low));
      order = in_order_both ts sheet fields more h.placed r.here h.order r.order;
      few = l;
      placed = both (IsPlaced us (sheet + 1)) fields more (placed_stay ts us sheet (sheet + 1) fields k (omega arith) h.placed) r.placed;
      trees = both (λ c. HasTree names us c.0 c.1) fields more (trees_stay names ts us fields k h.trees) r.trees;
    }) few

-- what is added, and what is refused

pub sheet_adds : (names : Names) (ts us : Texts) (fields more all : List (Addr × Raw)) (left room sheet : ℕ) (bytes : List ℕ) → IsLoader names ts fields left sheet → KeepsTexts ts us →
    ReadsSheet names sheet ts us room bytes more → all ≡ fields ++ more → room ≡ MAX_BOOK_CELLS - length fields → length bytes ≤ left → (read : Reading) → IsReading names read →
    sheet_added read names sheet left (record { cells = cells_in read ts fields; texts = ts }) bytes ≡ Ok (record { cells = cells_in read us all; texts = us })
unfolding sheet_added
sheet_adds names ts us fields more all left room sheet bytes h k r e p low read right =
    let b : Book = record { cells = cells_in read ts fields; texts = ts } in
    let fits : nat_lt left (length bytes) ≡ false = grind (arith, low) in
    let count : MAX_BOOK_CELLS - length (cells_in read ts fields) ≡ room = ap (λ n. MAX_BOOK_CELLS - n) (cells_counted names ts sheet fields h.placed h.trees read right) ∙ sym p in
    ap (λ q. cond q (Err SheetRefusal.TooLong) (result_map_both (with_sheet b) (λ why. why) (sheet_read read names sheet ts (MAX_BOOK_CELLS - length (cells_in read ts fields)) bytes))) fits
    ∙ ap (λ n. result_map_both (with_sheet b) (λ why. why) (sheet_read read names sheet ts n bytes)) count
    ∙ ap (result_map_both (with_sheet b) (λ why. why)) (r.made read right)
    ∙ (λ i. Ok (record { cells = sym (cells_stay names ts us fields k h.trees read right) i ++ cells_in read us more; texts = us }))
    ∙ (λ i. Ok (record { cells = (sym (cells_both read us fields more) ∙ ap (cells_in read us) (sym e)) i; texts = us }))

pub sheet_refused : (fault : LoadFault) (names : Names) (ts : Texts) (fields : List (Addr × Raw)) (left room sheet : ℕ) (bytes : List ℕ) → IsLoader names ts fields left sheet →
    room ≡ MAX_BOOK_CELLS - length fields → length bytes ≤ left → ((read : Reading) → IsReading names read → IsLoadFault fault (sheet_read read names sheet ts room bytes)) →
    (read : Reading) → IsReading names read → IsLoadFault fault (sheet_added read names sheet left (record { cells = cells_in read ts fields; texts = ts }) bytes)
unfolding sheet_added
sheet_refused LoadFault.OutOfMemory names ts fields left room sheet bytes h p low f read right = tt
sheet_refused (LoadFault.Refused why) names ts fields left room sheet bytes h p low f read right =
    let b : Book = record { cells = cells_in read ts fields; texts = ts } in
    let fits : nat_lt left (length bytes) ≡ false = grind (arith, low) in
    let count : MAX_BOOK_CELLS - length (cells_in read ts fields) ≡ room = ap (λ n. MAX_BOOK_CELLS - n) (cells_counted names ts sheet fields h.placed h.trees read right) ∙ sym p in
    ap (λ q. cond q (Err SheetRefusal.TooLong) (result_map_both (with_sheet b) (λ w. w) (sheet_read read names sheet ts (MAX_BOOK_CELLS - length (cells_in read ts fields)) bytes))) fits
    ∙ ap (λ n. result_map_both (with_sheet b) (λ w. w) (sheet_read read names sheet ts n bytes)) count
    ∙ ap (result_map_both (with_sheet b) (λ w. w)) (f read right)

pub too_long : (read : Reading) (names : Names) (sheet left : ℕ) (b : Book) (bytes : List ℕ) → left < length bytes → sheet_added read names sheet left b bytes ≡ Err SheetRefusal.TooLong
unfolding sheet_added
too_long read names sheet left b bytes h =
    let long : nat_lt left (length bytes) ≡ true = grind (arith, h) in
    ap (λ q. cond q (Err SheetRefusal.TooLong) (result_map_both (with_sheet b) (λ w. w) (sheet_read read names sheet b.texts (MAX_BOOK_CELLS - length b.cells) bytes))) long

-- a sheet that is not added leaves the cells
pub cells_left : (names : Names) (ts us : Texts) (fields : List (Addr × Raw)) (left sheet : ℕ) → KeepsTexts ts us → IsLoader names ts fields left sheet → (read : Reading) → IsReading names read →
    book_of read (record { names = names; texts = us; fields = fields; left = left; sheet = sheet }) ≡ record { cells = (book_of read (record { names = names; texts = ts; fields = fields; left = left; sheet = sheet })).cells; texts = us }
unfolding book_of
cells_left names ts us fields left sheet k h read right = λ i. record { cells = cells_stay names ts us fields k h.trees read right i; texts = us }
