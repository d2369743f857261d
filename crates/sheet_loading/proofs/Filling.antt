-- A workbook is filled with fields, one behind the other.
use Rattle.std.proofs.Common.{◌≡◌, ℕ, suc, ◌<◌, ◌≤◌, ◌+◌, List, [], ◌∷◌, ◌++◌, drop, length, get_or, drop-cons, true, cond, Option, Some, None, refl, sym, subst, ap, ◌∙◌, arith}
use Rattle.std.specs.List.{AllByRecursion}
use Rattle.std.proofs.lemmas.List.{append-nil, append_assoc, length-append}
use Rattle.cell_values.specs.declared.TheConstants.{MAX_BOOK_CELLS}
use Rattle.cell_values.specs.declared.address.Addr.{Addr}
use Rattle.cell_values.specs.declared.fields.Raw.{Raw}
use Rattle.cell_values.specs.Addresses.{IsBefore, same_addr}
use Rattle.cell_values.specs.Order.{addresses, InOrder, IsAfterAll, IsBeforeAll}
use Rattle.cell_values.specs.Texts.{Texts}
use Rattle.formula_tokens.proofs.Held.{held_stay}
use Rattle.formula_grammar.specs.declared.faults.FaultKind.{FaultKind}
use Rattle.formula_grammar.specs.Reading.{Reading, IsReading, Means, HasFault}
use Rattle.formula_grammar.proofs.Answered.{there_is_a_reading, tree_or_fault_of_text}
use Rattle.demand_spec.specs.Book.{Content}
use Rattle.demand_spec.specs.Edits.{Cells, Put, IsApplied, IsTooLarge, applied, is_before, put_in, with_cell}
use Rattle.demand_spec.proofs.Applied.{applied_only, edit_applies}
use Rattle.workbook_core.specs.Books.{SharedBook}
use Rattle.workbook_core.specs.Edits.{FieldHasFault, Puts, with_field}
use Rattle.sheet_loading.specs.Contents.{Names}
use Rattle.sheet_loading.specs.Loaded.{HasTree, HaveTrees, IsPlaced, cells_in, held_by, held_tree}
use Rattle.sheet_loading.proofs.Trees.{reads_tree}

-- a field with a tree over these texts

pub no_more_texts : (names : Names) (ts : Texts) (at : Addr) (raw : Raw) → HasTree names ts at raw → with_field names ts raw ≡ ts
no_more_texts names ts at Raw.Nothing h = refl
no_more_texts names ts at (Raw.Number n) h = refl
no_more_texts names ts at (Raw.Text t) h = refl
no_more_texts names ts at (Raw.Bool b) h = refl
no_more_texts names ts at (Raw.Formula text) h = held_stay names ts text h.1.literals

pub no_fault : (names : Names) (ts : Texts) (at : Addr) (raw : Raw) (place : ℕ) (kind : FaultKind) → HasTree names ts at raw → FieldHasFault names ts raw place kind → ⊥
no_fault names ts at Raw.Nothing place kind h f = f
no_fault names ts at (Raw.Number n) place kind h f = f
no_fault names ts at (Raw.Text t) place kind h f = f
no_fault names ts at (Raw.Bool b) place kind h f = f
no_fault names ts at (Raw.Formula text) place kind h f =
    (tree_or_fault_of_text names ts at text h.1.formula h.1.literals).not_both h.0 place kind h.1
    (subst (λ us. HasFault names us text place kind) (held_stay names ts text h.1.literals) f)

puts_held : (names : Names) (ts : Texts) (at : Addr) (raw : Raw) (held : Option Content) → HasTree names ts at raw → Puts names ts at raw held → (read : Reading) → IsReading names read → held ≡ held_by read ts at raw
puts_held names ts at Raw.Nothing held h p read right = p
puts_held names ts at (Raw.Number n) held h p read right = p
puts_held names ts at (Raw.Text t) held h p read right = p
puts_held names ts at (Raw.Bool b) held h p read right = p
puts_held names ts at (Raw.Formula text) held h p read right =
    let means : Means names ts at text p.0 = subst (λ us. Means names us at text p.0) (held_stay names ts text h.1.literals) p.1 in
    p.2 ∙ ap held_tree (sym (reads_tree names ts at text p.0 means read right))

-- a cell behind all others

before_tested : (a b : Addr) → IsBefore a b → is_before a b ≡ true
before_tested a b h = grind (arith, h)

put_behind : (at : Addr) (held : Option Content) (cells : Cells) → IsAfterAll at (addresses cells) → put_in at held cells ≡ cells ++ with_cell at held []
unfolding put_in
put_behind at held [] h = refl
put_behind at held (c ∷ rest) h =
    ap (λ q. cond q (c ∷ put_in at held rest) (with_cell at held (cond (same_addr at c.0) rest (c ∷ rest)))) (before_tested c.0 at h.0)
    ∙ ap (λ cs. c ∷ cs) (put_behind at held rest h.1)

pub put_is : (names : Names) (ts : Texts) (at : Addr) (raw : Raw) (held : Option Content) (old new : Cells) → InOrder (addresses old) → IsAfterAll at (addresses old) → HasTree names ts at raw → Puts names ts at raw held →
    IsApplied (Put at held) old new → (read : Reading) → IsReading names read → new ≡ old ++ with_cell at (held_by read ts at raw) []
unfolding applied
put_is names ts at raw held old new o after h p a read right =
    applied_only (Put at held) old new o a ∙ put_behind at held old after ∙ ap (λ x. old ++ with_cell at x []) (puts_held names ts at raw held h p read right)

length_with : (at : Addr) (held : Option Content) (cells : Cells) → length (cells ++ with_cell at held []) ≤ length cells + 1
length_with at (Some c) cells = omega (arith, length-append cells ((at, c) ∷ []))
length_with at None cells = omega (arith, length-append cells [])

pub not_too_large : (at : Addr) (held : Option Content) (old : Cells) → InOrder (addresses old) → IsAfterAll at (addresses old) → length old < MAX_BOOK_CELLS → IsTooLarge (Put at held) old → ⊥
unfolding applied
not_too_large at held old o after few large =
    let long : MAX_BOOK_CELLS < length (put_in at held old) = large (put_in at held old) (edit_applies (Put at held) old o) in
    let same : length (put_in at held old) ≡ length (old ++ with_cell at held []) = ap length (put_behind at held old after) in
    let short = length_with at held old in
    absurd (omega (arith, few, long, same, short))

-- the book has what the fields in front of `rest` make of their cells, and those of `rest` come behind

abbrev AllAfter : List (Addr × Raw) → Cells → Type 0
AllAfter fields cells = AllByRecursion (λ c. IsAfterAll c.0 (addresses cells)) fields

pub record Fills (known : Names) (ts : Texts) (fields rest : List (Addr × Raw)) (w : SharedBook) : Type 0 where
  pub cells : (read : Reading) → IsReading known read → w.book.cells ++ cells_in read ts rest ≡ cells_in read ts fields
  pub texts : w.book.texts ≡ ts
  pub names : w.names ≡ known
  pub after : AllAfter rest w.book.cells
  pub order : InOrder (addresses w.book.cells)
  pub later : InOrder (addresses rest)
  pub placed : AllByRecursion (IsPlaced ts (length known)) rest
  pub trees : HaveTrees known ts rest
  pub few : length w.book.cells + length rest ≤ MAX_BOOK_CELLS

with_behind : (cells more : Cells) (at : Addr) (held : Option Content) → (cells ++ with_cell at held []) ++ more ≡ cells ++ with_cell at held more
with_behind cells more at (Some c) = append_assoc cells ((at, c) ∷ []) more
with_behind cells more at None = ap (λ cs. cs ++ more) (append-nil cells)

after_one : (a at : Addr) (held : Option Content) (cells : Cells) → IsAfterAll a (addresses cells) → IsBefore at a → IsAfterAll a (addresses (cells ++ with_cell at held []))
after_one a at (Some c) [] h k = (k, tt)
after_one a at None [] h k = tt
after_one a at held (x ∷ xs) h k = (h.0, after_one a at held xs h.1 k)

all_after : (rest : List (Addr × Raw)) (at : Addr) (held : Option Content) (cells : Cells) → AllAfter rest cells → IsBeforeAll at (addresses rest) → AllAfter rest (cells ++ with_cell at held [])
all_after [] at held cells h k = tt
all_after (c ∷ rest) at held cells h k = (after_one c.0 at held cells h.0 k.0, all_after rest at held cells h.1 k.1)

-- one field more
fills_more : (names : Names) (ts : Texts) (fields rest : List (Addr × Raw)) (c : Addr × Raw) (w v : SharedBook) → Fills names ts fields (c ∷ rest) w →
    ((read : Reading) → IsReading w.names read → v.book.cells ≡ w.book.cells ++ with_cell c.0 (held_by read w.book.texts c.0 c.1) []) → v.book.texts ≡ w.book.texts → v.names ≡ w.names → InOrder (addresses v.book.cells) → Fills names ts fields rest v
unfolding cells_in
fills_more names ts fields rest c w v h put texts same order =
    let (read, right) = there_is_a_reading names in
    record {
      cells = λ f g. ap (λ cs. cs ++ cells_in f ts rest) (is f g) ∙ with_behind w.book.cells (cells_in f ts rest) c.0 (held_by f ts c.0 c.1) ∙ h.cells f g;
      texts = texts ∙ h.texts;
      names = same ∙ h.names;
      after = subst (AllAfter rest) (sym (is read right)) (all_after rest c.0 (held_by read ts c.0 c.1) w.book.cells h.after.1 h.later.0);
      order = order;
      later = h.later.1;
      placed = h.placed.1;
      trees = h.trees.1;
      few = (let long = ap length (is read right) in let one = length_with c.0 (held_by read ts c.0 c.1) w.book.cells in let old = h.few in omega (arith, long, one, old));
    }
  where
    is : (f : Reading) → IsReading names f → v.book.cells ≡ w.book.cells ++ with_cell c.0 (held_by f ts c.0 c.1) []
    is f g = put f (subst (λ ns. IsReading ns f) (sym h.names) g) ∙ ap (λ us. w.book.cells ++ with_cell c.0 (held_by f us c.0 c.1) []) h.texts

-- where one stands
at_index : (names : Names) (ts : Texts) (fields : List (Addr × Raw)) (i : ℕ) (c : Addr × Raw) (w : SharedBook) → i < length fields → c ≡ get_or fields i c → Fills names ts fields (drop i fields) w → Fills names ts fields (c ∷ drop (i + 1) fields) w
at_index names ts fields i c w low e h =
    let cut : drop i fields ≡ c ∷ drop (i + 1) fields = drop-cons fields i c low ∙ (λ j. sym e j ∷ drop (plus i j) fields) in
    subst (λ rest. Fills names ts fields rest w) cut h
  where
    plus : (i : ℕ) → suc i ≡ i + 1
    plus i = omega arith

pub fills_next : (names : Names) (ts : Texts) (fields : List (Addr × Raw)) (i : ℕ) (c : Addr × Raw) (w v : SharedBook) → i < length fields → c ≡ get_or fields i c → Fills names ts fields (drop i fields) w →
    ((read : Reading) → IsReading w.names read → v.book.cells ≡ w.book.cells ++ with_cell c.0 (held_by read w.book.texts c.0 c.1) []) → v.book.texts ≡ w.book.texts → v.names ≡ w.names → InOrder (addresses v.book.cells) → Fills names ts fields (drop (i + 1) fields) v
fills_next names ts fields i c w v low e h put texts same order = fills_more names ts fields (drop (i + 1) fields) c w v (at_index names ts fields i c w low e h) put texts same order

pub all_filled : (names : Names) (ts : Texts) (fields : List (Addr × Raw)) (w : SharedBook) → Fills names ts fields [] w → (read : Reading) → IsReading names read → w.book.cells ≡ cells_in read ts fields
unfolding cells_in
all_filled names ts fields w h read right = sym (append-nil w.book.cells) ∙ h.cells read right
