-- A search that meets the cells of a book in order finds each loop at its leader.
use Rattle.std.proofs.Common.{◌≡◌, ℕ, Bool, true, false, cond, not, ◌||◌, inl, inr, ⊎_elim, Option, Some, None, List, [], ◌∷◌, ◌++◌, append_assoc, append-nil, map, refl, sym, ap, ◌∙◌, subst}
use Rattle.std.specs.List.{filter, list_any}
use Rattle.std.proofs.lemmas.Bool.{or_right, not-true, false_from_ne_true}
use Rattle.std.proofs.lemmas.Bool.Decides.{same_from_decides}
use Rattle.cell_values.specs.declared.address.Addr.{Addr}
use Rattle.cell_values.specs.Addresses.{same_addr, IsBefore}
use Rattle.cell_values.specs.Order.{InOrder, addresses}
use Rattle.cell_values.proofs.Order.{same_addr-true, same_addr-refl, never_before, before_trans, before_apart}
use Rattle.demand_spec.specs.Book.{Book}
use Rattle.demand_spec.specs.Edits.{Cells, is_before}
use Rattle.demand_spec.specs.Laws.{In}
use Rattle.demand_spec.proofs.Members.{member_found, found_member}
use Rattle.demand_spec.proofs.OneList.{before_member}
use Rattle.demand_spec.proofs.Spread.{any_member, member_of_any, in_filter, filter_in}
use Rattle.workbook_core.specs.Books.{lies_after, next_in}
use Rattle.cycle_finder.specs.Loops.{loop_length, loop_from, leads, loops}
use Rattle.cycle_finder.specs.Search.{cells_behind, has, IsFound}
use Rattle.cycle_finder.proofs.Around.{same_length, back_on, further_on, loop_in_book}
use Rattle.cycle_finder.proofs.Leading.{before_true, true_before, not_before, same_or_behind, leads_length, leads_least, least_leads}

-- the next cell, and those behind it

behind_further : (after : Option Addr) (x y : Addr) → lies_after after x ≡ true → IsBefore x y → lies_after after y ≡ true
behind_further None x y h l = refl
behind_further (Some a) x y h l = true_before a y (before_trans a x y (before_true a x h) l)

all_pass : (p : Addr → Bool) (xs : List Addr) → ((x : Addr) → In x xs → p x ≡ true) → filter p xs ≡ xs
all_pass p [] h = refl
all_pass p (x ∷ xs) h = ap (λ t. cond t (x ∷ filter p xs) (filter p xs)) (h x (inl refl)) ∙ ap (λ z. x ∷ z) (all_pass p xs (λ y k. h y (inr k)))

next_there : (cells : Cells) (after : Option Addr) (x : Addr) → next_in cells after ≡ Some x → In x (addresses cells)
next_there [] after x e = cc
next_there (c ∷ cells) after x e = go (lies_after after c.0) e (next_there cells after x)
  where
    go : (t : Bool) → cond t (Some c.0) (next_in cells after) ≡ Some x → (next_in cells after ≡ Some x → In x (addresses cells)) → In x (addresses (c ∷ cells))
    go true q later = inl cc
    go false q later = inr (later q)

next_behind : (cells : Cells) (after : Option Addr) (x : Addr) → next_in cells after ≡ Some x → lies_after after x ≡ true
next_behind [] after x e = cc
next_behind (c ∷ cells) after x e = go (lies_after after c.0) refl e (next_behind cells after x)
  where
    go : (t : Bool) → lies_after after c.0 ≡ t → cond t (Some c.0) (next_in cells after) ≡ Some x → (next_in cells after ≡ Some x → lies_after after x ≡ true) → lies_after after x ≡ true
    go true p q later = (let s : c.0 ≡ x = cc in ap (lies_after after) (sym s) ∙ p)
    go false p q later = later q

next_first : (cells : Cells) → InOrder (addresses cells) → (after : Option Addr) (x : Addr) → next_in cells after ≡ Some x → filter (lies_after after) (addresses cells) ≡ x ∷ filter (lies_after (Some x)) (addresses cells)
next_first [] order after x e = cc
next_first (c ∷ cells) order after x e = go (lies_after after c.0) refl e (next_first cells order.1 after x)
  where
    none : filter (is_before c.0) (c.0 ∷ addresses cells) ≡ addresses cells
    none = ap (λ t. cond t (c.0 ∷ filter (is_before c.0) (addresses cells)) (filter (is_before c.0) (addresses cells))) (not_before c.0 c.0 (never_before c.0)) ∙ all_pass (is_before c.0) (addresses cells) (λ y k. true_before c.0 y (before_member c.0 (addresses cells) y order.0 k))

    go : (t : Bool) → lies_after after c.0 ≡ t → cond t (Some c.0) (next_in cells after) ≡ Some x → (next_in cells after ≡ Some x → filter (lies_after after) (addresses cells) ≡ x ∷ filter (lies_after (Some x)) (addresses cells)) →
        cond t (c.0 ∷ filter (lies_after after) (addresses cells)) (filter (lies_after after) (addresses cells)) ≡ x ∷ filter (lies_after (Some x)) (c.0 ∷ addresses cells)
    go true p q later =
        let s : c.0 ≡ x = cc in
        subst (λ z. c.0 ∷ filter (lies_after after) (addresses cells) ≡ z ∷ filter (is_before z) (c.0 ∷ addresses cells)) s
        (ap (λ z. c.0 ∷ z) (all_pass (lies_after after) (addresses cells) (λ y k. behind_further after c.0 y p (before_member c.0 (addresses cells) y order.0 k)) ∙ sym none))
    go false p q later =
        let l : IsBefore c.0 x = before_member c.0 (addresses cells) x order.0 (next_there cells after x q) in
        later q ∙ ap (λ z. x ∷ z) (sym (ap (λ t. cond t (c.0 ∷ filter (is_before x) (addresses cells)) (filter (is_before x) (addresses cells))) (not_before x c.0 (before_apart c.0 x l))))

pub next_cells : (b : Book) → InOrder (addresses b.cells) → (after : Option Addr) (x : Addr) → next_in b.cells after ≡ Some x → cells_behind b after ≡ x ∷ cells_behind b (Some x)
next_cells b = next_first b.cells

pub none_next : (cells : Cells) (after : Option Addr) → next_in cells after ≡ None → filter (lies_after after) (addresses cells) ≡ []
none_next [] after e = refl
none_next (c ∷ cells) after e = go (lies_after after c.0) e (none_next cells after)
  where
    go : (t : Bool) → cond t (Some c.0) (next_in cells after) ≡ None → (next_in cells after ≡ None → filter (lies_after after) (addresses cells) ≡ []) → cond t (c.0 ∷ filter (lies_after after) (addresses cells)) (filter (lies_after after) (addresses cells)) ≡ []
    go true q later = cc
    go false q later = later q

-- what is known where a cell is the next one
pub record IsNext (b : Book) (after : Option Addr) (x : Addr) : Type 0 where
  pub cells : cells_behind b after ≡ x ∷ cells_behind b (Some x)
  pub behind : lies_after after x ≡ true
  pub first : (y : Addr) → In y (addresses b.cells) → IsBefore y x → lies_after after y ≡ false

pub is_next : (b : Book) → InOrder (addresses b.cells) → (after : Option Addr) (x : Addr) → next_in b.cells after ≡ Some x → IsNext b after x
is_next b order after x e = record {
  cells = next_cells b order after x e;
  behind = next_behind b.cells after x e;
  first = λ y k l. false_from_ne_true (lies_after after y) (λ h.
      ⊎_elim (λ (q : y ≡ x). never_before x (subst (λ z. IsBefore z x) q l)) (λ (m : In y (cells_behind b (Some x))). behind y l m)
      (subst (In y) (next_cells b order after x e) (in_filter (lies_after after) (addresses b.cells) y k h)));
}
  where
    behind : (y : Addr) → IsBefore y x → In y (cells_behind b (Some x)) → ⊥
    behind y l m = before_apart y x l (before_true x y (filter_in (is_before x) (addresses b.cells) y m).1)

-- which cells of a loop stand up to the next one: it, and those that stood up to the last one

up_to : (b : Book) (after : Option Addr) (x : Addr) → IsNext b after x → (y : Addr) → In y (addresses b.cells) → not (lies_after (Some x) y) ≡ (same_addr x y || not (lies_after after y))
up_to b after x h y k = go (is_before x y) refl
  where
    go : (t : Bool) → is_before x y ≡ t → not t ≡ (same_addr x y || not (lies_after after y))
    go true e =
        let l : IsBefore x y = before_true x y e in
        let apart : same_addr x y ≡ false = false_from_ne_true (same_addr x y) (λ q. never_before x (subst (IsBefore x) (sym (same_addr-true x y q)) l)) in
        sym ((λ i. apart i || not (behind_further after x y h.behind l i)))
    go false e = ⊎_elim
        (λ (q : x ≡ y). sym (ap (λ t. t || not (lies_after after y)) (subst (λ z. same_addr x z ≡ true) q (same_addr-refl x))))
        (λ (l : IsBefore y x). sym (or_right (same_addr x y) (not (lies_after after y)) (ap not (h.first y k l))))
        (same_or_behind x y e)

shuffle : (p q r s : Bool) → ((p || q) || (r || s)) ≡ ((p || r) || (q || s))
shuffle true q r s = refl
shuffle false true true s = refl
shuffle false true false s = refl
shuffle false false r s = refl

any_up_to : (b : Book) (after : Option Addr) (x : Addr) → IsNext b after x → (ys : List Addr) → ((y : Addr) → In y ys → In y (addresses b.cells)) →
    list_any (λ y. not (lies_after (Some x) y)) ys ≡ (has x ys || list_any (λ y. not (lies_after after y)) ys)
any_up_to b after x h [] k = refl
any_up_to b after x h (y ∷ ys) k =
    (λ i. up_to b after x h y (k y (inl refl)) i || any_up_to b after x h ys (λ z m. k z (inr m)) i)
    ∙ shuffle (same_addr x y) (not (lies_after after y)) (has x ys) (list_any (λ z. not (lies_after after z)) ys)

-- one step

-- the loop has a cell up to an address
abbrev begun : Book → Option Addr → Addr → Bool
begun b after c = list_any (λ y. not (lies_after after y)) (loop_from b c)

begun_more : (b : Book) (after : Option Addr) (x : Addr) → IsNext b after x → (c : Addr) (n : ℕ) → loop_length b c ≡ Some n → begun b (Some x) c ≡ (has x (loop_from b c) || begun b after c)
begun_more b after x h c n e = any_up_to b after x h (loop_from b c) (loop_in_book b c n e)

-- cells of one loop: it has begun at both
begun_both : (b : Book) (after : Option Addr) (c : Addr) (n : ℕ) → loop_length b c ≡ Some n → (x : Addr) → In x (loop_from b c) → begun b after x ≡ true → begun b after c ≡ true
begun_both b after c n e x k h =
    let m = member_of_any (λ y. not (lies_after after y)) (loop_from b x) h in
    any_member (λ y. not (lies_after after y)) (loop_from b c) m.0 (further_on b c n e x m.0 k m.1) m.2

-- the next cell leads its loop where that has not begun
not_begun : (b : Book) (after : Option Addr) (x : Addr) → IsNext b after x → (n : ℕ) → loop_length b x ≡ Some n → begun b after x ≡ false → leads b x ≡ true
not_begun b after x h n e f = least_leads b x n e (λ y k. not_before y x (λ l. absurd (early y k l)))
  where
    early : (y : Addr) → In y (loop_from b x) → IsBefore y x → ⊥
    early y k l =
        let g : begun b after x ≡ true = any_member (λ z. not (lies_after after z)) (loop_from b x) y k (ap not (h.first y (loop_in_book b x n e y k) l)) in
        (let q : true ≡ false = sym g ∙ f in cc)

has_begun : (b : Book) (after : Option Addr) (x : Addr) → IsNext b after x → begun b after x ≡ true → leads b x ≡ false
has_begun b after x h f = false_from_ne_true (leads b x) (λ l.
    let m = member_of_any (λ y. not (lies_after after y)) (loop_from b x) f in
    ⊎_elim
    (λ (q : m.0 ≡ x). clash m.0 m.2 (ap (lies_after after) q ∙ h.behind))
    (λ (k : IsBefore x m.0). clash m.0 m.2 (behind_further after x m.0 h.behind k))
    (same_or_behind m.0 x (leads_least b x l m.0 m.1)))
  where
    clash : (y : Addr) → not (lies_after after y) ≡ true → lies_after after y ≡ true → ⊥
    clash y p q = (let r : true ≡ false = sym q ∙ not-true (lies_after after y) p in cc)

-- what is still to come, where the next cell leads no loop, and where it leads one
passed : (b : Book) (after : Option Addr) (x : Addr) → IsNext b after x → leads b x ≡ false → filter (leads b) (cells_behind b after) ≡ filter (leads b) (cells_behind b (Some x))
passed b after x h e = ap (filter (leads b)) h.cells ∙ ap (λ t. cond t (x ∷ filter (leads b) (cells_behind b (Some x))) (filter (leads b) (cells_behind b (Some x)))) e

led : (b : Book) (after : Option Addr) (x : Addr) → IsNext b after x → leads b x ≡ true → filter (leads b) (cells_behind b after) ≡ x ∷ filter (leads b) (cells_behind b (Some x))
led b after x h e = ap (filter (leads b)) h.cells ∙ ap (λ t. cond t (x ∷ filter (leads b) (cells_behind b (Some x))) (filter (leads b) (cells_behind b (Some x)))) e

no_loop : (b : Book) (x : Addr) → loop_length b x ≡ None → leads b x ≡ false
no_loop b x e = false_from_ne_true (leads b x) (λ l. let n = leads_length b x l in let q : Some n.0 ≡ None = sym n.1 ∙ e in cc)

off_loop : (b : Book) (c : Addr) (n : ℕ) → loop_length b c ≡ Some n → (x : Addr) → loop_length b x ≡ None → has x (loop_from b c) ≡ false
off_loop b c n e x f = false_from_ne_true (has x (loop_from b c)) (λ k.
    let s : loop_length b x ≡ Some n = same_length b c n e x (found_member x (loop_from b c) k) in
    let q : Some n ≡ None = sym s ∙ f in cc)

has_turned : (b : Book) (c x : Addr) (n m : ℕ) → loop_length b c ≡ Some n → loop_length b x ≡ Some m → has c (loop_from b x) ≡ has x (loop_from b c)
has_turned b c x n m e f = same_from_decides (has c (loop_from b x)) (has x (loop_from b c))
    (found_member c (loop_from b x), member_found c (loop_from b x))
    (λ k. back_on b c n e x (found_member x (loop_from b c) k), λ k. member_found x (loop_from b c) (back_on b x m f c k))

pub visit_off : (b : Book) → InOrder (addresses b.cells) → (x : Addr) → loop_length b x ≡ None → (found : List (List Addr)) (seen : List Addr) (after : Option Addr) → next_in b.cells after ≡ Some x → IsFound b after found seen → IsFound b (Some x) found seen
visit_off b order x e found seen after next h =
    let s = is_next b order after x next in
    record {
      listed = ap (λ z. found ++ map (loop_from b) z) (sym (passed b after x s (no_loop b x e))) ∙ h.listed;
      met = λ c n on. h.met c n on ∙ sym (begun_more b after x s c n on ∙ ap (λ t. t || begun b after c) (off_loop b c n on x e));
    }

pub visit_again : (b : Book) → InOrder (addresses b.cells) → (x : Addr) (m : ℕ) → loop_length b x ≡ Some m → (found : List (List Addr)) (seen : List Addr) → has x seen ≡ true → (after : Option Addr) → next_in b.cells after ≡ Some x → IsFound b after found seen → IsFound b (Some x) found seen
visit_again b order x m e found seen there after next h =
    let s = is_next b order after x next in
    let f : begun b after x ≡ true = sym (h.met x m e) ∙ there in
    record {
      listed = ap (λ z. found ++ map (loop_from b) z) (sym (passed b after x s (has_begun b after x s f))) ∙ h.listed;
      met = λ c n on. h.met c n on ∙ sym (begun_more b after x s c n on ∙ same c n on f (has x (loop_from b c)) refl);
    }
  where
    same : (c : Addr) (n : ℕ) → loop_length b c ≡ Some n → begun b after x ≡ true → (t : Bool) → has x (loop_from b c) ≡ t → (t || begun b after c) ≡ begun b after c
    same c n on f true k = sym (begun_both b after c n on x (found_member x (loop_from b c) k) f)
    same c n on f false k = refl

pub visit_new : (b : Book) → InOrder (addresses b.cells) → (x : Addr) (m : ℕ) → loop_length b x ≡ Some m → (found : List (List Addr)) (seen : List Addr) → has x seen ≡ false →
    (found' : List (List Addr)) (seen' : List Addr) → found' ≡ found ++ loop_from b x ∷ [] → ((c : Addr) → has c seen' ≡ (has c (loop_from b x) || has c seen)) →
    (after : Option Addr) → next_in b.cells after ≡ Some x → IsFound b after found seen → IsFound b (Some x) found' seen'
visit_new b order x m e found seen absent found' seen' more all after next h =
    let s = is_next b order after x next in
    let l : leads b x ≡ true = not_begun b after x s m e (sym (h.met x m e) ∙ absent) in
    record {
      listed =
          ap (λ z. z ++ map (loop_from b) (filter (leads b) (cells_behind b (Some x)))) more
          ∙ append_assoc found (loop_from b x ∷ []) (map (loop_from b) (filter (leads b) (cells_behind b (Some x))))
          ∙ ap (λ z. found ++ map (loop_from b) z) (sym (led b after x s l))
          ∙ h.listed;
      met = λ c n on. all c ∙ (λ i. has_turned b c x n m on e i || h.met c n on i) ∙ sym (begun_more b after x s c n on);
    }

-- at the start and at the end

none_before : (xs : List Addr) → list_any (λ x. not (lies_after None x)) xs ≡ false
none_before [] = refl
none_before (x ∷ xs) = none_before xs

pub nothing_found : (b : Book) → IsFound b None [] []
unfolding loops
nothing_found b = record {
  listed = ap (λ z. map (loop_from b) (filter (leads b) z)) (all_pass (lies_after None) (addresses b.cells) (λ x k. refl));
  met = λ c n on. sym (none_before (loop_from b c));
}

pub all_found : (b : Book) (after : Option Addr) (found : List (List Addr)) (seen : List Addr) → next_in b.cells after ≡ None → IsFound b after found seen → found ≡ loops b
all_found b after found seen e h = sym (append-nil found) ∙ ap (λ z. found ++ map (loop_from b) (filter (leads b) z)) (sym (none_next b.cells after e)) ∙ h.listed
