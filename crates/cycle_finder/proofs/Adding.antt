-- A trail that grows, and cells that are put into an ordered set.
use Rattle.std.proofs.Common.{◌≡◌, ℕ, suc, ◌+◌, ◌-◌, ◌<◌, ◌≤◌, Bool, true, false, cond, ◌||◌, is_eq, Option, Some, None, List, [], ◌∷◌, ◌++◌, append_assoc, append-nil, take, get_or, length, refl, sym, ap, ◌∙◌, arith}
use Rattle.std.specs.List.{list_any}
use Rattle.std.proofs.lemmas.List.Folds.{list_any_more}
use Rattle.cell_values.specs.declared.address.Addr.{Addr}
use Rattle.cell_values.specs.Addresses.{same_addr}
use Rattle.cell_values.proofs.Order.{cmp, same_cmp, same_addr-sym}
use Rattle.demand_spec.specs.Book.{Book, need}
use Rattle.cycle_finder.specs.Loops.{trail}
use Rattle.cycle_finder.specs.Search.{has}
use Rattle.cycle_finder.proofs.Trails.{trail_none}

-- trails

pub trail_more : (b : Book) (cells : List Addr) (steps i : ℕ) (c : Addr) → i < steps → (cells ++ c ∷ []) ++ trail b (steps - (i + 1)) (need b c) ≡ cells ++ trail b (steps - i) (Some c)
trail_more b cells steps i c l =
    let s : steps - i ≡ suc (steps - (i + 1)) = omega arith in
    append_assoc cells (c ∷ []) (trail b (steps - (i + 1)) (need b c)) ∙ ap (λ n. cells ++ trail b n (Some c)) (sym s)

pub trail_ends : (b : Book) (cells : List Addr) (steps i : ℕ) (o : Option Addr) → steps ≤ i → cells ++ trail b (steps - i) o ≡ cells
trail_ends b cells steps i o l = (let s : steps - i ≡ 0 = omega arith in ap (λ n. cells ++ trail b n o) s ∙ append-nil cells)

pub trail_stops : (b : Book) (cells : List Addr) (n : ℕ) → cells ++ trail b n None ≡ cells
trail_stops b cells n = ap (λ z. cells ++ z) (trail_none b n) ∙ append-nil cells

-- sets

any_same : (q : Addr) (keys : List Addr) → list_any (λ x. is_eq (cmp q x)) keys ≡ has q keys
any_same q [] = refl
any_same q (k ∷ keys) = λ i. same_cmp q k i || any_same q keys i

-- one cell put in
pub has_inserted : (cell : Addr) (old new : List Addr) → ((q : Addr) → list_any (λ x. is_eq (cmp q x)) new ≡ cond (is_eq (cmp cell q)) true (list_any (λ x. is_eq (cmp q x)) old)) → (q : Addr) → has q new ≡ (same_addr q cell || has q old)
has_inserted cell old new h q = sym (any_same q new) ∙ h q ∙ (λ i. cond (same_cmp cell q i) true (any_same q old i)) ∙ go (same_addr cell q) ∙ ap (λ t. t || has q old) (same_addr-sym cell q)
  where
    go : (t : Bool) → cond t true (has q old) ≡ (t || has q old)
    go true = refl
    go false = refl

-- the cells of a list, one after the other
pub has_more : (cells : List Addr) (i : ℕ) (d : Addr) → i < length cells → (first old new : List Addr) → ((q : Addr) → has q old ≡ (has q (take i cells) || has q first)) → ((q : Addr) → has q new ≡ (same_addr q (get_or cells i d) || has q old)) → (q : Addr) → has q new ≡ (has q (take (i + 1) cells) || has q first)
has_more cells i d l first old new h k q = k q ∙ ap (λ t. same_addr q (get_or cells i d) || t) (h q) ∙ go (same_addr q (get_or cells i d)) (has q (take i cells)) ∙ ap (λ t. t || has q first) (sym (list_any_more (same_addr q) cells i d l))
  where
    go : (s t : Bool) → (s || (t || has q first)) ≡ ((t || s) || has q first)
    go true true = refl
    go true false = refl
    go false true = refl
    go false false = refl
