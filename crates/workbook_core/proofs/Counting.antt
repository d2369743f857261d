-- How many cells a book has after an edit.
use Rattle.std.proofs.Common.{◌≡◌, ◌+◌, ◌≤◌, cond, ◌||◌, Bool, true, false, List, [], ◌∷◌, ◌++◌, Some, None, is_some, IsSome, option_map, length, refl, sym, ap, subst, ◌∙◌, arith, length-append}
use Rattle.std.specs.Cmp.{IsEquivalence}
use Rattle.std.specs.List.{list_any, AllByRecursion, IsDistinct}
use Rattle.std.specs.Map.{lookup, keys_of}
use Rattle.std.proofs.lemmas.Map.Entries.{length-keys_of}
use Rattle.std.proofs.lemmas.Map.Keys.{IsDistinct-head, IsDistinct-tail, IsDistinct-cons}
use Rattle.std.proofs.lemmas.Map.Steps.{length-le_from_keys}
use Rattle.cell_values.specs.declared.TheConstants.{MAX_BOOK_CELLS}
use Rattle.cell_values.specs.declared.address.Addr.{Addr}
use Rattle.cell_values.specs.Addresses.{same_addr, IsBefore}
use Rattle.cell_values.specs.Order.{InOrder, IsBeforeAll, addresses, entry_at}
use Rattle.cell_values.proofs.Order.{never_before, same_addr-refl, same_addr-sym, same_addr-true}
use Rattle.demand_spec.specs.Book.{Content}
use Rattle.shared_expressions.specs.Trees.{Trees}
use Rattle.workbook_core.specs.declared.Content.{Content as Held}
use Rattle.demand_spec.specs.Edits.{Put, IsTooLarge}
use Rattle.workbook_core.specs.Held.{content_in, cells_in}
use Rattle.workbook_core.proofs.Lookups.{held_cells, length-cells_in}

pub same_addr-equiv : IsEquivalence same_addr
same_addr-equiv = record { refl = same_addr-refl; symm = same_addr-sym; congr = λ x y z e. ap (λ w. same_addr w z) (same_addr-true x y e) }

cell_is : (cells : List (Addr × Content)) (a : Addr) → lookup (same_addr a) cells ≡ entry_at cells a
cell_is [] a = refl
cell_is (c ∷ rest) a = ap (cond (same_addr a c.0) (Some c.1)) (cell_is rest a)

apart : (a b : Addr) → IsBefore a b → same_addr a b ≡ false
apart a b h = go (same_addr a b) refl
  where
    go : (t : Bool) → same_addr a b ≡ t → t ≡ false
    go true is = absurd (never_before b (subst (λ x. IsBefore x b) (same_addr-true a b is) h))
    go false is = refl

all_apart : (a : Addr) (cells : List (Addr × Content)) → IsBeforeAll a (addresses cells) → AllByRecursion (λ y. same_addr a y ≡ false) (keys_of cells)
all_apart a [] h = tt
all_apart a (c ∷ rest) h = (apart a c.0 h.0, all_apart a rest h.1)

addresses_distinct : (cells : List (Addr × Content)) → InOrder (addresses cells) → IsDistinct same_addr (keys_of cells)
unfolding IsDistinct
addresses_distinct [] h = tt
addresses_distinct (c ∷ rest) h = (all_apart c.0 rest h.0, addresses_distinct rest h.1)

-- an address among those of the cells has a cell
among_cells : (cells : List (Addr × Content)) (a : Addr) → list_any (same_addr a) (keys_of cells) ≡ is_some (entry_at cells a)
among_cells [] a = refl
among_cells (c ∷ rest) a = go (same_addr a c.0) (among_cells rest a)
  where
    go : (t : Bool) → list_any (same_addr a) (keys_of rest) ≡ is_some (entry_at rest a) → (t || list_any (same_addr a) (keys_of rest)) ≡ is_some (cond t (Some c.1) (entry_at rest a))
    go true h = refl
    go false h = h

pub none_among : (a : Addr) (xs : List Addr) → list_any (same_addr a) xs ≡ false → AllByRecursion (λ y. same_addr a y ≡ false) xs
none_among a [] e = tt
none_among a (x ∷ xs) e = go (same_addr a x) refl e (none_among a xs)
  where
    go : (t : Bool) → same_addr a x ≡ t → (t || list_any (same_addr a) xs) ≡ false → (list_any (same_addr a) xs ≡ false → AllByRecursion (λ y. same_addr a y ≡ false) xs) → AllByRecursion (λ y. same_addr a y ≡ false) (x ∷ xs)
    go true is e later = absurd (cc)
    go false is e later = (is, later e)

all_append : (P : Addr → Type 0) (xs ys : List Addr) → AllByRecursion P xs → AllByRecursion P ys → AllByRecursion P (xs ++ ys)
all_append P [] ys h k = k
all_append P (x ∷ xs) ys h k = (h.0, all_append P xs ys h.1 k)

or_right : (t u : Bool) → u ≡ true → (t || u) ≡ true
or_right true u e = refl
or_right false u e = e

pub distinct_append : (xs ys : List Addr) → IsDistinct same_addr xs → IsDistinct same_addr ys → ((a : Addr) → list_any (same_addr a) xs ≡ true → list_any (same_addr a) ys ≡ false) → IsDistinct same_addr (xs ++ ys)
distinct_append [] ys h k other = k
distinct_append (x ∷ xs) ys h k other =
    IsDistinct-cons same_addr x (xs ++ ys)
    (all_append (λ y. same_addr x y ≡ false) xs ys (IsDistinct-head same_addr x xs h) (none_among x ys (other x (ap (λ t. t || list_any (same_addr x) xs) (same_addr-refl x)))))
    (distinct_append xs ys (IsDistinct-tail same_addr x xs h) k (λ a e. other a (or_right (same_addr a x) (list_any (same_addr a) xs) e)))

pub any_append : (a : Addr) (xs ys : List Addr) → list_any (same_addr a) (xs ++ ys) ≡ (list_any (same_addr a) xs || list_any (same_addr a) ys)
any_append a [] ys = refl
any_append a (x ∷ xs) ys = go (same_addr a x) (any_append a xs ys)
  where
    go : (t : Bool) → list_any (same_addr a) (xs ++ ys) ≡ (list_any (same_addr a) xs || list_any (same_addr a) ys) → (t || list_any (same_addr a) (xs ++ ys)) ≡ ((t || list_any (same_addr a) xs) || list_any (same_addr a) ys)
    go true h = refl
    go false h = h

-- a book with all cells of another and further ones has that many more
pub more_cells : (old new : List (Addr × Content)) (more : List Addr) → InOrder (addresses old) → IsDistinct same_addr more → ((a : Addr) → list_any (same_addr a) more ≡ true → is_some (entry_at old a) ≡ false) → ((a : Addr) → list_any (same_addr a) more ≡ true → IsSome (entry_at new a)) → ((a : Addr) → IsSome (entry_at old a) → IsSome (entry_at new a)) → length more + length old ≤ length new
more_cells old new more order distinct fresh added kept =
    let counted : length (more ++ keys_of old) ≤ length new = length-le_from_keys same_addr-equiv (more ++ keys_of old) new
    (distinct_append more (keys_of old) distinct (addresses_distinct old order) (λ a e. among_cells old a ∙ fresh a e))
    (λ a e. subst IsSome (sym (cell_is new a)) (found a (list_any (same_addr a) more) refl (sym (any_append a more (keys_of old)) ∙ e))) in
    omega (arith, counted, length-append more (keys_of old), length-keys_of old)
  where
    found : (a : Addr) (t : Bool) → list_any (same_addr a) more ≡ t → (list_any (same_addr a) more || list_any (same_addr a) (keys_of old)) ≡ true → IsSome (entry_at new a)
    found a true is e = added a is
    found a false is e = kept a (sym (among_cells old a) ∙ ap (λ t. t || list_any (same_addr a) (keys_of old)) (sym is) ∙ e)

distinct_one : (a : Addr) → IsDistinct same_addr (a ∷ [])
unfolding IsDistinct
distinct_one a = (tt, tt)

-- one cell too many
pub too_large_put : (p : Trees) (es : List (Addr × Held)) (at : Addr) (c : Content) → InOrder (addresses (cells_in p es)) → entry_at es at ≡ None → MAX_BOOK_CELLS ≤ length es → IsTooLarge (Put at (Some c)) (cells_in p es)
too_large_put p es at c order none full new h =
    let counted : length (at ∷ []) + length (cells_in p es) ≤ length new = more_cells (cells_in p es) new (at ∷ []) order (distinct_one at) empty there kept in
    omega (arith, counted, length-cells_in p es, full)
  where
    at_cell : (a : Addr) (t : Bool) → same_addr a at ≡ t → (t || false) ≡ true → a ≡ at
    at_cell a true is e = same_addr-true a at is
    at_cell a false is e = absurd (cc)

    empty : (a : Addr) → list_any (same_addr a) (at ∷ []) ≡ true → is_some (entry_at (cells_in p es) a) ≡ false
    empty a e = ap (λ x. is_some (entry_at (cells_in p es) x)) (at_cell a (same_addr a at) refl e) ∙ ap is_some (held_cells p es at) ∙ ap (λ o. is_some (option_map (content_in p) o)) none

    there : (a : Addr) → list_any (same_addr a) (at ∷ []) ≡ true → IsSome (entry_at new a)
    there a e = subst (λ x. IsSome (entry_at new x)) (sym (at_cell a (same_addr a at) refl e)) (ap is_some (h.lookups at ∙ ap (λ t. cond t (Some c) (entry_at (cells_in p es) at)) (same_addr-refl at)))

    kept : (a : Addr) → IsSome (entry_at (cells_in p es) a) → IsSome (entry_at new a)
    kept a e = ap is_some (h.lookups a) ∙ by (same_addr at a)
      where
        by : (t : Bool) → is_some (cond t (Some c) (entry_at (cells_in p es) a)) ≡ true
        by true = refl
        by false = e
