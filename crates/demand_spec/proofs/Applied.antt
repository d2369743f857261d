-- What an edit makes of cells in order.
use Rattle.std.proofs.Common.{◌≡◌, ◌<◌, Bool, true, false, cond, ◌||◌, List, [], ◌∷◌, length, Option, Some, None, refl, sym, ap, ◌∙◌, subst, arith}
use Rattle.std.specs.List.{list_any}
use Rattle.cell_values.specs.declared.TheConstants.{MAX_BOOK_CELLS}
use Rattle.cell_values.specs.declared.address.Addr.{Addr}
use Rattle.cell_values.specs.Addresses.{same_addr, IsBefore}
use Rattle.cell_values.specs.Areas.{walk}
use Rattle.cell_values.specs.Order.{IsBeforeAll, InOrder, addresses, entry_at}
use Rattle.cell_values.proofs.Order.{same_addr-true, same_addr-sym, never_before, before_trans}
use Rattle.demand_spec.specs.Book.{Content}
use Rattle.demand_spec.specs.Edits.{Cells, Put, Copy, copied, is_before, with_cell, put_in, copied_to, applied, EditApplies, AppliedOnly, TooLargeByLength}
use Rattle.demand_spec.proofs.OneList.{none_behind, one_map}
use Rattle.demand_spec.proofs.Members.{walk_holds}

-- the test of the order

before_from_test : (a b : Addr) → is_before a b ≡ true → IsBefore a b
before_from_test a b h = grind (arith, h)

before_otherwise : (a b : Addr) → is_before a b ≡ false → same_addr b a ≡ false → IsBefore b a
before_otherwise a b h k = grind (arith, h, k)

before_all : (a b : Addr) (xs : List Addr) → IsBefore a b → IsBeforeAll b xs → IsBeforeAll a xs
before_all a b [] h k = tt
before_all a b (x ∷ xs) h k = (before_trans a b x h k.0, before_all a b xs h k.1)

-- one cell put in

with_before : (a at : Addr) (held : Option Content) (rest : Cells) → IsBefore a at → IsBeforeAll a (addresses rest) → IsBeforeAll a (addresses (with_cell at held rest))
with_before a at (Some x) rest h k = (h, k)
with_before a at None rest h k = k

with_order : (at : Addr) (held : Option Content) (rest : Cells) → IsBeforeAll at (addresses rest) → InOrder (addresses rest) → InOrder (addresses (with_cell at held rest))
with_order at (Some x) rest h k = (h, k)
with_order at None rest h k = k

put_before : (a at : Addr) (held : Option Content) (cells : Cells) → IsBefore a at → IsBeforeAll a (addresses cells) → IsBeforeAll a (addresses (put_in at held cells))
unfolding put_in
put_before a at held [] h k = with_before a at held [] h tt
put_before a at held (c ∷ rest) h k = go (is_before c.0 at) (same_addr at c.0) (put_before a at held rest h k.1)
  where
    go : (q r : Bool) → IsBeforeAll a (addresses (put_in at held rest)) → IsBeforeAll a (addresses (cond q (c ∷ put_in at held rest) (with_cell at held (cond r rest (c ∷ rest)))))
    go true r m = (k.0, m)
    go false true m = with_before a at held rest h k.1
    go false false m = with_before a at held (c ∷ rest) h k

put_order : (at : Addr) (held : Option Content) (cells : Cells) → InOrder (addresses cells) → InOrder (addresses (put_in at held cells))
unfolding put_in
put_order at held [] h = with_order at held [] tt tt
put_order at held (c ∷ rest) h = go (is_before c.0 at) refl (same_addr at c.0) refl (put_order at held rest h.1)
  where
    go : (q : Bool) → is_before c.0 at ≡ q → (r : Bool) → same_addr at c.0 ≡ r → InOrder (addresses (put_in at held rest)) → InOrder (addresses (cond q (c ∷ put_in at held rest) (with_cell at held (cond r rest (c ∷ rest)))))
    go true p r e m = (put_before c.0 at held rest (before_from_test c.0 at p) h.0, m)
    go false p true e m = with_order at held rest (subst (λ z. IsBeforeAll z (addresses rest)) (sym (same_addr-true at c.0 e)) h.0) h.1
    go false p false e m = (let first = before_otherwise c.0 at p e in with_order at held (c ∷ rest) (first, before_all at c.0 (addresses rest) first h.0) h)

-- a look-up behind a cell put before others, where nothing stood at its address
with_look : (at : Addr) (held : Option Content) (rest : Cells) → entry_at rest at ≡ None → (a : Addr) → entry_at (with_cell at held rest) a ≡ cond (same_addr at a) held (entry_at rest a)
with_look at (Some x) rest n a = ap (λ q. cond q (Some x) (entry_at rest a)) (same_addr-sym a at)
with_look at None rest n a = go (same_addr at a) refl
  where
    go : (q : Bool) → same_addr at a ≡ q → entry_at rest a ≡ cond q None (entry_at rest a)
    go true e = subst (λ z. entry_at rest z ≡ None) (same_addr-true at a e) n
    go false e = refl

-- a cell that is replaced is not found behind the other
without_look : (at : Addr) (held : Option Content) (c : Addr × Content) (rest : Cells) → same_addr at c.0 ≡ true → (a : Addr) → cond (same_addr at a) held (entry_at rest a) ≡ cond (same_addr at a) held (entry_at (c ∷ rest) a)
without_look at held c rest e a = go (same_addr at a) refl
  where
    go : (q : Bool) → same_addr at a ≡ q → cond q held (entry_at rest a) ≡ cond q held (entry_at (c ∷ rest) a)
    go true p = refl
    go false p = ap (λ q. cond q (Some c.1) (entry_at rest a)) (sym (ap (same_addr a) (sym (same_addr-true at c.0 e)) ∙ same_addr-sym a at ∙ p))

put_look : (at : Addr) (held : Option Content) (cells : Cells) → InOrder (addresses cells) → (a : Addr) → entry_at (put_in at held cells) a ≡ cond (same_addr at a) held (entry_at cells a)
unfolding put_in
put_look at held [] h a = with_look at held [] refl a
put_look at held (c ∷ rest) h a = go (is_before c.0 at) refl (same_addr at c.0) refl (put_look at held rest h.1 a)
  where
    -- the first cell and the one put in are two
    swap : (q r : Bool) → (q ≡ true → r ≡ true → ⊥) → (x y : Option Content) → cond q x (cond r held y) ≡ cond r held (cond q x y)
    swap true true n x y = absurd (n refl refl)
    swap true false n x y = refl
    swap false r n x y = refl

    apart : is_before c.0 at ≡ true → same_addr a c.0 ≡ true → same_addr at a ≡ true → ⊥
    apart p e f = never_before at (subst (λ z. IsBefore z at) (sym (same_addr-true at a f ∙ same_addr-true a c.0 e)) (before_from_test c.0 at p))

    go : (q : Bool) → is_before c.0 at ≡ q → (r : Bool) → same_addr at c.0 ≡ r → entry_at (put_in at held rest) a ≡ cond (same_addr at a) held (entry_at rest a) →
        entry_at (cond q (c ∷ put_in at held rest) (with_cell at held (cond r rest (c ∷ rest)))) a ≡ cond (same_addr at a) held (entry_at (c ∷ rest) a)
    go true p r e m = ap (cond (same_addr a c.0) (Some c.1)) m ∙ swap (same_addr a c.0) (same_addr at a) (apart p) (Some c.1) (entry_at rest a)
    go false p true e m =
        with_look at held rest (none_behind at rest (subst (λ z. IsBeforeAll z (addresses rest)) (sym (same_addr-true at c.0 e)) h.0)) a
        ∙ without_look at held c rest e a
    go false p false e m =
        let first = before_otherwise c.0 at p e in
        with_look at held (c ∷ rest) (none_behind at (c ∷ rest) (first, before_all at c.0 (addresses rest) first h.0)) a

-- copies put in, one after the other

copied_order : (held : Option Content) (xs : List Addr) (cells : Cells) → InOrder (addresses cells) → InOrder (addresses (copied_to held xs cells))
unfolding copied_to
copied_order held [] cells h = h
copied_order held (x ∷ xs) cells h = copied_order held xs (put_in x (copied x held) cells) (put_order x (copied x held) cells h)

copied_look : (held : Option Content) (xs : List Addr) (cells : Cells) → InOrder (addresses cells) → (a : Addr) → entry_at (copied_to held xs cells) a ≡ cond (list_any (same_addr a) xs) (copied a held) (entry_at cells a)
unfolding copied_to
copied_look held [] cells h a = refl
copied_look held (x ∷ xs) cells h a =
    copied_look held xs (put_in x (copied x held) cells) (put_order x (copied x held) cells h) a
    ∙ ap (cond (list_any (same_addr a) xs) (copied a held)) (put_look x (copied x held) cells h a)
    ∙ go (list_any (same_addr a) xs) (same_addr a x) refl
  where
    go : (q r : Bool) → same_addr a x ≡ r → cond q (copied a held) (cond (same_addr x a) (copied x held) (entry_at cells a)) ≡ cond (r || q) (copied a held) (entry_at cells a)
    go true true e = refl
    go true false e = refl
    go false true e = ap (λ q. cond q (copied x held) (entry_at cells a)) (same_addr-sym x a ∙ e) ∙ ap (λ z. copied z held) (sym (same_addr-true a x e))
    go false false e = ap (λ q. cond q (copied x held) (entry_at cells a)) (same_addr-sym x a ∙ e)

-- the laws

pub edit_applies : EditApplies
unfolding applied
edit_applies (Put at held) old h = record { order = put_order at held old h; lookups = λ a. put_look at held old h a }
edit_applies (Copy from to) old h = record {
  order = copied_order (entry_at old from) (walk to) old h;
  lookups = λ a. copied_look (entry_at old from) (walk to) old h a ∙ ap (λ q. cond q (copied a (entry_at old from)) (entry_at old a)) (walk_holds to a);
}

pub applied_only : AppliedOnly
applied_only edit old new h k =
    let there = edit_applies edit old h in
    one_map new (applied edit old) k.order there.order (λ a. k.lookups a ∙ sym (there.lookups a))

pub too_large_by_length : TooLargeByLength
too_large_by_length edit old h = (λ k. k (applied edit old) (edit_applies edit old h), λ l new k. subst (λ z. MAX_BOOK_CELLS < length z) (sym (applied_only edit old new h k)) l)
