-- A book in which one cell holds a number.
use Rattle.std.proofs.Common.{◌≡◌, ℕ, suc, ℤ, Bool, true, false, cond, List, [], ◌∷◌, length, refl, sym, ap, ◌∙◌, subst, Option, Some, None, is_none, option_map, IfSome, arith}
use Rattle.std.specs.Prelude.{◌&&◌, nat_le, nat_lt}
use Rattle.cell_values.specs.declared.TheConstants.{MAX_BOOK_CELLS}
use Rattle.cell_values.specs.declared.address.Addr.{Addr}
use Rattle.cell_values.specs.Addresses.{same_addr, IsBefore}
use Rattle.cell_values.specs.Order.{IsBeforeAll, InOrder, addresses, entry_at}
use Rattle.cell_values.proofs.Order.{before_trans, never_before, same_addr-true}
use Rattle.demand_spec.specs.Book.{Content}
use Rattle.demand_spec.specs.Edits.{Cells, Put, applied, is_before, put_in, with_cell}
use Rattle.demand_spec.proofs.Applied.{edit_applies}
use Rattle.demand_spec.proofs.OneList.{none_behind}
use Rattle.workbook_core.specs.declared.Content.{Content as Held}
use Rattle.workbook_core.specs.Books.{SharedBook, IsWorkbook}
use Rattle.workbook_core.specs.Held.{content_in, IsHeldOf}
use Rattle.workbook_core.specs.WithNumber.{AreAskable, IsAskable, held_with, shared_with, shared_with_number, with_number}

-- what is found in the book
pub looks_with : (w : SharedBook) (at : Addr) (n : ℤ) → IsWorkbook w → (a : Addr) → entry_at (with_number w.book at n).cells a ≡ cond (same_addr at a) (Some (Content.Number n)) (entry_at w.book.cells a)
looks_with w at n h a = (edit_applies (Put at (Some (Content.Number n))) w.book.cells h.order).lookups a

pub content_told : (w : SharedBook) (o : Option (Addr × ℤ)) (a : Addr) (held : Option Held) → IsWorkbook w → option_map (content_in w.pool) held ≡ entry_at w.book.cells a → option_map (content_in (shared_with w o).pool) (held_with o a held) ≡ entry_at (shared_with w o).book.cells a
content_told w None a held h e = e
content_told w (Some given) a held h e = go (same_addr given.0 a) ∙ sym (looks_with w given.0 given.1 h a)
  where
    go : (t : Bool) → option_map (content_in w.pool) (cond t (Some (Held.Number given.1)) held) ≡ cond t (Some (Content.Number given.1)) (entry_at w.book.cells a)
    go true = refl
    go false = e

pub id_told : (w : SharedBook) (o : Option (Addr × ℤ)) (a : Addr) (held : Option Held) → IfSome held (IsHeldOf w.pool) → IfSome (held_with o a held) (IsHeldOf (shared_with w o).pool)
id_told w None a held h = h
id_told w (Some given) a held h = go (same_addr given.0 a)
  where
    go : (t : Bool) → IfSome (cond t (Some (Held.Number given.1)) held) (IsHeldOf w.pool)
    go true = tt
    go false = h

-- the texts and the trees are those of the workbook

pub same_texts_with : (w : SharedBook) (o : Option (Addr × ℤ)) → w.book.texts ≡ (shared_with w o).book.texts
same_texts_with w None = refl
same_texts_with w (Some given) = refl

pub same_pool_with : (w : SharedBook) (o : Option (Addr × ℤ)) → w.pool ≡ (shared_with w o).pool
same_pool_with w None = refl
same_pool_with w (Some given) = refl

-- what an evaluation needs of each cell

pub askable_with : (w : SharedBook) (at : Addr) (n : ℤ) → IsWorkbook w → AreAskable (shared_with_number w at n)
askable_with w at n h a c e = go (same_addr at a) (sym (looks_with w at n h a) ∙ e)
  where
    go : (t : Bool) → cond t (Some (Content.Number n)) (entry_at w.book.cells a) ≡ Some c → IsAskable w.book.texts a c
    go true d = (let same : Content.Number n ≡ c = cc in subst (IsAskable w.book.texts a) same (record { sound = tt; texts = tt }))
    go false d = record { sound = (h.cells a c d).sound; texts = (h.cells a c d).texts }

pub askable_told : (w : SharedBook) (o : Option (Addr × ℤ)) → IsWorkbook w → AreAskable (shared_with w o)
askable_told w None h = λ a c e. record { sound = (h.cells a c e).sound; texts = (h.cells a c e).texts }
askable_told w (Some given) h = askable_with w given.0 given.1 h

-- how many cells there are

-- one more where nothing was found
abbrev pub one_if_none : Option Content → ℕ → ℕ
one_if_none (Some x) n = n
one_if_none None n = suc n

before_from_test : (a b : Addr) → is_before a b ≡ true → IsBefore a b
before_from_test a b h = grind (arith, h)

before_otherwise : (a b : Addr) → is_before a b ≡ false → same_addr b a ≡ false → IsBefore b a
before_otherwise a b h k = grind (arith, h, k)

before_all : (a b : Addr) (xs : List Addr) → IsBefore a b → IsBeforeAll b xs → IsBeforeAll a xs
before_all a b [] h k = tt
before_all a b (x ∷ xs) h k = (before_trans a b x h k.0, before_all a b xs h k.1)

later : (o : Option Content) (n : ℕ) → suc (one_if_none o n) ≡ one_if_none o (suc n)
later (Some x) n = refl
later None n = refl

length_put : (at : Addr) (x : Content) (cells : Cells) → InOrder (addresses cells) → length (put_in at (Some x) cells) ≡ one_if_none (entry_at cells at) (length cells)
unfolding put_in
length_put at x [] h = refl
length_put at x (c ∷ rest) h = go (is_before c.0 at) refl (same_addr at c.0) refl (length_put at x rest h.1)
  where
    go : (q : Bool) → is_before c.0 at ≡ q → (r : Bool) → same_addr at c.0 ≡ r → length (put_in at (Some x) rest) ≡ one_if_none (entry_at rest at) (length rest) →
        length (cond q (c ∷ put_in at (Some x) rest) (with_cell at (Some x) (cond r rest (c ∷ rest)))) ≡ one_if_none (cond r (Some c.1) (entry_at rest at)) (suc (length rest))
    go true p true e m = absurd (never_before at (subst (λ z. IsBefore z at) (sym (same_addr-true at c.0 e)) (before_from_test c.0 at p)))
    go true p false e m = ap suc m ∙ later (entry_at rest at) (length rest)
    go false p true e m = refl
    go false p false e m =
        let first = before_otherwise c.0 at p e in
        let none : entry_at rest at ≡ None = none_behind at rest (before_all at c.0 (addresses rest) first h.0) in
        sym (ap (λ o. one_if_none o (suc (length rest))) none)

pub length_with : (w : SharedBook) (at : Addr) (n : ℤ) → IsWorkbook w → length (with_number w.book at n).cells ≡ one_if_none (entry_at w.book.cells at) (length w.book.cells)
unfolding applied
length_with w at n h = length_put at (Content.Number n) w.book.cells h.order

-- an empty cell of a full workbook
pub full_told : (w : SharedBook) (at : Addr) (n : ℤ) (held : Option Held) (count : ℕ) → IsWorkbook w → option_map (content_in w.pool) held ≡ entry_at w.book.cells at → count ≡ length w.book.cells → (is_none held && nat_le MAX_BOOK_CELLS count) ≡ nat_lt MAX_BOOK_CELLS (length (with_number w.book at n).cells)
full_told w at n held count h e l = go held e ∙ ap (nat_lt MAX_BOOK_CELLS) (sym (length_with w at n h))
  where
    go : (o : Option Held) → option_map (content_in w.pool) o ≡ entry_at w.book.cells at → (is_none o && nat_le MAX_BOOK_CELLS count) ≡ nat_lt MAX_BOOK_CELLS (one_if_none (entry_at w.book.cells at) (length w.book.cells))
    go None d = subst (λ o. nat_le MAX_BOOK_CELLS count ≡ nat_lt MAX_BOOK_CELLS (one_if_none o (length w.book.cells))) d (let few = h.few in let same = l in grind arith)
    go (Some x) d = subst (λ o. false ≡ nat_lt MAX_BOOK_CELLS (one_if_none o (length w.book.cells))) d (let few = h.few in grind arith)
