-- What holds of each cell that is found holds of each cell of the list.
use Rattle.std.proofs.Common.{◌≡◌, ℕ, ◌==◌, Bool, true, false, cond, [], ◌∷◌, ◌++◌, Some, refl, sym, ap, subst}
use Rattle.std.proofs.lemmas.Option.{same_Some}
use Rattle.cell_values.specs.declared.address.Addr.{Addr}
use Rattle.cell_values.specs.Addresses.{same_addr, IsBefore}
use Rattle.cell_values.specs.Order.{InOrder, IsBeforeAll, addresses, entry_at}
use Rattle.cell_values.proofs.Order.{never_before, same_addr-refl, same_addr-true}
use Rattle.demand_spec.specs.Book.{Content}
use Rattle.demand_spec.specs.Edits.{Cells}
use Rattle.demand_spec.proofs.OneList.{before_found}
use Rattle.book_save.specs.Rows.{cells_on}

-- of each cell of the list
abbrev pub EachCell : (Addr → Content → Type 0) → Cells → Type 0
EachCell P [] = Unit {0}
EachCell P (x ∷ cells) = P x.0 x.1 × EachCell P cells

-- a cell of the others is one of the whole
behind : (x : Addr × Content) (cells : Cells) (a : Addr) (c : Content) → IsBeforeAll x.0 (addresses cells) → entry_at cells a ≡ Some c → entry_at (x ∷ cells) a ≡ Some c
behind x cells a c o e = go (same_addr a x.0) refl
  where
    go : (t : Bool) → same_addr a x.0 ≡ t → cond (same_addr a x.0) (Some x.1) (entry_at cells a) ≡ Some c
    go true p = absurd (never_before x.0 (subst (IsBefore x.0) (same_addr-true a x.0 p) (before_found x.0 cells a c o e)))
    go false p = rw p e

pub each_cell : (P : Addr → Content → Type 0) (cells : Cells) → InOrder (addresses cells) → ((a : Addr) (c : Content) → entry_at cells a ≡ Some c → P a c) → EachCell P cells
each_cell P [] o h = tt
each_cell P (x ∷ cells) o h =
    (h x.0 x.1 (ap (λ t. cond t (Some x.1) (entry_at cells x.0)) (same_addr-refl x.0)), each_cell P cells o.1 (λ a c e. h a c (behind x cells a c o.0 e)))

pub each_on : (P : Addr → Content → Type 0) (sheet : ℕ) (cells : Cells) → EachCell P cells → EachCell P (cells_on sheet cells)
each_on P sheet [] h = tt
each_on P sheet (x ∷ cells) h = go (x.0.sheet == sheet) (each_on P sheet cells h.1)
  where
    go : (t : Bool) → EachCell P (cells_on sheet cells) → EachCell P (cond t (x ∷ cells_on sheet cells) (cells_on sheet cells))
    go true k = (h.0, k)
    go false k = k

pub each_both : (P : Addr → Content → Type 0) (xs ys : Cells) → EachCell P xs → EachCell P ys → EachCell P (xs ++ ys)
each_both P [] ys h k = k
each_both P (x ∷ xs) ys h k = (h.0, each_both P xs ys h.1 k)

-- what holds of each cell holds of one that is found
pub each_found : (P : Addr → Content → Type 0) (cells : Cells) (a : Addr) (c : Content) → EachCell P cells → entry_at cells a ≡ Some c → P a c
each_found P [] a c h e = cc
each_found P (x ∷ cells) a c h e = go (same_addr a x.0) refl e (each_found P cells a c h.1)
  where
    go : (t : Bool) → same_addr a x.0 ≡ t → cond t (Some x.1) (entry_at cells a) ≡ Some c → (entry_at cells a ≡ Some c → P a c) → P a c
    go true p q later = subst (λ z. P z c) (sym (same_addr-true a x.0 p)) (subst (P x.0) (same_Some x.1 c q) h.0)
    go false p q later = later q

-- what each cell of a sheet has, each of them has
pub each_with : (P Q R : Addr → Content → Type 0) (cells : Cells) → ((a : Addr) (c : Content) → P a c → Q a c → R a c) → EachCell P cells → EachCell Q cells → EachCell R cells
each_with P Q R [] f h k = tt
each_with P Q R (x ∷ cells) f h k = (f x.0 x.1 h.0 k.0, each_with P Q R cells f h.1 k.1)
