-- The cells of a list behind an address, one after the other.
use Rattle.std.proofs.Common.{◌≡◌, ◌<◌, Bool, true, false, cond, inl, inr, [], ◌∷◌, length, Option, Some, None, refl, sym, ap, ◌∙◌, subst, arith}
use Rattle.std.specs.List.{filter}
use Rattle.std.proofs.lemmas.Bool.{false_from_ne_true}
use Rattle.cell_values.specs.declared.address.Addr.{Addr}
use Rattle.cell_values.specs.Addresses.{same_addr, IsBefore}
use Rattle.cell_values.specs.Order.{InOrder, IsBeforeAll, addresses, entry_at}
use Rattle.cell_values.proofs.Order.{same_addr-refl, same_addr-true, never_before, before_trans, before_apart}
use Rattle.demand_spec.specs.Book.{Content}
use Rattle.demand_spec.specs.Edits.{Cells, is_before}
use Rattle.workbook_core.specs.Books.{lies_after, next_in}

-- the order of addresses, as a test

before_of : (a b : Addr) → is_before a b ≡ true → IsBefore a b
before_of a b h = grind (arith, h)

before_is : (a b : Addr) → IsBefore a b → is_before a b ≡ true
before_is a b (inl h) = grind (arith, h)
before_is a b (inr (e, inl h)) = grind (arith, e, h)
before_is a b (inr (e, inr (f, h))) = grind (arith, e, f, h)

not_before : (a b : Addr) → (IsBefore a b → ⊥) → is_before a b ≡ false
not_before a b h = false_from_ne_true (is_before a b) (λ k. h (before_of a b k))

after_through : (o : Option Addr) (x c : Addr) → lies_after o x ≡ true → IsBefore x c → lies_after o c ≡ true
after_through None x c h k = refl
after_through (Some a) x c h k = before_is a c (before_trans a x c (before_of a x h) k)

-- the cells behind an address

abbrev pub behind : Option Addr → Cells → Cells
behind o cells = filter (λ e. lies_after o e.0) cells

pub all_behind : (cells : Cells) → behind None cells ≡ cells
all_behind [] = refl
all_behind (c ∷ cells) = ap (λ z. c ∷ z) (all_behind cells)

pub none_behind : (cells : Cells) (o : Option Addr) → next_in cells o ≡ None → behind o cells ≡ []
none_behind [] o e = refl
none_behind (c ∷ cells) o e = go (lies_after o c.0) e (none_behind cells o)
  where
    go : (t : Bool) → cond t (Some c.0) (next_in cells o) ≡ None → (next_in cells o ≡ None → behind o cells ≡ []) → cond t (c ∷ behind o cells) (behind o cells) ≡ []
    go true q later = cc
    go false q later = later q

-- all that lie behind one of them
all_from : (o : Option Addr) (a : Addr) (cells : Cells) → ((y : Addr) → IsBefore a y → lies_after o y ≡ true) → IsBeforeAll a (addresses cells) → behind o cells ≡ cells
all_from o a [] f h = refl
all_from o a (c ∷ cells) f h = ap (λ t. cond t (c ∷ behind o cells) (behind o cells)) (f c.0 h.0) ∙ ap (λ z. c ∷ z) (all_from o a cells f h.1)

-- the next cell lies behind what lies before all cells
next_later : (a : Addr) (cells : Cells) (o : Option Addr) (x : Addr) → IsBeforeAll a (addresses cells) → next_in cells o ≡ Some x → IsBefore a x
next_later a [] o x h e = cc
next_later a (c ∷ cells) o x h e = go (lies_after o c.0) e (next_later a cells o x h.1)
  where
    go : (t : Bool) → cond t (Some c.0) (next_in cells o) ≡ Some x → (next_in cells o ≡ Some x → IsBefore a x) → IsBefore a x
    go true q later = (let same : c.0 ≡ x = cc in subst (λ z. IsBefore a z) same h.0)
    go false q later = later q

-- the next cell is the first of those behind the address, and the others lie behind it
pub record IsFirst (cells : Cells) (o : Option Addr) (x : Addr) : Type 0 where
  pub held : Content
  pub there : entry_at cells x ≡ Some held
  pub first : behind o cells ≡ (x, held) ∷ behind (Some x) cells

pub next_first : (cells : Cells) → InOrder (addresses cells) → (o : Option Addr) (x : Addr) → next_in cells o ≡ Some x → IsFirst cells o x
next_first [] order o x e = absurd (cc)
next_first (c ∷ cells) order o x e = go (lies_after o c.0) refl e (next_first cells order.1 o x)
  where
    here : lies_after o c.0 ≡ true → IsFirst (c ∷ cells) o c.0
    here h =
        let rest : behind o cells ≡ cells = all_from o c.0 cells (λ y l. after_through o c.0 y h l) order.0 in
        let others : behind (Some c.0) (c ∷ cells) ≡ cells =
        ap (λ t. cond t (c ∷ behind (Some c.0) cells) (behind (Some c.0) cells)) (not_before c.0 c.0 (never_before c.0)) ∙ all_from (Some c.0) c.0 cells (λ y l. before_is c.0 y l) order.0 in
        record {
          held = c.1;
          there = ap (λ t. cond t (Some c.1) (entry_at cells c.0)) (same_addr-refl c.0);
          first = ap (λ t. cond t (c ∷ behind o cells) (behind o cells)) h ∙ ap (λ z. c ∷ z) (rest ∙ sym others);
        }

    later_is : (x : Addr) → lies_after o c.0 ≡ false → IsBefore c.0 x → IsFirst cells o x → IsFirst (c ∷ cells) o x
    later_is x h l f =
        let apart : same_addr x c.0 ≡ false = false_from_ne_true (same_addr x c.0) (λ k. never_before x (subst (λ z. IsBefore z x) (sym (same_addr-true x c.0 k)) l)) in
        let passed : is_before x c.0 ≡ false = not_before x c.0 (before_apart c.0 x l) in
        record {
          held = f.held;
          there = ap (λ t. cond t (Some c.1) (entry_at cells x)) apart ∙ f.there;
          first = ap (λ t. cond t (c ∷ behind o cells) (behind o cells)) h ∙ f.first ∙ ap (λ z. (x, f.held) ∷ z) (sym (ap (λ t. cond t (c ∷ behind (Some x) cells) (behind (Some x) cells)) passed));
        }

    go : (t : Bool) → lies_after o c.0 ≡ t → cond t (Some c.0) (next_in cells o) ≡ Some x → (next_in cells o ≡ Some x → IsFirst cells o x) → IsFirst (c ∷ cells) o x
    go true h q later = (let same : c.0 ≡ x = cc in subst (λ z. IsFirst (c ∷ cells) o z) same (here h))
    go false h q later = later_is x h (next_later c.0 cells o x order.0 q) (later q)

pub fewer_behind : (cells : Cells) → InOrder (addresses cells) → (o : Option Addr) (x : Addr) → next_in cells o ≡ Some x → length (behind (Some x) cells) < length (behind o cells)
fewer_behind cells order o x e = (let f = next_first cells order o x e in omega (arith, ap length f.first))
