-- Cells and their numbers, and what a pending says of them.
use Rattle.std.proofs.Common.{◌≡◌, ℕ, zero, suc, ◌<◌, Bool, true, false, cond, inl, inr, ⊎_elim, List, [], ◌∷◌, length, get_or, refl, sym, ap, subst, Option, Some, None, IsSome, option_map, arith}
use Rattle.cell_values.specs.declared.address.Addr.{Addr}
use Rattle.cell_values.specs.Addresses.{same_addr, IsBefore}
use Rattle.cell_values.specs.Order.{IsBeforeAll, InOrder}
use Rattle.cell_values.proofs.Order.{same_addr-true, same_addr-refl, never_before}
use Rattle.formula_trees.specs.Expr.{Expr}
use Rattle.demand_spec.specs.Book.{formula_at}
use Rattle.demand_spec.specs.Laws.{In, Distinct, IsClosed}
use Rattle.claim_core.specs.Pending.{IsPending}
use Rattle.worker_machine.specs.Jobs.{Pending, cell_at, number_in, cell_number}

abbrev origin : Addr
origin = record { sheet = 0; row = 0; col = 0 }

-- what the number of an address says
abbrev pub NumberFits : List Addr → Addr → Option ℕ → Type 0
NumberFits cs a (Some i) = (i < length cs) × (get_or cs i origin ≡ a)
NumberFits cs a None = In a cs → ⊥

next_fits : (c : Addr) (cs : List Addr) (a : Addr) → (a ≡ c → ⊥) → (o : Option ℕ) → NumberFits cs a o → NumberFits (c ∷ cs) a (option_map suc o)
next_fits c cs a n (Some i) p = (omega (arith, p.0), p.1)
next_fits c cs a n None p = ⊎_elim n p

number_in_fits : (cs : List Addr) (a : Addr) → NumberFits cs a (number_in cs a)
number_in_fits [] a = λ k. k
number_in_fits (c ∷ cs) a = go (same_addr a c) refl (number_in_fits cs a)
  where
    go : (b : Bool) → same_addr a c ≡ b → NumberFits cs a (number_in cs a) → NumberFits (c ∷ cs) a (cond b (Some 0) (option_map suc (number_in cs a)))
    go true e p = (omega arith, sym (same_addr-true a c e))
    go false e p = next_fits c cs a (λ q. let r = subst (λ z. same_addr a z ≡ true) q (same_addr-refl a) in cc) (number_in cs a) p

number_fits : (ps : Pending) (a : Addr) → NumberFits ps.cells a (cell_number ps a)
unfolding cell_number
number_fits ps a = number_in_fits ps.cells a

pub number_some : (ps : Pending) (a : Addr) (i : ℕ) → cell_number ps a ≡ Some i → (i < length ps.cells) × (cell_at ps i ≡ a)
number_some ps a i e = subst (NumberFits ps.cells a) e (number_fits ps a)

pub number_none : (ps : Pending) (a : Addr) → cell_number ps a ≡ None → In a ps.cells → ⊥
number_none ps a e = subst (NumberFits ps.cells a) e (number_fits ps a)

in_at : (cs : List Addr) (i : ℕ) → i < length cs → In (get_or cs i origin) cs
in_at [] i l = absurd (omega arith)
in_at (c ∷ cs) zero l = inl refl
in_at (c ∷ cs) (suc i) l = inr (in_at cs i (omega arith))

pub cell_in_cells : (ps : Pending) (i : ℕ) → i < length ps.cells → In (cell_at ps i) ps.cells
cell_in_cells ps i l = in_at ps.cells i l

one_number : (cs : List Addr) → Distinct cs → (i n : ℕ) → i < length cs → n < length cs → get_or cs i origin ≡ get_or cs n origin → i ≡ n
one_number [] d i n l m e = absurd (omega arith)
one_number (c ∷ cs) d zero zero l m e = refl
one_number (c ∷ cs) d zero (suc n) l m e = absurd (d.0 (subst (λ z. In z cs) (sym e) (in_at cs n (omega arith))))
one_number (c ∷ cs) d (suc i) zero l m e = absurd (d.0 (subst (λ z. In z cs) e (in_at cs i (omega arith))))
one_number (c ∷ cs) d (suc i) (suc n) l m e = ap suc (one_number cs d.1 i n (omega arith) (omega arith) e)

-- the cells of a pending

not_before : (a : Addr) (xs : List Addr) → IsBeforeAll a xs → In a xs → ⊥
not_before a [] h k = k
not_before a (b ∷ rest) h (inl e) = never_before a (subst (IsBefore a) (sym e) h.0)
not_before a (b ∷ rest) h (inr k) = not_before a rest h.1 k

distinct : (xs : List Addr) → InOrder xs → Distinct xs
distinct [] h = tt
distinct (a ∷ rest) h = (not_before a rest h.0, distinct rest h.1)

-- no two cells have one address
pub cell_one : (ps : Pending) → IsPending ps.book ps.cells → (i n : ℕ) → i < length ps.cells → n < length ps.cells → cell_at ps i ≡ cell_at ps n → i ≡ n
cell_one ps pending i n l m e = one_number ps.cells (distinct ps.cells pending.in_order) i n l m e

there : {A : Type 0} (o : Option A) → IsSome o → (x : A) × (o ≡ Some x)
there (Some x) h = (x, refl)
there None h = cc

-- each is a formula cell
pub formula_there : (ps : Pending) → IsPending ps.book ps.cells → (i : ℕ) → i < length ps.cells → (t : Expr) × (formula_at ps.book (cell_at ps i) ≡ Some t)
formula_there ps pending i l = there (formula_at ps.book (cell_at ps i)) (pending.are_formulas (cell_at ps i) (cell_in_cells ps i l))

-- with each cell all that mention it
pub closed_cells : (ps : Pending) → IsPending ps.book ps.cells → IsClosed ps.book (λ a. In a ps.cells)
closed_cells ps pending = pending.closed
