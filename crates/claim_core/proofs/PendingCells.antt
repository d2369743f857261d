-- That cells are pending can be told, so it is known where it is known at all.
use Rattle.std.proofs.Common.{◌≡◌, ℕ, ◌<◌, ◌≤◌, ◌⊎◌, Option, Some, None, IsSome, List, [], ◌∷◌, length, refl, ap, inl, inr, ⊎_elim, arith, suc}
use Rattle.std.proofs.Math.Logic.{∥∥₁_elim}
use mathlib.Core.HLevel.{⊥_prop}
use native.Mathlib.Decide.{dec_le, ℕ_discrete}
use Rattle.cell_values.specs.declared.address.Addr.{Addr}
use Rattle.cell_values.specs.Addresses.{IsBefore}
use Rattle.cell_values.specs.declared.TheConstants.{MAX_BOOK_CELLS}
use Rattle.cell_values.specs.Order.{IsBeforeAll, InOrder}
use Rattle.demand_spec.specs.Book.{Book, formula_at}
use Rattle.demand_spec.specs.Laws.{In}
use Rattle.claim_core.specs.Pending.{IsPending}

or_dec : {A B : Type 0} → Dec A → Dec B → Dec (A ⊎ B)
or_dec (yes a) d = yes (inl a)
or_dec (no n) (yes b) = yes (inr b)
or_dec (no n) (no m) = no (λ e. ⊎_elim n m e)

and_dec : {A B : Type 0} → Dec A → Dec B → Dec (A × B)
and_dec (yes a) (yes b) = yes (a, b)
and_dec (yes a) (no m) = no (λ e. m e.1)
and_dec (no n) d = no (λ e. n e.0)

less_dec : (m n : ℕ) → Dec (m < n)
less_dec m n = by_le (dec_le (suc m) n) where
  by_le : Dec (suc m ≤ n) → Dec (m < n)
  by_le (yes a) = yes (omega arith)
  by_le (no b) = no (λ l. b (omega arith))

same_dec : (a b : Addr) → Dec (a ≡ b)
same_dec a b = by_parts (and_dec (ℕ_discrete a.sheet b.sheet) (and_dec (ℕ_discrete a.row b.row) (ℕ_discrete a.col b.col))) where
  by_parts : Dec ((a.sheet ≡ b.sheet) × ((a.row ≡ b.row) × (a.col ≡ b.col))) → Dec (a ≡ b)
  by_parts (yes e) = yes (λ i. record { sheet = e.0 i; row = e.1.0 i; col = e.1.1 i })
  by_parts (no n) = no (λ e. n (ap (λ c. c.sheet) e, (ap (λ c. c.row) e, ap (λ c. c.col) e)))

in_dec : (a : Addr) (cells : List Addr) → Dec (In a cells)
in_dec a [] = no (λ e. e)
in_dec a (x ∷ xs) = or_dec (same_dec a x) (in_dec a xs)

before_dec : (a b : Addr) → Dec (IsBefore a b)
before_dec a b = or_dec (less_dec a.sheet b.sheet) (and_dec (ℕ_discrete a.sheet b.sheet) (or_dec (less_dec a.row b.row) (and_dec (ℕ_discrete a.row b.row) (less_dec a.col b.col))))

before_all_dec : (a : Addr) (cells : List Addr) → Dec (IsBeforeAll a cells)
before_all_dec a [] = yes tt
before_all_dec a (b ∷ rest) = and_dec (before_dec a b) (before_all_dec a rest)

in_order_dec : (cells : List Addr) → Dec (InOrder cells)
in_order_dec [] = yes tt
in_order_dec (a ∷ rest) = and_dec (before_all_dec a rest) (in_order_dec rest)

some_dec : {A : Type 0} (o : Option A) → Dec (IsSome o)
some_dec (Some x) = yes refl
some_dec None = no (λ e. absurd (cc))

map_bars : {A B : Type 0} → ∥ A ∥₁ → Dec B → (A → B) → B
map_bars h (yes b) f = b
map_bars h (no n) f = absurd (∥∥₁_elim h ⊥_prop (λ a. n (f a)))

pub pending_known : (b : Book) (cells : List Addr) → ∥ IsPending b cells ∥₁ → IsPending b cells
pending_known b cells h = record {
  one_at_least = map_bars h (dec_le 1 (length cells)) (λ p. p.one_at_least);
  not_too_many = map_bars h (dec_le (length cells) MAX_BOOK_CELLS) (λ p. p.not_too_many);
  are_formulas = λ a i. map_bars h (some_dec (formula_at b a)) (λ p. p.are_formulas a i);
  in_order = map_bars h (in_order_dec cells) (λ p. p.in_order);
  closed = λ c a i m. map_bars h (in_dec c cells) (λ p. p.closed c a i m);
}
