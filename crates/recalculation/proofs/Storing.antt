-- What stands in an ordered map of results after one more.
use Rattle.std.proofs.Common.{◌≡◌, ℕ, ◌+◌, ◌<◌, zero, suc, Bool, true, false, cond, is_eq, List, [], ◌∷◌, map, length, get_or, Option, Some, None, IsSome, ◌⊎◌, inl, inr, refl, sym, ap, ◌∙◌, subst, arith}
use Rattle.std.specs.Map.{lookup}
use Rattle.std.proofs.lemmas.List.{get_or_default, get_or-map}
use Rattle.cell_values.specs.contracts.address.AddrOrd.TheImpl as addr_ord
use Rattle.cell_values.specs.declared.address.Addr.{Addr}
use Rattle.cell_values.specs.declared.values.Shown.{Shown}
use Rattle.cell_values.specs.Addresses.{same_addr}
use Rattle.cell_values.specs.Order.{entry_at}
use Rattle.cell_values.proofs.Order.{same_cmp, lookup_is, same_addr-refl, same_addr-true}
use Rattle.demand_spec.specs.Laws.{In}
use Rattle.recalculation.specs.Written.{OthersStay}

-- what is read past the end of a list of cells
abbrev pub no_cell : Addr
no_cell = record { sheet = 0; row = 0; col = 0 }

abbrev Entries : Type 0
Entries = List (Addr × Shown)

-- one result is put on, and nothing else changes
abbrev pub PutsOn : Entries → Entries → Addr → Shown → Type 0
PutsOn old new at r = (q : Addr) → entry_at new q ≡ cond (same_addr at q) (Some r) (entry_at old q)

pub put_on : (old new : Entries) (at : Addr) (r : Shown) → ((q : Addr) → lookup (λ k. is_eq ((addr_ord.ghosts).cmp q k)) new ≡ cond (is_eq ((addr_ord.ghosts).cmp at q)) (Some r) (lookup (λ k. is_eq ((addr_ord.ghosts).cmp q k)) old)) → PutsOn old new at r
put_on old new at r h q = sym (lookup_is new q) ∙ h q ∙ (λ j. cond (same_cmp at q j) (Some r) (lookup_is old q j))

some_kept : (b : Bool) (r : Shown) (o : Option Shown) → IsSome o → IsSome (cond b (Some r) o)
some_kept true r o h = refl
some_kept false r o h = h

-- at the cell itself
at_it : (old new : Entries) (at q : Addr) (r : Shown) → PutsOn old new at r → at ≡ q → entry_at new q ≡ Some r
at_it old new at q r h e = h q ∙ ap (λ b. cond b (Some r) (entry_at old q)) (ap (λ a. same_addr a q) e ∙ same_addr-refl q)

cut : (i k : ℕ) (P : Type 0) → k < i + 1 → (k < i → P) → (k ≡ i → P) → P
cut i k P low before here = by_cases (grind arith)
  where
    by_cases : (k < i) ⊎ (k ≡ i) → P
    by_cases (inl h) = before h
    by_cases (inr h) = here h

-- where something stood for the cells before, and for this one now
pub room_next : (cells : List Addr) (i : ℕ) (old new : Entries) (at : Addr) (r : Shown) → i < length cells → ((d : Addr) → at ≡ get_or cells i d) → PutsOn old new at r
    → ((k : ℕ) (d : Addr) → k < i → IsSome (entry_at old (get_or cells k d))) → (k : ℕ) (d : Addr) → k < i + 1 → IsSome (entry_at new (get_or cells k d))
room_next cells i old new at r inside is h before k d low = cut i k (IsSome (entry_at new (get_or cells k d))) low
    (λ l. subst IsSome (sym (h (get_or cells k d))) (some_kept (same_addr at (get_or cells k d)) r (entry_at old (get_or cells k d)) (before k d l)))
    (λ e. subst (λ n. IsSome (entry_at new (get_or cells n d))) (sym e) (subst IsSome (sym (at_it old new at (get_or cells i d) r h (is d))) refl))

-- something stands everywhere where it stood
pub room_stays : (cells : List Addr) (old new : Entries) (at : Addr) (r : Shown) → PutsOn old new at r
    → ((k : ℕ) (d : Addr) → k < length cells → IsSome (entry_at old (get_or cells k d))) → (k : ℕ) (d : Addr) → k < length cells → IsSome (entry_at new (get_or cells k d))
room_stays cells old new at r h room k d low = subst IsSome (sym (h (get_or cells k d))) (some_kept (same_addr at (get_or cells k d)) r (entry_at old (get_or cells k d)) (room k d low))

pub in_list : (cells : List Addr) (i : ℕ) (at : Addr) → i < length cells → at ≡ get_or cells i at → In at cells
in_list [] i at low e = absurd (omega arith)
in_list (c ∷ cs) zero at low e = inl e
in_list (c ∷ cs) (suc i) at low e = inr (in_list cs i at (omega arith) e)

other_off : (b : Bool) (r : Shown) (o : Option Shown) → (b ≡ true → ⊥) → cond b (Some r) o ≡ o
other_off true r o n = absurd (n refl)
other_off false r o n = refl

-- other cells keep what stood there
pub others_next : (cells : List Addr) (first old new : Entries) (at : Addr) (r : Shown) → In at cells → PutsOn old new at r → OthersStay cells first old → OthersStay cells first new
others_next cells first old new at r there h stay a out =
    h a ∙ (other_off (same_addr at a) r (entry_at old a) (λ e. out (subst (λ x. In x cells) (same_addr-true at a e) there)) ∙ stay a out)

-- the results so far stand
pub results_next : (f : Addr → Shown) (cells : List Addr) (i : ℕ) (old new : Entries) (at : Addr) (r : Shown) → i < length cells → ((d : Addr) → at ≡ get_or cells i d) → r ≡ f at → PutsOn old new at r
    → ((k : ℕ) (d : Addr) → k < i → entry_at old (get_or cells k d) ≡ Some (f (get_or cells k d))) → (k : ℕ) (d : Addr) → k < i + 1 → entry_at new (get_or cells k d) ≡ Some (f (get_or cells k d))
results_next f cells i old new at r inside is value h before k d low = cut i k (entry_at new (get_or cells k d) ≡ Some (f (get_or cells k d))) low
    (λ l. h (get_or cells k d) ∙ by_test (same_addr at (get_or cells k d)) (get_or cells k d) (entry_at old (get_or cells k d)) (λ e. same_addr-true at (get_or cells k d) e) (before k d l))
    (λ e. subst (λ n. entry_at new (get_or cells n d) ≡ Some (f (get_or cells n d))) (sym e) (at_it old new at (get_or cells i d) r h (is d) ∙ ap Some (value ∙ ap f (is d))))
  where
    by_test : (b : Bool) (q : Addr) (o : Option Shown) → (b ≡ true → at ≡ q) → o ≡ Some (f q) → cond b (Some r) o ≡ Some (f q)
    by_test true q o same e = ap Some (value ∙ ap f (same refl))
    by_test false q o same e = e

-- the address that is read, whatever is named for a place past the end
pub read_any : (cells : List Addr) (i : ℕ) (d at : Addr) → i < length cells → at ≡ get_or cells i d → (e : Addr) → at ≡ get_or cells i e
read_any cells i d at low e f = e ∙ get_or_default cells i d f low

-- the result of a cell in the list of all
pub result_there : (f : Addr → Shown) (cells : List Addr) (results : List (Option Shown)) (i : ℕ) (d : Addr) → i < length cells → results ≡ map (λ (a : Addr). Some (f a)) cells → get_or results i None ≡ Some (f (get_or cells i d))
result_there f cells results i d low all = ap (λ xs. get_or xs i None) all ∙ get_or-map (λ (a : Addr). Some (f a)) cells i d None low

pub result_read : (f : Addr → Shown) (cells : List Addr) (results : List (Option Shown)) (i : ℕ) (d : Addr) (r : Shown) → i < length cells → results ≡ map (λ (a : Addr). Some (f a)) cells → get_or results i None ≡ Some r → r ≡ f (get_or cells i d)
result_read f cells results i d r low all e = some_same (sym e ∙ result_there f cells results i d low all)
  where
    some_same : Some r ≡ Some (f (get_or cells i d)) → r ≡ f (get_or cells i d)
    some_same h = cc
