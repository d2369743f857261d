-- A map that is made of marks for a list of cells.
use Rattle.std.proofs.Common.{◌≡◌, ℕ, ◌<◌, zero, suc, Bool, true, false, cond, is_eq, List, [], ◌∷◌, map, length, get_or, Option, Some, None, IsSome, inl, inr, refl, sym, ◌∙◌, subst, arith}
use Rattle.std.specs.Map.{lookup, update_all}
use Rattle.cell_values.specs.contracts.address.AddrOrd.TheImpl as addr_ord
use Rattle.cell_values.specs.declared.address.Addr.{Addr}
use Rattle.cell_values.specs.declared.values.Shown.{Shown}
use Rattle.cell_values.specs.Order.{entry_at}
use Rattle.cell_values.proofs.Order.{same_cmp, lookup_is, same_addr-refl, same_addr-true}
use Rattle.demand_spec.specs.Laws.{In}
use Rattle.recalculation.specs.Written.{HasRoomFor}

-- f, with a mark at each of the cells
abbrev pub marked : (Addr → Option Shown) → List Addr → Addr → Option Shown
marked f cells q = update_all (λ a b. is_eq ((addr_ord.ghosts).cmp a b)) f (map (λ a. (a, Shown.ToCycle)) cells) q

-- f with a mark at c
abbrev with_mark : (Addr → Option Shown) → Addr → Addr → Option Shown
with_mark f c q = cond (is_eq ((addr_ord.ghosts).cmp c q)) (Some Shown.ToCycle) (f q)

some_stays : (b : Bool) (o : Option Shown) → IsSome o → IsSome (cond b (Some Shown.ToCycle) o)
some_stays true o h = refl
some_stays false o h = h

stays_marked : (cells : List Addr) (f : Addr → Option Shown) (q : Addr) → IsSome (f q) → IsSome (marked f cells q)
stays_marked [] f q h = h
stays_marked (c ∷ cs) f q h = stays_marked cs (with_mark f c) q (some_stays (is_eq ((addr_ord.ghosts).cmp c q)) (f q) h)

at_cell : (c : Addr) (f : Addr → Option Shown) → IsSome (with_mark f c c)
at_cell c f = subst (λ b. IsSome (cond b (Some Shown.ToCycle) (f c))) (sym (same_cmp c c ∙ same_addr-refl c)) refl

-- each of the cells is marked
all_marked : (cells : List Addr) (f : Addr → Option Shown) (k : ℕ) (d : Addr) → k < length cells → IsSome (marked f cells (get_or cells k d))
all_marked [] f k d low = absurd (omega arith)
all_marked (c ∷ cs) f zero d low = stays_marked cs (with_mark f c) c (at_cell c f)
all_marked (c ∷ cs) f (suc k) d low = all_marked cs (with_mark f c) k d (omega arith)

other : (b : Bool) (o : Option Shown) → (b ≡ true → ⊥) → cond b (Some Shown.ToCycle) o ≡ o
other true o n = absurd (n refl)
other false o n = refl

-- no other cell is
no_other : (cells : List Addr) (f : Addr → Option Shown) (q : Addr) → (In q cells → ⊥) → marked f cells q ≡ f q
no_other [] f q out = refl
no_other (c ∷ cs) f q out = no_other cs (with_mark f c) q (λ i. out (inr i))
    ∙ other (is_eq ((addr_ord.ghosts).cmp c q)) (f q) (λ e. out (inl (sym (same_addr-true c q (sym (same_cmp c q) ∙ e)))))

module _ (cells : List Addr) (entries : List (Addr × Shown)) (made : (q : Addr) → lookup (λ k. is_eq ((addr_ord.ghosts).cmp q k)) entries ≡ marked (λ _. None) cells q) where
  pub room_marked : HasRoomFor cells entries
  room_marked k d low = subst IsSome (sym (made (get_or cells k d)) ∙ lookup_is entries (get_or cells k d)) (all_marked cells (λ _. None) k d low)

  pub others_unmarked : (q : Addr) → (In q cells → ⊥) → entry_at entries q ≡ None
  others_unmarked q out = sym (lookup_is entries q) ∙ made q ∙ no_other cells (λ _. None) q out
