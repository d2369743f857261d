-- A round over the pending cells, before it and after it.
use Rattle.std.proofs.Common.{◌≡◌, ℕ, ◌<◌, ◌≤◌, suc, true, false, List, [], ◌∷◌, length, get_or, Some, IsSome, ◌⊎◌, inl, inr, refl, sym, ◌∙◌, subst, arith}
use Rattle.std.proofs.lemmas.Bool.{cases_Bool}
use Rattle.cell_values.specs.declared.TheConstants.{MAX_BOOK_CELLS}
use Rattle.cell_values.specs.declared.address.Addr.{Addr}
use Rattle.cell_values.specs.declared.values.Shown.{Shown}
use Rattle.cell_values.specs.Addresses.{IsBefore}
use Rattle.cell_values.specs.Order.{InOrder, IsBeforeAll, entry_at}
use Rattle.cell_values.proofs.Order.{never_before}
use Rattle.std.specs.BTreeMap.{BTreeMap}
use Rattle.demand_spec.specs.Book.{Book, formula_at, formulas, shown}
use Rattle.demand_spec.specs.Laws.{In, IsClosed, Distinct}
use Rattle.demand_spec.proofs.Cycles.{no_more}
use Rattle.demand_spec.proofs.Listed.{enough}
use Rattle.demand_spec.proofs.Members.{member_found, found_member}
use Rattle.demand_spec.proofs.Rounds.{in_formulas}
use Rattle.demand_stack.specs.StackSeen.{AreStored}
use Rattle.support_graph.specs.Pending.{among}
use Rattle.parallel_evaluation.specs.Workers.{ArePending}
use Rattle.recalculation.specs.declared.progress.Progress.{Progress}
use Rattle.recalculation.specs.Calculations.{has_result}
use Rattle.recalculation.specs.Standing.{IsProgress}
use Rattle.recalculation.specs.Written.{HasResultsOf, OthersStay}
use Rattle.recalculation.proofs.Kept.{never_reached}
use Rattle.recalculation.proofs.Results.{result_formula, result_settled, result_there, some_tree}

not_behind : (a : Addr) (cs : List Addr) → IsBeforeAll a cs → In a cs → ⊥
not_behind a [] h k = k
not_behind a (c ∷ cs) h (inl e) = never_before a (subst (IsBefore a) (sym e) h.0)
not_behind a (c ∷ cs) h (inr k) = not_behind a cs h.1 k

distinct : (cs : List Addr) → InOrder cs → Distinct cs
distinct [] h = tt
distinct (c ∷ cs) h = (not_behind c cs h.0, distinct cs h.1)

-- formula cells in order, with all that mention them, are cells of a round
round_cells : (b : Book) (cells : List Addr) → length b.cells ≤ MAX_BOOK_CELLS → InOrder cells → ((a : Addr) → In a cells → IsSome (formula_at b a)) → IsClosed b (λ a. In a cells) → ArePending b cells
round_cells b [] few order are closed = tt
round_cells b (c ∷ cells) few order are closed =
    let most : length (c ∷ cells) ≤ length (formulas b) = no_more (c ∷ cells) (formulas b) (distinct (c ∷ cells) order)
    (λ a there. let t = some_tree (formula_at b a) (are a there) in in_formulas b a t.0 t.1) in
    let all = enough b in record {
      one_at_least = omega arith;
      not_too_many = omega arith;
      are_formulas = are;
      in_order = order;
      closed = closed;
    }

surely : {P : Type 0} → P ⊎ (false ≡ true) → P
surely (inl h) = h
surely (inr e) = absurd (cc)

pub pending_ready : (b : Book) (p : Progress) → length b.cells ≤ MAX_BOOK_CELLS → IsProgress b p → ArePending b p.stale
pending_ready b p few k = round_cells b p.stale few k.in_order (λ a there. surely (k.are_formulas a there)) (λ c a there names. surely (k.closed a c there names))

pub stored_ready : (b : Book) (p : Progress) → p.built ≡ true → IsProgress b p → AreStored (record { book = b; cells = p.stale }) p.stored.entries
stored_ready b p built k a t is out = k.results built a (never_reached b a) (result_there b p.stale a (subst IsSome (sym is) refl) out)

-- what is put for pending cells changes nothing
pub progress_reserved : (b : Book) (p : Progress) (stored : BTreeMap Addr Shown) → OthersStay p.stale p.stored.entries stored.entries → IsProgress b p → IsProgress b (record p { stored = stored })
progress_reserved b p stored stay k = record {
  unbuilt = k.unbuilt;
  linked = k.linked;
  in_order = k.in_order;
  are_formulas = k.are_formulas;
  closed = k.closed;
  results = λ built c free r. stay c (result_settled b p.stale c r) ∙ k.results built c free r;
}

place_of : (cells : List Addr) (a : Addr) → In a cells → (k : ℕ) × (k < length cells) × (get_or cells k a ≡ a)
place_of [] a h = absurd h
place_of (c ∷ cs) a (inl e) = (0, omega arith, sym e)
place_of (c ∷ cs) a (inr h) = let p = place_of cs a h in (suc p.0, omega arith, p.2)

-- with the results of the pending cells nothing is pending
pub progress_done : (b : Book) (p : Progress) (stored : BTreeMap Addr Shown) → p.built ≡ true → HasResultsOf b p.stale stored.entries → OthersStay p.stale p.stored.entries stored.entries → IsProgress b p
    → IsProgress b (record p { stored = stored; stale = [] })
progress_done b p stored is_built written stay k = record {
  unbuilt = λ h. ((k.unbuilt h).0, refl);
  linked = k.linked;
  in_order = tt;
  are_formulas = λ c there. absurd there;
  closed = λ a c there names. absurd there;
  results = λ built c free r. by_test c free r (cases_Bool (among p.stale c));
}
  where
    was_pending : (c : Addr) → In c p.stale → entry_at stored.entries c ≡ Some (shown b c)
    was_pending c there = let at = place_of p.stale c there in subst (λ a. entry_at stored.entries a ≡ Some (shown b a)) at.2 (written at.0 c at.1)

    was_there : (c : Addr) → has_result b [] c ≡ true → (In c p.stale → ⊥) → entry_at stored.entries c ≡ Some (shown b c)
    was_there c r out = stay c out ∙ k.results is_built c (never_reached b c) (result_there b p.stale c (result_formula b [] c r) out)

    by_test : (c : Addr) {F : Type 0} → F → has_result b [] c ≡ true → (among p.stale c ≡ true) ⊎ (among p.stale c ≡ false) → entry_at stored.entries c ≡ Some (shown b c)
    by_test c free r (inl e) = was_pending c (found_member c p.stale e)
    by_test c free r (inr e) = was_there c r (λ there. let t = member_found c p.stale there in absurd (let z : true ≡ false = sym t ∙ e in cc))
