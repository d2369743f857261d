use Rattle.std.proofs.Common.{ℕ, zero, suc, ◌<◌, ◌≤◌, ◌∙◌, ◌≡◌, ◌⊎◌, inl, inr, ◌++◌, [], ◌∷◌, List, Bool, true, false, length, drop, get_or, refl, sym, subst, arith, ap}
use Rattle.std.specs.Prelude.{◌↔◌}
use Rattle.std.proofs.lemmas.Grind.{common_steps}
use Rattle.cell_values.specs.declared.address.Addr.{Addr}
use Rattle.cell_values.specs.Order.{InOrder}
use Rattle.demand_spec.specs.Laws.{In}
use Rattle.support_graph.specs.Steps.{TookOne}
use Rattle.support_graph.proofs.Lists.{no_addr, took_old_at, took_new_at, merged_order, merged_cells}
use Rattle.support_graph.proofs.sorted.merged.Goals as goal
use Rattle.support_graph.proofs.sorted.merged.Goals.{then-loop-i-test+else-j-new, else-loop-i-test}

pub loop-i-preserved-then-branch : goal.loop-i-preserved-then-branch
loop-i-preserved-then-branch c =
    let old = c.args.old.now in
    let new = c.args.new.now in
    let i = c.loop-i.i in
    let j = c.loop-i.j in
    let low : i < length old = c.loop-i-test.true in
    let high : j < length new = c.if-j-new.true in
    let took : TookOne true (get_or old i no_addr) (get_or new j no_addr) c.loop-i.all.items c.push_lesser.new.all.items =
    subst (λ (b : Bool). TookOne b (get_or old i no_addr) (get_or new j no_addr) c.loop-i.all.items c.push_lesser.new.all.items) c.if-branch.true c.in_ok-push_lesser.ensures in
    record {
      within = omega (arith, low);
      within_new = c.loop-i.invariant.within_new;
      merging = took_old_at c.loop-i.all.items c.push_lesser.new.all.items old new i j low high took c.loop-i.invariant.merging;
    }

pub loop-i-preserved : goal.loop-i-preserved
loop-i-preserved c =
    let old = c.args.old.now in
    let new = c.args.new.now in
    let i = c.loop-i.i in
    let j = c.loop-i.j in
    let low : i < length old = c.loop-i-test.true in
    let high : j < length new = c.if-j-new.true in
    let took : TookOne false (get_or old i no_addr) (get_or new j no_addr) c.loop-i.all.items c.push_lesser.new.all.items =
    subst (λ (b : Bool). TookOne b (get_or old i no_addr) (get_or new j no_addr) c.loop-i.all.items c.push_lesser.new.all.items) c.if-branch.false c.in_ok-push_lesser.ensures in
    record {
      within = c.loop-i.invariant.within;
      within_new = omega (arith, high);
      merging = took_new_at c.loop-i.all.items c.push_lesser.new.all.items old new i j low high took c.loop-i.invariant.merging;
    }

-- what is left of one list is nothing
over : (i : ℕ) (xs : List Addr) → length xs ≤ i → drop i xs ≡ []
over zero [] h = refl
over (suc i) [] h = refl
over zero (x ∷ xs) h = absurd (omega (arith, h))
over (suc i) (x ∷ xs) h = over i xs (omega (arith, h))

all_taken : (c : goal.In_ok-extend_from_slice-2) → c.extend_from_slice-2.new.self.items ≡ (c.loop-i.all.items ++ drop c.loop-i.i c.args.old.now) ++ drop c.loop-i.j c.args.new.now
all_taken c =
    let p : c.extend_from_slice.new.self.items ≡ c.loop-i.all.items ++ drop c.loop-i.i c.args.old.now = grind (arith, common_steps) in
    let q : c.extend_from_slice-2.new.self.items ≡ c.extend_from_slice.new.self.items ++ drop c.loop-i.j c.args.new.now = grind (arith, common_steps) in
    q ∙ ap (λ (xs : List Addr). xs ++ drop c.loop-i.j c.args.new.now) p

pub returns-clause-cells : goal.returns-clause-cells
returns-clause-cells c q =
    subst (λ (xs : List Addr). In q xs ↔ (In q c.args.old.now ⊎ In q c.args.new.now)) (sym (all_taken c))
    (merged_cells c.loop-i.all.items (drop c.loop-i.i c.args.old.now) (drop c.loop-i.j c.args.new.now) c.args.old.now c.args.new.now c.loop-i.invariant.merging q)

pub returns-clause-in_order : goal.returns-clause-in_order
returns-clause-in_order c =
    let one_over : (drop c.loop-i.i c.args.old.now ≡ []) ⊎ (drop c.loop-i.j c.args.new.now ≡ []) =
    elim c.loop-i-test.branch [ then-loop-i-test+else-j-new w ↦ inr (over c.loop-i.j c.args.new.now w.if-j-new.false) | else-loop-i-test w ↦ inl (over c.loop-i.i c.args.old.now w.loop-i-test.false) ] in
    subst InOrder (sym (all_taken c))
    (merged_order c.loop-i.all.items (drop c.loop-i.i c.args.old.now) (drop c.loop-i.j c.args.new.now) c.args.old.now c.args.new.now c.loop-i.invariant.merging one_over)
