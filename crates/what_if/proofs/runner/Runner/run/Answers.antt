use Rattle.std.proofs.Common.{◌≡◌, ℕ, ◌+◌, ◌*◌, ◌<◌, ◌∷◌, ◌++◌, [], length, sym, ap, ◌∙◌, subst, Some, rules, vec_capacity, SFits, arith}
use Rattle.std.proofs.lemmas.List.{length_push}
use Rattle.std.proofs.lemmas.Int.{to_z-of_z}
use Rattle.std.specs.Int.{w128}
use Rattle.std.specs.Prelude.{slice_get}
use Rattle.demand_spec.specs.Book.{shown}
use Rattle.workbook_core.specs.WithNumber.{with_number}
use Rattle.what_if.specs.Tables.{book_of, scenario_of}
use Rattle.what_if.proofs.Working.{below_by, found_more, place_more}
use Rattle.what_if.proofs.runner.Runner.run.Goals as goal

pub loop-scenario-preserved : goal.loop-scenario-preserved
loop-scenario-preserved g c =
    let inv = c.loop-scenario.invariant in
    let t = c.args.self.now.table.now in
    let old = c.loop-scenario.self.found.items in
    let items : c.push_reserved.new.self.items ≡ old ++ c.shown_with-shown.result ∷ [] = c.push_reserved.ensures.items ∙ ap (λ (v : _). v.items ++ c.shown_with-shown.result ∷ []) c.shown_with-shown.ensures.same in
    let long = ap length items ∙ length_push old c.shown_with-shown.result in
    let P : ℕ → _ = λ j. scenario_of t (c.args.worker + t.workers * j) in
    let fits : SFits w128 c.number.result = search rules in
    let made = simp (to_z-of_z, fits) at c.shown_with-shown.ensures.shown in
    let here : c.shown_with-shown.result ≡ P (length old) = made ∙ ap (λ n. shown (with_number (book_of t) t.at n) t.target) c.number.ensures ∙ ap (scenario_of t) inv.place in
    let more = place_more c.args.worker t.workers (length old) in
    let one = c.requires.table.one_worker in
    record {
      stack = c.shown_with-shown.ensures.stack;
      place = subst (λ k. c.loop-scenario.scenario + t.workers ≡ c.args.worker + t.workers * k) (sym long) (let z = inv.place in omega arith);
      short = (let z = inv.short in omega arith);
      found = λ j l. subst (λ xs. slice_get xs j ≡ Some (P j)) (sym items) (found_more old c.shown_with-shown.result P inv.found here j (subst (λ xs. j < length xs) items l));
      room = (let z = inv.room in let same = ap (λ (v : _). vec_capacity v) c.shown_with-shown.ensures.same in let k = c.push_reserved.ensures.capacity in omega arith);
    }

pub returns : goal.returns
returns g c = λ j low.
    let inv = c.loop-scenario.invariant in
    let t = c.args.self.now.table.now in
    inv.found j (below_by c.args.worker t.workers (length c.loop-scenario.self.found.items) j t.count (let e = inv.place in let z = c.loop-scenario-test.false in omega arith) low)
