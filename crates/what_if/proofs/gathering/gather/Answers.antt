use Rattle.std.proofs.Common.{◌≡◌, ◌∷◌, ◌++◌, [], length, sym, ap, ◌∙◌, arith}
use Rattle.std.proofs.lemmas.List.{length-map}
use Rattle.cell_values.specs.Areas.{numbers_from}
use Rattle.cell_values.proofs.Walking.{length-numbers_from}
use Rattle.what_if.specs.Tables.{scenario_of}
use Rattle.what_if.proofs.Working.{one_more}
use Rattle.what_if.proofs.gathering.gather.Goals as goal

pub loop-scenario-preserved : goal.loop-scenario-preserved
loop-scenario-preserved c =
    let inv = c.loop-scenario.invariant in
    let t = c.args.table.now in
    record {
      items = c.push_reserved.ensures.items ∙ (λ i. inv.items i ++ c.found.ensures i ∷ []) ∙ sym (one_more t c.loop-scenario.scenario);
      room = (let z = inv.room in let k = c.push_reserved.ensures.capacity in omega arith);
    }

pub push_reserved-requires : goal.push_reserved-requires
push_reserved-requires c =
    let count : length c.loop-scenario.shown.items ≡ c.loop-scenario.scenario = ap length c.loop-scenario.invariant.items ∙ length-map (numbers_from 0 c.loop-scenario.scenario) (scenario_of c.args.table.now) ∙ length-numbers_from 0 c.loop-scenario.scenario in
    let room = c.loop-scenario.invariant.room in
    let low = c.loop-scenario-test.true in
    let same = c.loop-scenario.shown.ok.0 in
    omega arith
