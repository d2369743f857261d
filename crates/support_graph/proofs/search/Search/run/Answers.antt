use Rattle.std.proofs.Common.{◌∙◌, ◌++◌, refl, ap}
use Rattle.std.specs.Prelude.{option_to_list}
use Rattle.support_graph.specs.declared.search.Search.{Search}
use Rattle.support_graph.proofs.Reach.{popped, fewer}
use Rattle.support_graph.proofs.search.Search.run.Goals as goal

pub loop-cell-preserved : goal.loop-cell-preserved
loop-cell-preserved c =
    let rest : Search = record c.loop-cell.self { todo = c.pop.new.self } in
    record {
      pending = c.in_ok-visit_dependents.ensures.visits.pending ∙ c.loop-cell.invariant.pending;
      search = λ from old. popped c.args.support.now from c.in-Some.cell c.loop-cell.self rest c.visit_dependents.new.search (c.loop-cell.invariant.search from old) refl refl (c.pop.ensures.items ∙ ap (λ o. c.pop.new.self.items ++ option_to_list o) c.in-Some.is) c.in_ok-visit_dependents.ensures.visits;
      done = c.in_ok-visit_dependents.ensures.done;
    }

pub loop-cell-smaller : goal.loop-cell-smaller
loop-cell-smaller c =
    let rest : Search = record c.loop-cell.self { todo = c.pop.new.self } in
    fewer c.args.support.now c.in-Some.cell c.loop-cell.self rest c.visit_dependents.new.search refl (c.pop.ensures.items ∙ ap (λ o. c.pop.new.self.items ++ option_to_list o) c.in-Some.is) c.in_ok-visit_dependents.ensures.visits
