use Rattle.std.proofs.Common.{sym, ◌∙◌}
use Rattle.demand_spec.specs.Stage.{book_of}
use Rattle.demand_spec.proofs.Listed.{found_back}
use Rattle.demand_spec.proofs.shown_cells.steps_back.Goals as goal

pub returns-then-is_back : goal.returns-then-is_back
returns-then-is_back c = found_back (book_of c.args.stage.now) c.args.at c.loop-step.step c.args.most c.loop-step.here c.step_on-here.result c.loop-step-test.true c.loop-step.invariant.here c.loop-step.invariant.not_yet c.step_on-here.ensures (sym c.if-is_back.true ∙ c.is_back.ensures)
