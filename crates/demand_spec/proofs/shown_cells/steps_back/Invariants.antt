use Rattle.std.proofs.Common.{◌≡◌, None}
use Rattle.demand_spec.specs.Book.{follow, period}
use Rattle.demand_spec.specs.Stage.{book_of}
use Rattle.demand_spec.proofs.shown_cells.steps_back.Given as goal

abbrev pub invariant-loop-step : goal.invariant-loop-step
invariant-loop-step l = record {
  here : l.here ≡ follow (book_of l.stage) l.step l.at;
  not_yet : period (book_of l.stage) l.step l.at ≡ None;
}
