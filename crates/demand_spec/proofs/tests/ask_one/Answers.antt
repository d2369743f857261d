use Rattle.cell_values.specs.Order.{entry_at}
use Rattle.demand_spec.proofs.Texts.{finished_text}
use Rattle.demand_spec.proofs.tests.ask_one.Goals as goal

pub over-stage-requires-clause-known : goal.over-stage-requires-clause-known
over-stage-requires-clause-known c = finished_text c.args.book.now c.args.texts.now (entry_at c.in_ok-known.known.entries) c.requires.cells c.in_ok-known.ensures
