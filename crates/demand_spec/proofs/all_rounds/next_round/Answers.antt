use Rattle.std.proofs.Common.{◌∙◌}
use Rattle.demand_spec.specs.Rounds.{adds}
use Rattle.demand_spec.specs.Stage.{book_of, known_of}
use Rattle.cell_values.specs.Order.{entry_at}
use Rattle.demand_spec.proofs.Listed.{next_of, on_ok}
use Rattle.demand_spec.proofs.all_rounds.next_round.Goals as goal

pub returns-clause-known : goal.returns-clause-known
returns-clause-known c = on_ok c.round_over.result _ _ (λ r e. next_of c.args.book.now c.args.texts.now c.args.known.now.entries c.over-stage.result c.cells.result.now (entry_at r.known.entries) c.cells.ensures.in_order c.over-stage.ensures c.cells.ensures.same e) c.round_over.ensures.known

pub returns-clause-grew : goal.returns-clause-grew
returns-clause-grew c = on_ok c.round_over.result _ _ (λ r e. e ∙ (λ i. adds (book_of (c.over-stage.ensures i)) (known_of (c.over-stage.ensures i)) (c.cells.ensures.same i))) c.round_over.ensures.grew
