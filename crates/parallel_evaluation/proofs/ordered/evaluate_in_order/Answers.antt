use Rattle.std.proofs.Common.{rules, ◌≡◌, ◌≢◌, ◌++◌, [], append-nil, sym, ap, ◌∙◌}
use Rattle.parallel_evaluation.proofs.Openings.{no_run, some_run}
use Rattle.parallel_evaluation.proofs.ordered.evaluate_in_order.Goals as goal

pub returns-then-is_empty-clause-trace : goal.returns-then-is_empty-clause-trace
returns-then-is_empty-clause-trace c =
    let none : c.args.cells.now ≡ [] = search rules in
    sym (append-nil c.args.trace.now.items) ∙ ap (λ es. c.args.trace.now.items ++ es) (sym (no_run c.args.book.now.book c.args.cells.now c.args.workers c.args.order.now c.args.stopped.now none))

pub returns-clause-trace : goal.returns-clause-trace
returns-clause-trace c =
    let some : c.args.cells.now ≢ [] = search rules in
    c.in_ok-outcome.ensures.trace ∙ ap (λ es. c.args.trace.now.items ++ es) (sym (some_run c.args.book.now.book c.args.cells.now c.args.workers c.args.order.now c.args.stopped.now some))
