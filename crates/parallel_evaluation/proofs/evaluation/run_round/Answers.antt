use Rattle.std.proofs.Common.{rules, ◌≡◌, ◌-◌, sym, subst, ◌∙◌, length, arith}
use Rattle.std.specs.List.{All}
use Rattle.claim_core.specs.Passes.{SeesAllDone}
use Rattle.speculative_eval.specs.Hinted.{hints_with}
use Rattle.speculative_eval.specs.Workers.{IsWorkerOf}
use Rattle.steal_tasks.specs.Ends.{EndSeen}
use Rattle.parallel_evaluation.specs.Workers.{HasEnded}
use Rattle.parallel_evaluation.proofs.Lists.{come_back, workers_fresh}
use Rattle.parallel_evaluation.proofs.evaluation.run_round.Goals as goal

pub finish_all-requires-after_bounds : goal.finish_all-requires-after_bounds
finish_all-requires-after_bounds g c κs within =
    let fresh = c.in_ok-round.ensures.passes in
    subst (All (IsWorkerOf c.in_ok-round.round)) (sym (c.as_mut_slice.ensures.value ∙ c.in_ok-all.ensures.workers)) (workers_fresh c.in_ok-round.round (λ (e : EndSeen). hints_with (e.count - e.given) e.last e.over) c.in_ok-round.passes.items c.in_ok-ends.ends.items fresh.0)

pub take_all_back-requires-clause-workers : goal.take_all_back-requires-clause-workers
take_all_back-requires-clause-workers g c κs =
    let back = come_back c.finish_all.new.all c.in_ok-all.all.items c.in_ok-all.all.len (search rules) in (
      subst (All (HasEnded c.in_ok-round.round)) (sym back) c.finish_all.ensures.ended,
      (let n = c.in_ok-all.ensures.count in let w : c.in_ok-round.round.setup.workers ≡ c.args.workers = search rules in let some = c.requires.workers.0 in omega arith),
    )

pub returns-clause-over : goal.returns-clause-over
returns-clause-over g c =
    let first = c.take_all_back.ensures.first in
    let words : length c.close.result.words ≡ length c.in_ok-round.round.setup.cells = search rules in record {
      over = search rules;
      done = c.close.ensures.done 0 first.0 first.1 (subst (λ m. SeesAllDone m first.0.view) (sym words) first.2);
    }
