use Rattle.std.proofs.Common.{◌≡◌, ◌+◌, ◌*◌, ◌≤◌, length, get_or, set, length-set, sym, subst, ap, ◌∙◌}
use Rattle.speculative_eval.specs.Workers.{WorkerSeen}
use Rattle.speculative_eval.specs.Steps.{steps_in}
use Rattle.parallel_evaluation.specs.Turns.{steps_of, steps_at}
use Rattle.parallel_evaluation.proofs.Turning.{at_or, at_others, turn_made, still_workers, stays_at, few_of, ends_at, steps_there, steps_set}
use Rattle.parallel_evaluation.proofs.turns.give_turn.Goals as goal

pub step_in_turn-requires-after_bounds : goal.step_in_turn-requires-after_bounds
step_in_turn-requires-after_bounds c κs =
    let old : WorkerSeen = get_or c.args.workers.now c.args.by c.index-workers-by.result in
    let it = c.requires.workers.0 c.args.by old (at_or c.args.workers.now c.args.by c.index-workers-by.result c.requires.workers.1) in
    (it.belongs, c.requires.turn)

pub returns-clause-workers : goal.returns-clause-workers
returns-clause-workers c =
    let ws = c.args.workers.now in
    let w = c.args.by in
    let new = c.step_in_turn.new.self in
    let old : WorkerSeen = get_or ws w c.index-workers-by.result in
    let it = c.requires.workers.0 w old (at_or ws w c.index-workers-by.result c.requires.workers.1) in
    let own = stays_at c.args.round.now w old new it c.step_in_turn.ensures.worker.0 c.step_in_turn.ensures.worker.1 c.step_in_turn.ensures.hints c.step_in_turn.ensures.few in
    (still_workers c.args.round.now ws w new c.requires.workers.1 c.requires.workers.0 own, length-set ws w new)

pub returns-clause-turned : goal.returns-clause-turned
returns-clause-turned c events =
    let ws = c.args.workers.now in
    let w = c.args.by in
    let old : WorkerSeen = get_or ws w c.index-workers-by.result in
    let there = at_or ws w c.index-workers-by.result c.requires.workers.1 in
    let it = c.requires.workers.0 w old there in
    turn_made c.args.round.now.setup w ws c.args.turn.words c.step_in_turn.result.1.words old c.step_in_turn.new.self c.step_in_turn.result.0 events there it.job it.no_hints c.step_in_turn.ensures.step

pub returns-clause-made : goal.returns-clause-made
returns-clause-made c =
    let ws = c.args.workers.now in
    let w = c.args.by in
    let old : WorkerSeen = get_or ws w c.index-workers-by.result in
    let new = c.step_in_turn.new.self in
    let before : steps_at ws w ≡ steps_of old = steps_there ws w old (at_or ws w c.index-workers-by.result c.requires.workers.1) in
    let after : steps_at (set ws w new) w ≡ steps_of new = steps_set ws w new c.requires.workers.1 in
    after ∙ (c.step_in_turn.ensures.made ∙ ap (λ n. n + steps_in c.step_in_turn.result.0) (sym before))

pub returns-clause-few : goal.returns-clause-few
returns-clause-few c =
    let ws = c.args.workers.now in
    let w = c.args.by in
    let new = c.step_in_turn.new.self in
    let old : WorkerSeen = get_or ws w c.index-workers-by.result in
    let it = c.requires.workers.0 w old (at_or ws w c.index-workers-by.result c.requires.workers.1) in
    let own = stays_at c.args.round.now w old new it c.step_in_turn.ensures.worker.0 c.step_in_turn.ensures.worker.1 c.step_in_turn.ensures.hints c.step_in_turn.ensures.few in
    subst (λ n. n ≤ 16 * length c.args.round.now.setup.cells + 16) (sym (steps_set ws w new c.requires.workers.1)) (few_of c.args.round.now w new own)

pub returns-clause-ends : goal.returns-clause-ends
returns-clause-ends c = ends_at c.step_in_turn.result.0 c.args.workers.now c.args.by c.step_in_turn.new.self c.requires.workers.1 c.step_in_turn.ensures.ends

pub returns-clause-others : goal.returns-clause-others
returns-clause-others c k apart = at_others c.args.workers.now c.args.by k c.step_in_turn.new.self apart
