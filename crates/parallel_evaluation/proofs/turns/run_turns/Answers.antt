use Rattle.std.proofs.Common.{rules, ◌≡◌, ◌<◌, ◌++◌, ℕ, length, get_or, ap, ◌∙◌}
use Rattle.speculative_eval.specs.Steps.{event_in}
use Rattle.parallel_evaluation.specs.Order.{traced}
use Rattle.parallel_evaluation.specs.Turns.{board}
use Rattle.parallel_evaluation.proofs.Runs.{run_next}
use Rattle.parallel_evaluation.proofs.turns.run_turns.Goals as goal

pub loop-i-preserved : goal.loop-i-preserved
loop-i-preserved c =
    let inv = c.loop-i.invariant in
    let order = c.args.order.now in
    let w : ℕ = get_or order c.loop-i.i 0 in
    let inside : c.loop-i.i < length order = search rules in
    let noted : c.note.new.events.items ≡ c.loop-i.events.items ++ traced w (event_in c.give_turn-step.result.0) = search rules in
    let turn = c.give_turn-step.ensures.turned c.loop-i.events.items in
    record {
      turn = c.give_turn-step.ensures.turn;
      workers = c.give_turn-step.ensures.workers.0;
      count = c.give_turn-step.ensures.workers.1 ∙ inv.count;
      whole = run_next c.args.round.now.setup order c.loop-i.i (board c.loop-i.events.items c.loop-i.turn.words c.loop-i.workers) (board c.note.new.events.items c.give_turn-step.result.1.words c.give_turn-step.new.workers) inside
          (ap (λ es. board es c.give_turn-step.result.1.words c.give_turn-step.new.workers) noted ∙ turn.board) ∙ inv.whole;
    }
