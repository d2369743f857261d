use Rattle.std.proofs.Common.{◌≡◌, ◌+◌, ◌-◌, ◌*◌, ◌≤◌, ◌++◌, List, ℕ, suc, length, sym, ap, refl, ◌∙◌, arith}
use Rattle.speculative_eval.specs.Steps.{event_in, steps_in}
use Rattle.parallel_evaluation.specs.declared.trace.Traced.{Traced}
use Rattle.parallel_evaluation.specs.Order.{Board, traced, to_end, most_turns}
use Rattle.parallel_evaluation.specs.Turns.{board, steps_at}
use Rattle.parallel_evaluation.proofs.Runs.{goes_on, few_at, others_on}
use Rattle.parallel_evaluation.proofs.turns.run_to_end.Goals as goal

pub loop-event-init : goal.loop-event-init
loop-event-init c = record {
  turn = c.requires.turn;
  workers = c.requires.workers.0;
  count = refl;
  others = λ k n. refl;
  grown = omega arith;
  few = few_at c.args.round.now c.args.workers.now c.args.by c.requires.workers.1 c.requires.workers.0;
  whole = ap (λ n. to_end c.args.round.now.setup c.args.by n (board c.args.events.now.items c.args.turn.words c.args.workers.now))
      (let n : ℕ = steps_at c.args.workers.now c.args.by in let e : most_turns (length c.args.round.now.setup.cells) - (n - n) ≡ most_turns (length c.args.round.now.setup.cells) = omega arith in e);
}

pub loop-event-preserved : goal.loop-event-preserved
loop-event-preserved c =
    let inv = c.loop-event.invariant in
    let r = c.args.round.now.setup in
    let w = c.args.by in
    let told = c.give_turn-step.ensures in
    let before : Board = board c.loop-event.events.items c.loop-event.turn.words c.loop-event.workers in
    let words = c.give_turn-step.result.1.words in
    let after : List Traced → Board = λ es. board es words c.give_turn-step.new.workers in
    let first : ℕ = steps_at c.args.workers.now w in
    let old : ℕ = steps_at c.loop-event.workers w in
    let new : ℕ = steps_at c.give_turn-step.new.workers w in
    let one : new ≡ old + 1 = told.made ∙ ap (λ x. old + steps_in x) c.in-Did.is in
    let grown : first ≤ old = inv.grown in
    let few : old ≤ 16 * length r.cells + 16 = inv.few in
    let noted : c.push.new.self.items ≡ c.loop-event.events.items ++ traced w (event_in c.give_turn-step.result.0) =
    c.in_ok-push.ensures.items ∙ ap (λ x. c.loop-event.events.items ++ traced w (event_in x)) (sym c.in-Did.is) in
    let fuel : ℕ = most_turns (length r.cells) - (new - first) in
    let more : suc fuel ≡ most_turns (length r.cells) - (old - first) = omega arith in
    record {
      turn = told.turn;
      workers = told.workers.0;
      count = told.workers.1 ∙ inv.count;
      others = others_on w c.args.workers.now c.loop-event.workers c.give_turn-step.new.workers inv.others told.others;
      grown = omega arith;
      few = told.few;
      whole = ap (λ es. to_end r w fuel (after es)) noted
          ∙ (goes_on r w fuel before (after (c.loop-event.events.items ++ traced w (event_in c.give_turn-step.result.0))) c.give_turn-step.result.0 c.in-Did.event c.in-Did.is (told.turned c.loop-event.events.items)
          ∙ (ap (λ n. to_end r w n before) more ∙ inv.whole));
    }
