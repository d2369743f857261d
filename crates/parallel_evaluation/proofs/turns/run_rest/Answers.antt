use Rattle.std.proofs.Common.{rules, ◌<◌, length, ◌∙◌}
use Rattle.parallel_evaluation.specs.Turns.{board}
use Rattle.parallel_evaluation.proofs.Runs.{one_ended, more_ended}
use Rattle.parallel_evaluation.proofs.turns.run_rest.Goals as goal

pub loop-by-preserved : goal.loop-by-preserved
loop-by-preserved c =
    let inv = c.loop-by.invariant in
    let low : c.loop-by.by < length c.args.workers.now = search rules in
    let told = c.in_ok-turn.ensures in
    record {
      turn = told.turn;
      workers = told.workers.0;
      size = told.workers.1 ∙ inv.size;
      count = inv.count;
      whole = one_ended c.args.round.now.setup c.args.stopped.now (length c.args.workers.now) c.loop-by.by (board c.loop-by.events.items c.loop-by.turn.words c.loop-by.workers) (board c.run_unless_stopped.new.events.items c.in_ok-turn.turn.words c.run_unless_stopped.new.workers) low told.run ∙ inv.whole;
      ended = more_ended c.args.stopped.now c.loop-by.workers c.run_unless_stopped.new.workers c.loop-by.by inv.ended told.others told.ended;
    }
