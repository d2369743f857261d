use Rattle.std.proofs.Common.{◌+◌, length, ap, ◌∙◌}
use Rattle.speculative_eval.specs.Workers.{WorkerSeen}
use Rattle.speculative_eval.specs.Steps.{steps_in}
use Rattle.speculative_eval.specs.Hinted.{hints_with}
use Rattle.speculative_eval.proofs.Turning.{ends_over, kept_idle, kept_with_turn, steps_in_turn}
use Rattle.speculative_eval.proofs.worker.Worker.step_in_turn.Goals as goal

pub step_parts-step-requires-clause-kept : goal.step_parts-step-requires-clause-kept
step_parts-step-requires-clause-kept g c κs out = kept_with_turn c.self.inside.pass c.take_turn.new.pass c.self.inside.machine c.args.turn.words c.take_turn.ensures.view c.take_turn.ensures.pass.1 c.self.invariant

pub invariant_of-self : goal.invariant_of-self
invariant_of-self g c = kept_idle c.step_parts-step.new.pass c.give_turn-turn.new.pass c.step_parts-step.new.machine c.give_turn-turn.ensures.view c.give_turn-turn.ensures.pass.2 c.step_parts-step.ensures.kept

pub returns-clause-ends : goal.returns-clause-ends
returns-clause-ends g c =
    let after = c.step_parts-step.new.hints in
    ends_over c.step_parts-step.new.pass c.give_turn-turn.new.pass c.step_parts-step.new.machine (hints_with (g.H.Hints.left after) (g.H.Hints.last after) (g.H.Hints.over after)) c.step_parts-step.result c.give_turn-turn.ensures.view c.step_parts-step.ensures.ends

pub returns-clause-made : goal.returns-clause-made
returns-clause-made g c =
    let before = c.self.inside.hints in
    let after = c.step_parts-step.new.hints in
    steps_in_turn c.self.inside.pass c.step_parts-step.new.pass c.take_turn.new.pass c.give_turn-turn.new.pass c.self.inside.machine c.step_parts-step.new.machine
    (hints_with (g.H.Hints.left before) (g.H.Hints.last before) (g.H.Hints.over before)) (hints_with (g.H.Hints.left after) (g.H.Hints.last after) (g.H.Hints.over after))
    c.args.turn.words c.step_parts-step.result c.take_turn.ensures.view c.give_turn-turn.ensures.view c.step_parts-step.ensures.step
    ∙ ap (λ (w : WorkerSeen). length w.pass.view.events + steps_in c.step_parts-step.result) c.self.view_is
