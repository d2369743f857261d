use Rattle.speculative_eval.specs.Machines.{state_of}
use Rattle.speculative_eval.proofs.Keeping.{chosen_can, chosen_steps, stepped_kept}
use Rattle.speculative_eval.proofs.steps.make_step.Goals as goal

pub perform-event-requires : goal.perform-event-requires
perform-event-requires g c = (c.requires.round.0, chosen_can c.args.round.now c.args.pass.now c.args.machine.now c.args.action c.requires.round.1 c.requires.kept c.requires.chosen)

pub note-requires : goal.note-requires
note-requires g c = chosen_steps c.args.pass.now c.args.machine.now c.args.action c.perform-event.result c.requires.kept c.requires.chosen c.perform-event.ensures.event (c.perform-event.ensures.told (state_of c.args.machine.now) c.requires.chosen.fits)

pub returns-clause-kept : goal.returns-clause-kept
returns-clause-kept g c =
    stepped_kept c.args.pass.now c.perform-event.new.pass c.args.machine.now c.note.new.self c.args.action c.perform-event.result c.requires.kept c.requires.chosen c.perform-event.ensures.event
    (c.perform-event.ensures.told (state_of c.args.machine.now) c.requires.chosen.fits) c.perform-event.ensures.step c.perform-event.ensures.taken c.note.ensures.state c.note.ensures.task
