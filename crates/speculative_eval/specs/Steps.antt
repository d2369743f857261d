-- What a worker's steps come to.
use Rattle.std.specs.Prelude.{◌≡◌, ℕ, ◌+◌, ◌*◌, ◌≤◌, Option, Some, None, length}
use Rattle.claim_core.specs.declared.event.Event.{Event}
use Rattle.claim_core.specs.declared.view.RoundWords.{RoundWords}
use Rattle.claim_core.specs.Rule.{HasTurn}
use Rattle.claim_core.specs.Steps.{grown}
use Rattle.claim_core.specs.Passes.{SeesAllDone}
use Rattle.worker_machine.specs.declared.action.Action.{Action}
use Rattle.worker_machine.specs.Machine.{after}
use Rattle.worker_machine.specs.RoundSteps.{IsEvent}
use Rattle.worker_machine.specs.Evaluation.{KnowsAll}
use Rattle.worker_machine.specs.Found.{found, event_then, words_then, state_then}
use Rattle.speculative_eval.specs.declared.step.Step.{Step}
use Rattle.speculative_eval.specs.Workers.{WorkerSeen, settled, step_action}

-- the step that the machine calls for was made, and this came of it; with the turn it found what the words say
pub record IsMade (old : WorkerSeen) (e : Event) (new : WorkerSeen) : Type 0 where
  pub act : Action
  pub called : step_action old new.hints ≡ Some act
  pub event : IsEvent act e
  pub found_there : HasTurn old.pass.view → e ≡ found old.pass.view.words act
  pub view : new.pass.view ≡ grown e old.pass.view
  pub state : new.state ≡ after old.job (settled old) e

-- the machine calls for no step
pub record IsStill (old new : WorkerSeen) : Type 0 where
  pub none : step_action old new.hints ≡ None
  pub pass : new.pass ≡ old.pass
  pub state : new.state ≡ settled old

-- the one step, or none where the machine has none
abbrev pub Makes : WorkerSeen → Step → WorkerSeen → Type 0
Makes old (Step.Did e) new = IsMade old e new
Makes old Step.Finished new = IsStill old new

-- every cell is known, and was seen done
abbrev pub HasAll : WorkerSeen → Type 0
HasAll w = KnowsAll w.job.pending w.state.known × SeesAllDone (length w.job.pending.cells) w.pass.view

-- a worker without a step has all
abbrev pub EndsWith : Step → WorkerSeen → Type 0
EndsWith (Step.Did e) w = Unit {0}
EndsWith Step.Finished w = HasAll w

-- a worker makes no more than `16 * m + 16` steps for m cells
abbrev pub HasFewEvents : WorkerSeen → Type 0
HasFewEvents w = length w.pass.view.events ≤ 16 * length w.job.pending.cells + 16

-- the event of a step, if one was made
abbrev pub event_in : Step → Option Event
event_in (Step.Did e) = Some e
event_in Step.Finished = None

-- how many steps were made
abbrev pub steps_in : Step → ℕ
steps_in (Step.Did e) = 1
steps_in Step.Finished = 0

-- a turn on these words: what is found, the words behind it and the new state are those of plain data
pub record IsTurned (old : WorkerSeen) (words : RoundWords) (x : Step) (after_words : RoundWords) (new : WorkerSeen) : Type 0 where
  pub event : event_in x ≡ event_then words (step_action old new.hints)
  pub words_after : after_words ≡ words_then old.job.worker words (step_action old new.hints)
  pub state : new.state ≡ state_then old.job words (settled old) (step_action old new.hints)
