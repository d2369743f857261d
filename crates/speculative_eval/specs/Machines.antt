-- A worker's state as the machine's definitions see it, and what its steps ask.
use Rattle.std.specs.Prelude.{◌≡◌, ℕ, ◌<◌, false, Option, Some, length}
use Rattle.cell_values.specs.declared.values.Shown.{Shown}
use Rattle.claim_core.specs.declared.event.Event.{Event}
use Rattle.claim_core.specs.declared.view.View.{View}
use Rattle.claim_core.specs.Passes.{PassSeen}
use Rattle.worker_machine.specs.declared.action.Action.{Action}
use Rattle.worker_machine.specs.declared.action.Change.{Change}
use Rattle.worker_machine.specs.declared.action.Next.TheVariants.{Alter}
use Rattle.worker_machine.specs.Jobs.{Job}
use Rattle.worker_machine.specs.Evaluation.{LinkTo, cells_of, has}
use Rattle.worker_machine.specs.States.{State, phase_of, held_number, top_result}
use Rattle.worker_machine.specs.Machine.{next, action, begins_at}
use Rattle.worker_machine.specs.RoundSteps.{IsHint, IsStep}
use Rattle.worker_machine.specs.Invariant.{IsWorker}
use Rattle.demand_stack.specs.StackSeen.{StackSeen, IsFound, pending_of}
use Rattle.speculative_eval.specs.declared.machine.Machine.{Machine}
use Rattle.speculative_eval.specs.Performs.{TagFits}

-- what the worker works on
abbrev pub job_of : Machine → Job
job_of m = record { pending = pending_of m.demands; worker = m.number; workers = m.workers }

-- its state
abbrev pub state_of : Machine → State
state_of m = record { stack = m.demands.stack; known = m.demands.known; held = m.held; phase = phase_of m.doing m.words }

-- it works on the same, and begins at the same cell
pub record SameTask (old new : Machine) : Type 0 where
  pub job : job_of new ≡ job_of old
  pub first : new.demands.first ≡ old.demands.first

-- what holds between two steps, with some view of the round
pub record IsWorking (m : Machine) : Type 0 where
  pub view : View
  pub works : IsWorker (job_of m) view (state_of m)

-- the same with this pass, whose record is the one that is noted
pub record IsKept (p : PassSeen) (m : Machine) : Type 0 where
  pub works : IsWorker (job_of m) p.view (state_of m)
  pub first : m.demands.first ≡ begins_at (job_of m)
  pub taken : p.taken ≡ held_number m.held

-- the state calls for the change
pub record IsCalled (m : Machine) (c : Change) : Type 0 where
  pub working : IsWorking m
  pub called : next (job_of m) (state_of m) ≡ Alter c

-- the event came of the step that the state calls for
pub record CanNote (m : Machine) (e : Event) : Type 0 where
  pub working : IsWorking m
  pub step : IsStep (job_of m) working.view (state_of m) e

-- the action is the step of a settled state, and where it stores a tag, what is shown fits its words
pub record IsChosen (m : Machine) (a : Action) : Type 0 where
  pub hint : Option ℕ
  pub new : IsHint (job_of m) (state_of m) hint
  pub called : action (job_of m) (state_of m) hint ≡ Some a
  pub fits : TagFits a (top_result m.demands.known m.demands.stack)

-- the cell can be put on the stack
pub record CanPush (s : StackSeen) (i : ℕ) : Type 0 where
  pub there : i < length s.cells
  pub new : has i (cells_of s.stack) ≡ false
  pub linked : LinkTo (pending_of s) i (cells_of s.stack)

-- the cell, which is not on the stack, can be learnt to show this
pub record CanLearn (s : StackSeen) (i : ℕ) (r : Shown) : Type 0 where
  pub there : i < length s.cells
  pub off : has i (cells_of s.stack) ≡ false
  pub found : IsFound s i r

-- what holds between two steps holds of the worker, and would hold in this state
pub record CanBecome (m : Machine) (s : State) : Type 0 where
  pub working : IsWorking m
  pub view : View
  pub works : IsWorker (job_of m) view s
