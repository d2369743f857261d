-- Steps of an evaluation without a round.
use Rattle.std.specs.Prelude.{◌≡◌, ℕ, ◌+◌, ◌*◌, ◌<◌, Bool, true, [], length}
use Rattle.worker_machine.specs.States.{Free}
use Rattle.worker_machine.specs.Machine.{unknown_in}
use Rattle.worker_machine.specs.Left.{fresh_cells, met_in}
use Rattle.demand_stack.specs.StackSeen.{StackSeen}

-- the cell i is known or on the stack
abbrev pub is_met : StackSeen → ℕ → Bool
is_met s = met_in s.known s.stack Free

-- more steps than this can't come: a cell that was not met is put on the stack, a cell is learnt, one is taken off
abbrev pub steps_left : StackSeen → ℕ
steps_left s = 2 * fresh_cells (is_met s) (length s.cells) + (unknown_in s.known + length s.stack)

-- the same pending cells of the same workbook
pub record SameCells (old new : StackSeen) : Type 0 where
  pub shared : new.shared ≡ old.shared
  pub cells : new.cells ≡ old.cells
  pub first : new.first ≡ old.first

-- a step: what was met stays met, and fewer steps are left
pub record GoesOn (old new : StackSeen) : Type 0 where
  pub same : SameCells old new
  pub met : (i : ℕ) → i < length old.cells → is_met old i ≡ true → is_met new i ≡ true
  pub fewer : steps_left new < steps_left old

-- the evaluation is over
pub record IsOver (old new : StackSeen) : Type 0 where
  pub same : SameCells old new
  pub empty : new.stack ≡ []
