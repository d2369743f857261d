-- A table, the cells that depend on the changed one, and what a worker has found.
use Rattle.std.specs.Prelude.{◌≡◌, ℕ, ◌+◌, ◌*◌, ◌<◌, ◌≤◌, ℤ, Option, Some, None, List, [], length, slice_get, slice_index_or, vec_capacity}
use Rattle.cell_values.specs.declared.address.Addr.{Addr}
use Rattle.cell_values.specs.declared.values.Shown.{Shown}
use Rattle.demand_spec.specs.Book.{Book, formula_at, shown}
use Rattle.demand_spec.specs.Laws.{In}
use Rattle.workbook_core.specs.WithNumber.{with_number}
use Rattle.demand_stack.specs.StackSeen.{StackSeen}
use Rattle.parallel_evaluation.specs.Workers.{ArePending}
use Rattle.what_if.specs.declared.runner.Runner.{Runner}
use Rattle.what_if.specs.declared.table.Table.{Table}
use Rattle.what_if.specs.Scenarios.{IsRange, scenario}

-- the cells that depend on another one: whatever number that one holds, these can be pending with the formulas that
-- they have, and each further cell has the same formula and shows the same
pub record AreDependents (b : Book) (at : Addr) (cells : List Addr) : Type 0 where
  pub pending : (n : ℤ) → ArePending (with_number b at n) cells
  pub formulas : (n : ℤ) (a : Addr) → In a cells → formula_at (with_number b at n) a ≡ formula_at b a
  pub others : (n : ℤ) (a : Addr) → (a ≡ at → ⊥) → (In a cells → ⊥) → (formula_at (with_number b at n) a ≡ formula_at b a) × (shown (with_number b at n) a ≡ shown b a)

-- the book of a table
abbrev pub book_of : Table → Book
book_of t = t.calc.now.shared.book

-- what the scenario k of a table shows
abbrev pub scenario_of : Table → ℕ → Shown
scenario_of t k = scenario (book_of t) t.at t.low t.target k

-- nothing is pending, the numbers fit, there are 1 to 64 workers, and the cells are those that depend on the changed one
pub record IsTable (t : Table) : Type 0 where
  pub settled : t.calc.now.pending ≡ []
  pub range : IsRange t.low t.count
  pub one_worker : 1 ≤ t.workers
  pub few_workers : t.workers ≤ 64
  pub cells : AreDependents (book_of t) t.at t.cells.now

-- an empty stack over the cells, which have the formulas of the book
pub record IsIdle (t : Table) (s : StackSeen) : Type 0 where
  pub cells : s.cells ≡ t.cells.now
  pub empty : s.stack ≡ []
  pub formulas : (a : Addr) → In a s.cells → formula_at s.shared.book a ≡ formula_at (book_of t) a

-- such a stack, if there are cells
abbrev pub IsStackOf : Table → Option StackSeen → Type 0
IsStackOf t None = t.cells.now ≡ []
IsStackOf t (Some s) = IsIdle t s

-- a worker of the table that has done nothing, with room for what it will find
pub record CanRun (t : Table) (r : Runner) : Type 0 where
  pub same : r.table.now ≡ t
  pub stack : IsStackOf t r.stack
  pub none : r.found.items ≡ []
  pub room : t.count ≤ vec_capacity r.found

-- the worker w has found what each of its scenarios shows
abbrev pub HasRun : Table → ℕ → Runner → Type 0
HasRun t w r = (j : ℕ) → w + t.workers * j < t.count → slice_get r.found.items j ≡ Some (scenario_of t (w + t.workers * j))

-- each of the workers has
abbrev pub HaveRun : Table → List Runner → Type 0
HaveRun t rs = (w : ℕ) (d : Runner) → w < length rs → HasRun t w (slice_index_or rs w d)
