use Rattle.std.proofs.Common.{◌≡◌, ℕ, ◌+◌, ◌-◌, ◌*◌, ◌<◌, ◌≤◌, length, Some, vec_capacity}
use Rattle.std.specs.Prelude.{slice_get}
use Rattle.what_if.specs.Tables.{IsStackOf, scenario_of}
use Rattle.what_if.proofs.runner.Runner.run.Given as goal

abbrev pub invariant-loop-scenario : goal.invariant-loop-scenario
invariant-loop-scenario g l = record {
  stack : IsStackOf l.table l.self.stack;
  place : l.scenario ≡ l.worker + l.table.workers * length l.self.found.items;
  short : length l.self.found.items ≤ l.scenario;
  found : (j : ℕ) → j < length l.self.found.items → slice_get l.self.found.items j ≡ Some (scenario_of l.table (l.worker + l.table.workers * j));
  room : l.table.count ≤ vec_capacity l.self.found;
}

abbrev pub decreases-loop-scenario : goal.decreases-loop-scenario
decreases-loop-scenario g l = l.table.count - l.scenario
