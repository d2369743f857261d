use Rattle.std.proofs.Common.{◌≤◌, ◌-◌, vec_capacity, vec_len}
use Rattle.std.specs.Prelude.{All}
use Rattle.what_if.specs.Tables.{CanRun}
use Rattle.what_if.proofs.tables.hire.Given as goal

abbrev pub invariant-loop-alloc : goal.invariant-loop-alloc
invariant-loop-alloc l = record {
  ready : All (CanRun l.table) l.all.items;
  few : vec_len l.all ≤ l.table.workers;
  room : l.table.workers ≤ vec_capacity l.all;
}

abbrev pub decreases-loop-alloc : goal.decreases-loop-alloc
decreases-loop-alloc l = l.table.workers - vec_len l.all
