use Rattle.std.proofs.Common.{◌≡◌, ◌≤◌, map, vec_capacity}
use Rattle.cell_values.specs.Areas.{numbers_from}
use Rattle.what_if.specs.Tables.{scenario_of}
use Rattle.what_if.proofs.gathering.gather.Given as goal

abbrev pub invariant-loop-scenario : goal.invariant-loop-scenario
invariant-loop-scenario l = record {
  items : l.shown.items ≡ map (scenario_of l.table) (numbers_from 0 l.scenario);
  room : l.table.count ≤ vec_capacity l.shown;
}
