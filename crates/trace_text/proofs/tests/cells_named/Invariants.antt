use Rattle.std.proofs.Common.{All}
use Rattle.cell_values.specs.Addresses.{IsOnSheet}
use Rattle.trace_text.proofs.tests.cells_named.Given as goal

abbrev pub invariant-loop-name : goal.invariant-loop-name
invariant-loop-name l = All IsOnSheet l.cells.items
