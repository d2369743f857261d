use Rattle.std.proofs.Common.{◌-◌, length}
use Rattle.cell_values.specs.Order.{addresses}
use Rattle.demand_stack.proofs.Driving.{IsWalked}
use Rattle.speculative_eval.proofs.tests.cells_of_book.Given as goal

abbrev pub invariant-loop-next : goal.invariant-loop-next
invariant-loop-next l = IsWalked l.book.book.cells l.cells.items l.next

abbrev pub decreases-loop-next : goal.decreases-loop-next
decreases-loop-next l = length (addresses l.book.book.cells) - length l.cells.items
