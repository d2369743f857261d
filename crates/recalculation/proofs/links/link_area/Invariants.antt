use Rattle.std.proofs.Common.{◌≡◌, drop, length}
use Rattle.cell_values.specs.Areas.{walk}
use Rattle.support_graph.specs.Pending.{among}
use Rattle.recalculation.specs.Standing.{IsLinkedBut}
use Rattle.recalculation.proofs.links.link_area.Given as goal

abbrev pub invariant-loop-i : goal.invariant-loop-i
invariant-loop-i l = record { all : l.i-end ≡ length (walk l.changed); linked : IsLinkedBut l.book.book (among (drop l.i (walk l.changed))) l.support }
