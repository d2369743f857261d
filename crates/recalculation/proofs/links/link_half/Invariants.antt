use Rattle.std.proofs.Common.{length}
use Rattle.demand_spec.specs.Laws.{Set}
use Rattle.recalculation.specs.Standing.{LinksAlone}
use Rattle.recalculation.proofs.Walked.{behind, walked_to}
use Rattle.recalculation.proofs.links.link_half.Given as goal

abbrev pub invariant-loop-at : goal.invariant-loop-at
invariant-loop-at l = (cells : Set) → LinksAlone l.book.book cells l.initial.support → LinksAlone l.book.book (walked_to l.rest cells l.after) l.support

abbrev pub decreases-loop-at : goal.decreases-loop-at
decreases-loop-at l = length (behind l.after l.book.book.cells)
