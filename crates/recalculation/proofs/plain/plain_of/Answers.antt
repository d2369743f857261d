use Rattle.std.proofs.Common.{◌≡◌, Some, sym, ◌∙◌}
use Rattle.workbook_core.specs.Books.{next_in}
use Rattle.recalculation.proofs.Walked.{before_of, after_through, next_after, fewer_behind}
use Rattle.recalculation.proofs.plain.plain_of.Goals as goal

pub add-requires-clause-last : goal.add-requires-clause-last
add-requires-clause-last g c = c.loop-at.invariant.last c.in-Some.at (next_after c.args.book.now.book.cells c.loop-at.after c.in-Some.at (sym c.next_cell.ensures ∙ c.in-Some.is))

pub loop-at-smaller : goal.loop-at-smaller
loop-at-smaller g c = fewer_behind c.args.book.now.book.cells c.loop-at.after c.in-Some.at (sym c.next_cell.ensures ∙ c.in-Some.is)

pub loop-at-preserved : goal.loop-at-preserved
loop-at-preserved g c = record {
  last = λ a h. c.in_ok-add.ensures.last a (before_of c.in-Some.at a h)
      (c.loop-at.invariant.last a (after_through c.loop-at.after c.in-Some.at a (next_after c.args.book.now.book.cells c.loop-at.after c.in-Some.at (sym c.next_cell.ensures ∙ c.in-Some.is)) h));
  texts = c.in_ok-add.ensures.texts;
}
