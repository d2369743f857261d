use Rattle.std.proofs.Common.{sym, ◌∙◌}
use Rattle.recalculation.proofs.Walked.{fewer_behind, walk_starts, walk_links, walk_passes, walk_ends}
use Rattle.recalculation.proofs.links.link_half.Goals as goal

pub loop-at-init : goal.loop-at-init
loop-at-init c = λ cells k. walk_starts c.args.book.now.book c.args.rest cells c.args.support.now k

pub loop-at-smaller-in_ok-link : goal.loop-at-smaller-in_ok-link
loop-at-smaller-in_ok-link c = fewer_behind c.args.book.now.book.cells c.loop-at.after c.in-Some.at (sym c.next_cell.ensures ∙ c.in-Some.is)

pub loop-at-preserved-in_ok-link : goal.loop-at-preserved-in_ok-link
loop-at-preserved-in_ok-link c = λ cells k.
    walk_links c.args.book.now.book c.args.rest cells c.loop-at.after c.in-Some.at c.known.ensures.order (sym c.next_cell.ensures ∙ c.in-Some.is)
    c.loop-at.support c.link.new.support c.if-at-rest.true c.in_ok-link.ensures (c.loop-at.invariant cells k)

pub loop-at-smaller : goal.loop-at-smaller
loop-at-smaller c = fewer_behind c.args.book.now.book.cells c.loop-at.after c.in-Some.at (sym c.next_cell.ensures ∙ c.in-Some.is)

pub loop-at-preserved : goal.loop-at-preserved
loop-at-preserved c = λ cells k.
    walk_passes c.args.book.now.book c.args.rest cells c.loop-at.after c.in-Some.at c.known.ensures.order (sym c.next_cell.ensures ∙ c.in-Some.is)
    c.loop-at.support c.if-at-rest.false (c.loop-at.invariant cells k)

pub returns : goal.returns
returns c = λ cells k. walk_ends c.args.book.now.book c.args.rest cells c.loop-at.after c.loop-at.support (sym c.next_cell.ensures ∙ c.in_default.is) (c.loop-at.invariant cells k)
