use Rattle.recalculation.proofs.Walked.{both_halves}
use Rattle.recalculation.proofs.links.support_of.Goals as goal

pub returns : goal.returns
returns c = both_halves c.args.book.now.book c.new-support.result c.link_half.new.support c.link_half-2.new.support c.new-support.ensures c.in_ok-link_half.ensures c.in_ok-link_half-2.ensures
