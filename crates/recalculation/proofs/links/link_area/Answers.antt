use Rattle.std.proofs.Common.{drop, ◌+◌, arith}
use Rattle.std.proofs.Math.ListN.{drop_of_length-le}
use Rattle.cell_values.specs.Areas.{walk}
use Rattle.recalculation.proofs.Linked.{area_starts, area_goes, area_ends}
use Rattle.recalculation.proofs.links.link_area.Goals as goal

pub loop-i-init : goal.loop-i-init
loop-i-init c = record { all = c.size-i-end.ensures.count; linked = area_starts c.args.book.now.book c.args.changed c.args.support.now c.requires.linked }

pub loop-i-preserved : goal.loop-i-preserved
loop-i-preserved c = record {
  all = c.loop-i.invariant.all;
  linked = area_goes c.args.book.now.book c.nth.result (drop c.loop-i.i (walk c.args.changed)) (drop (c.loop-i.i + 1) (walk c.args.changed)) c.loop-i.support c.link.new.support c.nth.ensures c.in_ok-link.ensures c.loop-i.invariant.linked;
}

pub returns : goal.returns
returns c = area_ends c.args.book.now.book (drop c.loop-i.i (walk c.args.changed)) c.loop-i.support (drop_of_length-le (walk c.args.changed) (omega (arith, c.loop-i-test.false, c.loop-i.invariant.all))) c.loop-i.invariant.linked
