use Rattle.std.proofs.Common.{rules, ◌≡◌, ◌<◌, ◌++◌, ◌∷◌, [], take, length, sym, ap, subst, ◌∙◌, arith}
use Rattle.cell_values.specs.Order.{InOrder, IsAfterAll, addresses}
use Rattle.demand_spec.specs.Listed.{AreCellsOf, content_of}
use Rattle.demand_spec.proofs.Small.{cells_push}
use Rattle.parallel_evaluation.proofs.TestBooks.{behind_all, room_left, one_more, cell_here}
use Rattle.parallel_evaluation.proofs.tests.plain_book.Goals as goal

pub loop-i-init : goal.loop-i-init
loop-i-init g c = record {
  so_far = ap addresses c.new-plain.ensures;
  texts = subst (AreCellsOf c.args.book.now.book.texts) (sym c.new-plain.ensures) tt;
}

pub push-requires-clause-room : goal.push-requires-clause-room
push-requires-clause-room g c =
    let low : c.loop-i.i < length c.in_ok-all.all.items = search rules in
    room_left c.args.book.now.book.cells c.loop-i.plain c.in_ok-all.all.items c.loop-i.i c.in_ok-all.ensures.workbook.few c.in_ok-all.ensures.cells low c.loop-i.invariant.so_far

pub push-requires-clause-after : goal.push-requires-clause-after
push-requires-clause-after g c =
    let low : c.loop-i.i < length c.in_ok-all.all.items = search rules in
    let at = c.index-at.result.now in
    subst (IsAfterAll at) (sym c.loop-i.invariant.so_far) (behind_all c.in_ok-all.all.items c.loop-i.i at (subst InOrder (sym c.in_ok-all.ensures.cells) c.in_ok-all.ensures.workbook.order) low c.index-at.ensures)

pub push-requires-clause-on_sheet : goal.push-requires-clause-on_sheet
push-requires-clause-on_sheet g c = (cell_here c.args.book.now c.in_ok-all.ensures.workbook c.index-at.result.now c.in_ok-cell.field-0 c.in-Some.cell c.in_ok-cell.ensures c.in-Some.is).on_sheet

pub push-requires-clause-sound : goal.push-requires-clause-sound
push-requires-clause-sound g c = (cell_here c.args.book.now c.in_ok-all.ensures.workbook c.index-at.result.now c.in_ok-cell.field-0 c.in-Some.cell c.in_ok-cell.ensures c.in-Some.is).sound

pub loop-i-preserved : goal.loop-i-preserved
loop-i-preserved g c =
    let w = c.args.book.now in
    let at = c.index-at.result.now in
    let low : c.loop-i.i < length c.in_ok-all.all.items = search rules in
    let here = cell_here w c.in_ok-all.ensures.workbook at c.in_ok-cell.field-0 c.in-Some.cell c.in_ok-cell.ensures c.in-Some.is in record {
      so_far = ap addresses c.in_ok-push.ensures.ok ∙ one_more c.loop-i.plain c.in_ok-all.all.items c.loop-i.i at (content_of c.in-Some.cell) low c.index-at.ensures c.loop-i.invariant.so_far;
      texts = subst (AreCellsOf w.book.texts) (sym c.in_ok-push.ensures.ok) (cells_push w.book.texts c.loop-i.plain (at, content_of c.in-Some.cell) c.loop-i.invariant.texts here.texts);
    }
