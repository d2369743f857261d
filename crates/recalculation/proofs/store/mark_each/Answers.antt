use Rattle.std.proofs.Common.{get_or, refl}
use Rattle.cell_values.specs.declared.values.Shown.{Shown}
use Rattle.recalculation.proofs.Storing.{room_next, others_next, in_list, read_any, no_cell}
use Rattle.recalculation.proofs.store.mark_each.Goals as goal

pub loop-i-preserved : goal.loop-i-preserved
loop-i-preserved c =
    let cells = c.args.cells.now in
    let at = get_or cells c.loop-i.i no_cell in
    let same = read_any cells c.loop-i.i no_cell at c.loop-i-test.true refl in record {
      room = room_next cells c.loop-i.i c.loop-i.stored.entries c.store.new.stored.entries at Shown.ToCycle c.loop-i-test.true same c.in_ok-store.ensures.ok c.loop-i.invariant.room;
      others = others_next cells c.args.stored.now.entries c.loop-i.stored.entries c.store.new.stored.entries at Shown.ToCycle (in_list cells c.loop-i.i at c.loop-i-test.true (same at)) c.in_ok-store.ensures.ok c.loop-i.invariant.others;
    }
