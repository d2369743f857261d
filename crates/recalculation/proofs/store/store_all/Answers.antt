use Rattle.std.proofs.Common.{get_or, refl, sym, ◌∙◌}
use Rattle.demand_spec.specs.Book.{shown}
use Rattle.recalculation.proofs.Storing.{room_stays, results_next, others_next, in_list, read_any, result_read, result_there, no_cell}
use Rattle.recalculation.proofs.store.store_all.Goals as goal

pub loop-i-preserved : goal.loop-i-preserved
loop-i-preserved c =
    let cells = c.args.cells.now in
    let old = c.loop-i.stored.entries in
    let new = c.store.new.stored.entries in
    let at = get_or cells c.loop-i.i no_cell in
    let r = c.in-Some.shown in
    let f = shown c.args.book.now.book in
    let puts = c.in-Ok.ensures.ok in
    let same = read_any cells c.loop-i.i no_cell at c.loop-i-test.true refl in record {
      room = room_stays cells old new at r puts c.loop-i.invariant.room;
      written = results_next f cells c.loop-i.i old new at r c.loop-i-test.true same (result_read f cells c.args.results.now c.loop-i.i no_cell r c.loop-i-test.true c.requires.results (sym c.get.ensures ∙ c.in-Some.is)) puts c.loop-i.invariant.written;
      others = others_next cells c.args.stored.now.entries old new at r (in_list cells c.loop-i.i at c.loop-i-test.true (same at)) puts c.loop-i.invariant.others;
    }

pub unreachable-requires : goal.unreachable-requires
unreachable-requires c =
    let f = shown c.args.book.now.book in
    c.in_default.not-Some _ (c.get.ensures ∙ result_there f c.args.cells.now c.args.results.now c.loop-i.i no_cell c.loop-i-test.true c.requires.results)
