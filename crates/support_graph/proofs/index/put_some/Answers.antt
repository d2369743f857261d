use Rattle.std.proofs.Common.{◌+◌, true, false, take, get_or}
use Rattle.std.proofs.lemmas.Result.{err_from_is_err_and}
use Rattle.cell_values.specs.declared.address.Area.{Area}
use Rattle.support_graph.specs.Blocks.{corners, same_reader, has_reader}
use Rattle.support_graph.specs.Steps.{is_cell_reader}
use Rattle.support_graph.proofs.Changes.{changes_nothing, changes_then, changes_failed}
use Rattle.support_graph.proofs.Readings.{reader, area_more, no_areas, some_areas}
use Rattle.support_graph.proofs.index.put_some.Goals as goal

no_area : Area
no_area = record { sheet = 0; top = 0; left = 0; bottom = 0; right = 0 }

pub loop-area-init : goal.loop-area-init
loop-area-init c = record { readers = changes_nothing has_reader (is_cell_reader c.args.cell (take 0 c.args.areas.now)) true true c.args.index.now.readers.keys (no_areas c.args.cell c.args.areas.now); cut = c.requires.cut }

pub loop-area-preserved : goal.loop-area-preserved
unfolding no_area
loop-area-preserved c =
    let n = c.loop-area.area-index in
    let areas = c.args.areas.now in
    record {
      readers = changes_then has_reader (is_cell_reader c.args.cell (take n areas)) (same_reader (reader (corners (get_or areas n no_area)) c.args.cell)) (is_cell_reader c.args.cell (take (n + 1) areas)) true true c.args.index.now.readers.keys c.loop-area.index.readers.keys c.put_reader.new.index.readers.keys
          (area_more c.args.cell areas n no_area c.loop-area-test.true) c.loop-area.invariant.readers c.in_ok-put_reader.ensures.readers;
      cut = c.in_ok-put_reader.ensures.cut;
    }

pub returns-in_err-put_reader-clause-readers : goal.returns-in_err-put_reader-clause-readers
unfolding no_area
returns-in_err-put_reader-clause-readers c =
    let p = err_from_is_err_and c.from_residual.result c.from_residual.ensures.1 in
    let n = c.loop-area.area-index in
    let areas = c.args.areas.now in
    rw p.1 (changes_failed has_reader (is_cell_reader c.args.cell (take (n + 1) areas)) (is_cell_reader c.args.cell areas) true c.args.index.now.readers.keys c.put_reader.new.index.readers.keys (some_areas c.args.cell areas (n + 1))
    (changes_then has_reader (is_cell_reader c.args.cell (take n areas)) (same_reader (reader (corners (get_or areas n no_area)) c.args.cell)) (is_cell_reader c.args.cell (take (n + 1) areas)) true false c.args.index.now.readers.keys c.loop-area.index.readers.keys c.put_reader.new.index.readers.keys
    (area_more c.args.cell areas n no_area c.loop-area-test.true) c.loop-area.invariant.readers c.in_err-put_reader.ensures.readers))
