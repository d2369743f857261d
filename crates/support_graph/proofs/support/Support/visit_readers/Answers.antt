use Rattle.std.proofs.Common.{◌≡◌, ◌+◌, ◌≤◌, subst, arith}
use Rattle.support_graph.specs.Support.{CellAreas, listed, IsIndexed}
use Rattle.support_graph.proofs.Columns.{column_visits}
use Rattle.support_graph.proofs.Readings.{keys_end}
use Rattle.support_graph.proofs.Readers.{column_readers, all_readers, no_readers}
use Rattle.support_graph.proofs.support.Support.visit_readers.Goals as goal

pub loop-col-init : goal.loop-col-init
loop-col-init c = no_readers c.args.self.now c.args.changed c.args.search.now

pub visit_column-requires-clause-ends : goal.visit_column-requires-clause-ends
visit_column-requires-clause-ends c = keys_end (listed c.self.inside.cells.entries) c.self.inside.index.blocks.keys c.self.inside.index.readers.keys c.self.invariant

pub loop-col-preserved : goal.loop-col-preserved
loop-col-preserved c =
    let area = c.args.changed in
    let n = c.loop-col.col in
    let test = c.loop-col-test.true in
    let high : n ≤ area.right = omega arith in
    let indexed : IsIndexed c.args.self.now c.self.inside.index.blocks.keys c.self.inside.index.readers.keys = subst (λ (s : CellAreas). IsIndexed s c.self.inside.index.blocks.keys c.self.inside.index.readers.keys) c.self.view_is c.self.invariant in
    column_readers c.args.self.now c.self.inside.index.blocks.keys c.self.inside.index.readers.keys indexed area c.requires n c.loop-col.auto.col high c.args.search.now c.loop-col.search c.visit_column.new.search c.loop-col.invariant
    (column_visits c.args.self.now c.self.inside.index.blocks.keys c.self.inside.index.readers.keys indexed area.sheet n area.top area.bottom c.requires.top_to c.loop-col.search c.visit_column.new.search c.in_ok-visit_column.ensures)

pub returns : goal.returns
returns c =
    let area = c.args.changed in
    let test = c.loop-col-test.false in
    let left = c.requires.left_to in
    let wide : area.left ≤ area.right + 1 = omega (arith, left) in
    let last = c.loop-col.auto.col-end wide in
    let end : c.loop-col.col ≡ area.right + 1 = omega (arith, test, last) in
    all_readers c.args.self.now area c.requires c.loop-col.col end c.args.search.now c.loop-col.search c.loop-col.invariant
