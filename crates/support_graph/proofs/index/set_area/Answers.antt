use Rattle.std.proofs.Common.{◌+◌, ◌<◌, ◌≤◌, true, false, arith}
use Rattle.std.proofs.lemmas.Result.{err_from_is_err_and}
use Rattle.support_graph.specs.Blocks.{has_key}
use Rattle.support_graph.specs.Steps.{is_column_key, is_area_key}
use Rattle.support_graph.proofs.Changes.{changes_then, changes_failed, changes_nothing, changes_as}
use Rattle.support_graph.proofs.Keys.{columns_before, column_step, no_columns, all_columns, some_columns}
use Rattle.support_graph.proofs.index.set_area.Goals as goal

pub loop-col-init : goal.loop-col-init
loop-col-init c = changes_nothing has_key (columns_before c.args.area c.args.area.first.col) c.args.present true c.args.blocks.now.keys (no_columns c.args.area)

pub loop-col-preserved : goal.loop-col-preserved
loop-col-preserved c =
    let n = c.loop-col.col in
    let test = c.loop-col-test.true in
    let high : n ≤ c.args.area.last.col = omega arith in
    changes_then has_key (columns_before c.args.area n) (is_column_key c.args.area n 16) (columns_before c.args.area (n + 1)) c.args.present true c.args.blocks.now.keys c.loop-col.blocks.keys c.set_column.new.blocks.keys
    (column_step c.args.area n c.loop-col.auto.col high) c.loop-col.invariant c.in_ok-set_column.ensures.sets

pub returns-in_err-set_column-clause-sets : goal.returns-in_err-set_column-clause-sets
returns-in_err-set_column-clause-sets c =
    let p = err_from_is_err_and c.from_residual.result c.from_residual.ensures.1 in
    let n = c.loop-col.col in
    let test = c.loop-col-test.true in
    let high : n ≤ c.args.area.last.col = omega arith in
    rw p.1 (changes_failed has_key (columns_before c.args.area (n + 1)) (is_area_key c.args.area) c.args.present c.args.blocks.now.keys c.set_column.new.blocks.keys (some_columns c.args.area (n + 1))
    (changes_then has_key (columns_before c.args.area n) (is_column_key c.args.area n 16) (columns_before c.args.area (n + 1)) c.args.present false c.args.blocks.now.keys c.loop-col.blocks.keys c.set_column.new.blocks.keys
    (column_step c.args.area n c.loop-col.auto.col high) c.loop-col.invariant c.in_err-set_column.ensures.sets))

pub returns-clause-sets : goal.returns-clause-sets
returns-clause-sets c =
    let test = c.loop-col-test.false in
    let past : c.args.area.last.col < c.loop-col.col = omega arith in
    changes_as has_key (columns_before c.args.area c.loop-col.col) (is_area_key c.args.area) c.args.present true c.args.blocks.now.keys c.loop-col.blocks.keys (all_columns c.args.area c.loop-col.col past) c.loop-col.invariant
