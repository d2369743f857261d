use Rattle.std.proofs.Common.{◌<◌, subst, arith}
use Rattle.formula_eval.proofs.Lines.{area_height, area_width, row_next, row_past, column_next, column_past}
use Rattle.formula_eval.proofs.cells.line_cell.Goals as goal

pub cell-requires-clause-row : goal.cell-requires-clause-row
cell-requires-clause-row c = area_height c.args.area c.requires

pub cell-requires-then-n-rows : goal.cell-requires-then-n-rows
cell-requires-then-n-rows c = record { area = c.requires; row = subst (λ z. c.args.n < z) c.rows.ensures.same c.if-n-rows.true; column = area_width c.args.area c.requires }

pub returns-then-n-columns-clause-same : goal.returns-then-n-columns-clause-same
returns-then-n-columns-clause-same c = row_next c.args.fun c.args.area c.args.n c.columns.result c.cell.result c.in-HLookup.is c.columns.ensures.same c.if-n-columns.true c.cell.ensures

pub returns-else-n-columns-clause-same : goal.returns-else-n-columns-clause-same
returns-else-n-columns-clause-same c = row_past c.args.fun c.args.area c.args.n c.columns.result c.in-HLookup.is c.columns.ensures.same c.if-n-columns.false

pub returns-then-n-rows : goal.returns-then-n-rows
returns-then-n-rows c = record { same = column_next c.args.fun c.args.area c.args.n c.rows.result c.cell-then-n-rows.result c.in_default.not-HLookup c.rows.ensures.same c.if-n-rows.true c.cell-then-n-rows.ensures; few = omega (arith, c.if-n-rows.true, c.rows.ensures.few) }

pub returns-else-n-rows : goal.returns-else-n-rows
returns-else-n-rows c = record { same = column_past c.args.fun c.args.area c.args.n c.rows.result c.in_default.not-HLookup c.rows.ensures.same c.if-n-rows.false; few = tt }
