use Rattle.std.proofs.Common.{◌<◌, subst}
use Rattle.formula_eval.proofs.Lines.{across_is_width, row_within, column_within}
use Rattle.formula_eval.proofs.cells.target.Goals as goal

pub cell-requires-clause-column : goal.cell-requires-clause-column
cell-requires-clause-column c = row_within c.args.fun c.args.area c.args.n c.in-HLookup.is c.requires.cell

pub cell-requires-in_default : goal.cell-requires-in_default
cell-requires-in_default c = record { area = c.requires.area; row = column_within c.args.fun c.args.area c.args.n c.in_default.not-HLookup c.requires.cell; column = subst (λ z. c.args.m < z) (across_is_width c.args.fun c.args.area c.in_default.not-HLookup) c.requires.line }
