use Rattle.formula_trees.specs.Expr.{expr_of}
use Rattle.workbook_core.proofs.Copied.{staying_copy}
use Rattle.workbook_core.proofs.copies.copy_of.Goals as goal

pub returns-then-stays-clause-copy : goal.returns-then-stays-clause-copy
returns-then-stays-clause-copy c = staying_copy c.args.pool.now (expr_of c.args.tree.now) c.args.from c.args.at c.args.id c.requires.there c.requires.tree c.requires.sound (c.stays.ensures c.if-stays.true)
