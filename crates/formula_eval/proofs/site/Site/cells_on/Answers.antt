use Rattle.std.proofs.Common.{◌<◌, length, sym, ap, ◌∙◌, subst, arith}
use Rattle.shared_expressions.specs.Trees.{tree_at, child_of}
use Rattle.formula_eval.specs.declared.work.Step.{Step}
use Rattle.formula_eval.specs.Machine.{CellsGoOn}
use Rattle.formula_eval.proofs.Ranges.{few_arguments, cells_none, cells_done}
use Rattle.formula_eval.proofs.site.Site.cells_on.Goals as goal

pub overflow_add-k : goal.overflow_add-k
overflow_add-k c = (let h : c.args.k < 512 = few_arguments c.args.frames.now.room (length c.args.frames.now.frames) c.args.k (tree_at c.args.self.now.pool.now c.args.id) (tree_at c.args.self.now.pool.now c.in-Some.child) (c.in-Some.ensures ∙ ap (λ z. child_of z (tree_at c.args.self.now.pool.now c.args.id)) c.from.ensures) c.requires.holds in omega arith)

pub returns-in-None-clause-goes : goal.returns-in-None-clause-goes
returns-in-None-clause-goes c =
    subst (λ z. CellsGoOn c.args.self.now.pool.now c.args.self.now.texts.now c.args.self.now.at c.args.id c.args.kind c.args.k c.args.n c.args.total c.args.frames.now.frames (Step.Give z) c.args.frames.now.frames) (sym c.end.ensures)
    (cells_none c.args.self.now.pool.now c.args.self.now.texts.now c.args.self.now.at c.args.id c.args.kind c.args.k c.args.n c.args.total c.args.frames.now.frames c.requires.call (c.in-None.ensures ∙ ap (λ z. child_of z (tree_at c.args.self.now.pool.now c.args.id)) c.from.ensures))

pub returns-in-None-next_cell-clause-goes : goal.returns-in-None-next_cell-clause-goes
returns-in-None-next_cell-clause-goes c = cells_done c.args.self.now.pool.now c.args.self.now.texts.now c.args.self.now.at c.args.id c.args.kind c.args.k c.args.n c.args.total c.args.frames.now.frames c.in-Some.child c.fold_on.result c.fold_on.new.frames.frames c.requires.call (c.in-Some.ensures ∙ ap (λ z. child_of z (tree_at c.args.self.now.pool.now c.args.id)) c.from.ensures) c.in-None-next_cell.ensures.same (c.fold_on.ensures.goes)
