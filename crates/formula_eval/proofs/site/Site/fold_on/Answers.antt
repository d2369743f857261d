use Rattle.std.proofs.Common.{◌<◌, length, sym, ap, ◌∙◌, subst, arith}
use Rattle.shared_expressions.specs.Trees.{tree_at, child_of}
use Rattle.formula_eval.specs.declared.work.Step.{Step}
use Rattle.formula_eval.specs.Machine.{FoldGoesOn}
use Rattle.formula_eval.proofs.Ranges.{few_arguments, fold_end, fold_bad, fold_argument_on, fold_cells_on}
use Rattle.formula_eval.proofs.site.Site.fold_on.Goals as goal

pub overflow_add-k : goal.overflow_add-k
overflow_add-k c = (let h : c.args.k < 512 = few_arguments c.args.frames.now.room (length c.args.frames.now.frames) c.args.k (tree_at c.args.self.now.pool.now c.args.id) (tree_at c.args.self.now.pool.now c.in-Some.child) (c.in-Some.ensures ∙ ap (λ z. child_of z (tree_at c.args.self.now.pool.now c.args.id)) c.from.ensures) c.requires.holds in omega arith)

pub returns-in-None-clause-goes : goal.returns-in-None-clause-goes
returns-in-None-clause-goes c =
    subst (λ z. FoldGoesOn c.args.self.now.pool.now c.args.self.now.texts.now c.args.self.now.at c.args.id c.args.kind c.args.k c.args.total c.args.frames.now.frames (Step.Give z) c.args.frames.now.frames) (sym c.end.ensures)
    (fold_end c.args.self.now.pool.now c.args.self.now.texts.now c.args.self.now.at c.args.id c.args.kind c.args.k c.args.total c.args.frames.now.frames c.requires.call (c.in-None.ensures ∙ ap (λ z. child_of z (tree_at c.args.self.now.pool.now c.args.id)) c.from.ensures))

pub returns-in-Cells-clause-goes : goal.returns-in-Cells-clause-goes
returns-in-Cells-clause-goes c = fold_cells_on c.args.self.now.pool.now c.args.self.now.texts.now c.args.self.now.at c.args.id c.args.kind c.args.k c.args.total c.args.frames.now.frames c.in-Some.child c.in-Cells.area c.first_cell.result c.push.new.self.frames c.requires.call (c.in-Some.ensures ∙ ap (λ z. child_of z (tree_at c.args.self.now.pool.now c.args.id)) c.from.ensures) c.in-Cells.ensures.same c.first_cell.ensures c.push.ensures.frames

pub returns-in-Bad-clause-goes : goal.returns-in-Bad-clause-goes
returns-in-Bad-clause-goes c = fold_bad c.args.self.now.pool.now c.args.self.now.texts.now c.args.self.now.at c.args.id c.args.kind c.args.k c.args.total c.args.frames.now.frames c.in-Some.child c.requires.call (c.in-Some.ensures ∙ ap (λ z. child_of z (tree_at c.args.self.now.pool.now c.args.id)) c.from.ensures) c.in-Bad.ensures.same

pub returns-in-Nowhere-clause-goes : goal.returns-in-Nowhere-clause-goes
returns-in-Nowhere-clause-goes c = fold_argument_on c.args.self.now.pool.now c.args.self.now.texts.now c.args.self.now.at c.args.id c.args.kind c.args.k c.args.total c.args.frames.now.frames c.in-Some.child c.push-in-Nowhere.new.self.frames c.requires.call (c.in-Some.ensures ∙ ap (λ z. child_of z (tree_at c.args.self.now.pool.now c.args.id)) c.from.ensures) c.in-Nowhere.ensures.same c.push-in-Nowhere.ensures.frames
