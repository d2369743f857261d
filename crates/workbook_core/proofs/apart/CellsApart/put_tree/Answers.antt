use Rattle.std.proofs.Common.{◌≡◌, Some, OnOk, subst, ap, ◌∙◌, rules}
use Rattle.std.proofs.lemmas.Result.{on_ok_weaker, on_err_weaker}
use Rattle.formula_trees.specs.Expr.{expr_of}
use Rattle.demand_spec.specs.Book.{Content}
use Rattle.demand_spec.specs.Edits.{Put, IsApplied}
use Rattle.workbook_core.specs.declared.Content.{Content as Held}
use Rattle.workbook_core.specs.Apart.{Apart}
use Rattle.workbook_core.specs.Held.{cells_in, SetsHeld}
use Rattle.workbook_core.proofs.Parted.{apart_grows, apart_same, apart_put, tree_put}
use Rattle.workbook_core.proofs.apart.CellsApart.put_tree.Goals as goal

pub invariant_of-self : goal.invariant_of-self
invariant_of-self c = apart_grows c.self.inside.cells c.self.inside.pool c.intern.new.self c.intern.ensures.kept c.self.invariant

pub returns-in_err-id-clause-err : goal.returns-in_err-id-clause-err
returns-in_err-id-clause-err c =
    let same : cells_in c.intern.new.self c.self.inside.cells ≡ c.args.self.now.cells = apart_same c.self.inside.cells c.self.inside.pool c.intern.new.self c.intern.ensures.kept c.self.invariant ∙ ap (λ (w : Apart). w.cells) c.self.view_is in
    search rules

pub invariant_of-self-2 : goal.invariant_of-self-2
invariant_of-self-2 c = apart_put c.set.result c.self.inside.cells c.set.new.self c.intern.new.self c.args.at (Held.Formula c.in_ok-id.id)
    (apart_grows c.self.inside.cells c.self.inside.pool c.intern.new.self c.intern.ensures.kept c.self.invariant) c.in_ok-id.ensures.ok.there c.set.ensures.ok c.set.ensures.err

pub returns-clause-ok : goal.returns-clause-ok
returns-clause-ok c = subst (λ (w : Apart). OnOk c.set.result (IsApplied (Put c.args.at (Some (Content.Formula (expr_of c.args.tree.now)))) w.cells (cells_in c.intern.new.self c.set.new.self))) c.self.view_is
    (on_ok_weaker c.set.result
    (λ (s : SetsHeld c.args.at (Some (Held.Formula c.in_ok-id.id)) c.self.inside.cells c.set.new.self).
    tree_put c.self.inside.cells c.set.new.self c.self.inside.pool c.intern.new.self c.args.at c.in_ok-id.id (expr_of c.args.tree.now) c.intern.ensures.kept c.self.invariant c.in_ok-id.ensures.ok s)
    c.set.ensures.ok)

pub returns-clause-err : goal.returns-clause-err
returns-clause-err c = on_err_weaker c.set.result
    (λ (e : c.set.new.self ≡ c.self.inside.cells). ap (cells_in c.intern.new.self) e ∙ apart_same c.self.inside.cells c.self.inside.pool c.intern.new.self c.intern.ensures.kept c.self.invariant ∙ ap (λ (w : Apart). w.cells) c.self.view_is)
    c.set.ensures.err
