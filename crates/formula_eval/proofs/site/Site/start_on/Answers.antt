use Rattle.std.proofs.Common.{refl, sym, ap, ◌∙◌, subst}
use Rattle.cell_values.specs.declared.values.Code.{Code}
use Rattle.cell_values.specs.declared.values.Value.{Value}
use Rattle.shared_expressions.specs.declared.nodes.Node.{Node}
use Rattle.shared_expressions.specs.Trees.{tree_at, nth, child_of}
use Rattle.formula_trees.specs.declared.tree.Fun.{Fun}
use Rattle.cell_values.specs.Values.{as_number}
use Rattle.demand_spec.specs.Plan.{and_then}
use Rattle.demand_spec.specs.Formula.{fails}
use Rattle.formula_eval.specs.declared.work.Work.TheVariants.{Second}
use Rattle.formula_eval.specs.Machine.{plan_or, start_number, call_third, WaitsOr}
use Rattle.formula_eval.proofs.Begins.{call_ends, go_start}
use Rattle.formula_eval.proofs.site.Site.start_on.Goals as goal

pub returns-in-true-clause-goes : goal.returns-in-true-clause-goes
returns-in-true-clause-goes c = call_ends c.args.self.now.pool.now c.args.self.now.texts.now c.args.self.now.at c.args.call.id Fun.Mid (Second c.args.x) c.args.v (λ args y. and_then (plan_or (fails Code.Value) c.args.self.now.texts.now c.args.self.now.at (nth 2 args)) (call_third c.args.self.now.texts.now Fun.Mid c.args.x (start_number (as_number y)))) c.args.frames.now.frames (c.requires.call ∙ ap Node.Call c.requires.mid) (λ args. refl) (sym c.in-true.ensures)

pub returns-in-false-clause-goes : goal.returns-in-false-clause-goes
returns-in-false-clause-goes c = go_start c.args.self.now.pool.now c.args.self.now.texts.now c.args.self.now.at c.args.call.id c.args.x c.args.v c.args.frames.now.frames c.wait_or.result c.wait_or.new.frames.frames (c.requires.call ∙ ap Node.Call c.requires.mid) (sym c.in-false.ensures) c.requires.first
    (subst (λ w. WaitsOr c.args.self.now.pool.now c.args.call.id w (Value.Error Code.Value) (child_of 2 (tree_at c.args.self.now.pool.now c.args.call.id)) c.args.frames.now.frames c.wait_or.result c.wait_or.new.frames.frames) c.third_work.ensures c.wait_or.ensures.waits)
