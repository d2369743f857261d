use Rattle.std.proofs.Common.{refl, ap, ◌∙◌}
use Rattle.std.proofs.lemmas.Int.{to_z-of_z}
use Rattle.cell_values.specs.declared.values.Value.{Value}
use Rattle.formula_trees.specs.declared.tree.Fun.{Fun}
use Rattle.computed_text.specs.Computed.{mid_of}
use Rattle.shared_expressions.specs.declared.nodes.Node.{Node}
use Rattle.formula_eval.specs.declared.work.Work.TheVariants.{Third}
use Rattle.formula_eval.proofs.Begins.{function_gives, third_fails}
use Rattle.formula_eval.proofs.site.Site.third_on.Goals as goal

pub returns-in-Mid : goal.returns-in-Mid
returns-in-Mid c frames = function_gives c.args.self.now.pool.now c.args.self.now.texts.now c.args.self.now.at c.args.call.id Fun.Mid (Third c.args.x c.args.start) c.args.v (mid_of c.args.self.now.texts.now c.args.x (Value.Number c.args.start)) c.mid_or_error.result frames (c.requires.call ∙ ap Node.Call c.in-Mid.is) (λ args. refl) (simp (to_z-of_z, c.ranges.start) at c.mid_or_error.ensures.value) c.mid_or_error.ensures.known

pub returns-in_default : goal.returns-in_default
returns-in_default c frames = third_fails c.args.self.now.pool.now c.args.self.now.texts.now c.args.self.now.at c.args.call.id c.args.call.fun c.args.x c.args.start c.args.v frames c.requires.call c.in_default.not-Mid
