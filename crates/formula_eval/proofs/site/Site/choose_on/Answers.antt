use Rattle.std.proofs.Common.{◌≡◌, false, length, refl, sym, ap, ◌∙◌, rules, to_z, of_z}
use mir.Syntax.{w128}
use Rattle.cell_values.specs.declared.values.Code.{Code}
use Rattle.cell_values.specs.declared.values.Value.{Value}
use Rattle.formula_trees.specs.declared.tree.Fun.{Fun}
use Rattle.cell_values.specs.Values.{is_error}
use Rattle.shared_expressions.specs.declared.nodes.Node.{Node}
use Rattle.formula_eval.specs.Machine.{index_below}
use Rattle.formula_eval.proofs.Begins.{call_instead}
use Rattle.formula_eval.proofs.Searches.{choose_outside, choose_plan_is}
use Rattle.formula_eval.proofs.site.Site.choose_on.Goals as goal

pub returns-in-None-index_below-clause-goes : goal.returns-in-None-index_below-clause-goes
returns-in-None-index_below-clause-goes c =
    let back : to_z w128 (of_z w128 c.in-Some.n) ≡ c.in-Some.n = search rules in
    let plain : is_error c.args.v ≡ false = sym c.is_error.ensures ∙ c.if-is_error.false in
    choose_outside c.args.self.now.pool.now c.args.self.now.texts.now c.args.self.now.at c.args.call.id c.args.frames.now.room (length c.args.frames.now.frames) c.args.v c.in-Some.n c.args.frames.now.frames (c.requires.call ∙ ap Node.Call c.requires.choose) c.requires.holds plain c.in-Some.ensures (c.in-None-index_below.ensures.same ∙ ap (index_below 511) back)

pub returns-in-Some-index_below-clause-goes : goal.returns-in-Some-index_below-clause-goes
returns-in-Some-index_below-clause-goes c =
    let back : to_z w128 (of_z w128 c.in-Some.n) ≡ c.in-Some.n = search rules in
    let plain : is_error c.args.v ≡ false = sym c.is_error.ensures ∙ c.if-is_error.false in
    call_instead c.args.self.now.pool.now c.args.self.now.texts.now c.args.self.now.at c.args.call.id Fun.Choose c.args.v (Value.Error Code.Value) c.in-Some-index_below.m c.args.frames.now.frames c.child_instead.result (c.requires.call ∙ ap Node.Call c.requires.choose) refl (λ args. choose_plan_is c.args.self.now.texts.now c.args.self.now.at c.args.v c.in-Some.n 511 c.in-Some-index_below.m args plain c.in-Some.ensures (c.in-Some-index_below.ensures.same ∙ ap (index_below 511) back)) tt c.child_instead.ensures
