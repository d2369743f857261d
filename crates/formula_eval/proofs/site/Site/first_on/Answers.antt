use Rattle.std.proofs.Common.{refl, sym, ap, ◌∙◌, subst}
use Rattle.formula_trees.specs.declared.tree.Fun.{Fun}
use Rattle.builtin_functions.specs.declared.operators.Sign2.{Sign2}
use Rattle.builtin_functions.specs.Tables.{unary_value}
use Rattle.computed_text.specs.Computed.{length_of}
use Rattle.shared_expressions.specs.declared.nodes.Node.{Node}
use Rattle.shared_expressions.specs.Trees.{tree_at, child_of}
use Rattle.formula_eval.specs.declared.work.Step.{Step}
use Rattle.formula_eval.specs.declared.work.Work.TheVariants.{First, Second}
use Rattle.formula_eval.specs.Machine.{second_number, GoesOn, WaitsOr}
use Rattle.formula_eval.proofs.Values.{unary_is, unary_meant}
use Rattle.formula_eval.proofs.Begins.{call_gives, function_gives, go_first}
use Rattle.formula_eval.proofs.Searches.{first_is_two}
use Rattle.formula_eval.proofs.site.Site.first_on.Goals as goal

pub returns-in-Abs-clause-goes : goal.returns-in-Abs-clause-goes
returns-in-Abs-clause-goes c =
    subst (λ z. GoesOn c.args.self.now.pool.now c.args.self.now.texts.now c.args.self.now.at c.args.call.id First c.args.v c.args.frames.now.frames (Step.Give z) c.args.frames.now.frames) (sym c.unary.ensures)
    (call_gives c.args.self.now.pool.now c.args.self.now.texts.now c.args.self.now.at c.args.call.id Fun.Abs First c.args.v (unary_value Sign2.Abs c.args.v) c.args.frames.now.frames (c.requires.call ∙ ap Node.Call c.in-Abs.is) (λ args. unary_is Sign2.Abs c.args.v) (unary_meant c.args.self.now.texts.now Sign2.Abs c.args.v))

pub returns-in-Len-clause-goes : goal.returns-in-Len-clause-goes
returns-in-Len-clause-goes c = function_gives c.args.self.now.pool.now c.args.self.now.texts.now c.args.self.now.at c.args.call.id Fun.Len First c.args.v (length_of c.args.self.now.texts.now) c.length_or_error.result c.args.frames.now.frames (c.requires.call ∙ ap Node.Call c.in-Len.is) (λ args. refl) c.length_or_error.ensures.value c.length_or_error.ensures.known

pub returns-in-false-is_error-2 : goal.returns-in-false-is_error-2
returns-in-false-is_error-2 c = record {
  goes = go_first c.args.self.now.pool.now c.args.self.now.texts.now c.args.self.now.at c.args.call.id c.args.call.fun c.args.v c.args.frames.now.frames c.wait_or.result c.wait_or.new.frames.frames c.requires.call (first_is_two c.args.self.now.texts.now c.args.self.now.at c.args.call.fun c.args.v c.in_default.not-If c.in_default.not-Not c.in_default.not-Choose c.in_default.not-IfError c.in_default.not-IsError c.in_default.not-Abs c.in_default.not-Match c.in_default.not-Len) (sym c.in-false-is_error-2.ensures) c.requires.value
      (subst (λ u. WaitsOr c.args.self.now.pool.now c.args.call.id (Second c.args.v) u (child_of (second_number c.args.call.fun) (tree_at c.args.self.now.pool.now c.args.call.id)) c.args.frames.now.frames c.wait_or.result c.wait_or.new.frames.frames) c.second_default.ensures
      (subst (λ z. WaitsOr c.args.self.now.pool.now c.args.call.id (Second c.args.v) c.second_default.result (child_of z (tree_at c.args.self.now.pool.now c.args.call.id)) c.args.frames.now.frames c.wait_or.result c.wait_or.new.frames.frames) c.second_number.ensures c.wait_or.ensures.waits));
  room = c.wait_or.ensures.room;
}
