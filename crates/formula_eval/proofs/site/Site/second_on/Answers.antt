use Rattle.std.proofs.Common.{refl, sym, ap, ◌∙◌, subst}
use Rattle.formula_trees.specs.declared.tree.Fun.{Fun}
use Rattle.builtin_functions.specs.declared.operators.Op2.{Op2}
use Rattle.builtin_functions.specs.Tables.{binary_value}
use Rattle.computed_text.specs.Computed.{left_of, right_of}
use Rattle.shared_expressions.specs.declared.nodes.Node.{Node}
use Rattle.formula_eval.specs.declared.work.Step.{Step}
use Rattle.formula_eval.specs.declared.work.Work.TheVariants.{Second}
use Rattle.formula_eval.specs.Machine.{GoesOn}
use Rattle.formula_eval.proofs.Values.{binary_is, binary_meant}
use Rattle.formula_eval.proofs.Begins.{call_gives, function_gives}
use Rattle.formula_eval.proofs.site.Site.second_on.Goals as goal

pub returns-in-Mod-clause-goes : goal.returns-in-Mod-clause-goes
returns-in-Mod-clause-goes c =
    subst (λ z. GoesOn c.args.self.now.pool.now c.args.self.now.texts.now c.args.self.now.at c.args.call.id (Second c.args.x) c.args.v c.args.frames.now.frames (Step.Give z) c.args.frames.now.frames) (sym c.binary.ensures)
    (call_gives c.args.self.now.pool.now c.args.self.now.texts.now c.args.self.now.at c.args.call.id Fun.Mod (Second c.args.x) c.args.v (binary_value c.args.self.now.texts.now Op2.Mod c.args.x c.args.v) c.args.frames.now.frames (c.requires.call ∙ ap Node.Call c.in-Mod.is) (λ args. binary_is c.args.self.now.texts.now Op2.Mod c.args.x c.args.v c.requires.first.1) (binary_meant c.args.self.now.texts.now Op2.Mod c.args.x c.args.v))

pub returns-in-Quotient-clause-goes : goal.returns-in-Quotient-clause-goes
returns-in-Quotient-clause-goes c =
    subst (λ z. GoesOn c.args.self.now.pool.now c.args.self.now.texts.now c.args.self.now.at c.args.call.id (Second c.args.x) c.args.v c.args.frames.now.frames (Step.Give z) c.args.frames.now.frames) (sym c.binary-in-Quotient.ensures)
    (call_gives c.args.self.now.pool.now c.args.self.now.texts.now c.args.self.now.at c.args.call.id Fun.Quotient (Second c.args.x) c.args.v (binary_value c.args.self.now.texts.now Op2.Quotient c.args.x c.args.v) c.args.frames.now.frames (c.requires.call ∙ ap Node.Call c.in-Quotient.is) (λ args. binary_is c.args.self.now.texts.now Op2.Quotient c.args.x c.args.v c.requires.first.1) (binary_meant c.args.self.now.texts.now Op2.Quotient c.args.x c.args.v))

pub returns-in-Left-clause-goes : goal.returns-in-Left-clause-goes
returns-in-Left-clause-goes c = function_gives c.args.self.now.pool.now c.args.self.now.texts.now c.args.self.now.at c.args.call.id Fun.Left (Second c.args.x) c.args.v (left_of c.args.self.now.texts.now c.args.x) c.left_or_error.result c.args.frames.now.frames (c.requires.call ∙ ap Node.Call c.in-Left.is) (λ args. refl) c.left_or_error.ensures.value c.left_or_error.ensures.known

pub returns-in-Right-clause-goes : goal.returns-in-Right-clause-goes
returns-in-Right-clause-goes c = function_gives c.args.self.now.pool.now c.args.self.now.texts.now c.args.self.now.at c.args.call.id Fun.Right (Second c.args.x) c.args.v (right_of c.args.self.now.texts.now c.args.x) c.right_or_error.result c.args.frames.now.frames (c.requires.call ∙ ap Node.Call c.in-Right.is) (λ args. refl) c.right_or_error.ensures.value c.right_or_error.ensures.known
