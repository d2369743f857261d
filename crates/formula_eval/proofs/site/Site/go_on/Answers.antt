use Rattle.std.proofs.Common.{sym, subst}
use Rattle.shared_expressions.specs.Trees.{tree_at}
use Rattle.formula_eval.specs.declared.work.Step.{Step}
use Rattle.formula_eval.specs.declared.work.Work.TheVariants.{First, Second}
use Rattle.formula_eval.specs.Machine.{IsOperand, WorkFits, GoesOn}
use Rattle.formula_eval.proofs.Begins.{go_unary, go_left, go_right}
use Rattle.formula_eval.proofs.site.Site.go_on.Goals as goal

pub returns-in-Unary-First-clause-goes : goal.returns-in-Unary-First-clause-goes
returns-in-Unary-First-clause-goes c =
    subst (λ w. GoesOn c.args.self.now.pool.now c.args.self.now.texts.now c.args.self.now.at c.args.id w c.args.v c.args.frames.now.frames (Step.Give c.sign_value.result) c.args.frames.now.frames) (sym c.in-Unary-First.is-1)
    (subst (λ z. GoesOn c.args.self.now.pool.now c.args.self.now.texts.now c.args.self.now.at c.args.id First c.args.v c.args.frames.now.frames (Step.Give z) c.args.frames.now.frames) (sym c.sign_value.ensures)
    (go_unary c.args.self.now.pool.now c.args.self.now.texts.now c.args.self.now.at c.args.id c.in-Unary-First.sign c.args.v c.args.frames.now.frames c.in-Unary-First.ensures))

pub returns-in-false-clause-goes : goal.returns-in-false-clause-goes
returns-in-false-clause-goes c =
    subst (λ w. GoesOn c.args.self.now.pool.now c.args.self.now.texts.now c.args.self.now.at c.args.id w c.args.v c.args.frames.now.frames c.wait_for.result c.wait_for.new.frames.frames) (sym c.in-Binary-First.is-1)
    (go_left c.args.self.now.pool.now c.args.self.now.texts.now c.args.self.now.at c.args.id c.in-Binary-First.field-0-0 c.args.v c.args.frames.now.frames c.wait_for.result c.wait_for.new.frames.frames c.in-Binary-First.ensures (sym c.in-false.ensures) c.requires.value c.wait_for.ensures.waits)

pub returns-in-Binary-Second-clause-goes : goal.returns-in-Binary-Second-clause-goes
returns-in-Binary-Second-clause-goes c =
    let fits : IsOperand c.args.self.now.texts.now c.in-Binary-Second.x = subst (WorkFits c.args.self.now.texts.now c.args.self.now.at (tree_at c.args.self.now.pool.now c.args.id)) c.in-Binary-Second.is-1 c.requires.work in
    subst (λ w. GoesOn c.args.self.now.pool.now c.args.self.now.texts.now c.args.self.now.at c.args.id w c.args.v c.args.frames.now.frames (Step.Give c.operator_value.result) c.args.frames.now.frames) (sym c.in-Binary-Second.is-1)
    (subst (λ z. GoesOn c.args.self.now.pool.now c.args.self.now.texts.now c.args.self.now.at c.args.id (Second c.in-Binary-Second.x) c.args.v c.args.frames.now.frames (Step.Give z) c.args.frames.now.frames) (sym c.operator_value.ensures)
    (go_right c.args.self.now.pool.now c.args.self.now.texts.now c.args.self.now.at c.args.id c.in-Binary-Second.op c.in-Binary-Second.x c.args.v c.args.frames.now.frames c.in-Binary-Second.ensures fits))
