use Rattle.std.proofs.Common.{ap, sym, ◌∙◌}
use Rattle.formula_trees.specs.Expr.{exprs_of, Call}
use Rattle.demand_spec.specs.declared.arguments.OfTwo.{OfTwo}
use Rattle.demand_spec.specs.Given.{two_given, two_rule, count_or_one}
use Rattle.demand_spec.specs.Stage.{ask_on}
use Rattle.demand_spec.proofs.Rules.{left_is, right_is}
use Rattle.demand_spec.proofs.context.Stage.+formula.Goals as goal

pub call-returns-in-Left : goal.call-returns-in-Left
call-returns-in-Left t c =
    c.call_two-in-Left.ensures
    ∙ (λ i. two_rule (two_given (c.texts-in-Left.ensures.same i) OfTwo.Left) ((c.count_or_one.ensures ∙ ap count_or_one c.given-in-Left.ensures.same) i))
    ∙ sym (left_is c.args.self.now c.args.at (exprs_of c.args.args.now))
    ∙ ap (λ f. ask_on c.args.self.now c.args.at (Call f (exprs_of c.args.args.now))) (sym c.in-Left.is)

pub call-returns-in-Right : goal.call-returns-in-Right
call-returns-in-Right t c =
    c.call_two-in-Right.ensures
    ∙ (λ i. two_rule (two_given (c.texts-in-Right.ensures.same i) OfTwo.Right) ((c.count_or_one-in-Right.ensures ∙ ap count_or_one c.given-in-Right.ensures.same) i))
    ∙ sym (right_is c.args.self.now c.args.at (exprs_of c.args.args.now))
    ∙ ap (λ f. ask_on c.args.self.now c.args.at (Call f (exprs_of c.args.args.now))) (sym c.in-Right.is)
