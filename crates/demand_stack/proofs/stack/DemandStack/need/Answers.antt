use Rattle.std.proofs.Common.{sym, ◌∙◌, subst}
use Rattle.demand_stack.specs.Alone.{GoesOn}
use Rattle.demand_stack.proofs.Stepped.{learnt_on, closed_on, pushed_on}
use Rattle.demand_stack.proofs.Driving.{other_right, known_right, top_demands, needed_low, link_top}
use Rattle.demand_stack.proofs.stack.DemandStack.need.Goals as goal

pub learn_top-requires : goal.learn_top-requires
learn_top-requires c = (c.args.top, (c.requires.top, other_right c.args.self.now c.args.top c.args.at c.number_of.ensures.sees c.requires.top c.requires.needs (sym c.number_of.ensures.number ∙ c.in-None.is)))

pub learn_top-requires-in-Some-known : goal.learn_top-requires-in-Some-known
learn_top-requires-in-Some-known c = (c.args.top, (c.requires.top, known_right c.args.self.now c.args.top c.args.at c.in-Some.cell c.in-Some-known.field-0 c.number_of.ensures.sees c.requires.top c.requires.needs (sym c.number_of.ensures.number ∙ c.in-Some.is) (sym c.known.ensures.known ∙ c.in-Some-known.is)))

pub close-requires-clause-demands : goal.close-requires-clause-demands
close-requires-clause-demands c = (c.args.top, top_demands c.args.self.now c.args.top c.args.at c.in-Some.cell c.number_of.ensures.sees c.requires.top c.requires.needs (sym c.number_of.ensures.number ∙ c.in-Some.is))

pub push-requires-clause-there : goal.push-requires-clause-there
push-requires-clause-there c = needed_low c.args.self.now c.args.at c.in-Some.cell (sym c.number_of.ensures.number ∙ c.in-Some.is)

pub push-requires-clause-linked : goal.push-requires-clause-linked
push-requires-clause-linked c = link_top c.args.self.now c.args.top c.in-Some.cell c.number_of.ensures.sees (top_demands c.args.self.now c.args.top c.args.at c.in-Some.cell c.number_of.ensures.sees c.requires.top c.requires.needs (sym c.number_of.ensures.number ∙ c.in-Some.is))

pub returns-in-None : goal.returns-in-None
returns-in-None c = subst (GoesOn c.args.self.now) (sym c.learn_top.ensures) (learnt_on c.args.self.now c.args.top _ c.number_of.ensures.sees c.requires.top)

pub returns-in-Some-known : goal.returns-in-Some-known
returns-in-Some-known c = subst (GoesOn c.args.self.now) (sym c.learn_top-in-Some-known.ensures) (learnt_on c.args.self.now c.args.top _ c.number_of.ensures.sees c.requires.top)

pub returns-then-is_on_stack : goal.returns-then-is_on_stack
returns-then-is_on_stack c = subst (GoesOn c.args.self.now) (sym c.close.ensures) (closed_on c.args.self.now c.args.top c.in-Some.cell c.number_of.ensures.sees c.requires.top)

pub returns-else-is_on_stack : goal.returns-else-is_on_stack
returns-else-is_on_stack c = subst (GoesOn c.args.self.now) (sym c.push.ensures) (pushed_on c.args.self.now c.in-Some.cell _ (needed_low c.args.self.now c.args.at c.in-Some.cell (sym c.number_of.ensures.number ∙ c.in-Some.is)) (sym c.known.ensures.known ∙ c.in-None-known.is) (sym c.is_on_stack.ensures ∙ c.if-is_on_stack.false))
