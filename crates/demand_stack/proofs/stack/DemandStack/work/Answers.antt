use Rattle.std.proofs.Common.{Some, sym, ap, ◌∙◌, subst}
use Rattle.demand_stack.specs.Alone.{GoesOn}
use Rattle.demand_stack.proofs.Stepped.{learnt_on, popped_on}
use Rattle.demand_stack.proofs.Driving.{known_top_is, unknown_top_is, value_right}
use Rattle.demand_stack.proofs.stack.DemandStack.work.Goals as goal

pub pop-requires : goal.pop-requires
pop-requires c = (c.args.top, known_top_is c.args.self.now c.args.top c.in-Some.field-0 c.requires (sym c.known.ensures.known ∙ c.in-Some.is))

pub ask-requires : goal.ask-requires
ask-requires c = (c.args.top, unknown_top_is c.args.self.now c.args.top c.requires (sym c.known.ensures.known ∙ c.in-None.is))

pub learn_top-requires : goal.learn_top-requires
learn_top-requires c =
    let t = unknown_top_is c.args.self.now c.args.top c.requires (sym c.known.ensures.known ∙ c.in-None.is) in
    rw c.ask.ensures.same (c.args.top, (t, value_right c.args.self.now c.args.top c.in-Val.value c.known.ensures.sees (c.ask.ensures.answer c.args.top t ∙ ap Some c.in-Val.is)))

pub need-requires-clause-top : goal.need-requires-clause-top
need-requires-clause-top c = rw c.ask.ensures.same (unknown_top_is c.args.self.now c.args.top c.requires (sym c.known.ensures.known ∙ c.in-None.is))

pub need-requires-clause-needs : goal.need-requires-clause-needs
need-requires-clause-needs c =
    let t = unknown_top_is c.args.self.now c.args.top c.requires (sym c.known.ensures.known ∙ c.in-None.is) in
    rw c.ask.ensures.same (c.ask.ensures.answer c.args.top t ∙ ap Some c.in-Needs.is)

pub returns-in-Some : goal.returns-in-Some
returns-in-Some c = subst (GoesOn c.args.self.now) (sym c.pop.ensures) (popped_on c.args.self.now c.args.top (known_top_is c.args.self.now c.args.top c.in-Some.field-0 c.requires (sym c.known.ensures.known ∙ c.in-Some.is)))

pub returns-in-Val : goal.returns-in-Val
returns-in-Val c =
    let t = unknown_top_is c.args.self.now c.args.top c.requires (sym c.known.ensures.known ∙ c.in-None.is) in
    let learnt = rw c.ask.ensures.same at c.learn_top.ensures in
    subst (GoesOn c.args.self.now) (sym learnt) (learnt_on c.args.self.now c.args.top _ c.known.ensures.sees t)

pub returns-in-Needs : goal.returns-in-Needs
returns-in-Needs c = subst (λ s. GoesOn s c.need.new.self) c.ask.ensures.same c.need.ensures
