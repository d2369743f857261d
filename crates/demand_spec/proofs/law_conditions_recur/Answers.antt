use Rattle.std.proofs.Common.{refl}
use Rattle.demand_spec.proofs.Asks.{ask_if_three, ask_if_two, ask_and_more, ask_or_more, ask_not, ask_if_error, ask_is_error, ask_choose}
use Rattle.demand_spec.proofs.law_conditions_recur.Goals as goal

pub returns-clause-choice : goal.returns-clause-choice
returns-clause-choice c = ask_if_three

pub returns-clause-one_choice : goal.returns-clause-one_choice
returns-clause-one_choice c = ask_if_two

pub returns-clause-all : goal.returns-clause-all
returns-clause-all c = ask_and_more

pub returns-clause-some : goal.returns-clause-some
returns-clause-some c = ask_or_more

pub returns-clause-none : goal.returns-clause-none
returns-clause-none c = λ b e at. (refl, refl)

pub returns-clause-other : goal.returns-clause-other
returns-clause-other c = ask_not

pub returns-clause-unless_error : goal.returns-clause-unless_error
returns-clause-unless_error c = ask_if_error

pub returns-clause-is_error : goal.returns-clause-is_error
returns-clause-is_error c = ask_is_error

pub returns-clause-chosen : goal.returns-clause-chosen
returns-clause-chosen c = ask_choose
