use Rattle.demand_spec.proofs.Asks.{ask_join, ask_left, ask_left_one, ask_right, ask_right_one, ask_mid, ask_len}
use Rattle.demand_spec.proofs.law_texts_recur.Goals as goal

pub returns-clause-joined : goal.returns-clause-joined
returns-clause-joined c = ask_join

pub returns-clause-left : goal.returns-clause-left
returns-clause-left c = ask_left

pub returns-clause-one_left : goal.returns-clause-one_left
returns-clause-one_left c = ask_left_one

pub returns-clause-right : goal.returns-clause-right
returns-clause-right c = ask_right

pub returns-clause-one_right : goal.returns-clause-one_right
returns-clause-one_right c = ask_right_one

pub returns-clause-middle : goal.returns-clause-middle
returns-clause-middle c = ask_mid

pub returns-clause-length : goal.returns-clause-length
returns-clause-length c = ask_len
