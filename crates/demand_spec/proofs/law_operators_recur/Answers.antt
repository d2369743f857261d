use Rattle.demand_spec.proofs.Asks.{ask_unary, ask_binary, ask_mod, ask_quotient, ask_abs, literal_gives, reference_gives}
use Rattle.demand_spec.proofs.law_operators_recur.Goals as goal

pub returns-clause-literal : goal.returns-clause-literal
returns-clause-literal c = literal_gives

pub returns-clause-reference : goal.returns-clause-reference
returns-clause-reference c = reference_gives

pub returns-clause-sign : goal.returns-clause-sign
returns-clause-sign c = ask_unary

pub returns-clause-operator : goal.returns-clause-operator
returns-clause-operator c = ask_binary

pub returns-clause-modulo : goal.returns-clause-modulo
returns-clause-modulo c = ask_mod

pub returns-clause-quotient : goal.returns-clause-quotient
returns-clause-quotient c = ask_quotient

pub returns-clause-absolute : goal.returns-clause-absolute
returns-clause-absolute c = ask_abs
