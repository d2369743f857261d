use Rattle.formula_grammar.proofs.Answered.{tree_or_fault_of_text, there_is_a_reading, readings_agree}
use Rattle.formula_grammar.proofs.laws.law_one_reading.Goals as goal

pub returns-clause-one : goal.returns-clause-one
returns-clause-one c = tree_or_fault_of_text

pub returns-clause-there : goal.returns-clause-there
returns-clause-there c = there_is_a_reading

pub returns-clause-agree : goal.returns-clause-agree
returns-clause-agree c = readings_agree
