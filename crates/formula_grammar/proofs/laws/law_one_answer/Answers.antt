use Rattle.formula_grammar.proofs.Whole.{one_tree, one_fault}
use Rattle.formula_grammar.proofs.laws.law_one_answer.Goals as goal

pub returns-clause-tree : goal.returns-clause-tree
returns-clause-tree c = one_tree

pub returns-clause-fault : goal.returns-clause-fault
returns-clause-fault c = one_fault
