use Rattle.formula_grammar.proofs.Answered.{longer_mean}
use Rattle.formula_grammar.proofs.Alike.{faults_stay}
use Rattle.formula_grammar.proofs.laws.law_texts_apart.Goals as goal

pub returns-clause-tree : goal.returns-clause-tree
returns-clause-tree c = longer_mean

pub returns-clause-fault : goal.returns-clause-fault
returns-clause-fault c = faults_stay
