use Rattle.formula_grammar.proofs.Law.{tree_or_fault, never_both}
use Rattle.formula_grammar.proofs.laws.law_tree_or_fault.Goals as goal

pub returns-clause-some : goal.returns-clause-some
returns-clause-some c = tree_or_fault

pub returns-clause-not_both : goal.returns-clause-not_both
returns-clause-not_both c = never_both
