use Rattle.formula_grammar.proofs.ReadBack.{printed_reads_back, printed_interns_nothing}
use Rattle.formula_grammar.proofs.laws.law_printed_reads_back.Goals as goal

pub returns-clause-means : goal.returns-clause-means
returns-clause-means c = printed_reads_back

pub returns-clause-interns_nothing : goal.returns-clause-interns_nothing
returns-clause-interns_nothing c = printed_interns_nothing
