use Rattle.std.proofs.Common.{length}
use Rattle.formula_grammar.proofs.print.+write_doubled.Given as goal

abbrev pub decreases-write_doubled : goal.decreases-write_doubled
decreases-write_doubled l = length l.text.now
