use Rattle.std.proofs.Common.{◌∙◌, ap}
use Rattle.demand_spec.specs.Book.{formula_at, formula_of}
use Rattle.parallel_evaluation.proofs.tests.formula.Goals as goal

pub returns : goal.returns
unfolding formula_at
returns c = c.formula_in.ensures c.args.book.now.pool ∙ ap formula_of c.content.ensures.content
