use Rattle.std.proofs.Common.{◌∙◌, ap}
use Rattle.recalculation.specs.Calculations.{Calculation}
use Rattle.recalculation.proofs.Followed.{after_texts, same_pending}
use Rattle.recalculation.proofs.calc.Calc.read_raw.Goals as goal

pub invariant_of-self : goal.invariant_of-self
invariant_of-self c = after_texts c.self.inside.book c.read_raw.new.self c.self.inside.progress c.known.ensures c.read_raw.ensures.cells c.read_raw.ensures.kept c.self.invariant

pub returns-clause-pending : goal.returns-clause-pending
returns-clause-pending c = same_pending c.self.inside.book.book c.read_raw.new.self.book c.self.inside.progress c.read_raw.ensures.cells ∙ ap (λ (k : Calculation). k.pending) c.self.view_is
