use Rattle.std.proofs.Common.{None, subst, arith}
use Rattle.demand_spec.specs.Edits.{Put, IsApplied}
use Rattle.workbook_core.specs.Held.{cells_in}
use Rattle.workbook_core.proofs.Growth.{kept_set, applied_set}
use Rattle.workbook_core.proofs.Lookups.{length-cells_in}
use Rattle.workbook_core.proofs.workbook.Workbook.clear.Goals as goal

pub invariant_of-self : goal.invariant_of-self
invariant_of-self c = kept_set c.self.inside.cells c.remove.new.self c.self.inside.texts c.self.inside.sheets c.self.inside.pool c.args.at None c.self.invariant c.remove.ensures.removed
    (omega (arith, c.remove.ensures.len, length-cells_in c.self.inside.pool c.self.inside.cells, c.self.invariant.workbook.few)) tt

pub returns-clause-applied : goal.returns-clause-applied
returns-clause-applied c = subst (λ w. IsApplied (Put c.args.at None) w.book.cells (cells_in c.self.inside.pool c.remove.new.self)) c.self.view_is
    (applied_set c.self.inside.pool c.self.inside.cells c.remove.new.self c.args.at None c.remove.ensures.removed)
