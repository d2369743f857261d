use Rattle.std.proofs.Common.{None, subst}
use Rattle.workbook_core.specs.Held.{SetsHeld}
use Rattle.workbook_core.proofs.Lookups.{sets_held, indexed_after}
use Rattle.workbook_core.proofs.cells.CellMap.remove.Goals as goal

pub invariant_of-self : goal.invariant_of-self
invariant_of-self c = indexed_after c.self.inside.by_row.entries c.remove.new.self.entries c.self.inside.by_column c.remove-2.new.self c.args.at None c.turned.result c.turned.ensures c.self.invariant
    (sets_held c.self.inside.by_row c.remove.new.self c.args.at None c.remove.ensures.updates c.remove.ensures.ordered)
    c.remove-2.ensures.updates

pub returns-clause-removed : goal.returns-clause-removed
returns-clause-removed c = subst (λ es. SetsHeld c.args.at None es c.remove.new.self.entries) c.self.view_is
    (sets_held c.self.inside.by_row c.remove.new.self c.args.at None c.remove.ensures.updates c.remove.ensures.ordered)
