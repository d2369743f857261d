use Rattle.std.proofs.Common.{◌∙◌, ◌≡◌, subst, is_some}
use Rattle.cell_values.specs.Order.{InOrder, addresses, entry_at}
use Rattle.support_graph.specs.Support.{CellAreas}
use Rattle.support_graph.proofs.Cells.{found_some}
use Rattle.support_graph.proofs.support.Support.has.Goals as goal

pub returns-clause-there : goal.returns-clause-there
returns-clause-there c = subst (λ (s : CellAreas). c.contains_key.result ≡ is_some (entry_at s c.args.cell)) c.self.view_is (c.contains_key.ensures ∙ found_some c.self.inside.cells.entries c.args.cell)

pub returns-clause-in_order : goal.returns-clause-in_order
returns-clause-in_order c = subst (λ (s : CellAreas). InOrder (addresses s)) c.self.view_is c.self.invariant.in_order
