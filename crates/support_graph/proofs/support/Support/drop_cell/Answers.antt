use Rattle.std.proofs.Common.{◌≡◌, ◌∙◌, List, Some, None, IfSome, All, true, false, ap, cond, sym, subst}
use Rattle.std.specs.Prelude.{Option, option_map}
use Rattle.std.specs.Global.{Vec}
use Rattle.cell_values.specs.declared.address.Area.{Area}
use Rattle.cell_values.specs.Addresses.{same_addr}
use Rattle.cell_values.specs.Areas.{IsArea}
use Rattle.cell_values.specs.Order.{entry_at}
use Rattle.support_graph.specs.Support.{CellAreas, listed}
use Rattle.support_graph.specs.Steps.{SetsReaders, is_cell_reader}
use Rattle.support_graph.proofs.Cells.{found_listed, changed_listed, order_listed, indexed_take}
use Rattle.support_graph.proofs.support.Support.drop_cell.Goals as goal

pub take_areas-requires-clause-areas : goal.take_areas-requires-clause-areas
take_areas-requires-clause-areas c =
    let there : entry_at (listed c.self.inside.cells.entries) c.args.cell ≡ Some c.in-Some.areas.items = sym (found_listed c.self.inside.cells.entries c.args.cell) ∙ ap (option_map (λ (v : Vec Area). v.items)) (sym c.remove.ensures.value ∙ c.in-Some.is) in
    let good : All IsArea c.in-Some.areas.items = subst (λ (o : Option (List Area)). IfSome o (All IsArea)) there (c.self.invariant.areas c.args.cell) in
    subst (All IsArea) (sym c.deref.ensures.value) good

pub returns-in-Some : goal.returns-in-Some
returns-in-Some c q = subst (λ (s : CellAreas). entry_at (listed c.remove.new.self.entries) q ≡ cond {A = Option (List Area)} (same_addr c.args.cell q) None (entry_at s q)) c.self.view_is (changed_listed c.self.inside.cells.entries c.remove.new.self.entries c.args.cell None c.remove.ensures.updates.0 q)

pub returns-in_default : goal.returns-in_default
returns-in_default c q = subst (λ (s : CellAreas). entry_at (listed c.remove.new.self.entries) q ≡ cond {A = Option (List Area)} (same_addr c.args.cell q) None (entry_at s q)) c.self.view_is (changed_listed c.self.inside.cells.entries c.remove.new.self.entries c.args.cell None c.remove.ensures.updates.0 q)

pub invariant_of-self : goal.invariant_of-self
invariant_of-self c =
    let there : entry_at (listed c.self.inside.cells.entries) c.args.cell ≡ Some c.in-Some.areas.items = sym (found_listed c.self.inside.cells.entries c.args.cell) ∙ ap (option_map (λ (v : Vec Area). v.items)) (sym c.remove.ensures.value ∙ c.in-Some.is) in
    indexed_take (listed c.self.inside.cells.entries) (listed c.remove.new.self.entries) c.self.inside.index.blocks.keys c.take_areas.new.index.blocks.keys c.self.inside.index.readers.keys c.take_areas.new.index.readers.keys c.args.cell c.in-Some.areas.items there c.self.invariant (order_listed c.remove.new.self.entries c.remove.ensures.ordered) (changed_listed c.self.inside.cells.entries c.remove.new.self.entries c.args.cell None c.remove.ensures.updates.0)
    (subst (λ (areas : List Area). SetsReaders (is_cell_reader c.args.cell areas) false true c.self.inside.index.readers.keys c.take_areas.new.index.readers.keys) c.deref.ensures.value c.take_areas.ensures.readers) c.take_areas.ensures.cut
