use Rattle.std.proofs.Common.{◌≡◌, ◌∙◌, List, Some, cond, rules}
use Rattle.std.specs.Prelude.{Option}
use Rattle.cell_values.specs.declared.address.Area.{Area}
use Rattle.cell_values.specs.Addresses.{same_addr}
use Rattle.cell_values.specs.Order.{entry_at}
use Rattle.support_graph.specs.Support.{listed}
use Rattle.support_graph.proofs.Cells.{changed_listed, order_listed, indexed_put}
use Rattle.support_graph.proofs.support.put_cell.Goals as goal

pub returns-in-Ok-clause-ok : goal.returns-in-Ok-clause-ok
returns-in-Ok-clause-ok c q =
    let same : c.in_ok-list.list.items ≡ c.args.areas.now = search rules in
    changed_listed c.args.cells.now.entries c.insert.new.self.entries c.args.cell (Some c.in_ok-list.list) c.in-Ok.ensures.updates.0 q ∙ (λ i. cond {A = Option (List Area)} (same_addr c.args.cell q) (Some (same i)) (entry_at (listed c.args.cells.now.entries) q))

pub returns-in-Ok-clause-indexed : goal.returns-in-Ok-clause-indexed
returns-in-Ok-clause-indexed c =
    indexed_put (listed c.args.cells.now.entries) (listed c.insert.new.self.entries) c.args.index.now.blocks.keys c.put_areas.new.index.blocks.keys c.args.index.now.readers.keys c.put_areas.new.index.readers.keys c.args.cell c.args.areas.now c.requires.absent c.requires.indexed c.requires.areas (order_listed c.insert.new.self.entries c.in-Ok.ensures.ordered) (returns-in-Ok-clause-ok c) c.in_ok-put_areas.ensures.readers c.in_ok-put_areas.ensures.cut
