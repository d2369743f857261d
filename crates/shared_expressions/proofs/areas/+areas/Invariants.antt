use Rattle.std.proofs.Common.{◌≡◌, ◌+◌, ◌*◌, ◌++◌, drop, All}
use Rattle.cell_values.specs.Areas.{IsArea}
use Rattle.shared_expressions.specs.Stored.{trees, parts, entry_at, areas_below}
use Rattle.shared_expressions.proofs.areas.+areas.Given as goal

abbrev pub decreases-push_areas : goal.decreases-push_areas
decreases-push_areas l = 2 * l.id + 1

abbrev pub decreases-push_below : goal.decreases-push_below
decreases-push_below l = 2 * l.id

abbrev pub invariant-push_below-loop-j : goal.invariant-push_below-loop-j
invariant-push_below-loop-j l = record {
  items : l.out.items ++ areas_below l.at (trees l.store) (drop l.j (parts l.store.children.items (entry_at l.store.entries.items l.id))) ≡ l.initial.out.items ++ areas_below l.at (trees l.store) (parts l.store.children.items (entry_at l.store.entries.items l.id));
  within : All IsArea l.initial.out.items → All IsArea l.out.items;
}
