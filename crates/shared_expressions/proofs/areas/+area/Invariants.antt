use Rattle.std.proofs.Common.{◌+◌, ◌*◌}
use Rattle.shared_expressions.specs.Stored.{trees, parts, entry_at}
use Rattle.shared_expressions.proofs.Named.{PicksOn}
use Rattle.shared_expressions.proofs.areas.+area.Given as goal

abbrev pub decreases-area_from : goal.decreases-area_from
decreases-area_from l = 2 * l.id + 1

abbrev pub decreases-area_below : goal.decreases-area_below
decreases-area_below l = 2 * l.id

abbrev pub invariant-area_below-loop-j : goal.invariant-area_below-loop-j
invariant-area_below-loop-j l = PicksOn l.at (trees l.store) (parts l.store.children.items (entry_at l.store.entries.items l.id)) l.k l.j l.left
