use Rattle.std.proofs.Common.{◌⊎◌, inl, inr, List}
use Rattle.std.specs.Prelude.{◌↔◌}
use Rattle.cell_values.specs.declared.address.Addr.{Addr}
use Rattle.cell_values.specs.declared.address.Area.{Area}
use Rattle.demand_spec.specs.Laws.{In}
use Rattle.support_graph.specs.Pending.{IsPendingAfter}
use Rattle.support_graph.specs.Support.{CellAreas, IsCell}
use Rattle.support_graph.proofs.Readers.{on_ok}
use Rattle.support_graph.proofs.Reach.{reads_cell}
use Rattle.support_graph.proofs.tests.edit_one.Goals as goal

pub edited-requires-clause-closed : goal.edited-requires-clause-closed
edited-requires-clause-closed c = record { cells = λ a m. inr ((c.requires.all a).0 m); readers = λ a d m k. inl ((c.requires.all d).1 (reads_cell c.args.support.now d a k)) }

still_all : (s : CellAreas) (old new : List Addr) (area : Area) → ((c : Addr) → In c old ↔ IsCell s c) → ((c : Addr) → In c new ↔ IsPendingAfter s old area c) → (c : Addr) → In c new ↔ IsCell s c
still_all s old new area h k c = (λ (m : In c new). ((k c).0 m).0, λ (m : IsCell s c). (k c).1 (m, inl ((h c).1 m)))

pub returns : goal.returns
returns c = on_ok c.edited.result (still_all c.args.support.now c.args.stale.now c.edited.new.self c.args.changed c.requires.all) c.edited.ensures.cells
