use Rattle.std.proofs.Common.{List, ◌⊎◌, inl, sym, subst, false}
use Rattle.cell_values.specs.declared.address.Addr.{Addr}
use Rattle.cell_values.specs.Areas.{is_inside}
use Rattle.demand_spec.specs.Laws.{In}
use Rattle.support_graph.specs.Pending.{IsClosedBut}
use Rattle.support_graph.proofs.Readers.{on_ok}
use Rattle.support_graph.proofs.Reach.{closed_after}
use Rattle.support_graph.proofs.tests.first_edit.Goals as goal

pub edited-requires-clause-closed : goal.edited-requires-clause-closed
edited-requires-clause-closed c = record { cells = λ a m. absurd (subst (In a) c.requires.none m); readers = λ a d m k. absurd (subst (In a) c.requires.none m) }

pub returns : goal.returns
returns c =
    let closed : IsClosedBut c.args.support.now c.args.stale.now (is_inside c.args.changed) = record { cells = λ a m. absurd (subst (In a) c.requires.none m); readers = λ a d m k. absurd (subst (In a) c.requires.none m) } in
    on_ok c.edited.result (closed_after c.args.support.now c.args.stale.now c.edited.new.self (is_inside c.args.changed) (λ _. false) closed) c.edited.ensures.cells
