use Rattle.std.proofs.Common.{◌≡◌, List, sym, subst}
use Rattle.std.specs.Prelude.{◌↔◌}
use Rattle.cell_values.specs.declared.address.Addr.{Addr}
use Rattle.cell_values.specs.Order.{addresses}
use Rattle.demand_spec.specs.Laws.{In}
use Rattle.support_graph.specs.Support.{CellAreas, IsCell}
use Rattle.support_graph.proofs.Readers.{on_ok}
use Rattle.support_graph.proofs.Reach.{cell_in, cell_listed}
use Rattle.support_graph.proofs.tests.fill.Goals as goal

all_cells : (s : CellAreas) (new : List Addr) → new ≡ addresses s → (c : Addr) → In c new ↔ IsCell s c
all_cells s new e c = subst (λ (xs : List Addr). In c xs ↔ IsCell s c) (sym e) (λ (m : In c (addresses s)). cell_listed c s m, λ (m : IsCell s c). cell_in c s m)

pub returns : goal.returns
returns c = on_ok c.fill.result (all_cells c.args.support.now c.fill.new.self) c.fill.ensures.ok
