use Rattle.std.proofs.Common.{OnOk, subst, sym, arith}
use Rattle.cell_values.specs.Order.{InOrder, addresses}
use Rattle.support_graph.specs.Support.{CellAreas, Reads, listed}
use Rattle.support_graph.specs.Steps.{Visits, AreRead}
use Rattle.support_graph.proofs.Columns.{column_visits}
use Rattle.support_graph.proofs.Readings.{keys_end}
use Rattle.support_graph.proofs.Readers.{none_reads, on_ok}
use Rattle.support_graph.proofs.Done.{seen_read, read_seen}
use Rattle.support_graph.proofs.support.Support.visit_dependents.Goals as goal

pub visit_row-requires-clause-done : goal.visit_row-requires-clause-done
visit_row-requires-clause-done c = read_seen (listed c.self.inside.cells.entries) c.self.inside.index.blocks.keys c.self.inside.index.readers.keys c.self.invariant c.args.done.now.keys c.args.search.now (subst (λ (s : CellAreas). AreRead s c.args.done.now.keys c.args.search.now) (sym c.self.view_is) c.requires)

pub visit_row-requires-clause-ends : goal.visit_row-requires-clause-ends
visit_row-requires-clause-ends c = keys_end (listed c.self.inside.cells.entries) c.self.inside.index.blocks.keys c.self.inside.index.readers.keys c.self.invariant

pub returns-then-addr-gt-LAST_ROW-clause-visits : goal.returns-then-addr-gt-LAST_ROW-clause-visits
returns-then-addr-gt-LAST_ROW-clause-visits c =
    subst (λ (s : CellAreas). Visits (λ x. Reads s x c.args.addr) c.args.search.now c.args.search.now) c.self.view_is
    (none_reads (listed c.self.inside.cells.entries) c.self.inside.index.blocks.keys c.self.inside.index.readers.keys c.self.invariant c.args.addr c.if-addr-gt-LAST_ROW.true c.args.search.now)

pub returns-then-addr-gt-LAST_ROW-clause-in_order : goal.returns-then-addr-gt-LAST_ROW-clause-in_order
returns-then-addr-gt-LAST_ROW-clause-in_order c = subst (λ (s : CellAreas). InOrder (addresses s)) c.self.view_is c.self.invariant.in_order

pub returns-clause-visits : goal.returns-clause-visits
returns-clause-visits c =
    let a = c.args.addr in
    subst (λ (s : CellAreas). OnOk c.visit_row.result (Visits (λ x. Reads s x a) c.args.search.now c.visit_row.new.search)) c.self.view_is
    (on_ok c.visit_row.result (column_visits (listed c.self.inside.cells.entries) c.self.inside.index.blocks.keys c.self.inside.index.readers.keys c.self.invariant a.sheet a.col a.row a.row (omega arith) c.args.search.now c.visit_row.new.search) c.visit_row.ensures.visits)

pub returns-clause-done : goal.returns-clause-done
returns-clause-done c =
    subst (λ (s : CellAreas). OnOk c.visit_row.result (AreRead s c.visit_row.new.done.keys c.visit_row.new.search)) c.self.view_is
    (on_ok c.visit_row.result (seen_read (listed c.self.inside.cells.entries) c.self.inside.index.blocks.keys c.self.inside.index.readers.keys c.self.invariant c.visit_row.new.done.keys c.visit_row.new.search) c.visit_row.ensures.done)

pub returns-clause-in_order : goal.returns-clause-in_order
returns-clause-in_order c = subst (λ (s : CellAreas). InOrder (addresses s)) c.self.view_is c.self.invariant.in_order
