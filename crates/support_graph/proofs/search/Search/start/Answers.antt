use Rattle.std.proofs.Common.{◌∙◌}
use Rattle.support_graph.proofs.Readers.{on_ok}
use Rattle.support_graph.proofs.Reach.{started}
use Rattle.support_graph.proofs.search.Search.start.Goals as goal

pub returns-clause-pending : goal.returns-clause-pending
returns-clause-pending c = on_ok c.visit_readers.result (λ v. v.pending ∙ c.in_ok-visit_cells.ensures.pending) c.visit_readers.ensures

pub returns-clause-search : goal.returns-clause-search
returns-clause-search c =
    on_ok c.visit_readers.result
    (started c.args.support.now c.args.changed c.requires.area c.args.self.now c.visit_cells.new.search c.visit_readers.new.search c.requires.none.0 c.requires.none.1 c.in_ok-visit_cells.ensures) c.visit_readers.ensures
