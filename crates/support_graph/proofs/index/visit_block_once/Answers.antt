use Rattle.std.proofs.Common.{◌∙◌, sym}
use Rattle.support_graph.proofs.Readers.{on_ok}
use Rattle.support_graph.proofs.Done.{one_done, done_before}
use Rattle.support_graph.proofs.index.visit_block_once.Goals as goal

pub returns-then-branch-clause-done : goal.returns-then-branch-clause-done
returns-then-branch-clause-done c =
    on_ok c.visit_blocks.result (one_done c.args.index.now.blocks.keys c.args.index.now.readers.keys c.args.block c.args.done.now.keys c.insert.new.self.keys c.args.search.now c.visit_blocks.new.search c.in_ok-insert.ensures.updates.0 c.requires.done) c.visit_blocks.ensures

pub returns-else-branch-clause-visits : goal.returns-else-branch-clause-visits
returns-else-branch-clause-visits c = done_before c.args.index.now.blocks.keys c.args.index.now.readers.keys c.args.block c.args.done.now.keys c.args.search.now (sym c.if-branch.false ∙ c.in_ok-insert.ensures.added) c.requires.done
