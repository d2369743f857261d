use Rattle.std.proofs.Common.{true}
use Rattle.support_graph.specs.Blocks.{same_reader}
use Rattle.support_graph.proofs.Orders.{reader_cmp, is_eq-reader}
use Rattle.support_graph.proofs.Changes.{changes_one}
use Rattle.support_graph.proofs.index.insert_reader.Goals as goal

pub returns-clause-sets : goal.returns-clause-sets
returns-clause-sets c = changes_one reader_cmp same_reader is_eq-reader c.args.reader true true c.args.readers.now.keys c.insert.new.self.keys c.in_ok-insert.ensures.updates.0
