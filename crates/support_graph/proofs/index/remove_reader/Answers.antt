use Rattle.std.proofs.Common.{true, false}
use Rattle.support_graph.specs.Blocks.{same_reader}
use Rattle.support_graph.proofs.Orders.{reader_cmp, is_eq-reader}
use Rattle.support_graph.proofs.Changes.{changes_one}
use Rattle.support_graph.proofs.index.remove_reader.Goals as goal

pub returns : goal.returns
returns c = changes_one reader_cmp same_reader is_eq-reader c.args.reader false true c.args.readers.now.keys c.remove.new.self.keys c.remove.ensures.updates.0
