use Rattle.shared_expressions.proofs.Depths.{depth_within_nodes}
use Rattle.shared_expressions.proofs.law_depth_within_nodes.Goals as goal

pub returns : goal.returns
returns c = depth_within_nodes
