use Rattle.shared_expressions.proofs.Named.{mentions_are_areas}
use Rattle.shared_expressions.proofs.law_mentions_are_areas.Goals as goal

pub returns : goal.returns
returns c = mentions_are_areas
