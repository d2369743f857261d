use Rattle.demand_spec.proofs.KnownValues.{put_is}
use Rattle.demand_spec.proofs.all_rounds.put_value.Goals as goal

pub returns : goal.returns
returns c = put_is c.args.known.now.entries c.insert.new.self.entries c.args.at c.args.value c.in_ok-insert.ensures.updates.0
