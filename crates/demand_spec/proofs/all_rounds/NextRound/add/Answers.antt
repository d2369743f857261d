use Rattle.std.proofs.Common.{◌≡◌, OnOk, subst}
use Rattle.cell_values.specs.Order.{entry_at}
use Rattle.demand_spec.specs.Rounds.{put_given}
use Rattle.demand_spec.proofs.all_rounds.NextRound.add.Goals as goal

pub returns-in-Some-clause-known : goal.returns-in-Some-clause-known
returns-in-Some-clause-known c = subst (λ o. OnOk c.put_value.result (entry_at c.put_value.new.known.entries ≡ put_given c.args.at o (entry_at c.args.self.now.known.entries))) c.in-Some.ensures c.put_value.ensures
