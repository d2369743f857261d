use Rattle.std.proofs.Common.{length, sym, subst}
use Rattle.shared_expressions.specs.Stored.{AllBelow}
use Rattle.shared_expressions.proofs.Entries.{all_below_push}
use Rattle.shared_expressions.proofs.store.push_number.Goals as goal

pub returns-clause-below : goal.returns-clause-below
returns-clause-below c = subst (AllBelow (length c.args.store.now.entries.items)) (sym c.in_ok-push.ensures.items) (all_below_push (length c.args.store.now.entries.items) c.args.x c.args.numbers.now.items c.requires.below c.requires.there)
