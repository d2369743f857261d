use Rattle.cycle_finder.proofs.Told.{nonempty_right}
use Rattle.cycle_finder.proofs.tests.tell_ring.Goals as goal

pub returns-in-len1-up : goal.returns-in-len1-up
returns-in-len1-up g c = nonempty_right c.args.book.now.book c.args.ring.now _ c.args.told.now.entries c.mark_ring.new.told.entries c.requires c.in-len1-up.len_at_least c.ask_ring.ensures c.mark_ring.ensures
