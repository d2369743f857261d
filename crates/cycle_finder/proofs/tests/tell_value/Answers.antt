use Rattle.std.proofs.Common.{Some, ap, ◌∙◌}
use Rattle.cycle_finder.proofs.Told.{value_right}
use Rattle.cycle_finder.proofs.tests.tell_value.Goals as goal

pub returns : goal.returns
returns g c = value_right c.args.book.now.book c.args.told.now.entries c.tell.new.told.entries c.args.cell c.in-Val.value c.requires (c.asked.ensures ∙ ap Some c.in-Val.is) c.tell.ensures.told
