use Rattle.std.proofs.Common.{Some, ap, ◌∙◌}
use Rattle.cycle_finder.proofs.Told.{lead_right}
use Rattle.cycle_finder.proofs.tests.tell_lead.Goals as goal

pub returns : goal.returns
returns g c = lead_right c.args.book.now.book c.args.told.now.entries c.tell.new.told.entries c.args.cell c.in-Needs.need c.mark_of-mark.result c.requires (c.asked.ensures ∙ ap Some c.in-Needs.is) c.tell.ensures.absent c.mark_of-mark.ensures.there c.mark_of-mark.ensures.mark c.tell.ensures.told
