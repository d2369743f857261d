use Rattle.std.proofs.Common.{◌∙◌, ap, sym, not, ◌||◌}
use Rattle.support_graph.specs.Pending.{among}
use Rattle.recalculation.proofs.Seen.{held_is_among}
use Rattle.recalculation.proofs.progress.Progress.is_pending.Goals as goal

pub returns-else-not-self : goal.returns-else-not-self
returns-else-not-self c =
    held_is_among c.args.self.now.stale c.args.at c.holds.result c.holds.ensures
    ∙ ap (λ q. not q || among c.args.self.now.stale c.args.at) (sym c.if-not-self.false)
