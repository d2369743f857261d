use Rattle.std.proofs.Common.{Some, OnOk, subst}
use Rattle.std.proofs.lemmas.Result.{on_ok_weaker}
use Rattle.demand_spec.specs.Edits.{Put, IsApplied}
use Rattle.workbook_core.specs.Apart.{Apart}
use Rattle.workbook_core.specs.Held.{content_in, cells_in, SetsHeld}
use Rattle.workbook_core.proofs.Growth.{applied_set}
use Rattle.workbook_core.proofs.apart.CellsApart.put.Goals as goal

pub returns-clause-ok : goal.returns-clause-ok
returns-clause-ok c = subst (λ (w : Apart). OnOk c.set.result (IsApplied (Put c.args.at (Some (content_in w.pool c.args.content))) w.cells (cells_in c.self.inside.pool c.set.new.self))) c.self.view_is
    (on_ok_weaker c.set.result (λ (s : SetsHeld c.args.at (Some c.args.content) c.self.inside.cells c.set.new.self). applied_set c.self.inside.pool c.self.inside.cells c.set.new.self c.args.at (Some c.args.content) s) c.set.ensures.ok)
