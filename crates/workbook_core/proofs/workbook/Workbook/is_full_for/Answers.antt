use Rattle.std.proofs.Common.{◌∙◌}
use Rattle.workbook_core.proofs.WithNumber.{full_told}
use Rattle.workbook_core.proofs.workbook.Workbook.is_full_for.Goals as goal

pub returns : goal.returns
returns c = λ n. c.is_full.ensures ∙ full_told c.args.self.now c.args.at n c.content.result c.count.result c.content.ensures.workbook c.content.ensures.content c.count.ensures.count
