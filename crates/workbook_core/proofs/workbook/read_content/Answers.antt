use Rattle.std.proofs.Common.{subst}
use Rattle.workbook_core.specs.Edits.{Puts}
use Rattle.workbook_core.proofs.workbook.read_content.Goals as goal

pub returns-in-Formula-clause-read : goal.returns-in-Formula-clause-read
returns-in-Formula-clause-read c = λ held h. c.read_shared.ensures.read held (subst (λ r. Puts c.args.sheets.now c.args.texts.now c.args.at r held) c.in-Formula.is h)
