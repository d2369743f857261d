use Rattle.std.proofs.Common.{All, subst}
use Rattle.std.specs.Str.{IsUtf8}
use Rattle.workbook_core.proofs.workbook.Workbook.texts.Goals as goal

pub returns-clause-utf8 : goal.returns-clause-utf8
returns-clause-utf8 c = subst (λ w. All IsUtf8 w.book.texts) c.self.view_is c.count-count.ensures.utf8
