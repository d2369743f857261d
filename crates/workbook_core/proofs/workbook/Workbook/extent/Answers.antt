use Rattle.std.proofs.Common.{◌≡◌, [], subst}
use Rattle.std.proofs.lemmas.Option.{IfSome_then}
use Rattle.workbook_core.specs.Books.{extent_in}
use Rattle.workbook_core.specs.Held.{cells_in}
use Rattle.workbook_core.proofs.Firsts.{extent_is}
use Rattle.workbook_core.proofs.Growth.{on_sheets}
use Rattle.workbook_core.proofs.Told.{extent_same, empty_same, if_none_then}
use Rattle.workbook_core.proofs.workbook.Workbook.extent.Goals as goal

pub extent-requires : goal.extent-requires
extent-requires c = on_sheets c.self.inside.cells c.self.inside.texts c.self.inside.sheets c.self.inside.pool c.self.invariant

pub returns : goal.returns
returns c = subst (λ w. c.extent.result ≡ extent_in c.args.sheet w.book.cells) c.self.view_is
    (extent_is (cells_in c.self.inside.pool c.self.inside.cells) c.args.sheet (λ a x e. (c.self.invariant.workbook.cells a x e).on_sheet) c.extent.result
    (IfSome_then c.extent.result c.extent.ensures.some (λ last h. extent_same [] c.self.inside.pool c.self.inside.cells c.args.sheet last h))
    (if_none_then c.extent.result c.extent.ensures.none (λ h. empty_same [] c.self.inside.pool c.self.inside.cells c.args.sheet h)))
