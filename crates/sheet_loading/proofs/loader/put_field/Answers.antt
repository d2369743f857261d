use Rattle.std.proofs.Common.{◌∙◌, subst}
use Rattle.workbook_core.specs.Edits.{IsPutFault}
use Rattle.sheet_loading.proofs.Filling.{no_fault, no_more_texts, not_too_large, put_is}
use Rattle.sheet_loading.proofs.loader.put_field.Goals as goal

pub unreachable-requires : goal.unreachable-requires
unreachable-requires c =
    no_fault c.args.workbook.now.names c.args.workbook.now.book.texts c.args.at c.args.raw.now c.in-Err-BadFormula.field-0-0 c.in-Err-BadFormula.field-0-1 c.requires.tree
    (subst (IsPutFault c.args.workbook.now.names c.args.workbook.now.book.texts c.args.workbook.now.book.cells c.args.at c.args.raw.now) c.in-Err-BadFormula.field-0-is c.in-Err-BadFormula.ensures.fault)

pub unreachable-requires-in-Err-TooManyCells : goal.unreachable-requires-in-Err-TooManyCells
unreachable-requires-in-Err-TooManyCells c =
    let found = subst (IsPutFault c.args.workbook.now.names c.args.workbook.now.book.texts c.args.workbook.now.book.cells c.args.at c.args.raw.now) c.in-Err-TooManyCells.field-0-is c.in-Err-TooManyCells.ensures.fault in
    not_too_large c.args.at found.0 c.args.workbook.now.book.cells c.requires.order c.requires.after c.requires.room found.2

pub returns-in-Ok-clause-cells : goal.returns-in-Ok-clause-cells
returns-in-Ok-clause-cells c =
    let put = c.in-Ok.ensures.ok in
    put_is c.args.workbook.now.names c.args.workbook.now.book.texts c.args.at c.args.raw.now put.0 c.args.workbook.now.book.cells c.put.new.self.book.cells c.requires.order c.requires.after c.requires.tree put.1 put.2

pub returns-in-Ok-clause-texts : goal.returns-in-Ok-clause-texts
returns-in-Ok-clause-texts c = c.in-Ok.ensures.texts ∙ no_more_texts c.args.workbook.now.names c.args.workbook.now.book.texts c.args.at c.args.raw.now c.requires.tree
