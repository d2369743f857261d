use Rattle.std.proofs.Common.{None, Some, ap, sym, ◌∙◌, refl}
use Rattle.std.proofs.lemmas.Result.{IfErr-weaker, IfOk-weaker}
use Rattle.cell_values.specs.Order.{entry_at}
use Rattle.demand_spec.specs.Book.{Content}
use Rattle.workbook_core.specs.declared.Content.{Content as Held}
use Rattle.book_save.proofs.Longs.{always_short, cell_is, found_none, found_some, no_memory, short_none, short_some}
use Rattle.book_save.proofs.Numbers.{number_passed}
use Rattle.book_save.proofs.fields.saved_cell.Goals as goal

pub text_field-requires : goal.text_field-requires
text_field-requires c = (c.content.ensures.workbook.cells c.args.at (Content.Text c.in-Some-Text.id) (found_some c.args.book.now.pool c.content.result (entry_at c.args.book.now.book.cells c.args.at) (Held.Text c.in-Some-Text.id) c.content.ensures.content (c.in-Some-Text.is ∙ ap Some c.in-Some-Text.field-0-is))).texts

pub formula_field-requires-clause-workbook : goal.formula_field-requires-clause-workbook
formula_field-requires-clause-workbook c = c.content.ensures.workbook

pub formula_field-requires-clause-formula : goal.formula_field-requires-clause-formula
formula_field-requires-clause-formula c = found_some c.args.book.now.pool c.content.result (entry_at c.args.book.now.book.cells c.args.at) (Held.Formula c.in-Some-Formula.id) c.content.ensures.content (c.in-Some-Formula.is ∙ ap Some c.in-Some-Formula.field-0-is)

pub returns-in-None-clause-field : goal.returns-in-None-clause-field
returns-in-None-clause-field c = c.new.ensures.bytes ∙ sym (cell_is c.args.book.now.names c.args.book.now.book c.args.at None (found_none c.args.book.now.pool c.content.result (entry_at c.args.book.now.book.cells c.args.at) c.content.ensures.content c.in-None.is))

pub returns-in-None-clause-short : goal.returns-in-None-clause-short
returns-in-None-clause-short c = short_none c.args.book.now.names c.args.book.now.book c.args.at (found_none c.args.book.now.pool c.content.result (entry_at c.args.book.now.book.cells c.args.at) c.content.ensures.content c.in-None.is)

pub returns-in-Some-Number-clause-field : goal.returns-in-Some-Number-clause-field
returns-in-Some-Number-clause-field c =
    let e = found_some c.args.book.now.pool c.content.result (entry_at c.args.book.now.book.cells c.args.at) (Held.Number c.in-Some-Number.number) c.content.ensures.content (c.in-Some-Number.is ∙ ap Some c.in-Some-Number.field-0-is) in
    IfOk-weaker c.number_field.result _ _ (λ field is. is ∙ number_passed c.in-Some-Number.number (c.content.ensures.workbook.cells c.args.at (Content.Number c.in-Some-Number.number) e).fits ∙ sym (cell_is c.args.book.now.names c.args.book.now.book c.args.at (Some (Content.Number c.in-Some-Number.number)) e)) c.number_field.ensures.field

pub returns-in-Some-Number-clause-short : goal.returns-in-Some-Number-clause-short
returns-in-Some-Number-clause-short c =
    let e = found_some c.args.book.now.pool c.content.result (entry_at c.args.book.now.book.cells c.args.at) (Held.Number c.in-Some-Number.number) c.content.ensures.content (c.in-Some-Number.is ∙ ap Some c.in-Some-Number.field-0-is) in
    always_short c.number_field.result (short_some c.args.book.now.names c.args.book.now.book c.args.at (Content.Number c.in-Some-Number.number) e refl)

pub returns-in-Some-Number-clause-fault : goal.returns-in-Some-Number-clause-fault
returns-in-Some-Number-clause-fault c = IfErr-weaker c.number_field.result _ _ (λ fault is. no_memory _ fault is) c.number_field.ensures.err

pub returns-in-Some-Text-clause-field : goal.returns-in-Some-Text-clause-field
returns-in-Some-Text-clause-field c =
    let e = found_some c.args.book.now.pool c.content.result (entry_at c.args.book.now.book.cells c.args.at) (Held.Text c.in-Some-Text.id) c.content.ensures.content (c.in-Some-Text.is ∙ ap Some c.in-Some-Text.field-0-is) in
    IfOk-weaker c.text_field.result _ _ (λ field is. is ∙ sym (cell_is c.args.book.now.names c.args.book.now.book c.args.at (Some (Content.Text c.in-Some-Text.id)) e)) c.text_field.ensures.field

pub returns-in-Some-Text-clause-short : goal.returns-in-Some-Text-clause-short
returns-in-Some-Text-clause-short c =
    let e = found_some c.args.book.now.pool c.content.result (entry_at c.args.book.now.book.cells c.args.at) (Held.Text c.in-Some-Text.id) c.content.ensures.content (c.in-Some-Text.is ∙ ap Some c.in-Some-Text.field-0-is) in
    always_short c.text_field.result (short_some c.args.book.now.names c.args.book.now.book c.args.at (Content.Text c.in-Some-Text.id) e refl)

pub returns-in-Some-Text-clause-fault : goal.returns-in-Some-Text-clause-fault
returns-in-Some-Text-clause-fault c = IfErr-weaker c.text_field.result _ _ (λ fault is. no_memory _ fault is) c.text_field.ensures.err

pub returns-in-Some-Bool-clause-field : goal.returns-in-Some-Bool-clause-field
returns-in-Some-Bool-clause-field c =
    let e = found_some c.args.book.now.pool c.content.result (entry_at c.args.book.now.book.cells c.args.at) (Held.Bool c.in-Some-Bool.truth) c.content.ensures.content (c.in-Some-Bool.is ∙ ap Some c.in-Some-Bool.field-0-is) in
    IfOk-weaker c.truth_field.result _ _ (λ field is. is ∙ sym (cell_is c.args.book.now.names c.args.book.now.book c.args.at (Some (Content.Truth c.in-Some-Bool.truth)) e)) c.truth_field.ensures.field

pub returns-in-Some-Bool-clause-short : goal.returns-in-Some-Bool-clause-short
returns-in-Some-Bool-clause-short c =
    let e = found_some c.args.book.now.pool c.content.result (entry_at c.args.book.now.book.cells c.args.at) (Held.Bool c.in-Some-Bool.truth) c.content.ensures.content (c.in-Some-Bool.is ∙ ap Some c.in-Some-Bool.field-0-is) in
    always_short c.truth_field.result (short_some c.args.book.now.names c.args.book.now.book c.args.at (Content.Truth c.in-Some-Bool.truth) e refl)

pub returns-in-Some-Bool-clause-fault : goal.returns-in-Some-Bool-clause-fault
returns-in-Some-Bool-clause-fault c = IfErr-weaker c.truth_field.result _ _ (λ fault is. no_memory _ fault is) c.truth_field.ensures.err

pub returns-in-Some-Formula-clause-field : goal.returns-in-Some-Formula-clause-field
returns-in-Some-Formula-clause-field c = c.formula_field.ensures.field

pub returns-in-Some-Formula-clause-short : goal.returns-in-Some-Formula-clause-short
returns-in-Some-Formula-clause-short c = c.formula_field.ensures.short

pub returns-in-Some-Formula-clause-fault : goal.returns-in-Some-Formula-clause-fault
returns-in-Some-Formula-clause-fault c = c.formula_field.ensures.fault
