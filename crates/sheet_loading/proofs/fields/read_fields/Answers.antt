use Rattle.std.proofs.Common.{List, subst, sym}
use Rattle.std.specs.List.{All}
use Rattle.std.proofs.lemmas.Result.{err_from_is_err_and}
use Rattle.cell_values.specs.declared.address.Addr.{Addr}
use Rattle.cell_values.specs.declared.fields.Raw.{Raw}
use Rattle.formula_grammar.specs.Reading.{Reading, IsReading}
use Rattle.workbook_core.specs.Edits.{IsField}
use Rattle.sheet_loading.specs.Contents.{fields_read}
use Rattle.sheet_loading.specs.Faults.{IsLoadFault}
use Rattle.sheet_loading.specs.Steps.{ReadsFields}
use Rattle.sheet_loading.proofs.Checked.{field_refused, formula_refused, sheet_reads}
use Rattle.sheet_loading.proofs.Placed.{all_fields}
use Rattle.sheet_loading.proofs.fields.read_fields.Goals as goal

pub returns-in_err-fields-clause-fault : goal.returns-in_err-fields-clause-fault
returns-in_err-fields-clause-fault c =
    let p = err_from_is_err_and c.from_residual.result c.from_residual.ensures.1 in
    rw (p.1, p.2) (λ read right. field_refused c.in_err-fields.field-0.0 c.args.names.now c.args.sheet c.args.texts.now c.args.room c.args.bytes.now c.in_err-fields.ensures.fault read)

pub check_formulas-requires-clause-fields : goal.check_formulas-requires-clause-fields
check_formulas-requires-clause-fields c =
    subst (λ (cs : List (Addr × Raw)). All (λ f. IsField f.1) cs) (sym c.deref.ensures.value)
    (all_fields c.args.sheet c.args.texts.now c.read_sheet.new.texts c.in_ok-fields.fields.items c.args.bytes.now c.in_ok-fields.ensures.cells)

pub returns-in_err-check_formulas-clause-fault : goal.returns-in_err-check_formulas-clause-fault
returns-in_err-check_formulas-clause-fault c =
    let p = err_from_is_err_and c.from_residual-in_err-check_formulas.result c.from_residual-in_err-check_formulas.ensures.1 in
    rw (p.1, p.2) (formula_refused c.in_err-check_formulas.field-0.0 c.args.names.now c.args.sheet c.args.texts.now c.read_sheet.new.texts c.args.room c.args.bytes.now c.in_ok-fields.fields.items
    c.in_ok-fields.ensures.no_fault c.in_ok-fields.ensures.cells
    (subst (λ (cs : List (Addr × Raw)). (read : Reading) → IsReading c.args.names.now read → IsLoadFault c.in_err-check_formulas.field-0.0 (fields_read read c.args.names.now c.read_sheet.new.texts cs)) c.deref.ensures.value
    c.in_err-check_formulas.ensures.fault))

pub returns-clause-ok : goal.returns-clause-ok
returns-clause-ok c =
    sheet_reads c.args.names.now c.args.sheet c.args.texts.now c.read_sheet.new.texts c.check_formulas.new.texts c.args.room c.args.bytes.now c.in_ok-fields.fields.items
    c.in_ok-fields.ensures.no_fault c.in_ok-fields.ensures.cells c.in_ok-fields.ensures.on_sheet c.in_ok-fields.ensures.in_order c.in_ok-fields.ensures.there c.check_formulas.ensures.kept
    (subst (λ (cs : List (Addr × Raw)). ReadsFields c.args.names.now c.read_sheet.new.texts c.check_formulas.new.texts cs) c.deref.ensures.value c.in_ok-check_formulas.ensures.ok)
