use Rattle.std.proofs.Common.{◌≡◌, ◌+◌, ap, ◌∙◌, refl, arith}
use Rattle.std.proofs.lemmas.Result.{err_from_is_err_and}
use Rattle.book_save.specs.Rows.{first_long_at, row_fields, row_places}
use Rattle.book_save.proofs.Rowwise.{fields_more, row_fault, row_short}
use Rattle.book_save.proofs.saving.row_fields.Goals as goal

pub loop-before-init : goal.loop-before-init
loop-before-init c = record { fields = rw c.new-fields.ensures.items refl; count = c.new-fields.ensures.len; short = refl }

pub returns-in_err-field-clause-fields : goal.returns-in_err-field-clause-fields
returns-in_err-field-clause-fields c = let p = err_from_is_err_and c.from_residual.result c.from_residual.ensures.1 in rw p.1 tt

pub returns-in_err-field-clause-count : goal.returns-in_err-field-clause-count
returns-in_err-field-clause-count c = let p = err_from_is_err_and c.from_residual.result c.from_residual.ensures.1 in rw p.1 tt

pub returns-in_err-field-clause-short : goal.returns-in_err-field-clause-short
returns-in_err-field-clause-short c = let p = err_from_is_err_and c.from_residual.result c.from_residual.ensures.1 in rw p.1 tt

pub returns-in_err-field-clause-fault : goal.returns-in_err-field-clause-fault
returns-in_err-field-clause-fault c =
    let p = err_from_is_err_and c.from_residual.result c.from_residual.ensures.1 in
    rw (p.1, p.2)
    (row_fault c.args.book.now.names c.args.book.now.book c.args.sheet c.args.row c.loop-before.before c.args.columns c.in_err-field.field-0.0 c.loop-before-test.true c.loop-before.invariant.short c.in_err-field.ensures.fault)

pub returns-in_err-add_field-clause-fields : goal.returns-in_err-add_field-clause-fields
returns-in_err-add_field-clause-fields c = let p = err_from_is_err_and c.from_residual-in_err-add_field.result c.from_residual-in_err-add_field.ensures.1 in rw p.1 tt

pub returns-in_err-add_field-clause-count : goal.returns-in_err-add_field-clause-count
returns-in_err-add_field-clause-count c = let p = err_from_is_err_and c.from_residual-in_err-add_field.result c.from_residual-in_err-add_field.ensures.1 in rw p.1 tt

pub returns-in_err-add_field-clause-short : goal.returns-in_err-add_field-clause-short
returns-in_err-add_field-clause-short c = let p = err_from_is_err_and c.from_residual-in_err-add_field.result c.from_residual-in_err-add_field.ensures.1 in rw p.1 tt

pub returns-in_err-add_field-clause-fault : goal.returns-in_err-add_field-clause-fault
returns-in_err-add_field-clause-fault c = let p = err_from_is_err_and c.from_residual-in_err-add_field.result c.from_residual-in_err-add_field.ensures.1 in rw (p.1, p.2) tt

pub loop-before-preserved : goal.loop-before-preserved
loop-before-preserved c = record {
  fields = rw c.in_ok-add_field.ensures.items (fields_more _ c.args.book.now.names c.args.book.now.book c.args.sheet c.args.row c.loop-before.before c.loop-before.fields.items c.in_ok-field.field c.loop-before.invariant.fields c.in_ok-field.ensures.field);
  count = c.in_ok-add_field.ensures.count ∙ ap (λ k. k + 1) c.loop-before.invariant.count;
  short = row_short c.args.book.now.names c.args.book.now.book c.args.sheet c.args.row c.loop-before.before c.loop-before.invariant.short c.in_ok-field.ensures.short;
}

pub returns-clause-fields : goal.returns-clause-fields
returns-clause-fields c =
    let a = c.loop-before-test.false in
    let b = c.loop-before.auto.before-end in
    let e : c.loop-before.before ≡ c.args.columns = omega (arith, a, b) in
    c.loop-before.invariant.fields ∙ ap (λ n. row_fields c.args.book.now.names c.args.book.now.book c.args.sheet n c.args.row) e

pub returns-clause-count : goal.returns-clause-count
returns-clause-count c =
    let a = c.loop-before-test.false in
    let b = c.loop-before.auto.before-end in
    let k = c.loop-before.invariant.count in
    omega (arith, a, b, k)

pub returns-clause-short : goal.returns-clause-short
returns-clause-short c =
    let a = c.loop-before-test.false in
    let b = c.loop-before.auto.before-end in
    let e : c.args.columns ≡ c.loop-before.before = omega (arith, a, b) in
    ap (λ n. first_long_at c.args.book.now.names c.args.book.now.book (row_places c.args.sheet n c.args.row)) e ∙ c.loop-before.invariant.short
