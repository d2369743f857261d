use Rattle.std.proofs.Common.{◌≡◌, All, map, ap, subst, ◌∙◌, refl, arith}
use Rattle.std.proofs.lemmas.List.Elements.{All-nil}
use Rattle.std.proofs.lemmas.Result.{err_from_is_err_and}
use Rattle.cell_values.specs.Areas.{numbers_from}
use Rattle.book_save.specs.Rows.{first_long_at, places, saved_row, HaveUtf8}
use Rattle.book_save.proofs.Rowwise.{all_fault, all_short, rows_more, utf8_more}
use Rattle.book_save.proofs.saving.rows_to.Goals as goal

pub loop-above-init : goal.loop-above-init
loop-above-init c = record { rows = rw c.new-saved.ensures.items refl; utf8 = All-nil (HaveUtf8 c.args.book.now.names c.args.book.now.book); short = refl }

pub saved_row-requires-clause-columns : goal.saved_row-requires-clause-columns
saved_row-requires-clause-columns c = c.requires.columns

pub saved_row-requires-clause-some : goal.saved_row-requires-clause-some
saved_row-requires-clause-some c = c.requires.some

pub returns-in_err-row-clause-rows : goal.returns-in_err-row-clause-rows
returns-in_err-row-clause-rows c = let p = err_from_is_err_and c.from_residual.result c.from_residual.ensures.1 in rw p.1 tt

pub returns-in_err-row-clause-utf8 : goal.returns-in_err-row-clause-utf8
returns-in_err-row-clause-utf8 c = let p = err_from_is_err_and c.from_residual.result c.from_residual.ensures.1 in rw p.1 tt

pub returns-in_err-row-clause-short : goal.returns-in_err-row-clause-short
returns-in_err-row-clause-short c = let p = err_from_is_err_and c.from_residual.result c.from_residual.ensures.1 in rw p.1 tt

pub returns-in_err-row-clause-fault : goal.returns-in_err-row-clause-fault
returns-in_err-row-clause-fault c =
    let p = err_from_is_err_and c.from_residual.result c.from_residual.ensures.1 in
    rw (p.1, p.2)
    (all_fault c.args.book.now.names c.args.book.now.book c.args.sheet c.args.columns c.loop-above.above c.args.rows c.in_err-row.field-0.0 c.loop-above-test.true c.loop-above.invariant.short c.in_err-row.ensures.fault)

pub returns-in_err-add_row-clause-rows : goal.returns-in_err-add_row-clause-rows
returns-in_err-add_row-clause-rows c = let p = err_from_is_err_and c.from_residual-in_err-add_row.result c.from_residual-in_err-add_row.ensures.1 in rw p.1 tt

pub returns-in_err-add_row-clause-utf8 : goal.returns-in_err-add_row-clause-utf8
returns-in_err-add_row-clause-utf8 c = let p = err_from_is_err_and c.from_residual-in_err-add_row.result c.from_residual-in_err-add_row.ensures.1 in rw p.1 tt

pub returns-in_err-add_row-clause-short : goal.returns-in_err-add_row-clause-short
returns-in_err-add_row-clause-short c = let p = err_from_is_err_and c.from_residual-in_err-add_row.result c.from_residual-in_err-add_row.ensures.1 in rw p.1 tt

pub returns-in_err-add_row-clause-fault : goal.returns-in_err-add_row-clause-fault
returns-in_err-add_row-clause-fault c = let p = err_from_is_err_and c.from_residual-in_err-add_row.result c.from_residual-in_err-add_row.ensures.1 in rw (p.1, p.2) tt

pub loop-above-preserved : goal.loop-above-preserved
loop-above-preserved c = record {
  rows = rw c.in_ok-add_row.ensures (rows_more _ (saved_row c.args.book.now.names c.args.book.now.book c.args.sheet) c.loop-above.above c.loop-above.saved.items c.in_ok-row.row c.loop-above.invariant.rows c.in_ok-row.ensures.row);
  utf8 = utf8_more c.args.book.now.names c.args.book.now.book c.args.sheet c.args.columns c.loop-above.above c.loop-above.invariant.utf8 c.in_ok-row.ensures.utf8;
  short = all_short c.args.book.now.names c.args.book.now.book c.args.sheet c.args.columns c.loop-above.above c.loop-above.invariant.short c.in_ok-row.ensures.short;
}

pub returns-clause-rows : goal.returns-clause-rows
returns-clause-rows c =
    let a = c.loop-above-test.false in
    let b = c.loop-above.auto.above-end in
    let e : c.loop-above.above ≡ c.args.rows = omega (arith, a, b) in
    c.new-all.ensures ∙ c.loop-above.invariant.rows ∙ ap (λ n. map (saved_row c.args.book.now.names c.args.book.now.book c.args.sheet) (numbers_from 1 n)) (e ∙ c.requires.rows)

pub returns-clause-utf8 : goal.returns-clause-utf8
returns-clause-utf8 c =
    let a = c.loop-above-test.false in
    let b = c.loop-above.auto.above-end in
    let e : c.loop-above.above ≡ c.args.rows = omega (arith, a, b) in
    subst (λ n. All (HaveUtf8 c.args.book.now.names c.args.book.now.book) (places c.args.sheet c.args.columns n)) e c.loop-above.invariant.utf8

pub returns-clause-short : goal.returns-clause-short
returns-clause-short c =
    let a = c.loop-above-test.false in
    let b = c.loop-above.auto.above-end in
    let e : c.args.rows ≡ c.loop-above.above = omega (arith, a, b) in
    ap (λ n. first_long_at c.args.book.now.names c.args.book.now.book (places c.args.sheet c.args.columns n)) e ∙ c.loop-above.invariant.short
