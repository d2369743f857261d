use Rattle.std.proofs.Common.{◌≤◌, length, subst, arith}
use Rattle.std.proofs.lemmas.List.{drop_all}
use Rattle.sheet_loading.proofs.Filling.{Fills, all_filled, fills_next}
use Rattle.sheet_loading.proofs.loader.fill_workbook.Goals as goal

pub loop-at-preserved : goal.loop-at-preserved
loop-at-preserved c =
    fills_next c.args.names c.args.texts c.args.fields.now c.loop-at.at-index c.loop-at-item.result c.loop-at.workbook c.put_field.new.workbook c.loop-at-test.true c.loop-at-item.is c.loop-at.invariant
    c.in_ok-put_field.ensures.cells c.in_ok-put_field.ensures.texts c.put_field.ensures.names c.in_ok-put_field.ensures.order

pub returns-clause-cells : goal.returns-clause-cells
returns-clause-cells c =
    let n : length c.args.fields.now ≤ c.loop-at.at-index = omega (arith, c.loop-at-test.false) in
    all_filled c.args.names c.args.texts c.args.fields.now c.loop-at.workbook
    (subst (λ rest. Fills c.args.names c.args.texts c.args.fields.now rest c.loop-at.workbook) (drop_all c.loop-at.at-index c.args.fields.now n) c.loop-at.invariant)
