use Rattle.std.proofs.Common.{◌≤◌, length, subst, arith}
use Rattle.std.proofs.lemmas.List.{drop_all}
use Rattle.std.proofs.lemmas.Result.{err_from_is_err_and}
use Rattle.sheet_loading.proofs.Checked.{ReadOn, all_read, one_refused, read_next}
use Rattle.sheet_loading.proofs.fields.check_formulas.Goals as goal

pub returns-in_err-check_formula-clause-fault : goal.returns-in_err-check_formula-clause-fault
returns-in_err-check_formula-clause-fault c =
    let p = err_from_is_err_and c.from_residual.result c.from_residual.ensures.1 in
    rw (p.1, p.2) (one_refused c.args.names.now c.args.texts.now c.args.fields.now c.loop-at.texts c.loop-at.at-index c.loop-at-item.result c.in_err-check_formula.field-0.0
    c.loop-at-test.true c.loop-at-item.is c.loop-at.invariant c.in_err-check_formula.ensures.fault)

pub loop-at-preserved : goal.loop-at-preserved
loop-at-preserved c =
    read_next c.args.names.now c.args.texts.now c.args.fields.now c.loop-at.texts c.check_formula.new.texts c.loop-at.at-index c.loop-at-item.result
    c.loop-at-test.true c.loop-at-item.is c.loop-at.invariant c.in_ok-check_formula.ensures.ok c.check_formula.ensures.kept

pub returns-clause-ok : goal.returns-clause-ok
returns-clause-ok c =
    let n : length c.args.fields.now ≤ c.loop-at.at-index = omega (arith, c.loop-at-test.false) in
    all_read c.args.names.now c.args.texts.now c.args.fields.now c.loop-at.texts
    (subst (ReadOn c.args.names.now c.args.texts.now c.args.fields.now c.loop-at.texts) (drop_all c.loop-at.at-index c.args.fields.now n) c.loop-at.invariant)
