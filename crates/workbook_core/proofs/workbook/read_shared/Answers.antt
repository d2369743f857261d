use Rattle.std.proofs.Common.{Some, subst, sym, ap, ◌∙◌}
use Rattle.std.proofs.lemmas.Result.{err_from_is_err_and}
use Rattle.demand_spec.specs.Book.{Content}
use Rattle.formula_grammar.specs.Reading.{Means, HasFault}
use Rattle.formula_tokens.specs.Tokens.{with_literals}
use Rattle.workbook_core.specs.Faults.{edit_fault_of}
use Rattle.workbook_core.proofs.Puts.{this_fault}
use Rattle.workbook_core.proofs.workbook.read_shared.Goals as goal

pub returns-in_err-tree-clause-refused : goal.returns-in_err-tree-clause-refused
returns-in_err-tree-clause-refused c = λ place n h.
    let p = err_from_is_err_and c.from_residual.result c.from_residual.ensures.1 in
    let known : HasFault c.args.sheets.now (with_literals c.args.sheets.now c.args.texts.now c.as_str.result.now) c.as_str.result.now place n = subst (λ t. HasFault c.args.sheets.now (with_literals c.args.sheets.now c.args.texts.now t) t place n) (sym c.as_str.ensures) h in
    rw (p.1, p.2) (this_fault place n c.in_err-tree.field-0.0 (c.in_err-tree.ensures.refused place n known))

pub returns-in_err-tree-clause-read : goal.returns-in_err-tree-clause-read
returns-in_err-tree-clause-read c = λ held m.
    let p = err_from_is_err_and c.from_residual.result c.from_residual.ensures.1 in
    let known : Means c.args.sheets.now (with_literals c.args.sheets.now c.args.texts.now c.as_str.result.now) c.args.at c.as_str.result.now m.0 = subst (λ t. Means c.args.sheets.now (with_literals c.args.sheets.now c.args.texts.now t) c.args.at t m.0) (sym c.as_str.ensures) m.1 in
    rw (p.1, p.2) (ap edit_fault_of (c.in_err-tree.ensures.read m.0 known))

pub returns-clause-refused : goal.returns-clause-refused
returns-clause-refused c = λ place n h. c.in_ok-tree.ensures.refused place n (subst (λ t. HasFault c.args.sheets.now (with_literals c.args.sheets.now c.args.texts.now t) t place n) (sym c.as_str.ensures) h)

pub returns-clause-read : goal.returns-clause-read
returns-clause-read c = λ held m.
    let known : Means c.args.sheets.now (with_literals c.args.sheets.now c.args.texts.now c.as_str.result.now) c.args.at c.as_str.result.now m.0 = subst (λ t. Means c.args.sheets.now (with_literals c.args.sheets.now c.args.texts.now t) c.args.at t m.0) (sym c.as_str.ensures) m.1 in
    ap (λ e. Some (Content.Formula e)) (c.in_ok-id.ensures.ok.same ∙ c.in_ok-tree.ensures.read m.0 known) ∙ sym m.2
