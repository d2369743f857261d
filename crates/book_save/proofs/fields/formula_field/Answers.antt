use Rattle.std.proofs.Common.{ap, ◌∙◌}
use Rattle.std.proofs.lemmas.Result.{IfErr-weaker, IfOk-weaker, err_from_is_err_and, on_ok_weaker}
use Rattle.shared_expressions.specs.Trees.{tree_at}
use Rattle.book_save.proofs.Longs.{known_sheets, known_texts, long_is, printed_is, short_is}
use Rattle.book_save.proofs.fields.formula_field.Goals as goal

pub print_formula-requires-clause-texts : goal.print_formula-requires-clause-texts
print_formula-requires-clause-texts c =
    known_texts c.args.book.now c.args.at (tree_at c.args.book.now.pool c.args.id) c.requires.workbook c.requires.formula c.texts.result.now _ c.texts.ensures.texts (c.in_ok-tree.ensures ∙ ap (λ p. tree_at p c.args.id) c.pool.ensures)

pub print_formula-requires-clause-sheets : goal.print_formula-requires-clause-sheets
print_formula-requires-clause-sheets c =
    known_sheets c.args.book.now c.args.at (tree_at c.args.book.now.pool c.args.id) c.requires.workbook c.requires.formula c.sheets.result.now _ c.sheets.ensures.names (c.in_ok-tree.ensures ∙ ap (λ p. tree_at p c.args.id) c.pool.ensures)

pub returns-in_err-tree-clause-field : goal.returns-in_err-tree-clause-field
returns-in_err-tree-clause-field c = let p = err_from_is_err_and c.from_residual.result c.from_residual.ensures.1 in rw p.1 tt

pub returns-in_err-tree-clause-short : goal.returns-in_err-tree-clause-short
returns-in_err-tree-clause-short c = let p = err_from_is_err_and c.from_residual.result c.from_residual.ensures.1 in rw p.1 tt

pub returns-in_err-tree-clause-fault : goal.returns-in_err-tree-clause-fault
returns-in_err-tree-clause-fault c = let p = err_from_is_err_and c.from_residual.result c.from_residual.ensures.1 in rw (p.1, p.2) tt

pub returns-in_err-text-clause-field : goal.returns-in_err-text-clause-field
returns-in_err-text-clause-field c = let p = err_from_is_err_and c.from_residual-in_err-text.result c.from_residual-in_err-text.ensures.1 in rw p.1 tt

pub returns-in_err-text-clause-short : goal.returns-in_err-text-clause-short
returns-in_err-text-clause-short c = let p = err_from_is_err_and c.from_residual-in_err-text.result c.from_residual-in_err-text.ensures.1 in rw p.1 tt

pub returns-in_err-text-clause-fault : goal.returns-in_err-text-clause-fault
returns-in_err-text-clause-fault c = let p = err_from_is_err_and c.from_residual-in_err-text.result c.from_residual-in_err-text.ensures.1 in rw (p.1, p.2) tt

pub returns-clause-field : goal.returns-clause-field
returns-clause-field c =
    let is = printed_is c.args.book.now c.args.at (tree_at c.args.book.now.pool c.args.id) c.requires.workbook c.requires.formula c.sheets.result.now c.texts.result.now _ _ c.in_ok-text.ensures c.sheets.ensures.names c.texts.ensures.texts (c.in_ok-tree.ensures ∙ ap (λ p. tree_at p c.args.id) c.pool.ensures) in
    IfOk-weaker c.unless_long.result _ _ (λ field same. same ∙ is) c.unless_long.ensures.same

pub returns-clause-short : goal.returns-clause-short
returns-clause-short c =
    let is = printed_is c.args.book.now c.args.at (tree_at c.args.book.now.pool c.args.id) c.requires.workbook c.requires.formula c.sheets.result.now c.texts.result.now _ _ c.in_ok-text.ensures c.sheets.ensures.names c.texts.ensures.texts (c.in_ok-tree.ensures ∙ ap (λ p. tree_at p c.args.id) c.pool.ensures) in
    on_ok_weaker c.unless_long.result (λ l. short_is c.args.book.now c.args.at (tree_at c.args.book.now.pool c.args.id) c.requires.workbook c.requires.formula _ is l) c.unless_long.ensures.short

pub returns-clause-fault : goal.returns-clause-fault
returns-clause-fault c =
    let is = printed_is c.args.book.now c.args.at (tree_at c.args.book.now.pool c.args.id) c.requires.workbook c.requires.formula c.sheets.result.now c.texts.result.now _ _ c.in_ok-text.ensures c.sheets.ensures.names c.texts.ensures.texts (c.in_ok-tree.ensures ∙ ap (λ p. tree_at p c.args.id) c.pool.ensures) in
    IfErr-weaker c.unless_long.result _ _ (λ fault l. long_is c.args.book.now c.args.at (tree_at c.args.book.now.pool c.args.id) c.requires.workbook c.requires.formula _ fault is l) c.unless_long.ensures.fault
