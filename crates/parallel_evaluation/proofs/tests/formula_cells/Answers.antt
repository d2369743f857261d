use Rattle.std.proofs.Common.{rules, ◌≡◌, ◌≤◌, ◌++◌, append-nil, length, sym, ap, ◌∙◌}
use Rattle.std.specs.List.{filter}
use Rattle.std.proofs.lemmas.List.{drop_all}
use Rattle.cell_values.specs.Order.{addresses}
use Rattle.parallel_evaluation.specs.TestBooks.{holds_formula}
use Rattle.parallel_evaluation.proofs.TestBooks.{formulas_all}
use Rattle.parallel_evaluation.proofs.tests.formula_cells.Goals as goal

pub returns : goal.returns
returns c =
    let w = c.args.book.now in
    let p = holds_formula w.book in
    let all = c.in_ok-all.all.items in
    let low : length all ≤ c.loop-i.i = search rules in
    let whole : c.loop-i.cells.items ≡ filter p all = sym (append-nil c.loop-i.cells.items) ∙ (ap (λ z. c.loop-i.cells.items ++ filter p z) (sym (drop_all c.loop-i.i all low)) ∙ c.loop-i.invariant) in
    formulas_all w c.in_ok-all.ensures.workbook c.loop-i.cells.items (whole ∙ ap (filter p) c.in_ok-all.ensures.cells)
