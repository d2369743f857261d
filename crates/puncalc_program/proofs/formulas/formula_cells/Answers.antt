use Rattle.std.proofs.Common.{sym, ◌∙◌}
use Rattle.recalculation.proofs.Walked.{fewer_behind}
use Rattle.puncalc_program.proofs.FormulaCells.{all_found, found_more, none_found}
use Rattle.puncalc_program.proofs.formulas.formula_cells.Goals as goal

pub loop-at-init : goal.loop-at-init
loop-at-init c = none_found c.args.book.now.book c.new-cells.result.items (cc)

pub loop-at-smaller : goal.loop-at-smaller
loop-at-smaller c = fewer_behind c.args.book.now.book.cells c.loop-at.after c.in-Some.at (sym c.next_cell.ensures ∙ c.in-Some.is)

pub loop-at-preserved : goal.loop-at-preserved
loop-at-preserved c = found_more c.args.book.now.book c.loop-at.after c.in-Some.at c.loop-at.cells.items c.add_formula.new.cells.items c.tell_cells.ensures.order (sym c.next_cell.ensures ∙ c.in-Some.is) c.in_ok-add_formula.ensures c.loop-at.invariant

pub returns : goal.returns
returns c = all_found c.args.book.now.book c.loop-at.after c.loop-at.cells.items (sym c.next_cell.ensures ∙ c.in_default.is) c.loop-at.invariant
