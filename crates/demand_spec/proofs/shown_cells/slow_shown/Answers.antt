use Rattle.std.proofs.Common.{◌≡◌, arith, sym, ap, ◌∙◌, subst, length}
use Rattle.std.proofs.lemmas.Grind.{common_steps}
use Rattle.demand_spec.specs.Book.{formulas}
use Rattle.demand_spec.specs.Listed.{all_shown}
use Rattle.demand_spec.proofs.Results.{all_text}
use Rattle.cell_values.specs.Order.{entry_at}
use Rattle.demand_spec.specs.Stage.{Sight, book_of, book_with}
use Rattle.demand_spec.proofs.Listed.{formula_element}
use Rattle.demand_spec.proofs.Ordered.{IsBook, distinct_from_order, length-contents}
use Rattle.demand_spec.proofs.Texts.{finished_text}
use Rattle.demand_spec.proofs.shown_cells.slow_shown.Goals as goal

pub over-stage-requires-clause-known : goal.over-stage-requires-clause-known
over-stage-requires-clause-known c = finished_text c.args.book.now c.args.texts.now (entry_at c.in_ok-known.known.entries) c.requires c.in_ok-known.ensures

pub shown_of-requires-clause-cells : goal.shown_of-requires-clause-cells
shown_of-requires-clause-cells c = sym (length-contents c.cells-cells.result.now) ∙ ap length c.cells-cells.ensures.same ∙ sym (ap (λ (s : Sight). length s.cells) c.over-stage.ensures)

pub shown_of-requires-clause-formula : goal.shown_of-requires-clause-formula
shown_of-requires-clause-formula c =
    formula_element (book_of c.over-stage.result) c.cells-cells.result.now c.loop-address.address-index c.loop-address-item.result _
    (c.cells-cells.ensures.same ∙ sym (ap (λ (s : Sight). s.cells) c.over-stage.ensures))
    (subst IsBook (sym c.cells-cells.ensures.same) (distinct_from_order c.args.book.now c.cells-cells.ensures.in_order))
    c.loop-address-test.true c.loop-address-item.is c.in-Formula.is

pub returns-clause-texts : goal.returns-clause-texts
unfolding formulas
returns-clause-texts c =
    let e : c.loop-address.out.items ≡ all_shown (book_with c.args.book.now c.args.texts.now) = grind (arith, common_steps, c.loop-address.invariant, c.cells-cells.ensures.same) in
    all_text c.args.book.now c.args.texts.now c.loop-address.out.items c.requires e
