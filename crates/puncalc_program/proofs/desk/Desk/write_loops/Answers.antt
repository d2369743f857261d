use Rattle.std.proofs.Common.{◌≡◌, ◌<◌, length, get_or, ap, sym, subst, ◌∙◌}
use Rattle.std.specs.Prelude.{All}
use Rattle.std.proofs.lemmas.Result.{err_from_is_err_and}
use Rattle.cycle_finder.specs.Laws.{IsWholeLoop}
use Rattle.cycle_finder.specs.Loops.{loops}
use Rattle.edit_script.specs.Targets.{IsCellOf}
use Rattle.workbook_core.specs.Books.{IsWorkbook}
use Rattle.puncalc_program.specs.Desks.{DeskSeen}
use Rattle.puncalc_program.specs.Script.{loop_row}
use Rattle.puncalc_program.specs.Writing.{sunk}
use Rattle.puncalc_program.proofs.LoopCells.{loop_on_sheets}
use Rattle.puncalc_program.proofs.Scripts.{cause_made}
use Rattle.puncalc_program.proofs.Written.{element_more, element_part, elements_part}
use Rattle.puncalc_program.proofs.desk.Desk.write_loops.Goals as goal

pub loop_row-requires-clause-of_sheets : goal.loop_row-requires-clause-of_sheets
loop_row-requires-clause-of_sheets g c =
    let w = c.self.inside.calc.shared in
    let item = c.cells-item.result in
    let is : c.args.found.now ≡ loops w.book = c.requires ∙ sym (ap (λ (d : DeskSeen). loops d.standing.book) c.self.view_is) in
    let low : c.loop-cells.cells-index < length (loops w.book) = subst (λ xs. c.loop-cells.cells-index < length xs) is c.loop-cells-test.true in
    let whole : IsWholeLoop w.book item =
    subst (λ z. IsWholeLoop w.book z) (ap (λ xs. get_or xs c.loop-cells.cells-index item) (sym is) ∙ sym c.cells-item.is) (c.law_loops.ensures.whole w.book c.loop-cells.cells-index item low) in
    subst (λ (d : DeskSeen). All (IsCellOf d.names) item) c.self.view_is (loop_on_sheets w item (subst (λ z. IsWorkbook z) c.book.ensures c.tell_cells.ensures) whole)

pub returns-in_err-row : goal.returns-in_err-row
returns-in_err-row g c =
    let before = sunk g.K.Sink.written g.K.Sink.faults g.K.Sink.calls c.args.out.now in
    let now = sunk g.K.Sink.written g.K.Sink.faults g.K.Sink.calls c.loop-cells.out in
    let p = err_from_is_err_and c.from_residual.result c.from_residual.ensures.1 in
    rw (p.1, p.2) (elements_part (loop_row c.args.self.now.names) c.args.found.now c.loop-cells.cells-index before now c.loop-cells.invariant, tt)

pub returns-in_err-put : goal.returns-in_err-put
returns-in_err-put g c =
    let before = sunk g.K.Sink.written g.K.Sink.faults g.K.Sink.calls c.args.out.now in
    let now = sunk g.K.Sink.written g.K.Sink.faults g.K.Sink.calls c.loop-cells.out in
    let next = sunk g.K.Sink.written g.K.Sink.faults g.K.Sink.calls c.put.new.out in
    let p = err_from_is_err_and c.from_residual-in_err-put.result c.from_residual-in_err-put.ensures.1 in
    rw (p.1, p.2) (
      element_part (loop_row c.args.self.now.names) c.args.found.now c.loop-cells.cells-index c.cells-item.result c.deref.result.now before now next c.loop-cells-test.true
          (c.deref.ensures.value ∙ c.in_ok-row.ensures ∙ ap (loop_row c.args.self.now.names) c.cells-item.is) c.loop-cells.invariant c.in_err-put.ensures.0,
      cause_made c.in_err-put.field-0.0 before now next c.loop-cells.invariant.faults c.in_err-put.ensures.1,
    )

pub loop-cells-preserved : goal.loop-cells-preserved
loop-cells-preserved g c =
    let before = sunk g.K.Sink.written g.K.Sink.faults g.K.Sink.calls c.args.out.now in
    let now = sunk g.K.Sink.written g.K.Sink.faults g.K.Sink.calls c.loop-cells.out in
    let next = sunk g.K.Sink.written g.K.Sink.faults g.K.Sink.calls c.put.new.out in
    element_more (loop_row c.args.self.now.names) c.args.found.now c.loop-cells.cells-index c.cells-item.result c.deref.result.now before now next c.loop-cells-test.true
    (c.deref.ensures.value ∙ c.in_ok-row.ensures ∙ ap (loop_row c.args.self.now.names) c.cells-item.is) c.loop-cells.invariant c.in_ok-put.ensures
