use Rattle.std.proofs.Common.{◌≡◌, false, length, ap, sym, subst, ◌∙◌}
use Rattle.std.specs.Prelude.{nat_lt}
use Rattle.std.proofs.lemmas.Int.{to_z-of_z}
use Rattle.std.proofs.lemmas.Result.{err_from_is_err_and}
use Rattle.cell_values.specs.declared.TheConstants.{MAX_BOOK_CELLS}
use Rattle.workbook_core.specs.WithNumber.{with_number}
use Rattle.what_if.specs.Scenarios.{IsRange, scenarios}
use Rattle.puncalc_program.specs.Desks.{DeskSeen}
use Rattle.puncalc_program.specs.Writing.{sunk}
use Rattle.puncalc_program.proofs.Tabled.{all_shown, table_cut, table_written}
use Rattle.puncalc_program.proofs.desk.Desk.what_if.Goals as goal

pub write_table-requires-clause-range : goal.write_table-requires-clause-range
write_table-requires-clause-range g c =
    let all = c.deref.ensures.value ∙ simp (to_z-of_z, c.ranges.low) at c.in_ok-shown.ensures.shown in
    let long = all_shown c.self-2.inside.calc.shared.book c.args.at c.args.low c.args.target c.deref.result.now c.args.count all in
    simp (to_z-of_z, c.ranges.low) (subst (IsRange c.args.low) (sym long) c.requires.range)

pub write_table-requires-clause-shown : goal.write_table-requires-clause-shown
write_table-requires-clause-shown g c =
    let all = c.deref.ensures.value ∙ simp (to_z-of_z, c.ranges.low) at c.in_ok-shown.ensures.shown in
    let long = all_shown c.self-2.inside.calc.shared.book c.args.at c.args.low c.args.target c.deref.result.now c.args.count all in
    simp (to_z-of_z, c.ranges.low) (all ∙ ap (λ (d : DeskSeen). scenarios d.standing.book c.args.at c.args.low c.args.count c.args.target) c.self-2.view_is
    ∙ ap (λ n. scenarios c.recalculate.new.self.standing.book c.args.at c.args.low n c.args.target) (sym long))

pub returns-in_err-write_table-clause-makes : goal.returns-in_err-write_table-clause-makes
returns-in_err-write_table-clause-makes g c =
    let before = sunk g.K.Sink.written g.K.Sink.faults g.K.Sink.calls c.args.out.now in
    let now = sunk g.K.Sink.written g.K.Sink.faults g.K.Sink.calls c.write_table.new.out in
    let all = c.deref.ensures.value ∙ simp (to_z-of_z, c.ranges.low) at c.in_ok-shown.ensures.shown in
    let long = all_shown c.self-2.inside.calc.shared.book c.args.at c.args.low c.args.target c.deref.result.now c.args.count all in
    let room : false ≡ nat_lt MAX_BOOK_CELLS (length (with_number c.args.self.now.standing.book c.args.at c.args.low).cells) =
    sym c.if-is_full_for.false ∙ c.is_full_for.ensures c.args.low ∙ ap (λ w. nat_lt MAX_BOOK_CELLS (length (with_number w.book c.args.at c.args.low).cells)) c.book.ensures ∙ ap (λ (d : DeskSeen). nat_lt MAX_BOOK_CELLS (length (with_number d.standing.book c.args.at c.args.low).cells)) c.self.view_is in
    let p = err_from_is_err_and c.from_residual-in_err-write_table.result c.from_residual-in_err-write_table.ensures.1 in
    rw (p.1, p.2) (table_cut c.args.workers.now.count c.args.at c.args.low c.args.count c.args.target c.args.self.now.standing c.recalculate.new.self.standing before now (length c.deref.result.now) c.in_err-write_table.field-0.0 room c.in_ok-recalculate.ensures.done long
    (simp (to_z-of_z, c.ranges.low) at c.in_err-write_table.ensures.0) c.in_err-write_table.ensures.1)

pub returns-clause-makes : goal.returns-clause-makes
returns-clause-makes g c =
    let before = sunk g.K.Sink.written g.K.Sink.faults g.K.Sink.calls c.args.out.now in
    let now = sunk g.K.Sink.written g.K.Sink.faults g.K.Sink.calls c.write_table.new.out in
    let all = c.deref.ensures.value ∙ simp (to_z-of_z, c.ranges.low) at c.in_ok-shown.ensures.shown in
    let long = all_shown c.self-2.inside.calc.shared.book c.args.at c.args.low c.args.target c.deref.result.now c.args.count all in
    let room : false ≡ nat_lt MAX_BOOK_CELLS (length (with_number c.args.self.now.standing.book c.args.at c.args.low).cells) =
    sym c.if-is_full_for.false ∙ c.is_full_for.ensures c.args.low ∙ ap (λ w. nat_lt MAX_BOOK_CELLS (length (with_number w.book c.args.at c.args.low).cells)) c.book.ensures ∙ ap (λ (d : DeskSeen). nat_lt MAX_BOOK_CELLS (length (with_number d.standing.book c.args.at c.args.low).cells)) c.self.view_is in
    table_written c.args.workers.now.count c.args.at c.args.low c.args.count c.args.target c.args.self.now.standing c.recalculate.new.self.standing before now (length c.deref.result.now) room c.in_ok-recalculate.ensures.done long
    (simp (to_z-of_z, c.ranges.low) at c.in_ok-write_table.ensures)
