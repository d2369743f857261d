use Rattle.std.proofs.Common.{◌≡◌, None, map, ap, subst, ◌∙◌}
use Rattle.book_save.specs.Rows.{first_long, saved_rows}
use Rattle.puncalc_program.specs.Desks.{DeskSeen}
use Rattle.puncalc_program.specs.Writing.{sunk, WritesAll}
use Rattle.puncalc_program.proofs.Saving.{rows_saved}
use Rattle.puncalc_program.proofs.desk.Desk.save.Goals as goal

pub returns-in_ok-put_all-in-Ok : goal.returns-in_ok-put_all-in-Ok
returns-in_ok-put_all-in-Ok g c =
    let st = c.args.self.now.standing in
    let names = c.args.self.now.names in
    let sheet = c.args.sheet in
    let before = sunk g.K.Sink.written g.K.Sink.faults g.K.Sink.calls c.args.out.now in
    let now = sunk g.K.Sink.written g.K.Sink.faults g.K.Sink.calls c.put_all.new.out in
    let rows : map (λ row. row.items) c.rows.result.now ≡ saved_rows names st.book sheet =
    c.rows.ensures ∙ c.in-Ok.ensures.rows ∙ ap (λ w. saved_rows w.names w.book sheet) c.book.ensures ∙ ap (λ (d : DeskSeen). saved_rows d.names d.standing.book sheet) c.self.view_is in
    let short : first_long names st.book sheet ≡ None =
    subst (λ (d : DeskSeen). first_long d.names d.standing.book sheet ≡ None) c.self.view_is (subst (λ w. first_long w.names w.book sheet ≡ None) c.book.ensures c.in-Ok.ensures.short) in
    rows_saved st (saved_rows names st.book sheet) (first_long names st.book sheet) before now short (subst (λ ps. WritesAll ps before now) rows c.in_ok-put_all-in-Ok.ensures)
