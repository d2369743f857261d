use Rattle.std.proofs.Common.{Ok, None, sym, subst}
use Rattle.puncalc_program.specs.Desks.{Makes, edit_turn}
use Rattle.puncalc_program.specs.Script.{rows_turn, turn}
use Rattle.puncalc_program.specs.Writing.{sunk}
use Rattle.edit_script.specs.declared.line.Line.{Line}
use Rattle.edit_script.specs.Lines.{IsLineOf}
use Rattle.recalculation.specs.declared.edit.Edit.{Edit}
use Rattle.row_shift.specs.declared.change.RowChange.{RowChange}
use Rattle.puncalc_program.proofs.Making.{change_makes, edit_pieces, nothing_makes, set_pieces}
use Rattle.puncalc_program.proofs.Rowed.{rows_pieces, insert_is_change, delete_is_change}
use Rattle.puncalc_program.proofs.desk.Desk.run_line.Goals as goal

pub returns-in-Nothing-clause-makes : goal.returns-in-Nothing-clause-makes
unfolding turn
returns-in-Nothing-clause-makes g c = λ read right.
    let st = c.args.self.now.standing in
    let out = sunk g.K.Sink.written g.K.Sink.faults g.K.Sink.calls c.args.out.now in
    subst (λ line. Makes (turn read c.args.self.now.names c.args.workers.now.count line st) st st out out (Ok None)) (sym c.in-Nothing.is) (nothing_makes st out)

pub returns-in-Set-clause-makes : goal.returns-in-Set-clause-makes
returns-in-Set-clause-makes g c = λ read right.
    let st = c.args.self.now.standing in
    let names = c.args.self.now.names in
    let workers = c.args.workers.now.count in
    let out = sunk g.K.Sink.written g.K.Sink.faults g.K.Sink.calls c.args.out.now in
    subst (λ line. Makes (turn read names workers line st) st c.set.new.self.standing out out c.set.result) (sym c.in-Set.is)
    (change_makes (turn read names workers (Line.Set c.in-Set.at c.in-Set.field) st) st c.set.new.self.standing out c.set.result (set_pieces read names workers c.in-Set.at c.in-Set.field st) (c.set.ensures.changes read right workers))

pub returns-in-Clear-clause-makes : goal.returns-in-Clear-clause-makes
unfolding turn
returns-in-Clear-clause-makes g c = λ read right.
    let st = c.args.self.now.standing in
    let names = c.args.self.now.names in
    let out = sunk g.K.Sink.written g.K.Sink.faults g.K.Sink.calls c.args.out.now in
    subst (λ line. Makes (turn read names c.args.workers.now.count line st) st c.change.new.self.standing out out c.change.result) (sym c.in-Clear.is)
    (change_makes (edit_turn read names (Edit.Clear c.in-Clear.at) st) st c.change.new.self.standing out c.change.result (edit_pieces read names (Edit.Clear c.in-Clear.at) st) (c.change.ensures.changes read right))

pub returns-in-Copy-clause-makes : goal.returns-in-Copy-clause-makes
unfolding turn
returns-in-Copy-clause-makes g c = λ read right.
    let st = c.args.self.now.standing in
    let names = c.args.self.now.names in
    let out = sunk g.K.Sink.written g.K.Sink.faults g.K.Sink.calls c.args.out.now in
    subst (λ line. Makes (turn read names c.args.workers.now.count line st) st c.change-in-Copy.new.self.standing out out c.change-in-Copy.result) (sym c.in-Copy.is)
    (change_makes (edit_turn read names (Edit.Copy c.in-Copy.from c.in-Copy.to) st) st c.change-in-Copy.new.self.standing out c.change-in-Copy.result (edit_pieces read names (Edit.Copy c.in-Copy.from c.in-Copy.to) st) (c.change-in-Copy.ensures.changes read right))

pub move_rows-requires : goal.move_rows-requires
move_rows-requires g c = insert_is_change c.args.self.now.names c.in-Insert.rows (subst (IsLineOf c.args.self.now.names) c.in-Insert.is c.requires.line)

pub returns-in-Insert-clause-makes : goal.returns-in-Insert-clause-makes
unfolding turn
returns-in-Insert-clause-makes g c = λ read right.
    let st = c.args.self.now.standing in
    let names = c.args.self.now.names in
    let change = RowChange.Insert c.in-Insert.rows.sheet c.in-Insert.rows.row c.in-Insert.rows.count in
    let out = sunk g.K.Sink.written g.K.Sink.faults g.K.Sink.calls c.args.out.now in
    subst (λ line. Makes (turn read names c.args.workers.now.count line st) st c.move_rows.new.self.standing out out c.move_rows.result) (sym c.in-Insert.is)
    (change_makes (rows_turn change st) st c.move_rows.new.self.standing out c.move_rows.result (rows_pieces change st) c.move_rows.ensures.changes)

pub move_rows-requires-in-Delete : goal.move_rows-requires-in-Delete
move_rows-requires-in-Delete g c = delete_is_change c.args.self.now.names c.in-Delete.rows (subst (IsLineOf c.args.self.now.names) c.in-Delete.is c.requires.line).0

pub returns-in-Delete-clause-makes : goal.returns-in-Delete-clause-makes
unfolding turn
returns-in-Delete-clause-makes g c = λ read right.
    let st = c.args.self.now.standing in
    let names = c.args.self.now.names in
    let change = RowChange.Delete c.in-Delete.rows.sheet c.in-Delete.rows.row c.in-Delete.rows.count in
    let out = sunk g.K.Sink.written g.K.Sink.faults g.K.Sink.calls c.args.out.now in
    subst (λ line. Makes (turn read names c.args.workers.now.count line st) st c.move_rows-in-Delete.new.self.standing out out c.move_rows-in-Delete.result) (sym c.in-Delete.is)
    (change_makes (rows_turn change st) st c.move_rows-in-Delete.new.self.standing out c.move_rows-in-Delete.result (rows_pieces change st) c.move_rows-in-Delete.ensures.changes)
