use Rattle.std.proofs.Common.{map, take}
use Rattle.cell_values.specs.Areas.{numbers_from}
use Rattle.puncalc_program.specs.Sheets.{sheet_row}
use Rattle.puncalc_program.specs.Writing.{sunk, WritesAll}
use Rattle.puncalc_program.proofs.desk.Desk.write_rows.Given as goal

abbrev pub invariant-loop-before : goal.invariant-loop-before
invariant-loop-before g l =
    WritesAll (map (sheet_row l.self.standing.book l.sheet) (take l.before (numbers_from 1 l.rows)))
    (sunk g.K.Sink.written g.K.Sink.faults g.K.Sink.calls l.fn.out) (sunk g.K.Sink.written g.K.Sink.faults g.K.Sink.calls l.out)
