use Rattle.std.proofs.Common.{map, take, length}
use Rattle.cell_values.specs.Areas.{numbers_from}
use Rattle.puncalc_program.specs.Script.{scenario_row}
use Rattle.puncalc_program.specs.Writing.{sunk, WritesAll}
use Rattle.puncalc_program.proofs.desk.Desk.write_table.Given as goal

abbrev pub invariant-loop-k : goal.invariant-loop-k
invariant-loop-k g l =
    WritesAll (map (scenario_row l.self.standing.book l.fn.at l.fn.low l.fn.target) (take l.k (numbers_from 0 (length l.shown)))) (sunk g.K.Sink.written g.K.Sink.faults g.K.Sink.calls l.fn.out) (sunk g.K.Sink.written g.K.Sink.faults g.K.Sink.calls l.out)
