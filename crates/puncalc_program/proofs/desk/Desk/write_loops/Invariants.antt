use Rattle.std.proofs.Common.{map, take}
use Rattle.puncalc_program.specs.Script.{loop_row}
use Rattle.puncalc_program.specs.Writing.{sunk, WritesAll}
use Rattle.puncalc_program.proofs.desk.Desk.write_loops.Given as goal

abbrev pub invariant-loop-cells : goal.invariant-loop-cells
invariant-loop-cells g l =
    WritesAll (map (loop_row l.self.names) (take l.cells-index l.found)) (sunk g.K.Sink.written g.K.Sink.faults g.K.Sink.calls l.fn.out) (sunk g.K.Sink.written g.K.Sink.faults g.K.Sink.calls l.out)
