use Rattle.std.proofs.Common.{map, take}
use Rattle.puncalc_program.specs.Writing.{sunk, WritesAll}
use Rattle.puncalc_program.proofs.lines.put_all.Given as goal

abbrev pub invariant-loop-row : goal.invariant-loop-row
invariant-loop-row g l =
    WritesAll (map (λ row. row.items) (take l.row-index l.rows)) (sunk g.K.Sink.written g.K.Sink.faults g.K.Sink.calls l.fn.out) (sunk g.K.Sink.written g.K.Sink.faults g.K.Sink.calls l.out)
