use Rattle.std.proofs.Common.{length}
use Rattle.trace_text.specs.TraceText.{trace_lines}
use Rattle.puncalc_program.specs.Writing.{sunk}
use Rattle.puncalc_program.proofs.Tracing.{WritesUpTo}
use Rattle.puncalc_program.proofs.trace.write_steps.Given as goal

abbrev pub invariant-loop-lines : goal.invariant-loop-lines
invariant-loop-lines g l =
    WritesUpTo (trace_lines l.cells l.stopped l.steps) l.lines (sunk g.K.Sink.written g.K.Sink.faults g.K.Sink.calls l.fn.out) (sunk g.K.Sink.written g.K.Sink.faults g.K.Sink.calls l.out)

abbrev pub decreases-loop-lines : goal.decreases-loop-lines
decreases-loop-lines g l = length l.lines
