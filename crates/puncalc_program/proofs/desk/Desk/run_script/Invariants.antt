use Rattle.std.proofs.Common.{◌≡◌, ◌+◌, ◌-◌, ◌≤◌, length, drop}
use Rattle.formula_grammar.specs.Reading.{Reading, IsReading}
use Rattle.puncalc_program.specs.Script.{lines_of, script_from}
use Rattle.puncalc_program.specs.Writing.{sunk}
use Rattle.puncalc_program.proofs.Scripts.{Follows}
use Rattle.puncalc_program.proofs.desk.Desk.run_script.Given as goal

abbrev pub invariant-loop-start : goal.invariant-loop-start
invariant-loop-start g l =
    record {
      follows : (read : Reading) → IsReading l.fn.self.names read →
          Follows (script_from read l.fn.self.names l.workers.count 1 l.fn.self.standing (lines_of l.script)) (script_from read l.fn.self.names l.workers.count (l.number + 1) l.self.standing (lines_of (drop l.start l.script)))
          (sunk g.K.Sink.written g.K.Sink.faults g.K.Sink.calls l.fn.out) (sunk g.K.Sink.written g.K.Sink.faults g.K.Sink.calls l.out);
      names : l.self.names ≡ l.fn.self.names;
      within : l.start ≤ length l.script + 1;
      few : l.number ≤ l.start;
      faults : g.K.Sink.faults l.out ≡ g.K.Sink.faults l.fn.out;
    }

abbrev pub decreases-loop-start : goal.decreases-loop-start
decreases-loop-start g l = length l.script - l.start
