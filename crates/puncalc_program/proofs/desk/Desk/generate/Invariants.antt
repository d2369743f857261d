use Rattle.std.proofs.Common.{◌≡◌, None}
use Rattle.formula_grammar.specs.Reading.{Reading, IsReading}
use Rattle.puncalc_program.specs.Demo.{generated}
use Rattle.puncalc_program.specs.Desks.{Leaves}
use Rattle.puncalc_program.specs.Output.{the_names}
use Rattle.puncalc_program.proofs.desk.Desk.generate.Given as goal

abbrev pub invariant-loop-k : goal.invariant-loop-k
invariant-loop-k l = record {
  made : (read : Reading) → IsReading the_names read → Leaves (generated read the_names l.k) l.fn.self.standing l.self.standing None;
  names : l.self.names ≡ l.fn.self.names;
}
