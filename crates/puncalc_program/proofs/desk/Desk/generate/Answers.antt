use Rattle.std.proofs.Common.{Ok, ap, subst, ◌∙◌}
use Rattle.edit_script.specs.declared.line.Line.{Line}
use Rattle.puncalc_program.specs.Demo.{demo_cell, demo_field}
use Rattle.puncalc_program.specs.Desks.{Changes}
use Rattle.puncalc_program.specs.Output.{the_names}
use Rattle.puncalc_program.specs.Script.{Standing, turn}
use Rattle.puncalc_program.proofs.Generated.{generated_more, generated_stops}
use Rattle.puncalc_program.proofs.desk.Desk.generate.Goals as goal

pub loop-k-preserved : goal.loop-k-preserved
loop-k-preserved c =
    let k = c.loop-k.k in
    let st = c.loop-k.self.standing in
    let now = c.put_cell.new.self.standing in
    record {
      made = λ read right.
          generated_more read the_names k c.args.self.now.standing st now (c.loop-k.invariant.made read right)
          (subst (λ answer. Changes (turn read the_names 1 (Line.Set (demo_cell k) (demo_field k)) st) st now (Ok answer)) c.in_default.is (c.in_ok-why.ensures.made read right));
      names = c.in_ok-why.ensures.names ∙ c.loop-k.invariant.names;
    }

pub returns-in-Some-clause-made : goal.returns-in-Some-clause-made
returns-in-Some-clause-made c = λ read right.
    let k = c.loop-k.k in
    let st = c.loop-k.self.standing in
    let now = c.put_cell.new.self.standing in
    generated_stops read the_names k c.args.count c.args.self.now.standing st now c.in-Some.why c.loop-k-test.true (ap (λ (s : Standing). s.last) c.requires.empty) (c.loop-k.invariant.made read right)
    (subst (λ answer. Changes (turn read the_names 1 (Line.Set (demo_cell k) (demo_field k)) st) st now (Ok answer)) c.in-Some.is (c.in_ok-why.ensures.made read right))
