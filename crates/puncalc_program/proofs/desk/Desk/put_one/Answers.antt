use Rattle.std.proofs.Common.{codes}
use Rattle.puncalc_program.specs.Demo.{demo_cell}
use Rattle.puncalc_program.proofs.Generated.{set_is}
use Rattle.puncalc_program.proofs.desk.Desk.put_one.Goals as goal

pub returns-clause-made : goal.returns-clause-made
returns-clause-made c =
    set_is c.args.self.now.names c.demo_cell.result (demo_cell 0) c.in_ok-field.field (codes "1") c.args.self.now.standing c.set.new.self.standing c.set.result c.requires c.demo_cell.ensures c.in_ok-field.ensures c.set.ensures.changes
