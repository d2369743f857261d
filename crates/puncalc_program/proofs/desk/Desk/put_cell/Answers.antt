use Rattle.std.proofs.Common.{◌∙◌}
use Rattle.puncalc_program.specs.Demo.{demo_cell, demo_field}
use Rattle.puncalc_program.proofs.Generated.{set_is}
use Rattle.puncalc_program.proofs.desk.Desk.put_cell.Goals as goal

pub returns-clause-made : goal.returns-clause-made
returns-clause-made c =
    set_is c.args.self.now.names c.demo_cell.result (demo_cell c.args.k) c.in_ok-field.field (demo_field c.args.k) c.args.self.now.standing c.set.new.self.standing c.set.result c.requires.names c.demo_cell.ensures
    (c.in_ok-field.ensures ∙ c.deref.ensures ∙ c.in_ok-text.ensures) c.set.ensures.changes
