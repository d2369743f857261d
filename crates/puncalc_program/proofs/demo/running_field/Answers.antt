use Rattle.std.proofs.Common.{◌≡◌, string_bytes, sym, subst}
use Rattle.std.specs.Prelude.{IfOk}
use Rattle.puncalc_program.proofs.Generated.{below_first}
use Rattle.puncalc_program.proofs.demo.running_field.Goals as goal

pub returns-else-row-eq1 : goal.returns-else-row-eq1
returns-else-row-eq1 c = subst (λ t. IfOk c.format.result (λ field. string_bytes field ≡ t)) (sym (below_first c.args.row c.if-row-eq1.false)) c.format.ensures.ok
