use Rattle.std.proofs.Common.{◌≡◌, [], get_or, string_bytes, sym, subst, arith}
use Rattle.std.specs.Prelude.{IfOk}
use Rattle.puncalc_program.specs.Demo.{demo_fields}
use Rattle.puncalc_program.proofs.Generated.{last_field}
use Rattle.puncalc_program.proofs.demo.field_of_row.Goals as goal

pub returns-in_default : goal.returns-in_default
returns-in_default c =
    let last : 7 ≡ c.args.column = omega arith in
    subst (λ column. IfOk c.format-in_default.result (λ field. string_bytes field ≡ get_or (demo_fields c.args.row) column [])) last
    (subst (λ t. IfOk c.format-in_default.result (λ field. string_bytes field ≡ t)) (sym (last_field c.args.row)) c.format-in_default.ensures.ok)
