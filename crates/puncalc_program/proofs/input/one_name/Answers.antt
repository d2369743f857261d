use Rattle.std.proofs.Common.{◌∷◌, [], ◌∙◌, map, ap, string_bytes}
use Rattle.cell_values.specs.Names.{sheet_name}
use Rattle.puncalc_program.proofs.Loading.{only_name}
use Rattle.puncalc_program.proofs.input.one_name.Goals as goal

pub returns-in-Ok : goal.returns-in-Ok
returns-in-Ok c =
    c.in-Ok.ensures.names ∙ ap (map (λ file. sheet_name (string_bytes file))) (c.deref.ensures.value ∙ c.in_ok-files.ensures.items)
    ∙ ap (λ text. sheet_name text ∷ []) c.in_ok-name.ensures.ok ∙ ap (λ name. name ∷ []) only_name
