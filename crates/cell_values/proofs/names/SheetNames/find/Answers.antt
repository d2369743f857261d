use Rattle.std.proofs.Common.{ℕ, List, String, Global, string_bytes, position, ap, sym, ◌∙◌}
use Rattle.std.specs.Str.{bytes_eq}
use Rattle.cell_values.specs.Interned.{number_of}
use Rattle.cell_values.proofs.Numbering.{number_of_mapped}
use Rattle.cell_values.proofs.names.SheetNames.find.Goals as goal

pub returns-in-None-clause-number : goal.returns-in-None-clause-number
returns-in-None-clause-number c =
    let name : List ℕ = c.args.name.now in
    c.in-None.ensures ∙ ap (λ (xs : List (String Global)). position (λ known. bytes_eq name (string_bytes known)) xs) c.deref.ensures.value
    ∙ sym (number_of_mapped string_bytes c.self.inside.names.items name) ∙ ap (λ (ts : List (List ℕ)). number_of ts name) c.self.view_is
