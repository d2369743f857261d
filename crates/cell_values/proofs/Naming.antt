-- When a name is new.
use Rattle.std.proofs.Common.{◌≡◌, ℕ, true, false, is_none, List, map, String, Global, string_bytes, position, ap, ◌∙◌, ◌&&◌, Bool}
use Rattle.std.proofs.lemmas.Bool.{and_left}
use Rattle.std.proofs.Math.Bool.{true-and}
use Rattle.std.specs.Str.{bytes_eq}
use Rattle.cell_values.specs.Interned.{number_of}
use Rattle.cell_values.specs.Names.{is_good_name, is_new_name}
use Rattle.cell_values.proofs.Numbering.{number_of_mapped}

pub new_if_good : (names : List (String Global)) (name : List ℕ) → is_good_name name ≡ true → is_new_name (map string_bytes names) name ≡ is_none (position (λ known. bytes_eq name (string_bytes known)) names)
unfolding is_new_name
new_if_good names name good =
    ap (λ (b : Bool). b && is_none (number_of (map string_bytes names) name)) good ∙ true-and _ ∙ ap is_none (number_of_mapped string_bytes names name)

pub bad_is_not_new : (earlier : List (List ℕ)) (name : List ℕ) → is_good_name name ≡ false → is_new_name earlier name ≡ false
unfolding is_new_name
bad_is_not_new earlier name bad = and_left _ _ bad
