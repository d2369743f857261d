-- The addresses of a list but for one, one address after the other.
use Rattle.std.proofs.Common.{◌≡◌, ℕ, ◌+◌, ◌<◌, not, List, [], ◌∷◌, ◌++◌, length, take, get_or, ap, ◌∙◌}
use Rattle.std.specs.List.{filter}
use Rattle.std.proofs.lemmas.List.{take_more}
use Rattle.std.proofs.lemmas.List.Elements.{filter-append}
use Rattle.cell_values.specs.declared.address.Addr.{Addr}
use Rattle.cell_values.specs.Addresses.{same_addr}

pub filtered_more : (at : Addr) (cells : List Addr) (i : ℕ) (d : Addr) → i < length cells → filter (λ a. not (same_addr at a)) (take (i + 1) cells) ≡ filter (λ a. not (same_addr at a)) (take i cells) ++ filter (λ a. not (same_addr at a)) (get_or cells i d ∷ [])
filtered_more at cells i d low = ap (filter (λ a. not (same_addr at a))) (take_more cells i d low) ∙ filter-append (λ a. not (same_addr at a)) (take i cells) (get_or cells i d ∷ [])
