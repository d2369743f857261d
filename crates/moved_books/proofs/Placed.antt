-- The places of cells, one after the other.
use Rattle.std.proofs.Common.{◌≡◌, ℕ, ◌+◌, ◌<◌, ◌≤◌, List, ◌++◌, length, get_or, drop, append_assoc, append-nil, Option, sym, ap, ◌∙◌, option_to_list}
use Rattle.std.specs.Prelude.{filter_map}
use Rattle.std.proofs.lemmas.List.{drop_more, drop_all}
use Rattle.cell_values.specs.declared.address.Addr.{Addr}
use Rattle.row_shift.specs.declared.change.RowChange.{RowChange}
use Rattle.row_shift.specs.Moves.{move_cell}
use Rattle.moved_books.proofs.Moving.{one_more}

-- the places so far, and those of the cells from a number on, are all
abbrev pub ArePlacedTo : RowChange → List Addr → List Addr → ℕ → List Addr → Type 0
ArePlacedTo change cells start i places = places ++ filter_map (move_cell change) (drop i cells) ≡ start ++ filter_map (move_cell change) cells

abbrev no_cell : Addr
no_cell = record { sheet = 0; row = 0; col = 0 }

pub more_placed : (change : RowChange) (cells start : List Addr) (i : ℕ) (places new : List Addr) → i < length cells → ArePlacedTo change cells start i places → new ≡ places ++ option_to_list (move_cell change (get_or cells i no_cell)) → ArePlacedTo change cells start (i + 1) new
more_placed change cells start i places new low told pushed =
    let rest : List Addr = filter_map (move_cell change) (drop (i + 1) cells) in
    let place : Option Addr = move_cell change (get_or cells i no_cell) in
    ap (λ (z : List Addr). z ++ rest) pushed
    ∙ append_assoc places (option_to_list place) rest
    ∙ ap (λ (z : List Addr). places ++ z) (one_more place rest)
    ∙ ap (λ (z : List Addr). places ++ filter_map (move_cell change) z) (sym (drop_more cells i no_cell low))
    ∙ told

pub all_placed : (change : RowChange) (cells start : List Addr) (i : ℕ) (places : List Addr) → length cells ≤ i → ArePlacedTo change cells start i places → places ≡ start ++ filter_map (move_cell change) cells
all_placed change cells start i places high told = sym (append-nil places) ∙ ap (λ (z : List Addr). places ++ filter_map (move_cell change) z) (sym (drop_all i cells high)) ∙ told
