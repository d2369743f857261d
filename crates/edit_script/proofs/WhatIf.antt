-- The parts of a table's line.
use Rattle.std.proofs.Common.{◌≡◌, ℕ, ℤ, List, Option, ap, ◌∙◌}
use Rattle.std.specs.List.{before_first, after_first}
use Rattle.cell_values.specs.declared.address.Addr.{Addr}
use Rattle.edit_script.specs.Lines.{what_if_in, what_if_of}
use Rattle.edit_script.specs.Numbers.{range_in}
use Rattle.edit_script.specs.Pieces.{is_space}
use Rattle.edit_script.specs.Targets.{Names, behind_target, target_before, target_in}

pub parts_told : (names : Names) (text : List ℕ) (at : Option Addr) (behind low between high last : List ℕ) (range : Option (ℤ × ℕ)) (target : Option Addr)
    → at ≡ target_before is_space names text → behind ≡ behind_target is_space text → low ≡ before_first is_space behind → between ≡ after_first is_space behind
    → high ≡ before_first is_space between → last ≡ after_first is_space between → range ≡ range_in low high → target ≡ target_in names last
    → what_if_of at range target ≡ what_if_in names text
unfolding what_if_in
parts_told names text at behind low between high last range target a b l m h e r t =
    let low_is = l ∙ ap (before_first is_space) b in
    let between_is = m ∙ ap (after_first is_space) b in
    let high_is = h ∙ ap (before_first is_space) between_is in
    let last_is = e ∙ ap (after_first is_space) between_is in
    let range_is = r ∙ (λ i. range_in (low_is i) (high_is i)) in
    let target_is = t ∙ ap (target_in names) last_is in
    λ i. what_if_of (a i) (range_is i) (target_is i)
