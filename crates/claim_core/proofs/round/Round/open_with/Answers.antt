use Rattle.std.proofs.Common.{◌≤◌, length, ◌∙◌, arith}
use Rattle.std.proofs.Math.Logic.{∥∥₁_elim}
use Rattle.std.specs.Coded.{le_prop}
use Rattle.cell_values.specs.declared.TheConstants.{MAX_BOOK_CELLS}
use Rattle.claim_core.proofs.OpenedRound.{opening_allowed}
use Rattle.claim_core.proofs.round.Round.open_with.Goals as goal

pub of_words-requires : goal.of_words-requires
of_words-requires g c =
    let r = c.requires in
    let few : length c.args.job.cells.now ≤ MAX_BOOK_CELLS = ∥∥₁_elim c.args.job.pending le_prop (λ p. p.not_too_many) in
    opening_allowed _ _ _ (omega arith) (omega arith) (c.as_slice.ensures.value ∙ c.in_ok-words.ensures.items_if_clones_equal (λ y h. h)) (omega arith)
