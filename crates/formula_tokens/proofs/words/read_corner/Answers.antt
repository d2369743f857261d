use Rattle.std.proofs.Common.{sym, subst, ap, ◌∙◌, take, ℕ}
use Rattle.std.specs.Str.{IsUtf8}
use Rattle.cell_values.proofs.CellTexts.{letters_pass}
use Rattle.formula_tokens.proofs.Runs.{bare_utf8, letters_end, corner_whole}
use Rattle.formula_tokens.proofs.words.read_corner.Goals as goal

pub split_at-requires : goal.split_at-requires
split_at-requires c =
    let bare = c.split_dollar-absolute.result.1.now in
    let text = subst IsUtf8 (sym c.split_dollar-absolute.ensures.bare) (bare_utf8 c.args.word.now c.utf8.word) in
    letters_end bare text c.letter_count.result c.letter_count.ensures

pub corner_from-requires : goal.corner_from-requires
corner_from-requires c =
    let bare = c.split_dollar-absolute.result.1.now in
    letters_pass bare c.split_at.result.0.now (c.split_at.ensures.front ∙ ap (λ (n : ℕ). take n bare) c.letter_count.ensures)

pub returns : goal.returns
returns c =
    c.corner_from.ensures
    ∙ corner_whole c.args.word.now c.split_dollar-absolute.result.1.now c.split_at.result.0.now c.split_at.result.1.now c.split_dollar-absolute.result.0 c.letter_count.result
    c.split_dollar-absolute.ensures.dollar c.split_dollar-absolute.ensures.bare c.letter_count.ensures c.split_at.ensures.front c.split_at.ensures.back
