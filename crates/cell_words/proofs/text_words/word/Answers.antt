use Rattle.std.proofs.Common.{arith, ap, ◌∙◌, take, drop, ◌*◌, ◌+◌, ◌-◌, ◌≡◌}
use Rattle.std.specs.Int.{w64, from_le_bytes}
use Rattle.cell_words.specs.TextWords.{word_of}
use Rattle.cell_words.proofs.text_words.word.Goals as goal

pub returns : goal.returns
unfolding word_of
returns c =
    let e : 8 * c.args.k + 8 - 8 * c.args.k ≡ 8 = omega arith in
    c.from_le_bytes.ensures ∙ ap (from_le_bytes w64) (c.copy_from_slice.ensures.after ∙ ap (λ n. take n (drop (8 * c.args.k) c.args.bytes.now)) e)
