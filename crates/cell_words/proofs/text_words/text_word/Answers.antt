use Rattle.std.proofs.Common.{arith, ap, ◌∙◌, ◌-◌}
use Rattle.cell_words.specs.TextWords.{word_at}
use Rattle.cell_words.proofs.Packing.{text_word}
use Rattle.cell_words.proofs.text_words.text_word.Goals as goal

pub returns-else-k-eq0 : goal.returns-else-k-eq0
returns-else-k-eq0 c = c.word.ensures ∙ ap (λ b. word_at b (c.args.k - 1)) c.padded.ensures ∙ text_word c.args.text.now c.args.k (λ e. omega arith) c.requires
