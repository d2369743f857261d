use Rattle.formula_tokens.proofs.Runs.{word_ends}
use Rattle.formula_tokens.proofs.lexemes.read_word.Goals as goal

pub split_at-requires : goal.split_at-requires
split_at-requires c = word_ends c.args.text.now c.utf8.text c.word_length.result c.word_length.ensures
