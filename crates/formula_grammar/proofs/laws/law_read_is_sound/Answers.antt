use Rattle.formula_grammar.proofs.Soundness.{reads_sound}
use Rattle.formula_grammar.proofs.laws.law_read_is_sound.Goals as goal

pub returns : goal.returns
returns c = reads_sound
