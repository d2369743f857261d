use Rattle.formula_grammar.proofs.Soundness.{reads_sound}
use Rattle.formula_grammar.proofs.Whole.{first_fault, one_tree, only_memory}
use Rattle.formula_grammar.proofs.formula.read_spots.Goals as goal

pub returns-in-Ok-clause-sound : goal.returns-in-Ok-clause-sound
returns-in-Ok-clause-sound c = reads_sound _ _ _ c.in-Ok.ensures.ok

pub returns-in-Ok-clause-read : goal.returns-in-Ok-clause-read
returns-in-Ok-clause-read c x r = one_tree _ _ _ _ c.in-Ok.ensures.ok r

pub returns-in-Err-clause-bad : goal.returns-in-Err-clause-bad
returns-in-Err-clause-bad c = first_fault _ _ _ c.in-Err.ensures.err

pub returns-in-Err-clause-read : goal.returns-in-Err-clause-read
returns-in-Err-clause-read c x r = only_memory _ _ _ x _ r c.in-Err.ensures.err
