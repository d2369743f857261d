use Rattle.formula_tokens.proofs.Names.{either_case}
use Rattle.formula_tokens.proofs.words.is_named.Goals as goal

pub returns : goal.returns
returns c = either_case c.eq_ignore_ascii_case.result c.args.word.now c.args.name.now c.requires c.eq_ignore_ascii_case.ensures.test
