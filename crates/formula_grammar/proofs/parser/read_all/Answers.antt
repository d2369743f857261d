use Rattle.formula_grammar.proofs.Whole.{whole_read}
use Rattle.formula_grammar.proofs.parser.read_all.Goals as goal

pub returns-then-is_done-clause-ok : goal.returns-then-is_done-clause-ok
returns-then-is_done-clause-ok c = whole_read _ _ _ _ _ c.in_ok-tree.ensures.ok (c.is_done.ensures.0 c.if-is_done.true)
