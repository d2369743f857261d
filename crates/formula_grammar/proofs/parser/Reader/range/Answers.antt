use Rattle.std.proofs.lemmas.Result.{err_from_is_err_and}
use Rattle.formula_grammar.proofs.Reading as R
use Rattle.formula_grammar.proofs.parser.Reader.range.Goals as goal

pub returns-in_err-first-clause-err : goal.returns-in_err-first-clause-err
returns-in_err-first-clause-err c =
    let p = err_from_is_err_and c.from_residual.result c.from_residual.ensures.1 in
    let f = R.fails_range c.args.self.now _ c.requires.ahead c.in_err-first.ensures.err in
    rw (p.1, p.2) f

pub returns-clause-ok : goal.returns-clause-ok
returns-clause-ok c = R.many_range_ok _ _ _ _ _ _ c.second.result c.requires.ahead c.in_ok-first.ensures.ok c.second.ensures.ok

pub returns-clause-err : goal.returns-clause-err
returns-clause-err c = R.many_range_err _ _ _ _ c.second.result c.requires.ahead c.in_ok-first.ensures.ok c.second.ensures.err
