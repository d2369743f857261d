use Rattle.std.proofs.lemmas.Result.{err_from_is_err_and}
use Rattle.formula_grammar.proofs.Reading as R
use Rattle.formula_grammar.proofs.parser.Reader.second.Goals as goal

pub returns-in_err-second-clause-err : goal.returns-in_err-second-clause-err
returns-in_err-second-clause-err c =
    let p = err_from_is_err_and c.from_residual.result c.from_residual.ensures.1 in
    let f = R.fails_colon c.args.first.word c.args.self.now c.advance.new.self _ (R.took _ _ _ _ (λ e. cc) c.requires.colon c.advance.ensures) c.in_err-second.ensures.err in
    rw (p.1, p.2) f
