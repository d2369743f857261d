use Rattle.std.proofs.Common.{sym, ◌∙◌}
use Rattle.std.proofs.lemmas.Result.{err_from_is_err_and}
use Rattle.formula_grammar.proofs.Reading as R
use Rattle.formula_grammar.proofs.parser.Reader.lone.Goals as goal

pub returns-in_err-take-clause-err : goal.returns-in_err-take-clause-err
returns-in_err-take-clause-err c =
    let p = err_from_is_err_and c.from_residual.result c.from_residual.ensures.1 in
    let f = R.fails_lone c.args.kind c.args.literal c.args.self.now _ c.requires.next c.requires.kind (sym c.is_alone.ensures ∙ c.if-not-is_alone.false) c.in_err-take.ensures.err in
    rw (p.1, p.2) f
