use Rattle.std.proofs.Common.{ap}
use Rattle.std.proofs.lemmas.Result.{err_from_is_err_and}
use Rattle.formula_trees.specs.Expr.{Ref}
use Rattle.formula_grammar.proofs.Reading as R
use Rattle.formula_grammar.proofs.parser.Reader.reference.Goals as goal

pub returns-in_err-named-clause-err : goal.returns-in_err-named-clause-err
returns-in_err-named-clause-err c =
    let p = err_from_is_err_and c.from_residual.result c.from_residual.ensures.1 in
    let f = R.fails_reference c.args.self.now _ c.requires.next c.in_err-named.ensures.err in
    rw (p.1, p.2) f

pub returns-clause-ok : goal.returns-clause-ok
returns-clause-ok c = R.primary_reference _ _ _ _ _ _ c.requires.next c.in_ok-named.ensures.ok (ap Ref c.reference_at.ensures)
