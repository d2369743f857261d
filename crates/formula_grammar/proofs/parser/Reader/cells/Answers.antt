use Rattle.std.proofs.Common.{ap, ◌∙◌}
use Rattle.std.proofs.lemmas.Result.{err_from_is_err_and}
use Rattle.formula_trees.specs.Expr.{Ref}
use Rattle.formula_grammar.proofs.Reading as R
use Rattle.formula_grammar.proofs.parser.Reader.cells.Goals as goal

pub returns-in_err-first-clause-err : goal.returns-in_err-first-clause-err
returns-in_err-first-clause-err c =
    let p = err_from_is_err_and c.from_residual.result c.from_residual.ensures.1 in
    let f = R.fails_cells c.args.self.now _ c.requires.next c.in_err-first.ensures.err in
    rw (p.1, p.2) f

pub returns-in-Colon-clause-ok : goal.returns-in-Colon-clause-ok
returns-in-Colon-clause-ok c = R.cells_range_ok _ _ _ _ _ _ c.second.result c.requires.next c.in_ok-first.ensures.ok c.second.ensures.ok

pub returns-in-Colon-clause-err : goal.returns-in-Colon-clause-err
returns-in-Colon-clause-err c = R.cells_range_err _ _ _ _ c.second.result c.requires.next c.in_ok-first.ensures.ok c.second.ensures.err

pub returns-in_default : goal.returns-in_default
returns-in_default c = record {
  ok = R.cells_cell _ _ _ _ _ _ c.requires.next c.in_ok-first.ensures.ok (λ e. c.in_default.not-Colon (c.peek.ensures ∙ e)) (ap Ref c.reference_at.ensures);
  err = tt;
  shorter = c.in_ok-first.ensures.shorter;
}
