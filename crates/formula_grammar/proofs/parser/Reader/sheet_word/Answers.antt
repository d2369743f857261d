use Rattle.std.proofs.Common.{sym}
use Rattle.std.proofs.lemmas.Result.{err_from_is_err_and}
use Rattle.formula_grammar.proofs.Reading as R
use Rattle.formula_grammar.proofs.parser.Reader.sheet_word.Goals as goal

pub returns-in_err-take-in-SheetReference-clause-err : goal.returns-in_err-take-in-SheetReference-clause-err
returns-in_err-take-in-SheetReference-clause-err c =
    let p = err_from_is_err_and c.from_residual.result c.from_residual.ensures.1 in
    let f = R.fails_sheet_word c.in-SheetReference.word c.args.self.now _ (sym c.in-SheetReference.ensures) c.in_err-take-in-SheetReference.ensures.err in
    rw (p.1, p.2) f
