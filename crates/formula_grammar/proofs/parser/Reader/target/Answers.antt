use Rattle.std.proofs.Common.{sym, ap, ◌∙◌}
use Rattle.std.proofs.lemmas.Result.{err_from_is_err_and}
use Rattle.formula_tokens.specs.declared.token.Token.{Token}
use Rattle.formula_grammar.proofs.Reading as R
use Rattle.formula_grammar.proofs.parser.Reader.target.Goals as goal

pub returns-in_ok-word-in-Prefix-Some-clause-ok : goal.returns-in_ok-word-in-Prefix-Some-clause-ok
returns-in_ok-word-in-Prefix-Some-clause-ok c =
    R.target_prefixed c.in-Prefix-Some.sheet c.in_ok-word-in-Prefix-Some.word c.args.self.now c.advance.new.self c.sheet_word.new.self
    (R.took _ _ _ _ (λ e. cc) (sym c.in-Prefix-Some.ensures ∙ ap Token.Prefix c.in-Prefix-Some.field-0-is) c.advance.ensures) c.in_ok-word-in-Prefix-Some.ensures.ok

pub returns-in_err-word-in-Prefix-Some-clause-err : goal.returns-in_err-word-in-Prefix-Some-clause-err
returns-in_err-word-in-Prefix-Some-clause-err c =
    let p = err_from_is_err_and c.from_residual-in_err-word-in-Prefix-Some.result c.from_residual-in_err-word-in-Prefix-Some.ensures.1 in
    let f = R.fails_prefixed c.in-Prefix-Some.sheet c.args.self.now c.advance.new.self _ (R.took _ _ _ _ (λ e. cc) (sym c.in-Prefix-Some.ensures ∙ ap Token.Prefix c.in-Prefix-Some.field-0-is) c.advance.ensures) c.in_err-word-in-Prefix-Some.ensures.err in
    rw (p.1, p.2) f
