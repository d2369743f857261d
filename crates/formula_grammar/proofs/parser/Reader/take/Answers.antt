use Rattle.std.proofs.Common.{sym, ap, ◌∙◌, rules}
use Rattle.formula_grammar.specs.Fault.{own_fault, named_fault}
use Rattle.formula_grammar.proofs.Reading as R
use Rattle.formula_grammar.proofs.parser.Reader.take.Goals as goal

pub returns-in-Some-clause-err : goal.returns-in-Some-clause-err
returns-in-Some-clause-err c = R.fails_own c.args.self.now _ c.in-Some.kind c.fault.ensures (ap own_fault (sym c.peek-token.ensures) ∙ sym c.own_fault.ensures ∙ c.in-Some.is)

pub returns-in-Some-named_fault-clause-err : goal.returns-in-Some-named_fault-clause-err
returns-in-Some-named_fault-clause-err c =
    R.fails_named c.args.self.now _ c.in-Some-named_fault.kind c.fault-in-Some-named_fault.ensures
    (R.none_left _ (λ k e. c.in_default.not-Some k (c.own_fault.ensures ∙ ap own_fault c.peek-token.ensures ∙ e))) (search rules)
    (ap named_fault (sym c.peek-token.ensures) ∙ sym c.named_fault.ensures ∙ c.in-Some-named_fault.is)
