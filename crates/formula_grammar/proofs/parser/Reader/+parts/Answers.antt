use Rattle.std.proofs.Common.{sym, ap, ap₂, ◌∙◌, arith}
use Rattle.std.proofs.lemmas.Result.{err_from_is_err_and}
use Rattle.formula_trees.specs.Expr.{expr_of, exprs_of, Unary, More}
use Rattle.formula_grammar.specs.Fault.{own_fault}
use Rattle.formula_grammar.specs.Rest.{sign_token}
use Rattle.formula_grammar.proofs.Reading as R
use Rattle.formula_grammar.proofs.parser.Reader.+parts.Goals as goal

pub expression-loop-op-init : goal.expression-loop-op-init
expression-loop-op-init t c = record {
  read = R.expression_first _ _ _ _ _ c.in_ok-left.ensures.ok;
  next = c.in_ok-left.ensures.next;
  shorter = c.in_ok-left.ensures.shorter;
}

pub expression-loop-op-preserved : goal.expression-loop-op-preserved
expression-loop-op-preserved t c =
    let e = R.took_operator c.in-Some.op c.loop-op.self c.take.new.self (sym c.peek.ensures ∙ c.in-Some.ensures.some.0) c.in_ok-take.ensures.ok in
    record {
      read = R.expression_more _ _ c.in-Some.op _ c.loop-op.self c.take.new.self _ _ _ _ c.loop-op.invariant.read e c.in_ok-take.ensures.room c.in-Some.ensures.some.1 c.in_ok-right.ensures.ok c.in_ok-left-2.ensures.ok;
      next = c.in_ok-right.ensures.next;
      shorter = omega (arith, R.took_shorter _ _ _ _ e, c.in_ok-right.ensures.shorter, c.loop-op.invariant.shorter);
    }

pub expression-returns-in_err-take-clause-err : goal.expression-returns-in_err-take-clause-err
expression-returns-in_err-take-clause-err t c =
    let p = err_from_is_err_and c.from_residual-in_err-take.result c.from_residual-in_err-take.ensures.1 in
    let f = R.fails_operator c.args.depth c.in-Some.op c.args.self.now c.loop-op.self _ c.loop-op.invariant.read.runs (sym c.peek.ensures ∙ c.in-Some.ensures.some.0) c.in_err-take.ensures.err in
    rw (p.1, p.2) f

pub joins-loop-op-init : goal.joins-loop-op-init
joins-loop-op-init t c = record {
  read = R.joins_first _ _ _ _ _ c.in_ok-left.ensures.ok;
  next = c.in_ok-left.ensures.next;
  shorter = c.in_ok-left.ensures.shorter;
}

pub joins-loop-op-preserved : goal.joins-loop-op-preserved
joins-loop-op-preserved t c =
    let e = R.took_operator c.in-Some.op c.loop-op.self c.take.new.self (sym c.peek.ensures ∙ c.in-Some.ensures.some.0) c.in_ok-take.ensures.ok in
    record {
      read = R.joins_more _ _ c.in-Some.op _ c.loop-op.self c.take.new.self _ _ _ _ c.loop-op.invariant.read e c.in_ok-take.ensures.room c.in-Some.ensures.some.1 c.in_ok-right.ensures.ok c.in_ok-left-2.ensures.ok;
      next = c.in_ok-right.ensures.next;
      shorter = omega (arith, R.took_shorter _ _ _ _ e, c.in_ok-right.ensures.shorter, c.loop-op.invariant.shorter);
    }

pub joins-returns-in_err-take-clause-err : goal.joins-returns-in_err-take-clause-err
joins-returns-in_err-take-clause-err t c =
    let p = err_from_is_err_and c.from_residual-in_err-take.result c.from_residual-in_err-take.ensures.1 in
    let f = R.fails_operator c.args.depth c.in-Some.op c.args.self.now c.loop-op.self _ c.loop-op.invariant.read.runs (sym c.peek.ensures ∙ c.in-Some.ensures.some.0) c.in_err-take.ensures.err in
    rw (p.1, p.2) f

pub sums-loop-op-init : goal.sums-loop-op-init
sums-loop-op-init t c = record {
  read = R.sums_first _ _ _ _ _ c.in_ok-left.ensures.ok;
  next = c.in_ok-left.ensures.next;
  shorter = c.in_ok-left.ensures.shorter;
}

pub sums-loop-op-preserved : goal.sums-loop-op-preserved
sums-loop-op-preserved t c =
    let e = R.took_operator c.in-Some.op c.loop-op.self c.take.new.self (sym c.peek.ensures ∙ c.in-Some.ensures.some.0) c.in_ok-take.ensures.ok in
    record {
      read = R.sums_more _ _ c.in-Some.op _ c.loop-op.self c.take.new.self _ _ _ _ c.loop-op.invariant.read e c.in_ok-take.ensures.room c.in-Some.ensures.some.1 c.in_ok-right.ensures.ok c.in_ok-left-2.ensures.ok;
      next = c.in_ok-right.ensures.next;
      shorter = omega (arith, R.took_shorter _ _ _ _ e, c.in_ok-right.ensures.shorter, c.loop-op.invariant.shorter);
    }

pub sums-returns-in_err-take-clause-err : goal.sums-returns-in_err-take-clause-err
sums-returns-in_err-take-clause-err t c =
    let p = err_from_is_err_and c.from_residual-in_err-take.result c.from_residual-in_err-take.ensures.1 in
    let f = R.fails_operator c.args.depth c.in-Some.op c.args.self.now c.loop-op.self _ c.loop-op.invariant.read.runs (sym c.peek.ensures ∙ c.in-Some.ensures.some.0) c.in_err-take.ensures.err in
    rw (p.1, p.2) f

pub term-loop-op-init : goal.term-loop-op-init
term-loop-op-init t c = record {
  read = R.term_first _ _ _ _ _ c.in_ok-left.ensures.ok;
  shorter = c.in_ok-left.ensures.shorter;
}

pub term-loop-op-preserved : goal.term-loop-op-preserved
term-loop-op-preserved t c =
    let e = R.took_operator c.in-Some.op c.loop-op.self c.take.new.self (sym c.peek.ensures ∙ c.in-Some.ensures.some.0) c.in_ok-take.ensures.ok in
    record {
      read = R.term_more _ _ c.in-Some.op _ c.loop-op.self c.take.new.self _ _ _ _ c.loop-op.invariant.read e c.in_ok-take.ensures.room c.in-Some.ensures.some.1 c.in_ok-right.ensures.ok c.in_ok-left-2.ensures.ok;
      shorter = omega (arith, R.took_shorter _ _ _ _ e, c.in_ok-right.ensures.shorter, c.loop-op.invariant.shorter);
    }

pub term-returns-in_err-take-clause-err : goal.term-returns-in_err-take-clause-err
term-returns-in_err-take-clause-err t c =
    let p = err_from_is_err_and c.from_residual-in_err-take.result c.from_residual-in_err-take.ensures.1 in
    let f = R.fails_operator c.args.depth c.in-Some.op c.args.self.now c.loop-op.self _ c.loop-op.invariant.read.runs (sym c.peek.ensures ∙ c.in-Some.ensures.some.0) c.in_err-take.ensures.err in
    rw (p.1, p.2) f

pub term-returns-in_err-right-clause-err : goal.term-returns-in_err-right-clause-err
term-returns-in_err-right-clause-err t c =
    let p = err_from_is_err_and c.from_residual-in_err-right.result c.from_residual-in_err-right.ensures.1 in
    let e = R.took_operator c.in-Some.op c.loop-op.self c.take.new.self (sym c.peek.ensures ∙ c.in-Some.ensures.some.0) c.in_ok-take.ensures.ok in
    let f = R.fails_over c.args.depth c.in-Some.op c.args.self.now c.loop-op.self c.take.new.self _ c.loop-op.invariant.read.runs e c.in_ok-take.ensures.room (R.fails_signed c.args.depth c.take.new.self _ c.in_err-right.ensures.err) in
    rw (p.1, p.2) f

pub signed-returns-in-None-clause-ok : goal.signed-returns-in-None-clause-ok
signed-returns-in-None-clause-ok t c = R.signed_plain _ _ _ _ c.primary.result c.primary.ensures.ok

pub signed-returns-in_ok-new-in-Some-clause-ok : goal.signed-returns-in_ok-new-in-Some-clause-ok
signed-returns-in_ok-new-in-Some-clause-ok t c =
    let next = R.sign_is _ c.in-Some.sign (ap sign_token (sym c.peek.ensures) ∙ sym c.sign_at.ensures ∙ c.in-Some.is) in
    R.signed_sign _ c.in-Some.sign _ _ c.take.new.self _ _ _ (R.took_operator _ _ _ next c.in_ok-take-in-Some.ensures.ok) c.if-depth-ge-MAX_LEVELS.false c.in_ok-take-in-Some.ensures.room c.in_ok-operand-in-Some.ensures.ok (ap (λ x. Unary c.in-Some.sign (expr_of x)) c.in_ok-new-in-Some.ensures.ok)

pub signed-returns-in_err-take-in-Some-clause-err : goal.signed-returns-in_err-take-in-Some-clause-err
signed-returns-in_err-take-in-Some-clause-err t c =
    let next = R.sign_is _ c.in-Some.sign (ap sign_token (sym c.peek.ensures) ∙ sym c.sign_at.ensures ∙ c.in-Some.is) in
    let p = err_from_is_err_and c.from_residual.result c.from_residual.ensures.1 in
    let f = R.fails_sign c.in-Some.sign c.args.depth c.args.self.now _ next c.if-depth-ge-MAX_LEVELS.false c.in_err-take-in-Some.ensures.err in
    rw (p.1, p.2) f

pub signed-returns-in_err-operand-in-Some-clause-err : goal.signed-returns-in_err-operand-in-Some-clause-err
signed-returns-in_err-operand-in-Some-clause-err t c =
    let next = R.sign_is _ c.in-Some.sign (ap sign_token (sym c.peek.ensures) ∙ sym c.sign_at.ensures ∙ c.in-Some.is) in
    let p = err_from_is_err_and c.from_residual-in_err-operand-in-Some.result c.from_residual-in_err-operand-in-Some.ensures.1 in
    let f = R.fails_signing c.in-Some.sign c.args.depth c.args.self.now c.take.new.self _ (R.took_operator _ _ _ next c.in_ok-take-in-Some.ensures.ok) c.if-depth-ge-MAX_LEVELS.false c.in_ok-take-in-Some.ensures.room c.in_err-operand-in-Some.ensures.err in
    rw (p.1, p.2) f

pub primary-returns-in_ok-take-in-Literal-clause-ok : goal.primary-returns-in_ok-take-in-Literal-clause-ok
primary-returns-in_ok-take-in-Literal-clause-ok t c =
    R.primary_literal _ _ c.in-Literal.literal _ _ _ (R.took _ _ _ _ (λ e. cc) (sym c.in-Literal.ensures) c.in_ok-take-in-Literal.ensures.ok) c.in_ok-take-in-Literal.ensures.room (ap own_fault c.in-Literal.ensures ∙ c.in_ok-take-in-Literal.ensures.known) c.literal_tree.ensures

pub primary-returns-in_err-take-in-Literal-clause-err : goal.primary-returns-in_err-take-in-Literal-clause-err
primary-returns-in_err-take-in-Literal-clause-err t c =
    let p = err_from_is_err_and c.from_residual.result c.from_residual.ensures.1 in
    let f = R.fails_literal c.in-Literal.literal c.args.depth c.args.self.now _ (sym c.in-Literal.ensures) c.in_err-take-in-Literal.ensures.err in
    rw (p.1, p.2) f

pub primary-returns-in-RightParen-clause-ok : goal.primary-returns-in-RightParen-clause-ok
primary-returns-in-RightParen-clause-ok t c =
    R.primary_group _ _ _ c.advance.new.self c.expression.new.self _ _ (R.took _ _ _ _ (λ e. cc) (sym c.in-LeftParen.ensures) c.advance.ensures) c.if-depth-ge-MAX_LEVELS.false c.in_ok-inner-in-LeftParen.ensures.ok (R.took _ _ _ _ (λ e. cc) (sym c.in-RightParen.ensures) c.advance-in-RightParen.ensures)

pub primary-returns-in_err-inner-in-LeftParen-clause-err : goal.primary-returns-in_err-inner-in-LeftParen-clause-err
primary-returns-in_err-inner-in-LeftParen-clause-err t c =
    let p = err_from_is_err_and c.from_residual-in_err-inner-in-LeftParen.result c.from_residual-in_err-inner-in-LeftParen.ensures.1 in
    let f = R.fails_group c.args.depth c.args.self.now c.advance.new.self _ (R.took _ _ _ _ (λ e. cc) (sym c.in-LeftParen.ensures) c.advance.ensures) c.if-depth-ge-MAX_LEVELS.false c.in_err-inner-in-LeftParen.ensures.err in
    rw (p.1, p.2) f

pub call-returns-in_err-take-clause-err : goal.call-returns-in_err-take-clause-err
call-returns-in_err-take-clause-err t c =
    let p = err_from_is_err_and c.from_residual.result c.from_residual.ensures.1 in
    let f = R.fails_name c.args.function c.args.depth c.args.self.now _ c.requires.named c.in_err-take.ensures.err in
    rw (p.1, p.2) f

pub call-returns-in_ok-arguments-in_default-peek : goal.call-returns-in_ok-arguments-in_default-peek
call-returns-in_ok-arguments-in_default-peek t c =
    let name = R.took _ _ c.args.self.now c.take.new.self (λ e. cc) c.requires.named c.in_ok-take.ensures.ok in
    let paren = R.took _ _ c.take.new.self c.advance.new.self (λ e. cc) (sym c.in-LeftParen.ensures) c.advance.ensures in
    record {
      ok =
          R.primary_call _ _ c.args.function _ c.take.new.self c.advance.new.self _ _ name c.in_ok-take.ensures.room paren c.if-depth-ge-MAX_LEVELS.false
          (λ e. c.in_default-peek.not-RightParen (c.peek-2.ensures ∙ e)) c.in_ok-arguments-in_default-peek.ensures.ok;
      err = tt;
      shorter = omega (arith, R.took_shorter _ _ _ _ name, R.took_shorter _ _ _ _ paren, c.in_ok-arguments-in_default-peek.ensures.shorter);
    }

pub call-returns-in_err-arguments-in_default-peek : goal.call-returns-in_err-arguments-in_default-peek
call-returns-in_err-arguments-in_default-peek t c =
    let name = R.took _ _ c.args.self.now c.take.new.self (λ e. cc) c.requires.named c.in_ok-take.ensures.ok in
    let paren = R.took _ _ c.take.new.self c.advance.new.self (λ e. cc) (sym c.in-LeftParen.ensures) c.advance.ensures in
    let f =
    R.fails_call _ c.args.function _ c.take.new.self c.advance.new.self _ name c.in_ok-take.ensures.room paren c.if-depth-ge-MAX_LEVELS.false
    (λ e. c.in_default-peek.not-RightParen (c.peek-2.ensures ∙ e)) c.in_err-arguments-in_default-peek.ensures.err
    in
    let p = err_from_is_err_and c.from_residual-in_err-arguments-in_default-peek.result c.from_residual-in_err-arguments-in_default-peek.ensures.1 in
    rw (p.1, p.2) (record { ok = tt; err = f; shorter = tt })

pub arguments-returns-in_ok-new-in-Comma-2-clause-ok : goal.arguments-returns-in_ok-new-in-Comma-2-clause-ok
arguments-returns-in_ok-new-in-Comma-2-clause-ok t c =
    R.more_is _ _ c.kind_of.result _ _ _ c.argument.new.self c.advance-in-Comma.new.self _ (expr_of c.in_ok-first.first) (exprs_of c.in_ok-others-in-Comma.others) _ c.kind_of.ensures c.in_ok-first.ensures.ok
    (R.took _ _ _ _ (λ e. cc) (sym c.in-Comma.ensures) c.advance-in-Comma.ensures)
    (sym c.may_go_on.ensures ∙ c.if-not-may_go_on.false) c.in_ok-others-in-Comma.ensures.ok
    (ap₂ More (ap expr_of c.in_ok-new-in-Comma.ensures.ok) (ap exprs_of c.in_ok-new-in-Comma-2.ensures.ok))

pub arguments-returns-in_err-others-in-Comma-clause-err : goal.arguments-returns-in_err-others-in-Comma-clause-err
arguments-returns-in_err-others-in-Comma-clause-err t c =
    let p = err_from_is_err_and c.from_residual-in_err-others-in-Comma.result c.from_residual-in_err-others-in-Comma.ensures.1 in
    let f =
    R.fails_more _ c.args.function c.kind_of.result c.args.before _ _ c.argument.new.self c.advance-in-Comma.new.self (expr_of c.in_ok-first.first) _ c.kind_of.ensures c.in_ok-first.ensures.ok
    (R.took _ _ _ _ (λ e. cc) (sym c.in-Comma.ensures) c.advance-in-Comma.ensures) (sym c.may_go_on.ensures ∙ c.if-not-may_go_on.false) c.in_err-others-in-Comma.ensures.err
    in
    rw (p.1, p.2) f

pub arguments-returns-in_ok-new-in-RightParen-2-clause-ok : goal.arguments-returns-in_ok-new-in-RightParen-2-clause-ok
arguments-returns-in_ok-new-in-RightParen-2-clause-ok t c =
    R.last_is _ _ c.kind_of.result _ _ _ c.argument.new.self _ (expr_of c.in_ok-first.first) _ c.kind_of.ensures c.in_ok-first.ensures.ok
    (R.took _ _ _ _ (λ e. cc) (sym c.in-RightParen.ensures) c.advance.ensures)
    (sym c.are_enough.ensures ∙ c.if-not-are_enough.false)
    (ap₂ More (ap expr_of c.in_ok-new-in-RightParen.ensures.ok) (ap exprs_of c.in_ok-new-in-RightParen-2.ensures.ok))

pub argument-returns-in-Plain-clause-ok : goal.argument-returns-in-Plain-clause-ok
argument-returns-in-Plain-clause-ok t c = R.argument_value_ok _ c.args.kind _ _ _ c.expression.result (sym c.in-Plain.is) c.expression.ensures.next c.expression.ensures.ok

pub argument-returns-in-Plain-clause-err : goal.argument-returns-in-Plain-clause-err
argument-returns-in-Plain-clause-err t c = R.fails_value c.args.kind _ _ c.expression.result (sym c.in-Plain.is) c.expression.ensures.err

pub argument-returns-else-is_range_ahead-clause-ok : goal.argument-returns-else-is_range_ahead-clause-ok
argument-returns-else-is_range_ahead-clause-ok t c =
    R.argument_many_ok _ c.args.kind _ _ _ c.expression-else-is_range_ahead.result (sym c.in-Many.is) (sym c.is_range_ahead.ensures ∙ c.if-is_range_ahead.false) c.expression-else-is_range_ahead.ensures.next c.expression-else-is_range_ahead.ensures.ok

pub argument-returns-else-is_range_ahead-clause-err : goal.argument-returns-else-is_range_ahead-clause-err
argument-returns-else-is_range_ahead-clause-err t c =
    R.fails_many_value c.args.kind _ _ c.expression-else-is_range_ahead.result (sym c.in-Many.is) (sym c.is_range_ahead.ensures ∙ c.if-is_range_ahead.false) c.expression-else-is_range_ahead.ensures.err

pub argument-returns-in-Literal-clause-ok : goal.argument-returns-in-Literal-clause-ok
argument-returns-in-Literal-clause-ok t c = R.argument_lone_ok _ c.args.kind _ c.in-Literal.literal _ _ c.lone.result c.lone.ensures.ok

pub argument-returns-in-Literal-peek-clause-ok : goal.argument-returns-in-Literal-peek-clause-ok
argument-returns-in-Literal-peek-clause-ok t c = R.argument_lone_ok _ c.args.kind _ c.in-Literal-peek.literal _ _ c.lone-in-Literal-peek.result c.lone-in-Literal-peek.ensures.ok
