use Rattle.std.proofs.Common.{◌≡◌, [], length, sym, ap, ◌∙◌, arith}
use Rattle.formula_trees.specs.Expr.{exprs_of, expr_of, More}
use Rattle.shared_expressions.specs.Trees.{Trees}
use Rattle.shared_expressions.specs.Stored.{trees, row, joined, AllBelow}
use Rattle.shared_expressions.proofs.Entries.{joined_end, row_more, if_ok_then, all_below_more, length-grown}
use Rattle.shared_expressions.proofs.There.{unary_part, unary_adds, left_part, right_part, binary_adds, call_part, call_adds}
use Rattle.shared_expressions.proofs.store.+intern.Goals as goal

pub intern_args-returns-in_err-x-in-More-clause-below :
    goal.intern_args-returns-in_err-x-in-More-clause-below
intern_args-returns-in_err-x-in-More-clause-below t c = all_below_more (length c.args.store.now.entries.items) (length c.intern_tree.new.store.entries.items) c.args.numbers.now.items c.intern_tree.ensures.grows.longer c.requires.below

pub intern_args-push_number-requires-clause-below :
    goal.intern_args-push_number-requires-clause-below
intern_args-push_number-requires-clause-below t c = all_below_more (length c.args.store.now.entries.items) (length c.intern_tree.new.store.entries.items) c.args.numbers.now.items c.intern_tree.ensures.grows.longer c.requires.below

pub intern_args-returns-in-End-clause-ok : goal.intern_args-returns-in-End-clause-ok
intern_args-returns-in-End-clause-ok t c =
    joined_end (row (trees c.args.store.now) c.args.numbers.now.items)
    ∙ ap (λ z. joined (row (trees c.args.store.now) c.args.numbers.now.items) (exprs_of z)) (sym c.in-End.is)

pub intern_args-returns-in_ok-push_number-in-More-clause-ok :
    goal.intern_args-returns-in_ok-push_number-in-More-clause-ok
intern_args-returns-in_ok-push_number-in-More-clause-ok t c =
    let p : Trees = trees c.args.store.now in
    let q : Trees = trees c.intern_tree.new.store in
    let r : Trees = trees c.intern_args.new.store in
    let b : AllBelow (length p) c.args.numbers.now.items = all_below_more (length c.args.store.now.entries.items) (length p) c.args.numbers.now.items (omega (arith, length-grown c.args.store.now.children.items [] c.args.store.now.entries.items)) c.requires.below in
    let e : exprs_of c.args.args.now ≡ More (expr_of c.in-More.a.value) (exprs_of c.in-More.rest.value) = ap exprs_of c.in-More.is in
    if_ok_then (λ x. row r c.intern_args.new.numbers.items ≡ joined (row q c.push_number.new.numbers.items) (exprs_of c.deref-in-More.result.now)) (λ x. row r c.intern_args.new.numbers.items ≡ joined (row p c.args.numbers.now.items) (exprs_of c.args.args.now)) c.intern_args.result
    (λ x h. row_more p q r c.args.numbers.now.items c.intern_args.new.numbers.items c.in_ok-x-in-More.x (expr_of c.in-More.a.value) (exprs_of c.in-More.rest.value) c.intern_tree.ensures.grows.trees b (c.in_ok-x-in-More.ensures.ok.number.same ∙ ap expr_of c.deref.ensures) (h ∙ (λ i. joined (row q (c.in_ok-push_number-in-More.ensures.ok i)) (exprs_of (c.deref-in-More.ensures i)))) ∙ ap (λ z. joined (row p c.args.numbers.now.items) z) (sym e))
    c.intern_args.ensures.ok

pub intern_tree-returns-in_err-x-in-Unary-clause-there :
    goal.intern_tree-returns-in_err-x-in-Unary-clause-there
intern_tree-returns-in_err-x-in-Unary-clause-there t c = unary_part c.args.store.now c.requires c.in-Unary.sign (expr_of c.in-Unary.a.value) (expr_of c.deref.result.now) (expr_of c.args.tree.now) (trees c.intern_tree.new.store) (ap expr_of c.in-Unary.is) (ap expr_of c.deref.ensures) c.intern_tree.ensures.there

pub intern_tree-returns-in_ok-x-in-Unary-clause-there :
    goal.intern_tree-returns-in_ok-x-in-Unary-clause-there
intern_tree-returns-in_ok-x-in-Unary-clause-there t c = unary_adds c.args.store.now c.requires c.in-Unary.sign (expr_of c.in-Unary.a.value) (expr_of c.deref.result.now) (expr_of c.args.tree.now) (trees c.intern_tree.new.store) (trees c.add-in-Unary.new.store) c.in_ok-x-in-Unary.x (ap expr_of c.in-Unary.is) (ap expr_of c.deref.ensures) c.intern_tree.ensures.there c.in_ok-x-in-Unary.ensures.ok.number.same c.add-in-Unary.ensures.there

pub intern_tree-returns-in_err-x-in-Binary-clause-there :
    goal.intern_tree-returns-in_err-x-in-Binary-clause-there
intern_tree-returns-in_err-x-in-Binary-clause-there t c = left_part c.args.store.now c.requires c.in-Binary.op (expr_of c.in-Binary.a.value) (expr_of c.in-Binary.b.value) (expr_of c.deref-in-Binary.result.now) (expr_of c.args.tree.now) (trees c.intern_tree-in-Binary.new.store) (ap expr_of c.in-Binary.is) (ap expr_of c.deref-in-Binary.ensures) c.intern_tree-in-Binary.ensures.there

pub intern_tree-returns-in_err-y-in-Binary-clause-there :
    goal.intern_tree-returns-in_err-y-in-Binary-clause-there
intern_tree-returns-in_err-y-in-Binary-clause-there t c = right_part c.args.store.now c.requires c.in-Binary.op (expr_of c.in-Binary.a.value) (expr_of c.in-Binary.b.value) (expr_of c.deref-in-Binary.result.now) (expr_of c.deref-in-Binary-2.result.now) (expr_of c.args.tree.now) (trees c.intern_tree-in-Binary.new.store) (trees c.intern_tree-in-Binary-2.new.store) (ap expr_of c.in-Binary.is) (ap expr_of c.deref-in-Binary.ensures) (ap expr_of c.deref-in-Binary-2.ensures) c.intern_tree-in-Binary.ensures.there c.intern_tree-in-Binary-2.ensures.there

pub intern_tree-returns-in_ok-y-in-Binary-clause-there :
    goal.intern_tree-returns-in_ok-y-in-Binary-clause-there
intern_tree-returns-in_ok-y-in-Binary-clause-there t c = binary_adds c.args.store.now c.requires c.in-Binary.op (expr_of c.in-Binary.a.value) (expr_of c.in-Binary.b.value) (expr_of c.deref-in-Binary.result.now) (expr_of c.deref-in-Binary-2.result.now) (expr_of c.args.tree.now) (trees c.intern_tree-in-Binary.new.store) (trees c.intern_tree-in-Binary-2.new.store) (trees c.add-in-Binary.new.store) c.in_ok-x-in-Binary.x c.in_ok-y-in-Binary.y (ap expr_of c.in-Binary.is) (ap expr_of c.deref-in-Binary.ensures) (ap expr_of c.deref-in-Binary-2.ensures) c.intern_tree-in-Binary.ensures.there c.intern_tree-in-Binary-2.ensures.there c.in_ok-x-in-Binary.ensures.ok.number.same c.in_ok-y-in-Binary.ensures.ok.number.same c.add-in-Binary.ensures.there

pub intern_tree-returns-in_err-intern_args-in-Call-clause-there :
    goal.intern_tree-returns-in_err-intern_args-in-Call-clause-there
intern_tree-returns-in_err-intern_args-in-Call-clause-there t c = call_part c.args.store.now c.requires c.in-Call.fun (exprs_of c.in-Call.args) (expr_of c.args.tree.now) (trees c.intern_args.new.store) (ap expr_of c.in-Call.is) c.intern_args.ensures.there

pub intern_tree-returns-in_ok-intern_args-in-Call-clause-there :
    goal.intern_tree-returns-in_ok-intern_args-in-Call-clause-there
intern_tree-returns-in_ok-intern_args-in-Call-clause-there t c = call_adds c.args.store.now c.requires c.in-Call.fun (exprs_of c.in-Call.args) (expr_of c.args.tree.now) (trees c.intern_args.new.store) (trees c.add-in-Call.new.store) c.deref-in-Call.result.now (ap expr_of c.in-Call.is) c.intern_args.ensures.there (ap (row (trees c.intern_args.new.store)) c.deref-in-Call.ensures.value ∙ c.in_ok-intern_args-in-Call.ensures.ok ∙ ap (λ z. joined (row (trees c.args.store.now) z) (exprs_of c.in-Call.args)) c.new-numbers.ensures.items) c.add-in-Call.ensures.there
