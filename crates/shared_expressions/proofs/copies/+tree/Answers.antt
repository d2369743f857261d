use Rattle.std.proofs.Common.{◌≡◌, drop, refl, ap, ◌∙◌, arith}
use Rattle.formula_trees.specs.Expr.{Unary, Binary, Call, expr_of}
use Rattle.shared_expressions.specs.declared.nodes.Node.{Node}
use Rattle.shared_expressions.specs.declared.store.Store.{Store}
use Rattle.shared_expressions.specs.Trees.{expr_at}
use Rattle.shared_expressions.specs.Stored.{row, trees, parts, entry_at}
use Rattle.shared_expressions.proofs.Lookup.{from_entry, leaf_seen}
use Rattle.shared_expressions.proofs.copies.+tree.Goals as goal

pub args_from-returns : goal.args_from-returns
args_from-returns t c = (let none : c.loop-k.k ≡ 0 = omega (arith, c.loop-k-test.false) in c.loop-k.invariant.same ∙ ap (λ k. row (trees c.args.store.now) (drop k (parts c.args.store.now.children.items (entry_at c.args.store.now.entries.items c.args.id)))) none)

pub tree_from-returns-in_default : goal.tree_from-returns-in_default
tree_from-returns-in_default t c =
    let s : Store = c.args.store.now in
    c.leaf_tree.ensures
    ∙ leaf_seen (trees s) c.entry_at.result.node (parts s.children.items (entry_at s.entries.items c.args.id)) c.in_default.not-Unary c.in_default.not-Binary c.in_default.not-Call
    ∙ from_entry s c.args.id c.deref.result.now c.entry_at.result c.entry_at.result.node c.requires c.entry_at.ensures c.deref.ensures.value refl

pub tree_from-returns-in_ok-new-in-Unary : goal.tree_from-returns-in_ok-new-in-Unary
tree_from-returns-in_ok-new-in-Unary t c =
    ap (Unary c.in-Unary.sign) (ap expr_of c.in_ok-new-in-Unary.ensures.ok ∙ c.in_ok-a-in-Unary.ensures ∙ ap (expr_at (trees c.args.store.now)) c.part.ensures.same)
    ∙ from_entry c.args.store.now c.args.id c.deref.result.now c.entry_at.result (Node.Unary c.in-Unary.sign) c.requires c.entry_at.ensures c.deref.ensures.value c.in-Unary.is

pub tree_from-returns-in_ok-new-in-Binary-2 : goal.tree_from-returns-in_ok-new-in-Binary-2
tree_from-returns-in_ok-new-in-Binary-2 t c =
    (λ i. Binary c.in-Binary.op
    ((ap expr_of c.in_ok-new-in-Binary.ensures.ok ∙ c.in_ok-a-in-Binary.ensures ∙ ap (expr_at (trees c.args.store.now)) c.part-in-Binary.ensures.same) i)
    ((ap expr_of c.in_ok-new-in-Binary-2.ensures.ok ∙ c.in_ok-b-in-Binary.ensures ∙ ap (expr_at (trees c.args.store.now)) c.part-in-Binary-2.ensures.same) i))
    ∙ from_entry c.args.store.now c.args.id c.deref.result.now c.entry_at.result (Node.Binary c.in-Binary.op) c.requires c.entry_at.ensures c.deref.ensures.value c.in-Binary.is

pub tree_from-returns-in_ok-args_from-in-Call : goal.tree_from-returns-in_ok-args_from-in-Call
tree_from-returns-in_ok-args_from-in-Call t c =
    ap (Call c.in-Call.fun) c.in_ok-args_from-in-Call.ensures
    ∙ from_entry c.args.store.now c.args.id c.deref.result.now c.entry_at.result (Node.Call c.in-Call.fun) c.requires c.entry_at.ensures c.deref.ensures.value c.in-Call.is
