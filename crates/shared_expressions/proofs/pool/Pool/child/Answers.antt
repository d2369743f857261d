use Rattle.std.proofs.Common.{◌≡◌, ◌≤◌, ◌<◌, Some, subst, sym, ap, ◌∙◌}
use Rattle.shared_expressions.specs.declared.store.Entry.{Entry}
use Rattle.shared_expressions.specs.Trees.{expr_at, tree_at, child_of}
use Rattle.shared_expressions.specs.Stored.{entry_at}
use Rattle.shared_expressions.proofs.Entries.{child_there, child_none}
use Rattle.shared_expressions.proofs.pool.Pool.child.Goals as goal

pub returns-then-k-entry_at : goal.returns-then-k-entry_at
returns-then-k-entry_at c =
    let e : c.entry_at.result ≡ entry_at c.self.inside.store.entries.items c.args.id.0 = c.entry_at.ensures ∙ ap (λ z. entry_at z c.args.id.0) c.deref.ensures.value in
    let there : c.args.k < (entry_at c.self.inside.store.entries.items c.args.id.0).count = subst (λ (z : Entry). c.args.k < z.count) e c.if-k-entry_at.true in
    (λ i. Some (expr_at (sym c.self.view_is i) (c.part.ensures.same i)))
    ∙ sym (child_there c.self.inside.store.children.items c.self.inside.store.entries.items c.args.id.0 c.args.k c.self.invariant.pool there)
    ∙ ap (λ z. child_of c.args.k (tree_at z c.args.id)) c.self.view_is

pub returns-else-k-entry_at : goal.returns-else-k-entry_at
returns-else-k-entry_at c =
    let e : c.entry_at.result ≡ entry_at c.self.inside.store.entries.items c.args.id.0 = c.entry_at.ensures ∙ ap (λ z. entry_at z c.args.id.0) c.deref.ensures.value in
    let gone : (entry_at c.self.inside.store.entries.items c.args.id.0).count ≤ c.args.k = subst (λ (z : Entry). z.count ≤ c.args.k) e c.if-k-entry_at.false in
    sym (child_none c.self.inside.store.children.items c.self.inside.store.entries.items c.args.id.0 c.args.k c.self.invariant.pool gone)
    ∙ ap (λ z. child_of c.args.k (tree_at z c.args.id)) c.self.view_is
