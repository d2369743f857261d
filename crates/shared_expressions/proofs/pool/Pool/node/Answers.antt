use Rattle.std.proofs.Common.{sym, ap, ◌∙◌}
use Rattle.shared_expressions.specs.declared.store.Entry.{Entry}
use Rattle.shared_expressions.specs.Trees.{root_of, tree_at}
use Rattle.shared_expressions.specs.Stored.{entry_at}
use Rattle.shared_expressions.proofs.Entries.{root_is}
use Rattle.shared_expressions.proofs.pool.Pool.node.Goals as goal

pub returns : goal.returns
returns c =
    ap (λ (e : Entry). e.node) (c.entry_at.ensures ∙ ap (λ z. entry_at z c.args.id.0) c.deref.ensures.value)
    ∙ sym (root_is c.self.inside.store.children.items c.self.inside.store.entries.items c.args.id.0 c.self.invariant.pool)
    ∙ ap (λ z. root_of (tree_at z c.args.id)) c.self.view_is
