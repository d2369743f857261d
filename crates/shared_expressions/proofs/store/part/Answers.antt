use Rattle.std.proofs.Common.{◌≡◌, ◌+◌, ◌<◌, ◌≤◌, length, get_or, sym, ap, ◌∙◌, subst, arith}
use Rattle.std.proofs.lemmas.List.{get_or_read}
use Rattle.shared_expressions.specs.declared.store.Entry.{Entry}
use Rattle.shared_expressions.specs.Stored.{entry_at}
use Rattle.shared_expressions.proofs.Entries.{part_read, part_below}
use Rattle.shared_expressions.proofs.store.part.Goals as goal

pub returns-clause-below : goal.returns-clause-below
returns-clause-below c =
    let e : c.entry_at.result ≡ entry_at c.args.store.now.entries.items c.args.i = c.entry_at.ensures ∙ ap (λ z. entry_at z c.args.i) c.deref.ensures.value in
    let within : (entry_at c.args.store.now.entries.items c.args.i).first + (entry_at c.args.store.now.entries.items c.args.i).count ≤ length c.args.store.now.children.items = (c.requires.store.pool.entries c.args.i).within in
    let first : c.entry_at.result.first ≡ (entry_at c.args.store.now.entries.items c.args.i).first = ap (λ (z : Entry). z.first) e in
    let read : c.index.result.now ≡ get_or c.args.store.now.children.items (c.entry_at.result.first + c.args.k) 0 = get_or_read c.args.store.now.children.items (c.entry_at.result.first + c.args.k) c.index.result.now (omega arith) c.index.ensures 0 in
    subst (λ z. z < c.args.i) (sym (read ∙ ap (λ z. get_or c.args.store.now.children.items (z + c.args.k) 0) first ∙ part_read c.args.store.now.children.items c.args.store.now.entries.items c.args.i c.args.k c.requires.store.pool c.requires.there))
    (part_below c.args.store.now.children.items c.args.store.now.entries.items c.args.i c.args.k c.requires.store.pool c.requires.there)
