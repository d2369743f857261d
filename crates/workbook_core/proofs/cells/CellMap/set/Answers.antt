use Rattle.std.proofs.Common.{◌≡◌, ◌+◌, Some, None, cond, is_some, length, subst, sym, rules}
use Rattle.cell_values.specs.Order.{entry_at}
use Rattle.workbook_core.specs.Held.{AreIndexed, SetsHeld}
use Rattle.workbook_core.proofs.Lookups.{sets_held, indexed_after, indexed_again, absent, absent_from_map, added_length}
use Rattle.workbook_core.proofs.cells.CellMap.set.Goals as goal

pub returns-in_err-insert-clause-empty : goal.returns-in_err-insert-clause-empty
returns-in_err-insert-clause-empty c =
    let none : entry_at c.self.inside.by_row.entries c.args.at ≡ None = absent c.self.inside.by_row.entries c.self.inside.by_column c.args.at c.turned.result c.turned.ensures c.self.invariant c.in_err-insert.ensures.absent in
    let there : entry_at c.args.self.now c.args.at ≡ None = subst (λ es. entry_at es c.args.at ≡ None) c.self.view_is none in
    search rules

pub invariant_of-self-in-Ok : goal.invariant_of-self-in-Ok
invariant_of-self-in-Ok c = indexed_after c.self.inside.by_row.entries c.insert-2.new.self.entries c.self.inside.by_column c.insert.new.self c.args.at (Some c.args.content) c.turned.result c.turned.ensures c.self.invariant
    (sets_held c.self.inside.by_row c.insert-2.new.self c.args.at (Some c.args.content) c.in-Ok.ensures.updates c.insert-2.ensures.ordered)
    c.in_ok-insert.ensures.updates

pub invariant_of-self-in-Err : goal.invariant_of-self-in-Err
invariant_of-self-in-Err c = subst (λ es. AreIndexed es c.remove.new.self.keys) (sym c.in-Err.ensures.err)
    (indexed_again c.self.inside.by_row.entries c.self.inside.by_column c.insert.new.self c.remove.new.self c.args.at c.turned.result c.turned-in-Err.result c.turned.ensures c.turned-in-Err.ensures c.self.invariant
    (absent_from_map c.self.inside.by_row c.args.at c.in-Err.ensures.absent) c.in_ok-insert.ensures.updates c.remove.ensures.updates)

pub returns-in-Ok-clause-ok : goal.returns-in-Ok-clause-ok
returns-in-Ok-clause-ok c = subst (λ es. SetsHeld c.args.at (Some c.args.content) es c.insert-2.new.self.entries) c.self.view_is
    (sets_held c.self.inside.by_row c.insert-2.new.self c.args.at (Some c.args.content) c.in-Ok.ensures.updates c.insert-2.ensures.ordered)

pub returns-in-Ok-clause-len : goal.returns-in-Ok-clause-len
returns-in-Ok-clause-len c = subst (λ es. length c.insert-2.new.self.entries ≡ length es + cond (is_some (entry_at es c.args.at)) 0 1) c.self.view_is
    (added_length c.self.inside.by_row c.insert-2.new.self c.args.at c.in-Ok.field-0 c.in-Ok.ensures.old c.in-Ok.ensures.len)

pub returns-in-Err-clause-empty : goal.returns-in-Err-clause-empty
returns-in-Err-clause-empty c = subst (λ es. entry_at es c.args.at ≡ None) c.self.view_is (absent_from_map c.self.inside.by_row c.args.at c.in-Err.ensures.absent)
