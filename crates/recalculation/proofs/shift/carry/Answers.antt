use Rattle.std.proofs.Common.{◌≡◌, Some, Option, sym, subst, ◌∙◌}
use Rattle.std.proofs.lemmas.Result.{on_ok_weaker}
use Rattle.cell_values.specs.declared.address.Addr.{Addr}
use Rattle.cell_values.specs.declared.values.Shown.{Shown}
use Rattle.cell_values.specs.Order.{entry_at}
use Rattle.cell_values.proofs.Order.{lookup_is}
use Rattle.row_shift.specs.Moves.{move_cell}
use Rattle.recalculation.specs.Shifts.{IsCarried}
use Rattle.recalculation.proofs.shift.carry.Goals as goal

pub returns-in-Some : goal.returns-in-Some
returns-in-Some c =
    let place : Some c.in-Some.to ≡ move_cell c.args.change c.args.at = sym c.in-Some.is ∙ c.move_cell.ensures in
    let held : c.copied.result ≡ entry_at c.args.stored.now.entries c.args.at = c.copied.ensures ∙ c.get.ensures.value ∙ lookup_is c.args.stored.now.entries c.args.at in
    on_ok_weaker c.carry_to.result
    (λ (h : IsCarried (Some c.in-Some.to) c.copied.result c.args.moved.now.entries c.carry_to.new.moved.entries).
    subst (λ (p : Option Addr). IsCarried p (entry_at c.args.stored.now.entries c.args.at) c.args.moved.now.entries c.carry_to.new.moved.entries) place
    (subst (λ (s : Option Shown). IsCarried (Some c.in-Some.to) s c.args.moved.now.entries c.carry_to.new.moved.entries) held h))
    c.carry_to.ensures
