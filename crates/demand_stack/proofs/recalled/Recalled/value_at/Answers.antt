use Rattle.std.proofs.Common.{sym, ap, ◌∙◌}
use Rattle.worker_machine.specs.Evaluation.{known_value}
use Rattle.demand_stack.proofs.Recalls.{known_at, recalled_pending, recalled_other}
use Rattle.demand_stack.proofs.recalled.Recalled.value_at.Goals as goal

pub number_in-requires : goal.number_in-requires
number_in-requires c = c.self.invariant.pending.in_order

pub returns-in-Some : goal.returns-in-Some
returns-in-Some c = rw (← c.self.view_is) (recalled_pending _ _ c.args.at c.in-Some.cell _ c.in-Some.ensures (c.value_of.ensures ∙ ap known_value (c.shown.ensures ∙ sym (known_at c.self.inside.notes.now c.in-Some.cell))))

pub returns-in-None : goal.returns-in-None
returns-in-None c =
    let t = rw (← c.self.view_is) at c.requires in
    rw (← c.self.view_is) (recalled_other _ _ c.self.inside.stored.now.entries c.args.at t.0 _ c.self.invariant.stored t.1 c.in-None.ensures (c.value_of-in-None.ensures ∙ ap known_value c.result_of.ensures))
