use Rattle.std.proofs.Common.{length, ap, sym, ◌∙◌, arith}
use Rattle.std.proofs.lemmas.List.{length-set}
use Rattle.demand_stack.proofs.Downward.{no_entry, number_below, notes_end, notes_on}
use Rattle.demand_stack.proofs.marks.note_cycle.Goals as goal

pub mark_cycle-requires : goal.mark_cycle-requires
mark_cycle-requires c =
    let b = number_below (length c.args.notes.now) c.args.stack.now c.loop-n.n no_entry c.requires c.loop-n-test.true in
    let e = c.loop-n.invariant.long in
    omega arith

pub returns-then-at-cell : goal.returns-then-at-cell
returns-then-at-cell c = c.mark_cycle.ensures ∙ sym (notes_end c.args.length_of_cycle c.args.cell c.loop-n.n c.args.stack.now no_entry c.loop-n.notes c.loop-n-test.true c.if-at-cell.true) ∙ c.loop-n.invariant.same

pub loop-n-preserved : goal.loop-n-preserved
loop-n-preserved c = record {
  same = rw c.mark_cycle.ensures (sym (notes_on c.args.length_of_cycle c.args.cell c.loop-n.n c.args.stack.now no_entry c.loop-n.notes c.loop-n-test.true c.if-at-cell.false) ∙ c.loop-n.invariant.same);
  long = ap length c.mark_cycle.ensures ∙ length-set c.loop-n.notes _ _ ∙ c.loop-n.invariant.long;
}
