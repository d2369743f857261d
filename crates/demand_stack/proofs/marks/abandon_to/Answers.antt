use Rattle.std.proofs.Common.{◌≡◌, [], length, map, sym, ap, ◌∙◌, subst, arith}
use Rattle.worker_machine.specs.Evaluation.{part_to}
use Rattle.demand_stack.specs.Open.{AreOpen, begun_of}
use Rattle.demand_stack.specs.Kept.{lower}
use Rattle.demand_stack.proofs.Downward.{no_entry, none_behind, open_down, lower_end, lower_on, count_end, count_on, cells_from, stack_cells}
use Rattle.demand_stack.proofs.marks.abandon_to.Goals as goal

pub returns-then-at-cell-clause-open : goal.returns-then-at-cell-clause-open
returns-then-at-cell-clause-open c p b l f h =
    let e = sym (lower_end c.args.cell c.loop-n.n c.args.stack.now no_entry c.loop-n-test.true c.if-at-cell.true) ∙ c.loop-n.invariant.lower in
    subst (λ z. AreOpen p b l (map f (begun_of c.args.notes.now z)) c.abandon_if.new.frames.frames) e
    (open_down c.law_drops_to_base.ensures c.args.notes.now c.loop-n.n c.args.stack.now no_entry c.loop-n.frames.frames c.abandon_if.new.frames.frames c.loop-n-test.true (rw c.is_begun.ensures at c.abandon_if.ensures.frames) p b l f (c.loop-n.invariant.open_still p b l f h))

pub returns-then-at-cell-clause-count : goal.returns-then-at-cell-clause-count
returns-then-at-cell-clause-count c =
    let a = count_end c.args.cell c.loop-n.n c.args.stack.now no_entry c.loop-n-test.true c.if-at-cell.true in
    let b = c.loop-n.invariant.counted in
    omega arith

pub returns-clause-count : goal.returns-clause-count
returns-clause-count c =
    let none : cells_from c.loop-n.n c.args.stack.now ≡ [] = none_behind c.args.stack.now c.loop-n.n c.loop-n-test.false in
    let last : length (part_to c.args.cell (cells_from c.loop-n.n c.args.stack.now)) ≡ 0 = ap (λ z. length (part_to c.args.cell z)) none in
    let all = c.loop-n.invariant.counted in
    let low = c.loop-n-test.false in
    let high = c.loop-n.auto.n-end in
    omega arith

pub returns-clause-open : goal.returns-clause-open
returns-clause-open c p b l f h =
    let none : cells_from c.loop-n.n c.args.stack.now ≡ [] = none_behind c.args.stack.now c.loop-n.n c.loop-n-test.false in
    let e : cells_from c.loop-n.n c.args.stack.now ≡ lower c.args.cell (stack_cells c.args.stack.now) = none ∙ sym (ap (lower c.args.cell) none) ∙ c.loop-n.invariant.lower in
    subst (λ z. AreOpen p b l (map f (begun_of c.args.notes.now z)) c.loop-n.frames.frames) e (c.loop-n.invariant.open_still p b l f h)

pub loop-n-preserved : goal.loop-n-preserved
loop-n-preserved c = record {
  open_still = λ p b l f h. open_down c.law_drops_to_base.ensures c.args.notes.now c.loop-n.n c.args.stack.now no_entry c.loop-n.frames.frames c.abandon_if.new.frames.frames c.loop-n-test.true (rw c.is_begun.ensures at c.abandon_if.ensures.frames) p b l f (c.loop-n.invariant.open_still p b l f h);
  lower = sym (lower_on c.args.cell c.loop-n.n c.args.stack.now no_entry c.loop-n-test.true c.if-at-cell.false) ∙ c.loop-n.invariant.lower;
  counted = (let a = count_on c.args.cell c.loop-n.n c.args.stack.now no_entry c.loop-n-test.true c.if-at-cell.false in let b = c.loop-n.invariant.counted in omega arith);
  room = c.abandon_if.ensures.room ∙ c.loop-n.invariant.room;
}
