use Rattle.std.proofs.Common.{◌≡◌, ◌∷◌, reverse, length, true, sym, ap, ◌∙◌, subst, arith}
use Rattle.demand_spec.specs.Laws.{Demands}
use Rattle.worker_machine.specs.Jobs.{cell_at}
use Rattle.worker_machine.specs.Evaluation.{cells_of, has, mark_cycle, part_to}
use Rattle.demand_stack.specs.StackSeen.{StackSeen, pending_of}
use Rattle.demand_stack.specs.Recall.{cells_in, known_of}
use Rattle.demand_stack.specs.Kept.{note_cycle}
use Rattle.demand_stack.proofs.Downward.{length_stack}
use Rattle.demand_stack.proofs.Noted.{known_cycle}
use Rattle.demand_stack.proofs.Steps.{closed_kept, few_on_stack, known_view, part_short}
use Rattle.demand_stack.proofs.stack.DemandStack.close.Goals as goal

pub overflow_cast-count : goal.overflow_cast-count
overflow_cast-count c =
    let s = c.self.inside in
    let few = few_on_stack s.book s.cells.now s.stored.now.entries s.first s.stack.items s.notes s.frames _ s.ahead s.passed c.self.invariant in
    let short = part_short c.args.i (cells_of (reverse s.stack.items)) in
    let long = length_stack s.stack.items in
    let count : c.abandon_to-count.result ≡ length (part_to c.args.i (cells_of (reverse s.stack.items))) = c.abandon_to-count.ensures.count ∙ ap (λ z. length (part_to c.args.i (cells_of (reverse z)))) c.deref.ensures.value in
    omega arith

-- what was noted
noted : (c : goal.After-note_cycle) → c.note_cycle.new.notes ≡ note_cycle (length (part_to c.args.i (cells_of (reverse c.self.inside.stack.items)))) (part_to c.args.i (cells_of (reverse c.self.inside.stack.items))) c.self.inside.notes
noted c =
    let s = c.self.inside in
    let count : c.abandon_to-count.result ≡ length (part_to c.args.i (cells_of (reverse s.stack.items))) = c.abandon_to-count.ensures.count ∙ ap (λ z. length (part_to c.args.i (cells_of (reverse z)))) c.deref.ensures.value in
    c.note_cycle.ensures ∙ (λ z. note_cycle (count z) (part_to c.args.i (cells_of (reverse (c.deref-2.ensures.value z)))) s.notes)

pub invariant_of-self : goal.invariant_of-self
invariant_of-self c =
    let s = c.self.inside in
    let top = c.requires.demands.1.top in
    let f = c.requires.demands.0 in
    let e : cells_of (reverse s.stack.items) ≡ f.cell ∷ cells_of top.rest = ap (λ (z : StackSeen). cells_of z.stack) c.self.view_is ∙ ap cells_of top.on_top in
    let d : Demands s.book.book (cell_at (cells_in s.book s.cells.now) f.cell) (cell_at (cells_in s.book s.cells.now) c.args.i)
    = subst (λ (z : StackSeen). Demands z.shared.book (cell_at (pending_of z) f.cell) (cell_at (pending_of z) c.args.i)) (sym c.self.view_is) c.requires.demands.1.demands in
    let h : has c.args.i (cells_of (reverse s.stack.items)) ≡ true = ap (λ (z : StackSeen). has c.args.i (cells_of z.stack)) c.self.view_is ∙ c.requires.there in
    let a = rw c.deref.ensures.value at c.abandon_to-count.ensures.open in
    let m = noted c in
    closed_kept s.book s.cells.now s.stored.now.entries s.first s.stack.items s.notes s.frames _ s.ahead s.passed c.self.invariant f.cell (cells_of top.rest) e c.law_stands_on.ensures c.args.i c.abandon_to-count.new.frames _ d h c.abandon_to-count.ensures.room m a

pub returns : goal.returns
returns c =
    let s = c.self.inside in
    let m = noted c in
    known_view (λ fs k. mark_cycle (part_to c.args.i (cells_of fs)) k) c.args.self.now s.book s.cells.now s.first (reverse s.stack.items) (known_of s.notes) _ c.self.view_is
    (ap known_of m ∙ known_cycle (length (part_to c.args.i (cells_of (reverse s.stack.items)))) (part_to c.args.i (cells_of (reverse s.stack.items))) s.notes)
