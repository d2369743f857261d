use Rattle.std.proofs.Common.{◌≡◌, ◌∷◌, reverse, sym, ap, ◌∙◌, get_or, false}
use Rattle.worker_machine.specs.Evaluation.{cells_of, pop}
use Rattle.demand_stack.specs.Recall.{known_of}
use Rattle.demand_stack.proofs.Downward.{popped_stack}
use Rattle.demand_stack.specs.Open.{blank}
use Rattle.demand_stack.proofs.Noted.{note_again}
use Rattle.demand_stack.proofs.Steps.{popped_kept, popped_is, same_known, stack_view, top_low, known_top}
use Rattle.demand_stack.proofs.stack.DemandStack.pop.Goals as goal

pub invariant_of-self : goal.invariant_of-self
invariant_of-self c =
    let s = c.self.inside in
    let e : cells_of (reverse s.stack.items) ≡ c.top_cell-cell.result ∷ c.top_cell-cell.ensures.0 = ap (λ z. cells_of (reverse z)) (sym c.deref.ensures.value) ∙ c.top_cell-cell.ensures.1 in
    let u = known_top c.args.self.now c.requires.0 (reverse s.stack.items) (known_of s.notes) s.book s.cells.now s.first c.top_cell-cell.result c.top_cell-cell.ensures.0 c.self.view_is c.requires.1 e in
    let p = popped_stack s.stack.items c.pop-top.new.self.items c.top_cell-cell.result c.top_cell-cell.ensures.0 c.pop-top.result _ _ e c.pop-top.ensures.items s.stack.ok.0 c.pop-top.ensures.cases in
    rw c.set_on_stack.ensures (popped_kept s.book s.cells.now s.stored.now.entries s.first s.stack.items s.notes s.frames _ s.ahead s.passed c.self.invariant c.top_cell-cell.result c.top_cell-cell.ensures.0 e (get_or s.notes c.top_cell-cell.result blank) (note_again s.notes c.top_cell-cell.result) c.requires.1.result c.pop-top.new.self.items _ u p.0 p.1 c.pop-top.ensures.capacity)

pub returns : goal.returns
returns c =
    let s = c.self.inside in
    let e : cells_of (reverse s.stack.items) ≡ c.top_cell-cell.result ∷ c.top_cell-cell.ensures.0 = ap (λ z. cells_of (reverse z)) (sym c.deref.ensures.value) ∙ c.top_cell-cell.ensures.1 in
    let p = popped_stack s.stack.items c.pop-top.new.self.items c.top_cell-cell.result c.top_cell-cell.ensures.0 c.pop-top.result _ _ e c.pop-top.ensures.items s.stack.ok.0 c.pop-top.ensures.cases in
    let low = top_low s.book s.cells.now s.stored.now.entries s.first s.stack.items s.notes s.frames _ s.ahead s.passed c.self.invariant c.top_cell-cell.result c.top_cell-cell.ensures.0 e in
    stack_view pop c.args.self.now s.book s.cells.now s.first (reverse s.stack.items) (reverse c.pop-top.new.self.items) (known_of s.notes) _ c.self.view_is
    (ap known_of c.set_on_stack.ensures ∙ same_known s.book s.cells.now s.stored.now.entries s.first s.stack.items s.notes s.frames _ s.ahead s.passed c.self.invariant c.top_cell-cell.result low (get_or s.notes c.top_cell-cell.result blank) (note_again s.notes c.top_cell-cell.result) false false)
    (popped_is (reverse s.stack.items) (reverse c.pop-top.new.self.items) p.0 p.1)
