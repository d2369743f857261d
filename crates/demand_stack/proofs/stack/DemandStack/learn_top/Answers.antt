use Rattle.std.proofs.Common.{◌≡◌, ◌∷◌, reverse, sym, ap, ◌∙◌, get_or}
use Rattle.worker_machine.specs.Jobs.{shows}
use Rattle.worker_machine.specs.Evaluation.{cells_of, learn_top}
use Rattle.demand_stack.specs.StackSeen.{StackSeen, pending_of}
use Rattle.demand_stack.specs.Recall.{cells_in, known_of}
use Rattle.demand_stack.specs.Open.{blank}
use Rattle.demand_stack.proofs.Recalls.{known_at}
use Rattle.demand_stack.proofs.Noted.{known_set, note_again}
use Rattle.demand_stack.proofs.Steps.{learnt_top_kept, learnt_on_top, known_view, unknown_top}
use Rattle.demand_stack.proofs.stack.DemandStack.learn_top.Goals as goal

pub learn-requires-clause-unknown : goal.learn-requires-clause-unknown
learn-requires-clause-unknown c =
    let s = c.self.inside in
    let e : cells_of (reverse s.stack.items) ≡ c.top_cell-cell.result ∷ c.top_cell-cell.ensures.0 = ap (λ z. cells_of (reverse z)) (sym c.deref.ensures.value) ∙ c.top_cell-cell.ensures.1 in
    let u = unknown_top c.args.self.now c.requires.0 (reverse s.stack.items) (known_of s.notes) s.book s.cells.now s.first c.top_cell-cell.result c.top_cell-cell.ensures.0 c.self.view_is c.requires.1.0 e in
    sym (known_at s.notes c.top_cell-cell.result) ∙ u.1

pub invariant_of-self : goal.invariant_of-self
invariant_of-self c =
    let s = c.self.inside in
    let e : cells_of (reverse s.stack.items) ≡ c.top_cell-cell.result ∷ c.top_cell-cell.ensures.0 = ap (λ z. cells_of (reverse z)) (sym c.deref.ensures.value) ∙ c.top_cell-cell.ensures.1 in
    let u = unknown_top c.args.self.now c.requires.0 (reverse s.stack.items) (known_of s.notes) s.book s.cells.now s.first c.top_cell-cell.result c.top_cell-cell.ensures.0 c.self.view_is c.requires.1.0 e in
    let right : c.args.shown ≡ shows (cells_in s.book s.cells.now) c.top_cell-cell.result
    = c.requires.1.1.right ∙ ap (shows (pending_of c.args.self.now)) u.0 ∙ sym (ap (λ (z : StackSeen). shows (pending_of z) c.top_cell-cell.result) c.self.view_is) in
    rw c.learn.ensures (learnt_top_kept s.book s.cells.now s.stored.now.entries s.first s.stack.items s.notes s.frames _ s.ahead s.passed c.self.invariant c.top_cell-cell.result c.top_cell-cell.ensures.0 e c.law_stands_on.ensures c.law_drops_to_base.ensures (get_or s.notes c.top_cell-cell.result blank) (note_again s.notes c.top_cell-cell.result) c.args.shown c.abandon_if.new.frames right c.requires.1.1.no_cycle c.abandon_if.ensures.room (rw c.is_begun.ensures at c.abandon_if.ensures.frames))

pub returns : goal.returns
returns c =
    let s = c.self.inside in
    let e : cells_of (reverse s.stack.items) ≡ c.top_cell-cell.result ∷ c.top_cell-cell.ensures.0 = ap (λ z. cells_of (reverse z)) (sym c.deref.ensures.value) ∙ c.top_cell-cell.ensures.1 in
    known_view (λ fs k. learn_top fs c.args.shown k) c.args.self.now s.book s.cells.now s.first (reverse s.stack.items) (known_of s.notes) _ c.self.view_is
    (ap known_of c.learn.ensures ∙ known_set s.notes c.top_cell-cell.result _ ∙ learnt_on_top (reverse s.stack.items) (known_of s.notes) c.top_cell-cell.result c.top_cell-cell.ensures.0 c.args.shown e)
