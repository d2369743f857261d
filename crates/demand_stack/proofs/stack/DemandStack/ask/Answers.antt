use Rattle.std.proofs.Common.{◌≡◌, ◌∷◌, reverse, sym, ap, ◌∙◌, get_or, Some, subst}
use Rattle.demand_spec.specs.Book.{ask_cell}
use Rattle.worker_machine.specs.Jobs.{cell_at}
use Rattle.worker_machine.specs.Evaluation.{cells_of, values}
use Rattle.demand_stack.specs.StackSeen.{StackSeen, ask_entry}
use Rattle.demand_stack.specs.Recall.{cells_in, known_of}
use Rattle.demand_stack.specs.Open.{blank}
use Rattle.demand_stack.proofs.Noted.{note_again}
use Rattle.demand_stack.proofs.Steps.{formula_on_top, ready_on_top, asked_kept, asked_answer, same_known, same_view, top_low, unknown_top}
use Rattle.demand_stack.proofs.stack.DemandStack.ask.Goals as goal

-- the top, as it was read
top_read : (c : goal.After-known-1) → cells_of (reverse c.self.inside.stack.items) ≡ c.top_cell-cell.result ∷ c.top_cell-cell.ensures.0
top_read c = ap (λ z. cells_of (reverse z)) (sym c.deref.ensures.value) ∙ c.top_cell-cell.ensures.1

pub evaluate-answer-requires-clause-formula : goal.evaluate-answer-requires-clause-formula
evaluate-answer-requires-clause-formula c =
    let s = c.self.inside in
    formula_on_top s.book s.cells.now s.stored.now.entries s.first s.stack.items s.notes s.frames _ s.ahead s.passed c.self.invariant c.top_cell-cell.result c.top_cell-cell.ensures.0 (top_read c)

pub evaluate-answer-requires-clause-ready : goal.evaluate-answer-requires-clause-ready
evaluate-answer-requires-clause-ready c =
    let s = c.self.inside in
    rw c.is_begun-begun.ensures (ready_on_top s.book s.cells.now s.stored.now.entries s.first s.stack.items s.notes s.frames _ s.ahead s.passed c.self.invariant c.top_cell-cell.result c.top_cell-cell.ensures.0 (top_read c) c.law_stands_ready.ensures (get_or s.notes c.top_cell-cell.result blank) (note_again s.notes c.top_cell-cell.result))

pub invariant_of-self : goal.invariant_of-self
invariant_of-self c =
    let s = c.self.inside in
    let e : cells_of (reverse s.stack.items) ≡ c.top_cell-cell.result ∷ c.top_cell-cell.ensures.0 = ap (λ z. cells_of (reverse z)) (sym c.deref.ensures.value) ∙ c.top_cell-cell.ensures.1 in
    let u = unknown_top c.args.self.now c.requires.0 (reverse s.stack.items) (known_of s.notes) s.book s.cells.now s.first c.top_cell-cell.result c.top_cell-cell.ensures.0 c.self.view_is c.requires.1 e in
    let a = rw (c.new-known.ensures, c.is_begun-begun.ensures) at c.evaluate-answer.ensures.answered in
    rw c.set_begun.ensures (asked_kept s.book s.cells.now s.stored.now.entries s.first s.stack.items s.notes s.frames _ s.ahead s.passed c.self.invariant c.top_cell-cell.result c.top_cell-cell.ensures.0 e (get_or s.notes c.top_cell-cell.result blank) (note_again s.notes c.top_cell-cell.result) c.evaluate-answer.result c.is_need.result c.evaluate-answer.new.frames c.is_need.ensures u.1 c.evaluate-answer.ensures.room a)

pub returns-clause-answer : goal.returns-clause-answer
returns-clause-answer c f h =
    let s = c.self.inside in
    let e : cells_of (reverse s.stack.items) ≡ c.top_cell-cell.result ∷ c.top_cell-cell.ensures.0 = ap (λ z. cells_of (reverse z)) (sym c.deref.ensures.value) ∙ c.top_cell-cell.ensures.1 in
    let u = unknown_top c.args.self.now f (reverse s.stack.items) (known_of s.notes) s.book s.cells.now s.first c.top_cell-cell.result c.top_cell-cell.ensures.0 c.self.view_is h e in
    let a = rw (c.new-known.ensures, c.is_begun-begun.ensures) at c.evaluate-answer.ensures.answered in
    let one : ask_cell s.book.book (values (cells_in s.book s.cells.now) (known_of s.notes)) (cell_at (cells_in s.book s.cells.now) c.top_cell-cell.result) ≡ Some c.evaluate-answer.result
    = asked_answer s.book s.cells.now s.stored.now.entries s.first s.stack.items s.notes s.frames _ s.ahead s.passed c.self.invariant c.top_cell-cell.result c.top_cell-cell.ensures.0 e (get_or s.notes c.top_cell-cell.result blank) (note_again s.notes c.top_cell-cell.result) c.evaluate-answer.result c.evaluate-answer.new.frames.frames a in
    subst (λ (z : StackSeen). ask_entry z f ≡ Some c.evaluate-answer.result) c.self.view_is
    (subst (λ i. ask_cell s.book.book (values (cells_in s.book s.cells.now) (known_of s.notes)) (cell_at (cells_in s.book s.cells.now) i) ≡ Some c.evaluate-answer.result) (sym u.0) one)

pub returns-clause-same : goal.returns-clause-same
returns-clause-same c =
    let s = c.self.inside in
    let e : cells_of (reverse s.stack.items) ≡ c.top_cell-cell.result ∷ c.top_cell-cell.ensures.0 = ap (λ z. cells_of (reverse z)) (sym c.deref.ensures.value) ∙ c.top_cell-cell.ensures.1 in
    let low = top_low s.book s.cells.now s.stored.now.entries s.first s.stack.items s.notes s.frames _ s.ahead s.passed c.self.invariant c.top_cell-cell.result c.top_cell-cell.ensures.0 e in
    same_view c.args.self.now s.book s.cells.now s.first (reverse s.stack.items) (known_of s.notes) _ c.self.view_is
    (ap known_of c.set_begun.ensures ∙ same_known s.book s.cells.now s.stored.now.entries s.first s.stack.items s.notes s.frames _ s.ahead s.passed c.self.invariant c.top_cell-cell.result low (get_or s.notes c.top_cell-cell.result blank) (note_again s.notes c.top_cell-cell.result) (get_or s.notes c.top_cell-cell.result blank).on_stack c.is_need.result)
