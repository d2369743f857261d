use Rattle.std.proofs.Common.{◌≡◌, ◌≤◌, [], List, map, reverse, replicate, length, sym, ap, ◌∙◌, subst, arith}
use Rattle.std.proofs.lemmas.List.{reverse-reverse}
use Rattle.worker_machine.specs.declared.state.Entry.{Entry}
use Rattle.worker_machine.specs.Jobs.{cell_at}
use Rattle.worker_machine.specs.Evaluation.{cells_of}
use Rattle.demand_spec.specs.Book.{formula_at}
use Rattle.demand_spec.specs.Laws.{In}
use Rattle.claim_core.specs.Pending.{IsPending}
use Rattle.demand_stack.specs.StackSeen.{AreStored, StackSeen, at_first}
use Rattle.demand_stack.specs.Open.{AreOpen, begun_of, blank, depths}
use Rattle.demand_stack.specs.Recall.{cells_in, known_of, look_over}
use Rattle.demand_stack.proofs.Opened.{same_depths}
use Rattle.demand_stack.proofs.Keeping.{sized}
use Rattle.demand_stack.proofs.Steps.{starts_kept, starts_view}
use Rattle.demand_stack.proofs.stack.DemandStack.restart.Goals as goal

-- the stack is empty
empty : (c : goal.After-self-3-1) → reverse c.self.inside.stack.items ≡ []
empty c = ap (λ (z : StackSeen). z.stack) c.self.view_is ∙ c.requires.idle

none : (c : goal.After-self-3-1) → c.self.inside.stack.items ≡ []
none c = sym (reverse-reverse c.self.inside.stack.items) ∙ ap reverse (empty c)

-- as many notes as cells
all_noted : (c : goal.After-self-3-1) → length c.self.inside.notes ≡ length c.self.inside.cells.now
all_noted c = (let s = c.self.inside in sized s.book s.cells.now s.stored.now.entries s.first _ s.notes s.frames _ s.ahead s.passed c.self.invariant)

-- nothing is noted
notes : (c : goal.After-self-3-1) → c.forget_all.new.self ≡ replicate (length c.self.inside.cells.now) blank
notes c = c.forget_all.ensures ∙ ap (λ n. replicate n blank) (all_noted c)

pub invariant_of-self : goal.invariant_of-self
invariant_of-self c =
    let s = c.self.inside in
    let n = notes c in
    let shut : s.frames.frames ≡ [] = subst (λ (fs : List Entry). AreOpen s.book.pool s.book.book (look_over s.book s.cells.now (known_of s.notes)) (map (cell_at (cells_in s.book s.cells.now)) (begun_of s.notes (cells_of fs))) s.frames.frames) (empty c) c.self.invariant.begun in
    let formulas = subst (λ (z : StackSeen). (a : _) → In a z.cells → formula_at c.args.book.book a ≡ formula_at z.shared.book a) (sym c.self.view_is) c.requires.formulas in
    let deep = same_depths s.book.book c.args.book.book s.cells.now formulas in
    let fit = c.self.invariant.frames_fit in
    let room : depths c.args.book.book s.cells.now ≤ s.frames.room = omega arith in
    let order = c.self.invariant.ahead_known.order in
    let end = c.self.invariant.ahead_known.within in
    let size = c.self.invariant.evaluation.knows.sized in
    starts_kept c.args.book s.cells.now c.args.stored.now.entries s.first s.stack.items _ s.frames _
    (subst (λ (z : StackSeen). IsPending c.args.book.book z.cells) (sym c.self.view_is) c.requires.pending)
    (subst (λ (z : StackSeen). AreStored (record { book = c.args.book.book; cells = z.cells }) c.args.stored.now.entries) (sym c.self.view_is) c.requires.stored)
    (omega arith) (none c) n room shut c.self.invariant.stack_fits

pub returns : goal.returns
returns c =
    let s = c.self.inside in
    let n = notes c in
    (starts_view c.args.book s.cells.now s.first s.stack.items _ (none c) n) ∙ ap (λ (z : StackSeen). at_first c.args.book z.cells z.first) c.self.view_is
