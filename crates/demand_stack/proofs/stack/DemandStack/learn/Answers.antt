use Rattle.std.proofs.Common.{◌≡◌, reverse, Some, set, get_or, sym, ap, ◌∙◌}
use Rattle.worker_machine.specs.Jobs.{shows}
use Rattle.demand_stack.specs.StackSeen.{StackSeen, pending_of}
use Rattle.demand_stack.specs.Recall.{cells_in, known_of}
use Rattle.demand_stack.specs.Open.{blank}
use Rattle.demand_stack.proofs.Noted.{known_set, note_again}
use Rattle.demand_stack.proofs.Steps.{learnt_kept, known_again, known_view}
use Rattle.demand_stack.proofs.stack.DemandStack.learn.Goals as goal

pub invariant_of-self : goal.invariant_of-self
invariant_of-self c =
    let s = c.self.inside in
    let low = rw (← c.self.view_is) at c.requires.there in
    let off = rw (← c.self.view_is) at c.requires.off in
    let right : c.args.shown ≡ shows (cells_in s.book s.cells.now) c.args.i
    = c.requires.found.right ∙ sym (ap (λ (z : StackSeen). shows (pending_of z) c.args.i) c.self.view_is) in
    rw c.learn.ensures (learnt_kept s.book s.cells.now s.stored.now.entries s.first s.stack.items s.notes s.frames _ s.ahead s.passed c.self.invariant c.law_stands_on.ensures c.args.i (get_or s.notes c.args.i blank) (note_again s.notes c.args.i) c.args.shown low off right c.requires.found.no_cycle)

pub returns : goal.returns
returns c =
    let s = c.self.inside in
    known_view (λ fs k. set k c.args.i (Some c.args.shown)) c.args.self.now s.book s.cells.now s.first (reverse s.stack.items) (known_of s.notes) _ c.self.view_is
    (ap known_of c.learn.ensures ∙ known_set s.notes c.args.i _)

pub returns-then-is_known : goal.returns-then-is_known
returns-then-is_known c =
    let s = c.self.inside in
    known_again c.args.self.now s.book s.cells.now s.first (reverse s.stack.items) s.notes c.args.i c.args.shown c.self.view_is c.self.invariant.evaluation.knows.right (sym c.is_known.ensures ∙ c.if-is_known.true) c.requires.found.right
