use Rattle.std.proofs.Common.{ap, ◌∙◌, arith}
use Rattle.worker_machine.specs.Evaluation.{first_from}
use Rattle.demand_stack.specs.StackSeen.{StackSeen}
use Rattle.demand_stack.specs.Recall.{known_of}
use Rattle.demand_stack.specs.Kept.{IsNextUnknown}
use Rattle.demand_stack.proofs.Seeking.{next_from, found_ahead, found_behind, found_none}
use Rattle.demand_stack.proofs.stack.DemandStack.first_unknown.Goals as goal
use Rattle.demand_stack.proofs.stack.DemandStack.first_unknown.Goals.{then-self-count-2, else-self-count-2}

pub returns-then-self-count-clause-first : goal.returns-then-self-count-clause-first
returns-then-self-count-clause-first c =
    let s = c.self.inside in
    let next = c.next_unknown-self-inside.ensures in
    let ahead : IsNextUnknown (known_of s.notes) s.first c.next_unknown-self-inside.result = next_from (known_of s.notes) s.first s.ahead c.next_unknown-self-inside.result c.self.invariant.ahead_known next in
    let size = c.self.invariant.evaluation.knows.sized in
    let low = c.if-self-count.true in
    found_ahead (known_of s.notes) s.first c.next_unknown-self-inside.result ahead (omega arith) ∙ ap (λ (z : StackSeen). first_from z.known z.first) c.self.view_is

pub returns-clause-first : goal.returns-clause-first
returns-clause-first c =
    let s = c.self.inside in
    let next = c.next_unknown-self-inside.ensures in
    let ahead : IsNextUnknown (known_of s.notes) s.first c.next_unknown-self-inside.result = next_from (known_of s.notes) s.first s.ahead c.next_unknown-self-inside.result c.self.invariant.ahead_known next in
    let size = c.self.invariant.evaluation.knows.sized in
    let over = c.if-self-count.false in
    let next_2 = c.next_unknown-self-inside-2.ensures in
    let behind : IsNextUnknown (known_of s.notes) 0 c.next_unknown-self-inside-2.result = next_from (known_of s.notes) 0 s.passed c.next_unknown-self-inside-2.result c.self.invariant.passed_known next_2 in
    let seen = ap (λ (z : StackSeen). first_from z.known z.first) c.self.view_is in
    elim c.if-self-count-2.branch [
      | then-self-count-2 w ↦ w.result-is ∙ found_behind (known_of s.notes) s.first c.next_unknown-self-inside.result c.next_unknown-self-inside-2.result ahead (omega arith) behind (let l = w.if-self-count-2.true in omega arith) ∙ seen
      | else-self-count-2 w ↦ w.result-is ∙ found_none (known_of s.notes) s.first c.next_unknown-self-inside.result c.next_unknown-self-inside-2.result ahead (omega arith) behind (let l = w.if-self-count-2.false in omega arith) ∙ seen
    ]
