use Rattle.std.proofs.Common.{◌≡◌, MatchOption, subst, arith}
use Rattle.crossbeam_deque.specs.Handles.{view as pass_view, taken}
use Rattle.steal_tasks.specs.Ends.{Other, part_of, with_taken, IsTakenInOrder, Missed}
use Rattle.steal_tasks.proofs.Sharing.{takes, finds_few}
use Rattle.steal_tasks.proofs.Taking.{told}
use Rattle.steal_tasks.proofs.deque.OtherDeque.steal.Goals as goal

pub steal_as-requires-clause-takes : goal.steal_as-requires-clause-takes
steal_as-requires-clause-takes c = takes _ _

pub steal_as-requires-clause-empty : goal.steal_as-requires-clause-empty
steal_as-requires-clause-empty c = finds_few _ _ _ (omega (arith, c.self.invariant.1))

pub returns : goal.returns
returns c =
    let old = c.self.inside.pass in
    let new = c.steal_as.new.pass in
    let now : Other = record { part = part_of (pass_view new); known = taken new } in
    subst (λ (o : Other). MatchOption c.success.result (Missed o now) (λ x. (now.part ≡ with_taken o.part x) × IsTakenInOrder now.part)) c.self.view_is
    (told c.steal_as.result c.success.result (pass_view old) (pass_view new) (taken old) (taken new) c.steal_as.ensures.rule c.success.ensures)
