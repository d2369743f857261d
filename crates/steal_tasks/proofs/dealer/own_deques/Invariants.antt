use Rattle.std.proofs.Common.{◌≡◌, true, [], map}
use Rattle.std.specs.List.{range_with_len}
use Rattle.steal_tasks.specs.Sharing.{share}
use Rattle.steal_tasks.specs.Dealing.{dealt_to}
use Rattle.steal_tasks.proofs.dealer.own_deques.Given as goal

abbrev pub invariant-loop-worker : goal.invariant-loop-worker
invariant-loop-worker l = l.deques.items ≡ map (λ w. share true (dealt_to l.count l.workers w) []) (range_with_len 0 l.worker)
