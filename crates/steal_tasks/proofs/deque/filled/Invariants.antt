use Rattle.std.proofs.Common.{◌≡◌, ◌≤◌, ◌-◌, true, []}
use Rattle.std.specs.List.{range_with_len}
use Rattle.crossbeam_deque.specs.Handles.{worker_flavor, worker_view, worker_index, worker_capacity}
use Rattle.steal_tasks.specs.Sharing.{share}
use Rattle.steal_tasks.proofs.deque.filled.Given as goal

abbrev pub invariant-loop-number : goal.invariant-loop-number
invariant-loop-number l =
    (worker_flavor l.owner ≡ 0)
    × (worker_index l.owner ≡ l.number - l.start)
    × (l.end - l.start ≤ worker_capacity l.owner)
    × (worker_view l.owner ≡ share true (range_with_len l.start (l.number - l.start)) [])
