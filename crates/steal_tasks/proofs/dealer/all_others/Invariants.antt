use Rattle.std.proofs.Common.{◌≡◌, map, length}
use Rattle.std.specs.List.{range_with_len}
use Rattle.steal_tasks.specs.Ends.{part_of, others_from}
use Rattle.steal_tasks.proofs.Rounds.{dealt_in}
use Rattle.steal_tasks.proofs.dealer.all_others.Given as goal

abbrev pub invariant-loop-worker : goal.invariant-loop-worker
invariant-loop-worker l =
    (map part_of l.deques ≡ map part_of l.initial.deques)
    × (map (λ os. map (λ o. o.part) os.items) l.all.items ≡ map (others_from (dealt_in l.initial.deques)) (range_with_len 0 l.worker))
    × (length l.initial.deques ≡ 1 → l.deques ≡ l.initial.deques)
