use Rattle.std.proofs.Common.{◌≡◌, ◌-◌, map, length}
use Rattle.std.specs.List.{range_with_len}
use Rattle.steal_tasks.specs.Ends.{part_of, part_behind}
use Rattle.steal_tasks.proofs.Rounds.{dealt_in}
use Rattle.steal_tasks.proofs.dealer.others_of.Given as goal

abbrev pub invariant-loop-step : goal.invariant-loop-step
invariant-loop-step l =
    (map part_of l.deques ≡ map part_of l.initial.deques)
    × (map (λ o. o.part) l.others.items ≡ map (part_behind (dealt_in l.initial.deques) l.worker) (range_with_len 1 (l.step - 1)))
    × (length l.initial.deques ≡ 1 → l.deques ≡ l.initial.deques)
