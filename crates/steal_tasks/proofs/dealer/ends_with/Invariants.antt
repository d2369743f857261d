use Rattle.std.proofs.Common.{◌≡◌, All, map}
use Rattle.steal_tasks.specs.Ends.{parts, part_of, with_others, IsFresh}
use Rattle.steal_tasks.proofs.dealer.ends_with.Given as goal

abbrev pub invariant-loop-own : goal.invariant-loop-own
invariant-loop-own l = record {
  parts : map parts l.ends.items ≡ map (λ p. with_others (part_of p.0) p.1.items) l.yielded;
  fresh : All (IsFresh l.count) l.ends.items;
}
