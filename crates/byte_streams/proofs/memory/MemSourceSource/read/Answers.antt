use Rattle.std.proofs.Common.{arith, ◌≤◌}
use Rattle.std.proofs.lemmas.Grind.{common_steps}
use Rattle.byte_streams.proofs.Taken.{front-moved}
use Rattle.byte_streams.proofs.memory.MemSourceSource.read.Goals as goal

pub returns-clause-moved : goal.returns-clause-moved
returns-clause-moved c =
    let within : c.give.result ≤ c.min-room.result = grind (arith, common_steps) in
    rw (c.give.ensures.moved, front-moved _ _ _ _ within) (grind (arith, common_steps))
