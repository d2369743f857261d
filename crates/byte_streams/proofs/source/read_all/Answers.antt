use Rattle.std.proofs.Common.{◌≡◌, ◌+◌, ◌≤◌, ◌++◌, length, take, arith}
use Rattle.std.specs.Option.{option_map}
use Rattle.std.proofs.lemmas.Grind.{common_steps}
use Rattle.byte_streams.proofs.Taken.{read-taken, taken-again, taken-without_first, out_of_memory-leaves}
use Rattle.byte_streams.proofs.source.read_all.Goals as goal

pub returns-then-room-count-clause-fault_left : goal.returns-then-room-count-clause-fault_left
returns-then-room-count-clause-fault_left g c =
    let got : g.S.Source.left c.args.source.now ≡ option_map (λ rest. (c.loop-asked.bytes.items ++ take c.in_ok-count.count c.read.new.buf) ++ rest) (g.S.Source.left c.read.new.self) =
    taken-again _ (g.S.Source.left c.loop-asked.source) _ _ _ c.loop-asked.invariant.taken
    (read-taken _ _ _ _ _ c.in_ok-count.ensures.moved c.in_ok-count.ensures.rest) in
    let size : length (c.loop-asked.bytes.items ++ take c.in_ok-count.count c.read.new.buf) ≡ c.args.limit + 1 = grind (arith, common_steps) in
    taken-without_first _ _ _ _ got size

pub returns-in_err-extend_from_slice-clause-fault_left :
    goal.returns-in_err-extend_from_slice-clause-fault_left
returns-in_err-extend_from_slice-clause-fault_left g c =
    let got : g.S.Source.left c.args.source.now ≡ option_map (λ rest. (c.loop-asked.bytes.items ++ take c.in_ok-count.count c.read.new.buf) ++ rest) (g.S.Source.left c.read.new.self) =
    taken-again _ (g.S.Source.left c.loop-asked.source) _ _ _ c.loop-asked.invariant.taken
    (read-taken _ _ _ _ _ c.in_ok-count.ensures.moved c.in_ok-count.ensures.rest) in
    let size : length (c.loop-asked.bytes.items ++ take c.in_ok-count.count c.read.new.buf) ≤ c.args.limit = grind (arith, common_steps) in
    out_of_memory-leaves _ _ _ _ c.from_residual-in_err-extend_from_slice.ensures.1 (_, size, got)
