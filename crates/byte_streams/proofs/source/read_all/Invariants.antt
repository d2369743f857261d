use Rattle.std.proofs.Common.{◌≡◌, ◌≤◌, ◌+◌, ◌-◌, ◌++◌, vec_len}
use Rattle.std.specs.Option.{option_map}
use Rattle.byte_streams.proofs.source.read_all.Given as goal

-- The bytes are what was taken from the source, no read failed, and each gave a byte.
abbrev pub invariant-loop-asked : goal.invariant-loop-asked
invariant-loop-asked g l = record {
  within : vec_len l.bytes ≤ l.limit;
  taken : g.S.Source.left l.initial.source ≡ option_map (λ rest. l.bytes.items ++ rest) (g.S.Source.left l.source);
  steady : g.S.Source.faults l.source ≡ g.S.Source.faults l.initial.source;
  few : g.S.Source.calls l.source ≤ g.S.Source.calls l.initial.source + vec_len l.bytes;
}

abbrev pub decreases-loop-asked : goal.decreases-loop-asked
decreases-loop-asked g l = l.limit - vec_len l.bytes
