use Rattle.std.proofs.Common.{◌≡◌, ◌≤◌, ◌+◌, ◌-◌, length, take}
use Rattle.byte_streams.specs.Streams.{appended}
use Rattle.byte_streams.proofs.sink.write_whole.Given as goal

-- The first `at` bytes are written, no write failed, and each took a byte.
abbrev pub invariant-loop-at : goal.invariant-loop-at
invariant-loop-at g l = record {
  within : l.at ≤ length l.bytes;
  written : g.K.Sink.written l.sink ≡ appended (g.K.Sink.written l.initial.sink) (take l.at l.bytes);
  steady : g.K.Sink.faults l.sink ≡ g.K.Sink.faults l.initial.sink;
  few : g.K.Sink.calls l.sink ≤ g.K.Sink.calls l.initial.sink + l.at;
}

abbrev pub decreases-loop-at : goal.decreases-loop-at
decreases-loop-at g l = length l.bytes - l.at
