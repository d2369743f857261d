-- The counts of the events that are still to come.
use Rattle.std.specs.Prelude.{◌≡◌, ℕ, ◌<◌, List, length, slice_index}
use Rattle.parallel_evaluation.specs.declared.trace.Traced.{Traced}
use Rattle.trace_text.specs.TraceText.{events_of}

-- for each worker that a number can name, how many of the events are its own
pub record AreCounted (counts : List ℕ) (events : List Traced) : Type 0 where
  pub all : length counts ≡ 256
  pub each : (w : ℕ) → w < 256 → slice_index counts w ≡ events_of w events
