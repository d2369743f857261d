-- What the streams in memory hold.
use Rattle.std.specs.Prelude.{◌≡◌, ℕ, ◌<◌, List, length, Contains}
use Rattle.byte_streams.specs.Faults.{next_count}

-- the calls of a stream in memory: the numbers of those that are to fail, how many came, and its count of faults
pub record Calls : Type 0 where
  pub fail : List ℕ
  pub made : ℕ
  pub faults : ℕ

-- before the first call
abbrev pub no_calls : List ℕ → Calls
no_calls fail = record { fail = fail; made = 0; faults = 0 }

-- the next call is to fail; calls are numbered from 1
abbrev pub IsDueToFail : Calls → Type 0
IsDueToFail calls = Contains calls.fail (next_count calls.made)

-- after a call without a fault
abbrev pub after_call : Calls → Calls
after_call calls = record calls { made = next_count calls.made }

-- after a call with a fault
abbrev pub after_fault : Calls → Calls
after_fault calls = record calls { made = next_count calls.made; faults = next_count calls.faults }

-- a source in memory: what it has left, the most bytes that one call moves, and its calls
pub record MemoryLeft : Type 0 where
  pub left : List ℕ
  pub most : ℕ
  pub calls : Calls

-- what is written into a room for a fixed number of bytes
pub record RoomFilled : Type 0 where
  pub written : List ℕ
  pub room : ℕ

-- the room has no place for a byte of the piece, which has some
abbrev pub IsFullFor : RoomFilled → List ℕ → Type 0
IsFullFor filled piece = (length filled.written ≡ filled.room) × (0 < length piece)

-- a sink with a room, and its count of faults
pub record PlainWritten : Type 0 where
  pub filled : RoomFilled
  pub faults : ℕ

-- a sink in memory: its room, the most bytes that one call moves, and its calls
pub record MemoryWritten : Type 0 where
  pub filled : RoomFilled
  pub most : ℕ
  pub calls : Calls
