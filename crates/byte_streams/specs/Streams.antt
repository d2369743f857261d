-- What readings and writings do to the bytes that a stream tells. `None` stands for a stream that tells nothing.
use Rattle.std.specs.Prelude.{◌≡◌, ℕ, ◌+◌, ◌<◌, ◌≤◌, List, [], ◌++◌, length, take, drop, Option, IfSome}
use Rattle.std.specs.Option.{option_map}
use Rattle.byte_streams.specs.Faults.{HasRisen}
use Rattle.byte_streams.specs.declared.faults.ReadFault.{ReadFault}
use Rattle.byte_streams.specs.declared.faults.ReadFault.TheVariants.{Failed, TooLong}

-- what is told of a stream once these bytes are appended to it
abbrev pub appended : Option (List ℕ) → List ℕ → Option (List ℕ)
appended told bytes = option_map (λ before. before ++ bytes) told

-- what is told to be left once the first n bytes are taken
abbrev pub without_first : ℕ → Option (List ℕ) → Option (List ℕ)
without_first n told = option_map (drop n) told

-- a read moved the first n of the bytes that were left to the front of the buffer and kept the rest of
-- the buffer; n is 0 only where the buffer has no room or nothing was left
pub record MovesFirst (n : ℕ) (told buffer filled : List ℕ) : Type 0 where
  pub within : n ≤ length told
  pub moved : filled ≡ take n told ++ drop n buffer
  pub ended : n ≡ 0 → 0 < length buffer → told ≡ []

-- at most `limit` bytes were taken from the front of what was told to be left
abbrev pub LosesAtMost : ℕ → Option (List ℕ) → Option (List ℕ) → Type 0
LosesAtMost limit before now =
    (taken : List ℕ) × (length taken ≤ limit) × (before ≡ option_map (λ rest. taken ++ rest) now)

-- some of the bytes, and not all of them, were appended, from their first on
abbrev pub AppendsPart : List ℕ → Option (List ℕ) → Option (List ℕ) → Type 0
AppendsPart bytes before now = (n : ℕ) × (n < length bytes) × (now ≡ appended before (take n bytes))

-- what is left after a reading of everything that ended with this fault
abbrev pub LeavesAfter : ReadFault → ℕ → Option (List ℕ) → Option (List ℕ) → Type 0
LeavesAfter TooLong limit before now = now ≡ without_first (limit + 1) before
LeavesAfter _ limit before now = LosesAtMost limit before now

-- when a reading of everything may end with this fault: for TooLong, only where more than `limit` bytes were left
abbrev pub Explains : ReadFault → ℕ → Option (List ℕ) → Type 0
Explains TooLong limit before = IfSome before (λ told. limit < length told)
Explains _ limit before = Unit {0}

-- the count of faults after this fault: it rose with a failure of the device, and stayed with any other fault
abbrev pub Counts : ReadFault → ℕ → ℕ → Type 0
Counts Failed before now = HasRisen before now
Counts _ before now = now ≡ before
