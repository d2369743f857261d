-- What a part of a run writes.
use Rattle.std.specs.Prelude.{◌≡◌, ℕ, ◌+◌, ◌≤◌, List, [], ◌∷◌, Option, Result, Ok, Err, IfOk, length, take}
use Rattle.std.specs.List.{concat}
use Rattle.byte_streams.specs.Faults.{HasRisen}
use Rattle.byte_streams.specs.Streams.{appended}
use Rattle.byte_streams.specs.declared.faults.ReadFault.{ReadFault}
use Rattle.puncalc_program.specs.declared.stop.Stop.{Stop}

-- what is known of a sink: the bytes that it has got, its count of faults, and its count of writes
pub record Sunk : Type 0 where
  pub written : Option (List ℕ)
  pub faults : ℕ
  pub calls : ℕ

abbrev pub sunk : {K : Type 0} → (K → Option (List ℕ)) → (K → ℕ) → (K → ℕ) → K → Sunk
sunk written faults calls out = record { written = written out; faults = faults out; calls = calls out }

-- the pieces were written one after the other, in at most one write for each byte
pub record WritesAll (pieces : List (List ℕ)) (old new : Sunk) : Type 0 where
  pub written : new.written ≡ appended old.written (concat pieces)
  pub faults : new.faults ≡ old.faults
  pub calls : new.calls ≤ old.calls + length (concat pieces)

-- the same of a first part of their bytes
pub record WritesPart (pieces : List (List ℕ)) (old new : Sunk) : Type 0 where
  pub count : ℕ
  pub written : new.written ≡ appended old.written (take count (concat pieces))
  pub calls : new.calls ≤ old.calls + length (concat pieces)

-- why a part that only writes stops: the sink failed, or memory ran out
abbrev pub StopsWriting : Stop → Sunk → Sunk → Type 0
StopsWriting Stop.Read old new = ⊥
StopsWriting Stop.Write old new = HasRisen old.faults new.faults
StopsWriting Stop.Memory old new = Unit {0}

-- the pieces were written, or a first part of their bytes where it had to stop
abbrev pub Writes : {A : Type 0} → List (List ℕ) → Sunk → Sunk → Result A Stop → Type 0
Writes pieces old new (Ok _) = WritesAll pieces old new
Writes pieces old new (Err stop) = WritesPart pieces old new × StopsWriting stop old new

-- where a part that only writes stops, there is a cause
abbrev pub Stops : {A : Type 0} → Sunk → Sunk → Result A Stop → Type 0
Stops old new (Ok _) = Unit {0}
Stops old new (Err stop) = StopsWriting stop old new

-- why the input could not be read to its end: it has too many bytes, and this refusal is written; or the reading failed
abbrev pub Unread : ℕ → List ℕ → Sunk → Sunk → ReadFault → Result ℕ Stop → Type 0
Unread status line old new ReadFault.TooLong result = Writes (line ∷ []) old new result × IfOk result (λ answer. answer ≡ status)
Unread status line old new ReadFault.Failed result = (result ≡ Err Stop.Read) × (new ≡ old)
Unread status line old new ReadFault.OutOfMemory result = (result ≡ Err Stop.Memory) × (new ≡ old)
