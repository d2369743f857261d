-- How a run ends.
use Rattle.std.specs.Prelude.{◌≡◌, ℕ, ◌+◌, ◌⊎◌, true, List, [], ◌∷◌, Option, Some, None, IsSomeAnd, Result, Ok, Err}
use Rattle.byte_streams.specs.Faults.{HasRisen}
use Rattle.byte_streams.specs.Folders.{StoredFile}
use Rattle.command_words.specs.Asking.{Request, show, edit, trace, demo}
use Rattle.claim_core.specs.Passes.{OutcomeSeen}
use Rattle.demand_spec.specs.Book.{Book}
use Rattle.sheet_loading.specs.declared.TheConstants.{SHEET_BYTES}
use Rattle.sheet_loading.specs.declared.faults.SheetRefusal.{SheetRefusal}
use Rattle.workbook_core.specs.Books.{SharedBook}
use Rattle.puncalc_program.specs.declared.script.TheConstants.{SCRIPT_BYTES}
use Rattle.puncalc_program.specs.declared.stop.Stop.{Stop}
use Rattle.puncalc_program.specs.Desks.{KeptIs}
use Rattle.puncalc_program.specs.Outputs.{Output}
use Rattle.puncalc_program.specs.Output.{Readings, AreReadings, is_edit, request_output, the_names}
use Rattle.puncalc_program.specs.Refusals.{refusal_line, sheet_refused}
use Rattle.puncalc_program.specs.Writing.{Sunk, WritesAll, WritesPart}

-- the statuses of a run that came to its end; one that had to stop has 5, 6 or 7
abbrev pub IsFinal : ℕ → Type 0
IsFinal status = (status ≡ 0) ⊎ (status ≡ 2) ⊎ (status ≡ 3) ⊎ (status ≡ 4)

-- the statuses of all runs
abbrev pub IsStatus : ℕ → Type 0
IsStatus status = (status ≡ 0) ⊎ (status ≡ 2) ⊎ (status ≡ 3) ⊎ (status ≡ 4) ⊎ (status ≡ 5) ⊎ (status ≡ 6) ⊎ (status ≡ 7)

-- a run with this status wrote what is due: all of it with the status that is due, and it keeps the last round; nothing
-- where something could not be read; a first part where a write failed or there was no memory
pub record RunEnds (due : Output) (status : ℕ) (old new : Sunk) (kept : Option OutcomeSeen) : Type 0 where
  pub status_due : IsFinal status → status ≡ due.status
  pub all : IsFinal status → WritesAll due.pieces old new
  pub keeps : IsFinal status → KeptIs due.last kept
  pub nothing : status ≡ 5 → new ≡ old
  pub part : WritesPart due.pieces old new

-- the same, where a file may be lacking, so that nothing is due
abbrev pub Ends : Option Output → ℕ → Sunk → Sunk → Option OutcomeSeen → Type 0
Ends (Some due) status old new kept = RunEnds due status old new kept
Ends None status old new kept = ((status ≡ 5) ⊎ (status ≡ 7)) × (new ≡ old)

-- the same of a run's inside: its status, or why it stopped
abbrev pub Answers : Output → Sunk → Sunk → Option OutcomeSeen → Result ℕ Stop → Type 0
Answers due old new kept (Ok status) = (status ≡ due.status) × WritesAll due.pieces old new × KeptIs due.last kept
Answers due old new kept (Err Stop.Read) = new ≡ old
Answers due old new kept (Err Stop.Write) = WritesPart due.pieces old new
Answers due old new kept (Err Stop.Memory) = WritesPart due.pieces old new

abbrev pub AnswersAll : Option Output → Sunk → Sunk → Option OutcomeSeen → Result ℕ Stop → Type 0
AnswersAll (Some due) old new kept result = Answers due old new kept result
AnswersAll None old new kept (Ok status) = ⊥
AnswersAll None old new kept (Err Stop.Read) = new ≡ old
AnswersAll None old new kept (Err Stop.Write) = ⊥
AnswersAll None old new kept (Err Stop.Memory) = new ≡ old

-- it stopped for a cause: something could not be read, for this cause; a write failed; or memory ran out
abbrev pub StopsFor : {A : Type 0} → Type 0 → Sunk → Sunk → Result A Stop → Type 0
StopsFor Cause old new (Ok _) = Unit {0}
StopsFor Cause old new (Err Stop.Read) = Cause
StopsFor Cause old new (Err Stop.Write) = HasRisen old.faults new.faults
StopsFor Cause old new (Err Stop.Memory) = Unit {0}

-- the folder tells its files, and lacks one that comes before the first refusal, so that nothing is due
abbrev pub Lacks : Option Request → Option (List StoredFile) → Type 0
Lacks request told = IsSomeAnd told (λ folder. (read : Readings) → AreReadings read → (input : List ℕ) → request_output read request folder input ≡ None)

-- why something could not be read: the input's count of faults rose, or stands at its last value; for `edit` also that of
-- the folder, or the folder lacks a file
abbrev pub CouldNotRead : Option Request → (ℕ × ℕ) → (ℕ × ℕ) → Option (List StoredFile) → Type 0
CouldNotRead request input folder told =
    HasRisen input.0 input.1 ⊎ ((is_edit request ≡ true) × HasRisen folder.0 folder.1) ⊎ Lacks request told

-- the most reads of the input: one more than a sheet or a script may have bytes; none where nothing is read
abbrev pub most_reads : Option Request → ℕ
most_reads (Some (show workers)) = SHEET_BYTES + 1
most_reads (Some (edit workers files)) = SCRIPT_BYTES + 1
most_reads (Some (trace workers order stopped)) = SHEET_BYTES + 1
most_reads (Some (demo workers count)) = 0
most_reads None = 0

-- it did not stop for what it reads
abbrev pub NeverReads : {A : Type 0} → Result A Stop → Type 0
NeverReads (Ok _) = Unit {0}
NeverReads (Err Stop.Read) = ⊥
NeverReads (Err Stop.Write) = Unit {0}
NeverReads (Err Stop.Memory) = Unit {0}

-- the line of a refusal, if the sheet is refused
abbrev pub sheet_refusal : Result Book SheetRefusal → List (List ℕ)
sheet_refusal (Ok b) = []
sheet_refusal (Err why) = refusal_line (sheet_refused the_names 0 why) ∷ []

-- the sheet of the input was read, or its refusal was written; or the run had to stop on the way
abbrev pub ReadsSheet : Result Book SheetRefusal → Sunk → Sunk → Result (Option SharedBook) Stop → Type 0
ReadsSheet (Ok b) old new (Ok (Some w)) = (w.book ≡ b) × (new ≡ old)
ReadsSheet (Ok b) old new (Ok None) = ⊥
ReadsSheet (Err why) old new (Ok (Some w)) = ⊥
ReadsSheet (Err why) old new (Ok None) = WritesAll (sheet_refusal (Err why)) old new
ReadsSheet due old new (Err Stop.Read) = new ≡ old
ReadsSheet due old new (Err Stop.Write) = WritesPart (sheet_refusal due) old new
ReadsSheet due old new (Err Stop.Memory) = WritesPart (sheet_refusal due) old new
