-- How the parts of a run end.
use Rattle.std.proofs.Common.{◌≡◌, ℕ, ◌<◌, ◌≤◌, ◌⊎◌, inl, inr, List, [], ◌∷◌, map, length, cond, Option, Some, None, Ok, codes, refl, sym, subst, ap, ◌∙◌, arith}
use Rattle.std.specs.Prelude.{Result, Err, IfSome, IfOk, String, string_bytes}
use Rattle.std.specs.Global.{Global}
use Rattle.std.proofs.lemmas.Bool.{le-ltb, lt-ltb}
use Rattle.byte_streams.specs.Faults.{HasRisen}
use Rattle.byte_streams.specs.Folders.{StoredFile}
use Rattle.byte_streams.specs.Streams.{Counts, Explains}
use Rattle.byte_streams.specs.declared.faults.ReadFault.{ReadFault}
use Rattle.claim_core.specs.Passes.{OutcomeSeen}
use Rattle.cell_values.specs.Names.{bad_name, sheet_name}
use Rattle.command_words.specs.Asking.{asked, edit}
use Rattle.demand_spec.specs.Book.{Book}
use Rattle.formula_grammar.specs.Reading.{Reading, IsReadable, IsReading}
use Rattle.sheet_loading.specs.declared.TheConstants.{SHEET_BYTES}
use Rattle.sheet_loading.specs.declared.faults.SheetRefusal.{SheetRefusal}
use Rattle.sheet_loading.specs.Contents.{Names}
use Rattle.sheet_loading.specs.Sheets.{no_cells, sheet_added}
use Rattle.puncalc_program.specs.declared.script.TheConstants.{SCRIPT_BYTES}
use Rattle.workbook_core.specs.Books.{SharedBook}
use Rattle.puncalc_program.specs.declared.files.Loaded.{Loaded}
use Rattle.puncalc_program.specs.declared.stop.Stop.{Stop}
use Rattle.puncalc_program.specs.Desks.{KeptIs, Runs}
use Rattle.puncalc_program.specs.Files.{Load, Whole, Refused, Lacking, files_loaded, IsLoadOf, IsSheetOf, LacksFiles, StopsReading}
use Rattle.puncalc_program.specs.Outputs.{Output, refusal}
use Rattle.puncalc_program.specs.Output.{AreReadings, Readings, demo_output, edit_output, on_load, only_sheet, output, request_output, on_names, script_output, the_names, with_sheet}
use Rattle.puncalc_program.specs.Refusals.{name_refused, refusal_line}
use Rattle.puncalc_program.specs.Run.{Answers, AnswersAll, CouldNotRead, Ends, IsFinal, Lacks, NeverReads, ReadsSheet, RunEnds, StopsFor, sheet_refusal}
use Rattle.puncalc_program.specs.Script.{Standing, lines_of, opened, script_from}
use Rattle.puncalc_program.specs.Writing.{Sunk, WritesAll, WritesPart, StopsWriting, Writes, Unread}
use Rattle.sheet_loading.proofs.Adding.{too_long}
use Rattle.puncalc_program.proofs.Written.{no_part, part_more, whole_part}

-- a part that only writes stopped

pub part_answers : (due : Output) (a b : Sunk) (kept : Option OutcomeSeen) (stop : Stop) → WritesPart due.pieces a b → StopsWriting stop a b → Answers due a b kept (Err stop)
part_answers due a b kept Stop.Read h k = absurd k
part_answers due a b kept Stop.Write h k = h
part_answers due a b kept Stop.Memory h k = h

pub writing_stops : (Cause : Type 0) (a b : Sunk) (stop : Stop) → StopsWriting stop a b → StopsFor {A = ℕ} Cause a b (Err stop)
writing_stops Cause a b Stop.Read h = absurd h
writing_stops Cause a b Stop.Write h = h
writing_stops Cause a b Stop.Memory h = tt

pub stops_for : {A : Type 0} (Cause Other : Type 0) (a b : Sunk) (r : Result A Stop) → (Cause → Other) → StopsFor Cause a b r → StopsFor Other a b r
stops_for Cause Other a b (Ok _) f h = tt
stops_for Cause Other a b (Err Stop.Read) f h = f h
stops_for Cause Other a b (Err Stop.Write) f h = h
stops_for Cause Other a b (Err Stop.Memory) f h = tt

-- a refusal was written

pub refused_answers : (status : ℕ) (what : List ℕ) (a b : Sunk) (kept : Option OutcomeSeen) (r : Result ℕ Stop) → Writes (refusal_line what ∷ []) a b r → IfOk r (λ s. s ≡ status) → kept ≡ None → Answers (refusal status what None) a b kept r
refused_answers status what a b kept (Ok s) w e k = (e, w, k)
refused_answers status what a b kept (Err stop) w e k = part_answers (refusal status what None) a b kept stop w.0 w.1

pub refused_stops : (Cause : Type 0) (pieces : List (List ℕ)) (a b : Sunk) (r : Result ℕ Stop) → Writes pieces a b r → StopsFor Cause a b r
refused_stops Cause pieces a b (Ok s) w = tt
refused_stops Cause pieces a b (Err stop) w = writing_stops Cause a b stop w.1

-- ---- the sheet of the input

-- what is read of the input's bytes
abbrev pub Reads : Sunk → Sunk → Result (Option SharedBook) Stop → List ℕ → Type 0
Reads a b r bytes = (read : Readings) → AreReadings read → ReadsSheet (only_sheet read bytes) a b r

-- what is made of their sheet
abbrev pub SheetAnswers : (Book → Output) → Sunk → Sunk → Option OutcomeSeen → Result ℕ Stop → List ℕ → Type 0
SheetAnswers next a b kept r bytes = (read : Readings) → AreReadings read → Answers (with_sheet next (only_sheet read bytes)) a b kept r

failed_read : (due : Result Book SheetRefusal) (a b : Sunk) → b ≡ a → ReadsSheet due a b (Err Stop.Read)
failed_read (Ok d) a b e = e
failed_read (Err why) a b e = e

part_read : (due : Result Book SheetRefusal) (a b : Sunk) (stop : Stop) → WritesPart (sheet_refusal due) a b → StopsWriting stop a b → ReadsSheet due a b (Err stop)
part_read (Ok d) a b Stop.Read h k = absurd k
part_read (Ok d) a b Stop.Write h k = h
part_read (Ok d) a b Stop.Memory h k = h
part_read (Err why) a b Stop.Read h k = absurd k
part_read (Err why) a b Stop.Write h k = h
part_read (Err why) a b Stop.Memory h k = h

-- there was no memory before anything was written
pub none_read : (due : Result Book SheetRefusal) (s : Sunk) → ReadsSheet due s s (Err Stop.Memory)
none_read due s = part_read due s s Stop.Memory (no_part (sheet_refusal due) s) tt

-- what was loaded, where there is one name
pub only_loaded : (names : Names) (bytes : List ℕ) (l : Loaded) → names ≡ the_names →
    ((read : Reading) → IsReading names read → IsSheetOf names (sheet_added read names 0 SHEET_BYTES no_cells bytes) l) → (read : Readings) → AreReadings read → IsSheetOf the_names (only_sheet read bytes) l
only_loaded names bytes l is h read right =
    subst (λ ns. (read : Reading) → IsReading ns read → IsSheetOf ns (sheet_added read ns 0 SHEET_BYTES no_cells bytes) l) is h (read the_names) (right the_names)

-- the sheet was loaded
pub loaded_read : (due : Result Book SheetRefusal) (w : SharedBook) (s : Sunk) → IsSheetOf the_names due (Loaded.Whole w) → ReadsSheet due s s (Ok (Some w))
loaded_read (Ok d) w s h = (h.0, refl)
loaded_read (Err why) w s h = absurd h

-- its refusal was written, or a part of it
pub refusal_read : (due : Result Book SheetRefusal) (what : String Global) (text : List ℕ) (a b : Sunk) → IsSheetOf the_names due (Loaded.Refused what) → text ≡ string_bytes what →
    WritesAll (refusal_line text ∷ []) a b → ReadsSheet due a b (Ok None)
refusal_read (Ok d) what text a b h e w = absurd h
refusal_read (Err why) what text a b h e w = subst (λ t. WritesAll (refusal_line t ∷ []) a b) (e ∙ h) w

pub refusal_cut : (due : Result Book SheetRefusal) (what : String Global) (text : List ℕ) (a b : Sunk) (stop : Stop) → IsSheetOf the_names due (Loaded.Refused what) → text ≡ string_bytes what →
    WritesPart (refusal_line text ∷ []) a b → StopsWriting stop a b → ReadsSheet due a b (Err stop)
refusal_cut (Ok d) what text a b stop h e w k = absurd h
refusal_cut (Err why) what text a b stop h e w k = part_read (Err why) a b stop (subst (λ t. WritesPart (refusal_line t ∷ []) a b) (e ∙ h) w) k

-- the same of all bytes that are told to be left
pub sheet_told : (told : Option (List ℕ)) (bytes given : List ℕ) (a b : Sunk) (r : Result (Option SharedBook) Stop) → IfSome told (λ left. bytes ≡ left) → given ≡ bytes → Reads a b r given → IfSome told (Reads a b r)
sheet_told None bytes given a b r h e k = tt
sheet_told (Some left) bytes given a b r h e k = subst (Reads a b r) (e ∙ h) k

not_stopped : (status : ℕ) (stop : Stop) (r : Result ℕ Stop) → r ≡ Ok status → r ≡ Err stop → ⊥
not_stopped status stop r p q = cc

one_stop : (stop other : Stop) (r : Result ℕ Stop) → r ≡ Err stop → r ≡ Err other → other ≡ stop
one_stop stop other r p q = cc

-- the input has too many bytes: the refusal was written, or a part of it; or it could not be read

pub sheet_unread : (told : Option (List ℕ)) (a b : Sunk) (fault : ReadFault) (status : ℕ) → Explains fault SHEET_BYTES told → Unread 3 (refusal_line (codes "Sheet1: S4")) a b fault (Ok status) → IfSome told (Reads a b (Ok None))
sheet_unread None a b fault status h w = tt
sheet_unread (Some left) a b ReadFault.TooLong status h w = λ read right.
    subst (λ due. ReadsSheet due a b (Ok None)) (sym (too_long (read the_names) the_names 0 SHEET_BYTES no_cells left h)) w.0
sheet_unread (Some left) a b ReadFault.Failed status h w = absurd (not_stopped status Stop.Read (Ok status) refl w.0)
sheet_unread (Some left) a b ReadFault.OutOfMemory status h w = absurd (not_stopped status Stop.Memory (Ok status) refl w.0)

pub sheet_unread_stops : (told : Option (List ℕ)) (a b : Sunk) (fault : ReadFault) (stop : Stop) → Explains fault SHEET_BYTES told → Unread 3 (refusal_line (codes "Sheet1: S4")) a b fault (Err stop) →
    IfSome told (Reads a b (Err stop))
sheet_unread_stops None a b fault stop h w = tt
sheet_unread_stops (Some left) a b ReadFault.TooLong stop h w = λ read right.
    subst (λ due. ReadsSheet due a b (Err stop)) (sym (too_long (read the_names) the_names 0 SHEET_BYTES no_cells left h)) (part_read (Err SheetRefusal.TooLong) a b stop w.0.0 w.0.1)
sheet_unread_stops (Some left) a b ReadFault.Failed stop h w = λ read right.
    subst (λ z. ReadsSheet (only_sheet read left) a b (Err z)) (one_stop stop Stop.Read (Err stop) refl w.0) (failed_read (only_sheet read left) a b w.1)
sheet_unread_stops (Some left) a b ReadFault.OutOfMemory stop h w = λ read right.
    subst (λ z. ReadsSheet (only_sheet read left) a b (Err z)) (one_stop stop Stop.Memory (Err stop) refl w.0)
    (subst (λ s. ReadsSheet (only_sheet read left) a s (Err Stop.Memory)) (sym w.1) (none_read (only_sheet read left) a))

-- what is known of any book that was read
pub each_book : (P : Type 0) (r : Result (Option SharedBook) Stop) → P → IfOk r (λ book. IfSome book (λ _. P))
each_book P (Ok (Some w)) h = h
each_book P (Ok None) h = tt
each_book P (Err stop) h = tt

if_each : (P : List ℕ → Type 0) (o : Option (List ℕ)) → ((x : List ℕ) → P x) → IfSome o P
if_each P None f = tt
if_each P (Some x) f = f x

if_more : (P Q : List ℕ → Type 0) (o : Option (List ℕ)) → ((x : List ℕ) → P x → Q x) → IfSome o P → IfSome o Q
if_more P Q None f h = tt
if_more P Q (Some x) f h = f x h

-- ---- show and trace: what is made of the sheet

answered : (next : Book → Output) (due : Result Book SheetRefusal) (w : SharedBook) (a b c : Sunk) (kept : Option OutcomeSeen) (r : Result ℕ Stop) → ReadsSheet due a b (Ok (Some w)) → Answers (next w.book) b c kept r →
    Answers (with_sheet next due) a c kept r
answered next (Ok d) w a b c kept r h k = subst (λ s. Answers (next d) s c kept r) h.1 (subst (λ z. Answers (next z) b c kept r) h.0 k)
answered next (Err why) w a b c kept r h k = absurd h

refusal_answered : (next : Book → Output) (due : Result Book SheetRefusal) (a b : Sunk) (kept : Option OutcomeSeen) → ReadsSheet due a b (Ok None) → kept ≡ None → Answers (with_sheet next due) a b kept (Ok 3)
refusal_answered next (Ok d) a b kept h k = absurd h
refusal_answered next (Err why) a b kept h k = (refl, h, k)

stop_answered : (next : Book → Output) (due : Result Book SheetRefusal) (a b : Sunk) (kept : Option OutcomeSeen) (stop : Stop) → ReadsSheet due a b (Err stop) → Answers (with_sheet next due) a b kept (Err stop)
stop_answered next (Ok d) a b kept Stop.Read h = h
stop_answered next (Ok d) a b kept Stop.Write h = part_more [] (next d).pieces a b h
stop_answered next (Ok d) a b kept Stop.Memory h = part_more [] (next d).pieces a b h
stop_answered next (Err why) a b kept Stop.Read h = h
stop_answered next (Err why) a b kept Stop.Write h = h
stop_answered next (Err why) a b kept Stop.Memory h = h

-- the sheet was read
pub sheet_answers : (told : Option (List ℕ)) (next : Book → Output) (w : SharedBook) (a b c : Sunk) (kept : Option OutcomeSeen) (r : Result ℕ Stop) → IfSome told (Reads a b (Ok (Some w))) → Answers (next w.book) b c kept r →
    IfSome told (SheetAnswers next a c kept r)
sheet_answers told next w a b c kept r h k =
    if_more (Reads a b (Ok (Some w))) (SheetAnswers next a c kept r) told (λ bytes s read right. answered next (only_sheet read bytes) w a b c kept r (s read right) k) h

-- it is refused
pub sheet_refused_answers : (told : Option (List ℕ)) (next : Book → Output) (a b : Sunk) (kept : Option OutcomeSeen) → IfSome told (Reads a b (Ok None)) → kept ≡ None → IfSome told (SheetAnswers next a b kept (Ok 3))
sheet_refused_answers told next a b kept h k =
    if_more (Reads a b (Ok None)) (SheetAnswers next a b kept (Ok 3)) told (λ bytes s read right. refusal_answered next (only_sheet read bytes) a b kept (s read right) k) h

-- the run had to stop before
pub sheet_stops : (told : Option (List ℕ)) (next : Book → Output) (a b : Sunk) (kept : Option OutcomeSeen) (stop : Stop) → IfSome told (Reads a b (Err stop)) → IfSome told (SheetAnswers next a b kept (Err stop))
sheet_stops told next a b kept stop h =
    if_more (Reads a b (Err stop)) (SheetAnswers next a b kept (Err stop)) told (λ bytes s read right. stop_answered next (only_sheet read bytes) a b kept stop (s read right)) h

-- the input was read to its end, whatever the status is
pub whole_read : (P : Type 0) (r : Result ℕ Stop) → P → IfOk r (λ status. status ≡ 0 → P)
whole_read P (Ok status) h = λ _. h
whole_read P (Err stop) h = tt

-- why a run stopped that had written nothing before
pub stops_later : (Cause : Type 0) (a b c : Sunk) (r : Result ℕ Stop) → b ≡ a → StopsFor ⊥ b c r → StopsFor Cause a c r
stops_later Cause a b c r e h = subst (λ s. StopsFor Cause s c r) e (stops_for ⊥ Cause b c r (λ x. absurd x) h)

-- ---- input that is not read

pub unread_stops : (status : ℕ) (line : List ℕ) (a b : Sunk) (before now : ℕ) (fault : ReadFault) (r : Result ℕ Stop) → Counts fault before now → Unread status line a b fault r → StopsFor (HasRisen before now) a b r
unread_stops status line a b before now ReadFault.TooLong r h w = refused_stops (HasRisen before now) (line ∷ []) a b r w.0
unread_stops status line a b before now ReadFault.Failed r h w = subst (λ z. StopsFor (HasRisen before now) a b z) (sym w.0) h
unread_stops status line a b before now ReadFault.OutOfMemory r h w = subst (λ z. StopsFor (HasRisen before now) a b z) (sym w.0) tt

-- the status of a run whose input is refused
pub unread_status : (P : ℕ → Type 0) (status : ℕ) (line : List ℕ) (a b : Sunk) (fault : ReadFault) (r : Result ℕ Stop) → Unread status line a b fault r → P status → IfOk r P
unread_status P status line a b ReadFault.TooLong r w h = go r w.1
  where
    go : (r : Result ℕ Stop) → IfOk r (λ s. s ≡ status) → IfOk r P
    go (Ok s) e = subst P (sym e) h
    go (Err stop) e = tt
unread_status P status line a b ReadFault.Failed r w h = subst (λ z. IfOk z P) (sym w.0) tt
unread_status P status line a b ReadFault.OutOfMemory r w h = subst (λ z. IfOk z P) (sym w.0) tt

-- ---- scripts

pub script_answers : (due : Output) (st : Standing) (a b : Sunk) (kept : Option OutcomeSeen) (status : ℕ) → Runs due st a b (Ok status) → KeptIs st.last kept → Answers due a b kept (Ok status)
script_answers due st a b kept status h k = (h.0, h.1, subst (λ l. KeptIs l kept) h.2 k)

pub script_stops : (due : Output) (st : Standing) (a b : Sunk) (kept : Option OutcomeSeen) (stop : Stop) → Runs due st a b (Err stop) → Answers due a b kept (Err stop)
script_stops due st a b kept stop h = part_answers due a b kept stop h.0 h.1

abbrev pub Scripts : Names → ℕ → Book → Sunk → Sunk → Option OutcomeSeen → Result ℕ Stop → List ℕ → Type 0
Scripts names workers b before now kept r bytes = (read : Reading) → IsReading names read → Answers (script_output read names workers b bytes) before now kept r

pub script_told : (told : Option (List ℕ)) (bytes given : List ℕ) (names : Names) (workers : ℕ) (b : Book) (before now : Sunk) (kept : Option OutcomeSeen) (r : Result ℕ Stop) → IfSome told (λ left. bytes ≡ left) → given ≡ bytes →
    length bytes ≤ SCRIPT_BYTES → ((read : Reading) → IsReading names read → Answers (script_from read names workers 1 (opened b) (lines_of given)) before now kept r) → IfSome told (Scripts names workers b before now kept r)
script_told None bytes given names workers b before now kept r h e few k = tt
script_told (Some left) bytes given names workers b before now kept r h e few k = λ read right.
    let short : length left ≤ SCRIPT_BYTES = subst (λ xs. length xs ≤ SCRIPT_BYTES) h few in
    subst (λ d. Answers d before now kept r)
    (ap (λ xs. script_from read names workers 1 (opened b) (lines_of xs)) (e ∙ h)
    ∙ sym (ap (λ t. cond t (refusal 4 (codes "script: E6") None) (script_from read names workers 1 (opened b) (lines_of left))) (le-ltb SCRIPT_BYTES (length left) short)))
    (k read right)

pub script_unread : (told : Option (List ℕ)) (names : Names) (workers : ℕ) (b : Book) (before now : Sunk) (kept : Option OutcomeSeen) (fault : ReadFault) (r : Result ℕ Stop) → Explains fault SCRIPT_BYTES told →
    Unread 4 (refusal_line (codes "script: E6")) before now fault r → kept ≡ None → IfSome told (Scripts names workers b before now kept r)
script_unread None names workers b before now kept fault r h w k = tt
script_unread (Some left) names workers b before now kept ReadFault.TooLong r h w k = λ read right.
    subst (λ d. Answers d before now kept r)
    (sym (ap (λ t. cond t (refusal 4 (codes "script: E6") None) (script_from read names workers 1 (opened b) (lines_of left))) (lt-ltb SCRIPT_BYTES (length left) h)))
    (refused_answers 4 (codes "script: E6") before now kept r w.0 w.1 k)
script_unread (Some left) names workers b before now kept ReadFault.Failed r h w k = λ read right.
    subst (λ z. Answers (script_output read names workers b left) before now kept z) (sym w.0) w.1
script_unread (Some left) names workers b before now kept ReadFault.OutOfMemory r h w k = λ read right.
    subst (λ z. Answers (script_output read names workers b left) before now kept z) (sym w.0) (subst (λ s. WritesPart (script_output read names workers b left).pieces before s) (sym w.1) (no_part (script_output read names workers b left).pieces before))

-- ---- edit

-- what the reading of the files came to, where nothing was written
pub unwritten : (Cause : Type 0) (due : Option Output) (s : Sunk) (kept : Option OutcomeSeen) (stop : Stop) → StopsReading {A = Loaded} Cause (Err stop) → AnswersAll due s s kept (Err stop)
unwritten Cause (Some due) s kept Stop.Read h = refl
unwritten Cause (Some due) s kept Stop.Write h = absurd h
unwritten Cause (Some due) s kept Stop.Memory h = no_part due.pieces s
unwritten Cause None s kept Stop.Read h = refl
unwritten Cause None s kept Stop.Write h = absurd h
unwritten Cause None s kept Stop.Memory h = refl

pub reading_stops : (Cause Other : Type 0) (s : Sunk) (stop : Stop) → (Cause → Other) → StopsReading {A = Loaded} Cause (Err stop) → StopsFor {A = ℕ} Other s s (Err stop)
reading_stops Cause Other s Stop.Read f h = f h
reading_stops Cause Other s Stop.Write f h = absurd h
reading_stops Cause Other s Stop.Memory f h = tt

-- the names of files' sheets
pub names_of_files : (files : List (String Global)) → map sheet_name (map string_bytes files) ≡ map (λ file. sheet_name (string_bytes file)) files
names_of_files [] = refl
names_of_files (f ∷ files) = ap (λ r. sheet_name (string_bytes f) ∷ r) (names_of_files files)

-- a name is bad
pub bad_name_due : (read : Readings) (workers : ℕ) (files : List (String Global)) (told : List StoredFile) (input : List ℕ) (number : ℕ) → bad_name (map (λ file. sheet_name (string_bytes file)) files) ≡ Some number →
    edit_output read workers (map string_bytes files) told input ≡ Some (refusal 3 (name_refused number) None)
bad_name_due read workers files told input number e =
    ap (on_names read (map sheet_name (map string_bytes files)) workers (map string_bytes files) told input) (ap bad_name (names_of_files files) ∙ e)

-- all names are good
good_names_due : (read : Readings) (workers : ℕ) (files : List (String Global)) (names : Names) (told : List StoredFile) (input : List ℕ) → names ≡ map (λ file. sheet_name (string_bytes file)) files →
    bad_name (map (λ file. sheet_name (string_bytes file)) files) ≡ None →
    edit_output read workers (map string_bytes files) told input ≡ on_load (read names) names workers input (files_loaded (read names) names told (map string_bytes files))
good_names_due read workers files names told input is good =
    ap (on_names read (map sheet_name (map string_bytes files)) workers (map string_bytes files) told input) (ap bad_name (names_of_files files) ∙ good)
    ∙ ap (λ ns. on_load (read ns) ns workers input (files_loaded (read ns) ns told (map string_bytes files))) (names_of_files files ∙ sym is)

-- a sheet is refused
load_refused : (read : Reading) (names : Names) (workers : ℕ) (input : List ℕ) (due : Load) (what : String Global) → IsLoadOf names due (Loaded.Refused what) → on_load read names workers input due ≡ Some (refusal 3 (string_bytes what) None)
load_refused read names workers input (Whole b) what h = absurd h
load_refused read names workers input (Refused sheet why) what h = ap (λ t. Some (refusal 3 t None)) (sym h)
load_refused read names workers input Lacking what h = absurd h

-- all sheets were loaded
load_whole : (read : Reading) (names : Names) (workers : ℕ) (input : List ℕ) (due : Load) (w : SharedBook) → IsLoadOf names due (Loaded.Whole w) → on_load read names workers input due ≡ Some (script_output read names workers w.book input)
load_whole read names workers input (Whole b) w h = ap (λ z. Some (script_output read names workers z input)) (sym h.0)
load_whole read names workers input (Refused sheet why) w h = absurd h
load_whole read names workers input Lacking w h = absurd h

-- what is asked of an edit's end
abbrev pub Edits : ℕ → List (List ℕ) → List StoredFile → Sunk → Sunk → Option OutcomeSeen → Result ℕ Stop → List ℕ → Type 0
Edits workers files told a b kept r input = (read : Readings) → AreReadings read → AnswersAll (edit_output read workers files told input) a b kept r

pub edit_name_refused : (left : Option (List ℕ)) (workers number : ℕ) (files : List (String Global)) (told : List StoredFile) (what : List ℕ) (a b : Sunk) (kept : Option OutcomeSeen) (r : Result ℕ Stop) →
    bad_name (map (λ file. sheet_name (string_bytes file)) files) ≡ Some number → what ≡ name_refused number → Writes (refusal_line what ∷ []) a b r → IfOk r (λ s. s ≡ 3) → kept ≡ None →
    IfSome left (Edits workers (map string_bytes files) told a b kept r)
edit_name_refused left workers number files told what a b kept r bad text w e k =
    if_each (Edits workers (map string_bytes files) told a b kept r) left (λ input read right.
    subst (λ d. AnswersAll d a b kept r) (sym (bad_name_due read workers files told input number bad))
    (subst (λ t. Answers (refusal 3 t None) a b kept r) text (refused_answers 3 what a b kept r w e k)))

pub edit_unwritten : (left : Option (List ℕ)) (Cause : Type 0) (workers : ℕ) (files : List (List ℕ)) (told : List StoredFile) (s : Sunk) (kept : Option OutcomeSeen) (stop : Stop) → StopsReading {A = Loaded} Cause (Err stop) →
    IfSome left (Edits workers files told s s kept (Err stop))
edit_unwritten left Cause workers files told s kept stop h =
    if_each (Edits workers files told s s kept (Err stop)) left (λ input read right. unwritten Cause (edit_output read workers files told input) s kept stop h)

pub edit_sheet_refused : (left : Option (List ℕ)) (workers : ℕ) (files : List (String Global)) (names : Names) (told : List StoredFile) (what : String Global) (text : List ℕ) (a b : Sunk) (kept : Option OutcomeSeen) (r : Result ℕ Stop) →
    names ≡ map (λ file. sheet_name (string_bytes file)) files → bad_name (map (λ file. sheet_name (string_bytes file)) files) ≡ None →
    ((read : Reading) → IsReading names read → IsLoadOf names (files_loaded read names told (map string_bytes files)) (Loaded.Refused what)) → text ≡ string_bytes what →
    Writes (refusal_line text ∷ []) a b r → IfOk r (λ s. s ≡ 3) → kept ≡ None → IfSome left (Edits workers (map string_bytes files) told a b kept r)
edit_sheet_refused left workers files names told what text a b kept r is good load same w e k =
    if_each (Edits workers (map string_bytes files) told a b kept r) left (λ input read right.
    subst (λ d. AnswersAll d a b kept r)
    (sym (good_names_due read workers files names told input is good ∙ load_refused (read names) names workers input (files_loaded (read names) names told (map string_bytes files)) what (load (read names) (right names))))
    (subst (λ t. Answers (refusal 3 t None) a b kept r) same (refused_answers 3 text a b kept r w e k)))

pub edit_loaded : (left : Option (List ℕ)) (workers : ℕ) (files : List (String Global)) (names : Names) (told : List StoredFile) (w : SharedBook) (a b : Sunk) (kept : Option OutcomeSeen) (r : Result ℕ Stop) →
    names ≡ map (λ file. sheet_name (string_bytes file)) files → bad_name (map (λ file. sheet_name (string_bytes file)) files) ≡ None → w.names ≡ names →
    ((read : Reading) → IsReading names read → IsLoadOf names (files_loaded read names told (map string_bytes files)) (Loaded.Whole w)) →
    IfSome left (Scripts w.names workers w.book a b kept r) → IfSome left (Edits workers (map string_bytes files) told a b kept r)
edit_loaded left workers files names told w a b kept r is good are load h =
    if_more (Scripts w.names workers w.book a b kept r) (Edits workers (map string_bytes files) told a b kept r) left
    (λ input answers read right.
    subst (λ d. AnswersAll d a b kept r)
    (sym (good_names_due read workers files names told input is good ∙ load_whole (read names) names workers input (files_loaded (read names) names told (map string_bytes files)) w (load (read names) (right names))))
    (subst (λ ns. (read : Reading) → IsReading ns read → Answers (script_output read ns workers w.book input) a b kept r) are answers (read names) (right names))) h

-- why the files of an edit could not be read
pub files_lacking : (workers : ℕ) (files : List (String Global)) (names : Names) (told : Option (List StoredFile)) (input folder : ℕ × ℕ) → names ≡ map (λ file. sheet_name (string_bytes file)) files →
    bad_name (map (λ file. sheet_name (string_bytes file)) files) ≡ None → HasRisen folder.0 folder.1 ⊎ LacksFiles names told (map string_bytes files) → CouldNotRead (Some (edit workers (map string_bytes files))) input folder told
files_lacking workers files names told input folder is good (inl h) = inr (inl (refl, h))
files_lacking workers files names told input folder is good (inr h) = inr (inr (go told h))
  where
    go : (o : Option (List StoredFile)) → LacksFiles names o (map string_bytes files) → Lacks (Some (edit workers (map string_bytes files))) o
    go None h = h
    go (Some stored) h = λ read right bytes. good_names_due read workers files names stored bytes is good ∙ ap (on_load (read names) names workers bytes) (h (read names) (right names))

-- ---- demo

-- what is asked of a demo's end, whatever the input has
abbrev pub Demos : ℕ → ℕ → Sunk → Sunk → Option OutcomeSeen → Result ℕ Stop → List ℕ → Type 0
Demos workers count a b kept r bytes = (read : Readings) → AreReadings read → Answers (demo_output read workers count) a b kept r

pub demo_answers : (told : Option (List ℕ)) (workers count : ℕ) (a b : Sunk) (kept : Option OutcomeSeen) (r : Result ℕ Stop) → ((read : Readings) → AreReadings read → Answers (demo_output read workers count) a b kept r) →
    IfSome told (Demos workers count a b kept r)
demo_answers told workers count a b kept r h = if_each (Demos workers count a b kept r) told (λ bytes. h)

-- it reads nothing
pub never_reads : (a b : Sunk) (r : Result ℕ Stop) → StopsFor ⊥ a b r → NeverReads r
never_reads a b (Ok status) h = tt
never_reads a b (Err Stop.Read) h = h
never_reads a b (Err Stop.Write) h = tt
never_reads a b (Err Stop.Memory) h = tt

-- ---- the whole run

not_five : (status : ℕ) → IsFinal status → status ≡ 5 → ⊥
not_five status (inl e) five = (let p : 0 ≡ 5 = sym e ∙ five in omega (arith, p))
not_five status (inr (inl e)) five = (let p : 2 ≡ 5 = sym e ∙ five in omega (arith, p))
not_five status (inr (inr (inl e))) five = (let p : 3 ≡ 5 = sym e ∙ five in omega (arith, p))
not_five status (inr (inr (inr e))) five = (let p : 4 ≡ 5 = sym e ∙ five in omega (arith, p))

-- a run that came to its end
pub whole_written : (due : Output) (status : ℕ) (a b : Sunk) (kept : Option OutcomeSeen) → IsFinal status → Answers due a b kept (Ok status) → RunEnds due status a b kept
whole_written due status a b kept f h = record {
  status_due = λ _. h.0;
  all = λ _. h.1;
  keeps = λ _. h.2;
  nothing = λ five. absurd (not_five status f five);
  part = whole_part due.pieces a b h.1;
}

pub ends_whole : (due : Option Output) (status : ℕ) (a b : Sunk) (kept : Option OutcomeSeen) → IsFinal status → AnswersAll due a b kept (Ok status) → Ends due status a b kept
ends_whole (Some due) status a b kept f h = whole_written due status a b kept f h
ends_whole None status a b kept f h = absurd h

not_final : (n status : ℕ) → status ≡ n → 4 < n → IsFinal status → ⊥
not_final n status e low (inl p) = omega (arith, e, low, p)
not_final n status e low (inr (inl p)) = omega (arith, e, low, p)
not_final n status e low (inr (inr (inl p))) = omega (arith, e, low, p)
not_final n status e low (inr (inr (inr p))) = omega (arith, e, low, p)

pub ends_unread : (due : Option Output) (a b : Sunk) (kept : Option OutcomeSeen) → AnswersAll due a b kept (Err Stop.Read) → Ends due 5 a b kept
ends_unread (Some due) a b kept h = record {
  status_due = λ f. absurd (not_final 5 5 refl (omega arith) f);
  all = λ f. absurd (not_final 5 5 refl (omega arith) f);
  keeps = λ f. absurd (not_final 5 5 refl (omega arith) f);
  nothing = λ _. h;
  part = subst (λ s. WritesPart due.pieces a s) (sym h) (no_part due.pieces a);
}
ends_unread None a b kept h = (inl refl, h)

part_written : (due : Output) (n : ℕ) (a b : Sunk) (kept : Option OutcomeSeen) → 5 < n → WritesPart due.pieces a b → RunEnds due n a b kept
part_written due n a b kept low h = record {
  status_due = λ f. absurd (not_final n n refl (omega arith) f);
  all = λ f. absurd (not_final n n refl (omega arith) f);
  keeps = λ f. absurd (not_final n n refl (omega arith) f);
  nothing = λ five. absurd (omega (arith, five, low));
  part = h;
}

pub ends_unwritten : (due : Option Output) (a b : Sunk) (kept : Option OutcomeSeen) → AnswersAll due a b kept (Err Stop.Write) → Ends due 6 a b kept
ends_unwritten (Some due) a b kept h = part_written due 6 a b kept (omega arith) h
ends_unwritten None a b kept h = absurd h

pub ends_out_of_memory : (due : Option Output) (a b : Sunk) (kept : Option OutcomeSeen) → AnswersAll due a b kept (Err Stop.Memory) → Ends due 7 a b kept
ends_out_of_memory (Some due) a b kept h = part_written due 7 a b kept (omega arith) h
ends_out_of_memory None a b kept h = (inr refl, h)

-- the same of what is due by words, files and input
pub told_ends : (told : Option (List ℕ)) (words : List (List ℕ)) (files : List StoredFile) (status : ℕ) (a b : Sunk) (kept : Option OutcomeSeen) (r : Result ℕ Stop) →
    ((due : Option Output) → AnswersAll due a b kept r → Ends due status a b kept) →
    IfSome told (λ bytes. (read : Readings) → AreReadings read → AnswersAll (request_output read (asked words) files bytes) a b kept r) →
    IfSome told (λ bytes. (read : Readings) → AreReadings read → Ends (output read words files bytes) status a b kept)
unfolding output
told_ends None words files status a b kept r f h = tt
told_ends (Some bytes) words files status a b kept r f h = λ read right. f (request_output read (asked words) files bytes) (h read right)

-- there are readings, whatever the names are
pub are_readable : IsReadable → (read : Readings) × AreReadings read
are_readable h = (λ names. (h names).0, λ names. (h names).1)
