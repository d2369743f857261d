-- What a run writes, and how it ends, by its words, its files and its input alone.
use Rattle.std.specs.Prelude.{ℕ, Bool, true, false, List, [], ◌∷◌, Option, Some, None, Result, Ok, Err, nat_lt, length, map, codes, if◌then◌else◌}
use Rattle.byte_streams.specs.Folders.{StoredFile}
use Rattle.cell_values.specs.Names.{bad_name, sheet_name}
use Rattle.command_words.specs.Asking.{Request, show, edit, trace, demo, asked}
use Rattle.demand_spec.specs.Book.{Book, formulas}
use Rattle.formula_grammar.specs.Reading.{Reading, IsReading}
use Rattle.parallel_evaluation.specs.Order.{run_order}
use Rattle.sheet_loading.specs.declared.TheConstants.{SHEET_BYTES}
use Rattle.sheet_loading.specs.declared.faults.SheetRefusal.{SheetRefusal}
use Rattle.sheet_loading.specs.Contents.{Names}
use Rattle.sheet_loading.specs.Sheets.{no_cells, sheet_added}
use Rattle.trace_text.specs.TraceText.{trace_lines}
use Rattle.puncalc_program.specs.declared.script.TheConstants.{SCRIPT_BYTES}
use Rattle.puncalc_program.specs.Demo.{demo_on, generated}
use Rattle.puncalc_program.specs.Files.{Load, Whole, Refused, Lacking, files_loaded}
use Rattle.puncalc_program.specs.Outputs.{Output, refusal, behind}
use Rattle.puncalc_program.specs.Refusals.{name_refused, sheet_refused}
use Rattle.puncalc_program.specs.Script.{opened, recalculated, script_from, lines_of}
use Rattle.puncalc_program.specs.Sheets.{sheet_rows}

-- what formulas read as, whatever the names of the sheets are
abbrev pub Readings : Type 0
Readings = Names → Reading

abbrev pub AreReadings : Readings → Type 0
AreReadings read = (names : Names) → IsReading names (read names)

-- the names of the sheets, where the words name no files: there is one
abbrev pub the_names : Names
the_names = codes "Sheet1" ∷ []

-- ---- show and trace

-- what is made of the only sheet, unless it is refused
abbrev pub with_sheet : (Book → Output) → Result Book SheetRefusal → Output
with_sheet next (Ok b) = next b
with_sheet next (Err why) = refusal 3 (sheet_refused the_names 0 why) None

-- the sheet of the input
abbrev pub only_sheet : Readings → List ℕ → Result Book SheetRefusal
only_sheet read input = sheet_added (read the_names) the_names 0 SHEET_BYTES no_cells input

-- the book recalculated, and its sheet
abbrev pub shown_output : ℕ → Book → Output
shown_output workers b = record { status = 0; pieces = sheet_rows b 0; last = (recalculated workers (opened b)).last }

-- what `show` makes of its input
abbrev pub show_output : Readings → ℕ → List ℕ → Output
show_output read workers input = with_sheet (shown_output workers) (only_sheet read input)

-- the steps of a recalculation by workers that step in this order and of which some stop
abbrev pub step_lines : ℕ → List ℕ → List ℕ → Book → List (List ℕ)
step_lines workers order stopped b = trace_lines (formulas b) stopped (run_order b (formulas b) workers order stopped)

-- these steps, and then the sheet
abbrev pub traced_output : ℕ → List ℕ → List ℕ → Book → Output
traced_output workers order stopped b = behind (step_lines workers order stopped b) (behind (codes "result\n" ∷ []) (shown_output workers b))

-- what `trace` makes of its input
abbrev pub trace_output : Readings → ℕ → List ℕ → List ℕ → List ℕ → Output
trace_output read workers order stopped input = with_sheet (traced_output workers order stopped) (only_sheet read input)

-- ---- demo

-- what `demo` makes
abbrev pub demo_output : Readings → ℕ → ℕ → Output
demo_output read workers count = demo_on (read the_names) the_names workers (generated (read the_names) the_names count)

-- ---- edit

-- the script on a book that was just loaded
abbrev pub script_output : Reading → Names → ℕ → Book → List ℕ → Output
script_output read names workers b script =
    if nat_lt SCRIPT_BYTES (length script) then refusal 4 (codes "script: E6") None
    else script_from read names workers 1 (opened b) (lines_of script)

-- the script on what was loaded; nothing is due where a file is lacking
abbrev pub on_load : Reading → Names → ℕ → List ℕ → Load → Option Output
on_load read names workers script (Whole b) = Some (script_output read names workers b script)
on_load read names workers script (Refused sheet why) = Some (refusal 3 (sheet_refused names sheet why) None)
on_load read names workers script Lacking = None

-- the names come before everything else
abbrev pub on_names : Readings → Names → ℕ → List (List ℕ) → List StoredFile → List ℕ → Option ℕ → Option Output
on_names read names workers files folder script (Some number) = Some (refusal 3 (name_refused number) None)
on_names read names workers files folder script None = on_load (read names) names workers script (files_loaded (read names) names folder files)

abbrev pub edit_output : Readings → ℕ → List (List ℕ) → List StoredFile → List ℕ → Option Output
edit_output read workers files folder script =
    let names = map sheet_name files in
    on_names read names workers files folder script (bad_name names)

-- ---- all words

-- the words are not accepted
abbrev pub words_refused : Output
words_refused = refusal 2 (codes "words") None

-- what is made of a request
abbrev pub request_output : Readings → Option Request → List StoredFile → List ℕ → Option Output
request_output read (Some (show workers)) folder input = Some (show_output read workers input)
request_output read (Some (edit workers files)) folder input = edit_output read workers files folder input
request_output read (Some (trace workers order stopped)) folder input = Some (trace_output read workers order stopped input)
request_output read (Some (demo workers count)) folder input = Some (demo_output read workers count)
request_output read None folder input = Some words_refused

-- what the program makes of its words, the files of its folder and its input; None where a file is lacking
unfoldable pub output : Readings → List (List ℕ) → List StoredFile → List ℕ → Option Output
output read words folder input = request_output read (asked words) folder input

-- something is asked for
abbrev pub is_request : Option Request → Bool
is_request (Some request) = true
is_request None = false

abbrev pub are_accepted : List (List ℕ) → Bool
are_accepted words = is_request (asked words)

-- the input is asked for: a sheet or a script
abbrev pub is_reading : Option Request → Bool
is_reading (Some (show workers)) = true
is_reading (Some (edit workers files)) = true
is_reading (Some (trace workers order stopped)) = true
is_reading (Some (demo workers count)) = false
is_reading None = false

abbrev pub ask_for_input : List (List ℕ) → Bool
ask_for_input words = is_reading (asked words)

-- files are asked for
abbrev pub is_edit : Option Request → Bool
is_edit (Some (show workers)) = false
is_edit (Some (edit workers files)) = true
is_edit (Some (trace workers order stopped)) = false
is_edit (Some (demo workers count)) = false
is_edit None = false

abbrev pub asks_for_files : List (List ℕ) → Bool
asks_for_files words = is_edit (asked words)
