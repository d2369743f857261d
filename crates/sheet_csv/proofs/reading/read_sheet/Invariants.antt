use Rattle.std.proofs.Common.{◌≡◌, ℕ, ◌+◌, ◌-◌, ◌<◌, ◌≤◌, List, Some, fold, All}
use Rattle.std.specs.Prelude.{vec_len}
use Rattle.cell_values.specs.Fields.{IsRawOf}
use Rattle.cell_values.specs.Interned.{KeepsTexts}
use Rattle.csv.specs.Reading.{Ready, default_config, records_from, source_of}
use Rattle.csv.specs.declared.reader.Trim.TheVariants as trim
use Rattle.sheet_csv.specs.Sheet.{cells_of, fields_from, first_fault, sheet_fields, with_field}
use Rattle.sheet_csv.proofs.Records.{Enough}
use Rattle.sheet_csv.proofs.reading.read_sheet.Given as goal

-- the records that are left go on as all of them did from the start
abbrev pub invariant-loop-above : goal.invariant-loop-above
invariant-loop-above l =
    let reader = l.above-iterator.iter.rdr in
    let row = l.above-iterator.count + 1 in
    record {
      whole : reader.trim ≡ trim.None;
      ready : Ready reader;
      turns : 0 < l.above-iterator.iter.left;
      config : reader.config ≡ default_config;
      going : (y : List ℕ) × (n : ℕ) × (source_of (λ s. Some s.now) reader ≡ Some y) × Enough n reader.state y
          × (fold (with_field l.sheet) (l.texts, l.cells.items) (fields_from row (records_from default_config n reader.state y)) ≡ cells_of l.sheet l.initial.texts (sheet_fields l.bytes))
          × (first_fault l.room (sheet_fields l.bytes) ≡ first_fault (l.room - vec_len l.cells) (fields_from row (records_from default_config n reader.state y)));
      kept : KeepsTexts l.initial.texts l.texts;
      within : vec_len l.cells ≤ l.room;
      there : All (λ cell. IsRawOf l.texts cell.1) l.cells.items;
    }
