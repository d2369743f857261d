use Rattle.std.proofs.Common.{◌≡◌, ◌+◌, ◌-◌, ◌≤◌, max, List, ◌++◌, drop, fold, All}
use Rattle.std.specs.Prelude.{vec_len}
use Rattle.cell_values.specs.Fields.{IsRawOf}
use Rattle.cell_values.specs.Interned.{KeepsTexts}
use Rattle.csv.specs.Records.{fields_of}
use Rattle.sheet_csv.specs.Sheet.{Field, first_fault, row_fields, with_field}
use Rattle.sheet_csv.proofs.SheetFacts.{placed}
use Rattle.sheet_csv.proofs.reading.read_row.Given as goal

-- the fields that are left go on as all of them did from the start
abbrev pub invariant-loop-before : goal.invariant-loop-before
invariant-loop-before l =
    let n = l.before in
    let left = placed l.row (n + 1) (drop n (fields_of l.fields)) in
    record {
      reads : l.field-iterator.row.now ≡ l.fields;
      reads_at : l.field-iterator.at ≡ n;
      cells : fold (with_field l.sheet) (l.texts, l.cells.items) left ≡ fold (with_field l.sheet) (l.initial.texts, l.initial.cells.items) (row_fields (l.row, fields_of l.fields));
      passed : (rest : List Field) → first_fault (l.room - vec_len l.initial.cells) (row_fields (l.row, fields_of l.fields) ++ rest) ≡ first_fault (l.room - vec_len l.cells) (left ++ rest);
      kept : KeepsTexts l.initial.texts l.texts;
      within : vec_len l.cells ≤ max (vec_len l.initial.cells) l.room;
      there : All (λ cell. IsRawOf l.initial.texts cell.1) l.initial.cells.items → All (λ cell. IsRawOf l.texts cell.1) l.cells.items;
    }
