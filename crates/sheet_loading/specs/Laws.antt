-- Sheets one after the other, and all at once.
use Rattle.std.specs.Prelude.{◌≡◌, ℕ, ◌+◌, List, ◌∷◌, ◌++◌, length, Ok, Err}
use Rattle.formula_grammar.specs.Reading.{Reading}
use Rattle.demand_spec.specs.Book.{Book}
use Rattle.sheet_loading.specs.declared.faults.SheetRefusal.{SheetRefusal}
use Rattle.sheet_loading.specs.Contents.{Names}
use Rattle.sheet_loading.specs.Sheets.{add_sheets, left_behind, sheet_added}

-- behind sheets that are loaded the others follow, with the next number, behind their cells and texts, in what they leave
-- of the bytes
abbrev pub OthersFollow : Type 0
OthersFollow = (read : Reading) (names : Names) (sheet left : ℕ) (b c : Book) (done others : List (List ℕ)) →
    add_sheets read names sheet left b done ≡ Ok c →
    add_sheets read names sheet left b (done ++ others) ≡ add_sheets read names (sheet + length done) (left_behind left done) c others

-- the first sheet that is refused decides, whatever comes behind it
abbrev pub FirstRefuses : Type 0
FirstRefuses = (read : Reading) (names : Names) (sheet left : ℕ) (b c : Book) (done others : List (List ℕ)) (bytes : List ℕ) (why : SheetRefusal) →
    add_sheets read names sheet left b done ≡ Ok c →
    sheet_added read names (sheet + length done) (left_behind left done) c bytes ≡ Err why →
    add_sheets read names sheet left b (done ++ bytes ∷ others) ≡ Err (sheet + length done, why)
