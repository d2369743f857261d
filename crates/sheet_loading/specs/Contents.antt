-- What fields make of their cells.
use Rattle.std.specs.Prelude.{ℕ, List, [], ◌∷◌, Option, Some, None, Result, Ok, Err}
use Rattle.std.specs.Result.{result_map_both}
use Rattle.cell_values.specs.declared.address.Addr.{Addr}
use Rattle.cell_values.specs.declared.fields.Raw.{Raw}
use Rattle.cell_values.specs.Texts.{Texts}
use Rattle.formula_tokens.specs.Tokens.{with_literals}
use Rattle.formula_grammar.specs.declared.faults.FaultKind.{FaultKind}
use Rattle.formula_grammar.specs.Reading.{Reading}
use Rattle.demand_spec.specs.Book.{Book, Content}
use Rattle.demand_spec.specs.Edits.{with_cell}
use Rattle.sheet_loading.specs.declared.faults.SheetRefusal.{SheetRefusal}

-- the names of all sheets, each with its number
abbrev pub Names : Type 0
Names = List (List ℕ)

-- the texts behind a field, and what it makes of its cell, if anything
abbrev pub Made : Type 0
Made = Texts × Option Content

-- what a field makes of its cell where formulas read as `read` says, or the fault of its formula; a formula's texts
-- come behind the known ones
unfoldable pub content_read : Reading → Names → Texts → Addr → Raw → Result Made (ℕ × FaultKind)
content_read read names ts at Raw.Nothing = Ok (ts, None)
content_read read names ts at (Raw.Number n) = Ok (ts, Some (Content.Number n))
content_read read names ts at (Raw.Text t) = Ok (ts, Some (Content.Text t))
content_read read names ts at (Raw.Bool b) = Ok (ts, Some (Content.Truth b))
content_read read names ts at (Raw.Formula text) =
    let known = with_literals names ts text in result_map_both (λ tree. (known, Some (Content.Formula tree))) (λ fault. fault) (read known at text)

-- a cell before those that come behind it, or the refusal of its formula
abbrev pub before_cells : Addr → Result Made (ℕ × FaultKind) → (Texts → Result Book SheetRefusal) → Result Book SheetRefusal
before_cells at (Ok made) behind =
    result_map_both (λ b. record { cells = with_cell at made.1 b.cells; texts = b.texts }) (λ why. why) (behind made.0)
before_cells at (Err fault) behind = Err (SheetRefusal.Formula at fault.0 fault.1)

-- the book of the fields in order of their cells, or the refusal of the first formula with a fault
unfoldable pub fields_read : Reading → Names → Texts → List (Addr × Raw) → Result Book SheetRefusal
fields_read read names ts [] = Ok (record { cells = []; texts = ts })
fields_read read names ts (c ∷ rest) = before_cells c.0 (content_read read names ts c.0 c.1) (λ known. fields_read read names known rest)
