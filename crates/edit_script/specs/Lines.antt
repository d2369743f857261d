-- What a line of a script asks for.
use Rattle.std.specs.Prelude.{◌≡◌, ℕ, ℤ, ◌<◌, length, ⊤, ◌==◌, List, [], ◌∷◌, Option, Some, None, option_map, option_and_then, Result, Ok, Err, codes, if◌then◌else◌}
use Rattle.std.specs.List.{before_first, after_first}
use Rattle.std.specs.Str.{bytes_eq, is_utf8}
use Rattle.cell_values.specs.declared.address.Addr.{Addr}
use Rattle.edit_script.specs.declared.line.Line.{Line}
use Rattle.edit_script.specs.declared.line.LineFault.{LineFault}
use Rattle.edit_script.specs.Pieces.{is_space, without_cr, behind_spaces, trimmed}
use Rattle.edit_script.specs.Numbers.{range_in, IsRange}
use Rattle.edit_script.specs.Rows.{rows_in, if_within, AreRowsOf, AreWithin}
use Rattle.edit_script.specs.Targets.{Names, IsCellOf, IsAreaOf, target_in, target_before, behind_target, area_in, sheet_in}

-- a line, or the fault of a reference
abbrev pub or_bad : Option Line → Result Line LineFault
or_bad (Some line) = Ok line
or_bad None = Err LineFault.BadReference

-- a command with no words behind it
abbrev pub alone : Line → List ℕ → Option Line
alone line [] = Some line
alone line (c ∷ rest) = None

-- a cell and its field: all that stands behind the one space
abbrev pub set_in : Names → List ℕ → Option Line
set_in names text = option_map (λ at. Line.Set at (behind_target is_space text)) (target_before is_space names text)

-- a cell, one space and an area
abbrev pub copy_in : Names → List ℕ → Option Line
copy_in names text = option_and_then (λ from. option_map (Line.Copy from) (area_in names (behind_target is_space text))) (target_before is_space names text)

-- a table, if all its parts are there
abbrev pub what_if_of : Option Addr → Option (ℤ × ℕ) → Option Addr → Option Line
what_if_of (Some at) (Some range) (Some target) = Some (Line.WhatIf at range.0 range.1 target)
what_if_of None range target = None
what_if_of (Some at) None target = None
what_if_of (Some at) (Some range) None = None

-- a cell, two numbers and a cell, with one space between them
unfoldable pub what_if_in : Names → List ℕ → Option Line
what_if_in names text =
    let low = behind_target is_space text in
    let high = after_first is_space low in
    what_if_of (target_before is_space names text) (range_in (before_first is_space low) (before_first is_space high)) (target_in names (after_first is_space high))

-- each command but `set`, with what stands behind it
unfoldable pub trimmed_command : Names → List ℕ → List ℕ → Result Line LineFault
trimmed_command names word text =
    if bytes_eq word (codes "clear") then or_bad (option_map Line.Clear (target_in names text))
    else (if bytes_eq word (codes "copy") then or_bad (copy_in names text)
    else (if bytes_eq word (codes "show") then or_bad (option_map Line.Show (target_in names text))
    else (if bytes_eq word (codes "print") then or_bad (option_map Line.Print (sheet_in names text))
    else (if bytes_eq word (codes "save") then or_bad (option_map Line.Save (sheet_in names text))
    else (if bytes_eq word (codes "recalc") then or_bad (alone Line.Recalc text)
    else (if bytes_eq word (codes "cycles") then or_bad (alone Line.Cycles text)
    else (if bytes_eq word (codes "insert") then or_bad (option_map Line.Insert (rows_in names text))
    else (if bytes_eq word (codes "delete") then or_bad (option_map Line.Delete (option_and_then if_within (rows_in names text)))
    else (if bytes_eq word (codes "whatif") then or_bad (what_if_in names text)
    else Err LineFault.UnknownCommand)))))))))

-- a command and what stands behind it and its spaces; the field of `set` keeps the spaces at its end
abbrev pub command_in : Names → List ℕ → List ℕ → Result Line LineFault
command_in names word text = if bytes_eq word (codes "set") then or_bad (set_in names text) else trimmed_command names word (trimmed text)

-- the command is what stands before the first space; an empty line and a comment ask for nothing
abbrev pub line_in : Names → List ℕ → Result Line LineFault
line_in names [] = Ok Line.Nothing
line_in names (c ∷ rest) = if c == 35 then Ok Line.Nothing
    else command_in names (before_first is_space (c ∷ rest)) (behind_spaces (after_first is_space (c ∷ rest)))

-- what a line asks for, or why it is refused, where the sheets have these names
unfoldable pub line_of : Names → List ℕ → Result Line LineFault
line_of names bytes = if is_utf8 bytes then line_in names (without_cr bytes) else Err LineFault.NotUtf8

-- the cells, areas and sheets that a line names are those of the book
abbrev pub IsLineOf : Names → Line → Type 0
IsLineOf names Line.Nothing = ⊤
IsLineOf names (Line.Set at field) = IsCellOf names at
IsLineOf names (Line.Clear at) = IsCellOf names at
IsLineOf names (Line.Copy from to) = IsCellOf names from × IsAreaOf names to
IsLineOf names (Line.Show at) = IsCellOf names at
IsLineOf names (Line.Print sheet) = sheet < length names
IsLineOf names (Line.Save sheet) = sheet < length names
IsLineOf names Line.Recalc = ⊤
IsLineOf names Line.Cycles = ⊤
IsLineOf names (Line.Insert rows) = AreRowsOf names rows
IsLineOf names (Line.Delete rows) = AreRowsOf names rows × AreWithin rows
IsLineOf names (Line.WhatIf at low count target) = IsCellOf names at × IsCellOf names target × IsRange low count

-- the fault is the line's, unless memory ran out
abbrev pub IsFaultOf : Result Line LineFault → LineFault → Type 0
IsFaultOf due LineFault.UnknownCommand = due ≡ Err LineFault.UnknownCommand
IsFaultOf due LineFault.BadReference = due ≡ Err LineFault.BadReference
IsFaultOf due LineFault.NotUtf8 = due ≡ Err LineFault.NotUtf8
IsFaultOf due LineFault.OutOfMemory = ⊤
