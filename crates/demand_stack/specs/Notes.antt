-- What is noted of each pending cell, kept in two lists.
use Rattle.std.specs.Prelude.{Option, List, [], ◌∷◌}
use Rattle.cell_values.specs.declared.values.Shown.{Shown}
use Rattle.demand_stack.specs.declared.notes.Note.{Note}
use Rattle.demand_stack.specs.declared.notes.Marks.{Marks}

-- a result and the marks beside it
abbrev pub note_of : Option Shown → Marks → Note
note_of k m = record { shown = k; on_stack = m.on_stack; begun = m.begun }

-- the notes of all cells
abbrev pub noted : List (Option Shown) → List Marks → List Note
noted [] ms = []
noted (k ∷ ks) [] = []
noted (k ∷ ks) (m ∷ ms) = note_of k m ∷ noted ks ms
