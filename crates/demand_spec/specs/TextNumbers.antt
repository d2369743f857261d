-- Text numbers that stand for texts.
use Rattle.std.specs.Prelude.{ℕ}
use Rattle.cell_values.specs.declared.values.Value.{Value}
use Rattle.cell_values.specs.ShortTexts.{IsShort}

-- a text of the book has a number of which `meant` holds, and a short one has its bytes in itself
abbrev pub TextBelow : (ℕ → Type 0) → Value → Type 0
TextBelow meant (Value.Number n) = Unit {0}
TextBelow meant (Value.Text t) = meant t.0
TextBelow meant (Value.Short t) = IsShort t
TextBelow meant (Value.Bool b) = Unit {0}
TextBelow meant Value.Blank = Unit {0}
TextBelow meant (Value.Error e) = Unit {0}
