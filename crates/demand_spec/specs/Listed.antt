-- Books and values as lists in order.
use Rattle.std.specs.Prelude.{◌≡◌, Some, ◌<◌, length, List, [], ◌∷◌}
use Rattle.cell_values.specs.declared.address.Addr.{Addr}
use Rattle.cell_values.specs.declared.values.Shown.{Shown}
use Rattle.cell_values.specs.declared.values.Value.{Value}
use Rattle.cell_values.specs.Addresses.{IsOnSheet}
use Rattle.cell_values.specs.Texts.{Texts, IsTextOf}
use Rattle.formula_trees.specs.Expr.{Expr, Exprs, expr_of}
use Rattle.formula_trees.specs.Sound.{IsSound}
use Rattle.cell_values.specs.Values.{IsValueOf, IsShownOf}
use Rattle.demand_spec.specs.declared.Cell.{Cell}
use Rattle.demand_spec.specs.Book.{Book, Content, Known, formulas, shown}
use Rattle.formula_trees.specs.TextNumbers.{TextsBelow, AllTextsBelow}

abbrev pub content_of : Cell → Content
content_of (Cell.Number n) = Content.Number n
content_of (Cell.Text t) = Content.Text t
content_of (Cell.Bool b) = Content.Truth b
content_of (Cell.Formula t) = Content.Formula (expr_of t)

abbrev pub contents : List (Addr × Cell) → List (Addr × Content)
contents [] = []
contents (c ∷ rest) = (c.0, content_of c.1) ∷ contents rest

-- a formula is sound at its cell
abbrev pub IsSoundAt : Addr → Content → Type 0
IsSoundAt at (Content.Number n) = Unit {0}
IsSoundAt at (Content.Text t) = Unit {0}
IsSoundAt at (Content.Truth b) = Unit {0}
IsSoundAt at (Content.Formula t) = IsSound at t

-- each cell is on its sheet, and each formula is sound
abbrev pub AllSound : List (Addr × Content) → Type 0
AllSound [] = Unit {0}
AllSound (c ∷ rest) = IsOnSheet c.0 × IsSoundAt c.0 c.1 × AllSound rest

-- each formula cell of the list, with what it shows
abbrev pub shown_over : Book → List Addr → List (Addr × Shown)
shown_over b [] = []
shown_over b (c ∷ rest) = (c, shown b c) ∷ shown_over b rest

-- all formula cells in order, with what they show
abbrev pub all_shown : Book → List (Addr × Shown)
all_shown b = shown_over b (formulas b)

-- what is shown has text numbers of these texts
abbrev pub AreShownOf : Texts → List (Addr × Shown) → Type 0
AreShownOf ts [] = Unit {0}
AreShownOf ts (e ∷ rest) = IsShownOf ts e.1 × AreShownOf ts rest

-- the text numbers of a formula, of a cell, of a book are numbers of these texts
abbrev pub IsFormulaOf : Texts → Expr → Type 0
IsFormulaOf ts t = TextsBelow (λ i. i < length ts) t

abbrev pub AreArgumentsOf : Texts → Exprs → Type 0
AreArgumentsOf ts args = AllTextsBelow (λ i. i < length ts) args

abbrev pub IsContentOf : Texts → Content → Type 0
IsContentOf ts (Content.Number n) = Unit {0}
IsContentOf ts (Content.Text t) = IsTextOf ts t
IsContentOf ts (Content.Truth b) = Unit {0}
IsContentOf ts (Content.Formula t) = IsFormulaOf ts t

abbrev pub AreCellsOf : Texts → List (Addr × Content) → Type 0
AreCellsOf ts [] = Unit {0}
AreCellsOf ts (c ∷ rest) = IsContentOf ts c.1 × AreCellsOf ts rest

-- the known values have such text numbers
abbrev pub AreKnownOf : Texts → Known → Type 0
AreKnownOf ts e = (a : Addr) (v : Value) → e a ≡ Some v → IsValueOf ts v
