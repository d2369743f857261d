-- What is printed is read back.
use Rattle.std.specs.Prelude.{◌≡◌, ℕ, ◌<◌, ◌≤◌, List, length}
use Rattle.cell_values.specs.declared.address.Addr.{Addr}
use Rattle.cell_values.specs.Addresses.{IsOnSheet}
use Rattle.cell_values.specs.Interned.{AreDistinct}
use Rattle.cell_values.specs.Names.{AreSheetNames}
use Rattle.cell_values.specs.Texts.{Texts}
use Rattle.formula_trees.specs.declared.TheConstants.{MAX_FORMULA_BYTES}
use Rattle.formula_trees.specs.Expr.{Expr}
use Rattle.formula_trees.specs.SheetNumbers.{SheetsBelow}
use Rattle.formula_trees.specs.Sound.{IsSound}
use Rattle.formula_trees.specs.TextNumbers.{TextsBelow}
use Rattle.formula_tokens.specs.Tokens.{with_literals}
use Rattle.formula_grammar.specs.Printed.{printed}
use Rattle.formula_grammar.specs.Reading.{Means}

-- what is printed of a sound formula means it again over the same texts, where it has at most 1,024 bytes
abbrev pub PrintedReadsBack : Type 0
PrintedReadsBack = (names : List (List ℕ)) (ts : Texts) (at : Addr) (e : Expr) → AreSheetNames names → AreDistinct ts → IsOnSheet at → IsSound at e
    → TextsBelow (λ i. i < length ts) e → SheetsBelow (length names) e → length (printed names ts at e) ≤ MAX_FORMULA_BYTES → Means names ts at (printed names ts at e) e

-- and to read it interns nothing
abbrev pub PrintedInternsNothing : Type 0
PrintedInternsNothing = (names : List (List ℕ)) (ts : Texts) (at : Addr) (e : Expr) → AreSheetNames names → AreDistinct ts → IsOnSheet at → IsSound at e
    → TextsBelow (λ i. i < length ts) e → SheetsBelow (length names) e → length (printed names ts at e) ≤ MAX_FORMULA_BYTES → with_literals names ts (printed names ts at e) ≡ ts
