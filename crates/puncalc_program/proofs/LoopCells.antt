-- The cells of a book's loops.
use Rattle.std.proofs.Common.{◌≡◌, ℕ, zero, ◌<◌, suc, inl, inr, List, [], ◌∷◌, length, get_or, Option, Some, None, refl, subst, ap, arith}
use Rattle.std.specs.Prelude.{All}
use Rattle.cell_values.specs.declared.address.Addr.{Addr}
use Rattle.cell_values.specs.Order.{entry_at}
use Rattle.formula_trees.specs.Expr.{Expr}
use Rattle.demand_spec.specs.Book.{Book, Content, formula_at, formula_of}
use Rattle.demand_spec.specs.Laws.{In}
use Rattle.cycle_finder.specs.Laws.{IsWholeLoop}
use Rattle.edit_script.specs.Targets.{IsCellOf}
use Rattle.workbook_core.specs.Books.{SharedBook, IsWorkbook}

-- a cell with a formula lies on one of the sheets
pub formula_cell : (w : SharedBook) (a : Addr) (t : Expr) → IsWorkbook w → formula_at w.book a ≡ Some t → IsCellOf w.names a
unfolding formula_at
formula_cell w a t h e = go (entry_at w.book.cells a) refl e
  where
    go : (o : Option Content) → entry_at w.book.cells a ≡ o → formula_of o ≡ Some t → IsCellOf w.names a
    go (Some c) p q = let cell = h.cells a c p in record { on_sheet = cell.on_sheet; of_sheets = cell.sheet }
    go None p q = absurd (none t q)
      where
        none : (t : Expr) → None ≡ Some t → ⊥
        none t q = cc

pub in_at : (xs : List Addr) (i : ℕ) (d : Addr) → i < length xs → In (get_or xs i d) xs
in_at [] i d h = absurd (omega arith)
in_at (x ∷ xs) zero d h = inl refl
in_at (x ∷ xs) (suc i) d h = inr (in_at xs i d (omega arith))

-- a whole loop has a cell, and all of its cells lie on the sheets
pub loop_some : (b : Book) (cells : List Addr) → IsWholeLoop b cells → 0 < length cells
loop_some b cells h = (let e = ap length h.parts in omega (arith, e))

pub loop_on_sheets : (w : SharedBook) (cells : List Addr) → IsWorkbook w → IsWholeLoop w.book cells → All (IsCellOf w.names) cells
loop_on_sheets w cells h l = λ i d low.
    let there : In (get_or cells i d) (l.first ∷ l.rest) = subst (λ xs. In (get_or cells i d) xs) l.parts (in_at cells i d low) in
    let u = l.loop.unfinished (get_or cells i d) there in
    formula_cell w (get_or cells i d) u.tree h u.is_formula
