-- The cells of the small books of tests.
use Rattle.std.proofs.Common.{◌≡◌, ◌&&◌, true, nat_le, pos, None, List, [], ◌∷◌, ◌++◌, refl, sym, subst, ◌∙◌, arith}
use Rattle.cell_values.specs.declared.address.Addr.{Addr}
use Rattle.cell_values.specs.declared.TheConstants.{LAST_COLUMN, LAST_ROW}
use Rattle.cell_values.specs.Addresses.{IsOnSheet}
use Rattle.cell_values.specs.Texts.{Texts}
use Rattle.formula_trees.specs.declared.tree.Fun.{Fun}
use Rattle.formula_trees.specs.declared.tree.Op.{Op}
use Rattle.formula_trees.specs.declared.tree.Part.{Part}
use Rattle.formula_trees.specs.declared.tree.Reference.{Reference}
use Rattle.formula_trees.specs.Expr.{Expr, Number, Ref, Binary, Call, End, More}
use Rattle.formula_trees.specs.References.{resolve}
use Rattle.formula_trees.specs.Sound.{IsSound}
use Rattle.demand_spec.specs.Book.{Content}
use Rattle.demand_spec.specs.Listed.{IsContentOf, AreCellsOf}

pub reference_sound : (at to : Addr) → IsOnSheet to → IsSound at (Ref (record { sheet = None; col = Part.At to.col; row = Part.At to.row }))
unfolding resolve
reference_sound at to o = record {
  shape = (let e : (nat_le 1 to.col && nat_le to.col LAST_COLUMN) ≡ true = grind (arith, o.col_from, o.col_to) in let d : (nat_le 1 to.row && nat_le to.row LAST_ROW) ≡ true = grind (arith, o.row_from, o.row_to) in rw (e, d) refl);
  small = omega arith;
  flat = omega arith;
}

-- formulas at A1 with a reference to B1

abbrev a1 : Addr
a1 = record { sheet = 0; row = 1; col = 1 }

abbrev b1 : Reference
b1 = record { sheet = None; col = Part.At 2; row = Part.At 1 }

abbrev by_zero : Expr
by_zero = Binary Op.Div (Number (pos 1)) (Number (pos 0))

zero_first : IsSound a1 (Binary Op.Add by_zero (Ref b1))
unfolding resolve
zero_first = record { shape = ((refl, refl), refl); small = omega arith; flat = omega arith }

zero_last : IsSound a1 (Binary Op.Add (Ref b1) by_zero)
unfolding resolve
zero_last = record { shape = (refl, (refl, refl)); small = omega arith; flat = omega arith }

unless_error : IsSound a1 (Call Fun.IfError (More (Ref b1) (More (Number (pos 5)) End)))
unfolding resolve
unless_error = record { shape = (refl, refl, (refl, refl, refl)); small = omega arith; flat = omega arith }

pub zero_first_sound : (t d : Expr) (r : Reference) → t ≡ Binary Op.Add d (Ref r) → d ≡ by_zero → r ≡ b1 → IsSound a1 t
zero_first_sound t d r p q s = subst (IsSound a1) (sym (p ∙ (λ i. Binary Op.Add (q i) (Ref (s i))))) zero_first

pub zero_last_sound : (t d : Expr) (r : Reference) → t ≡ Binary Op.Add (Ref r) d → d ≡ by_zero → r ≡ b1 → IsSound a1 t
zero_last_sound t d r p q s = subst (IsSound a1) (sym (p ∙ (λ i. Binary Op.Add (Ref (s i)) (q i)))) zero_last

pub unless_error_sound : (t : Expr) (r : Reference) → t ≡ Call Fun.IfError (More (Ref r) (More (Number (pos 5)) End)) → r ≡ b1 → IsSound a1 t
unless_error_sound t r p s = subst (IsSound a1) (sym (p ∙ (λ i. Call Fun.IfError (More (Ref (s i)) (More (Number (pos 5)) End))))) unless_error

pub cells_push : (ts : Texts) (cs : List (Addr × Content)) (c : Addr × Content) → AreCellsOf ts cs → IsContentOf ts c.1 → AreCellsOf ts (cs ++ c ∷ [])
cells_push ts [] c h k = (k, tt)
cells_push ts (d ∷ cs) c h k = (h.0, cells_push ts cs c h.1 k)
