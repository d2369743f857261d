-- The line that a lookup searches.
use Rattle.std.proofs.Common.{◌≡◌, ℕ, ◌+◌, ◌<◌, ◌≤◌, [], ◌∷◌, length, drop, refl, sym, ap, ◌∙◌, subst, arith}
use Rattle.cell_values.specs.declared.address.Addr.{Addr}
use Rattle.cell_values.specs.declared.address.Area.{Area}
use Rattle.cell_values.specs.Areas.{height, width, cell_of, row_of, column_of, IsArea}
use Rattle.formula_trees.specs.declared.tree.Fun.{Fun}
use Rattle.formula_eval.specs.Machine.{line_of, target_of, across}
use Rattle.cell_values.proofs.Walking.{length-column, length-first_row, drop_column, drop_first_row, drop_past}

pub area_height : (r : Area) → IsArea r → 0 < height r
unfolding height
area_height r a = omega (arith, a.top_to)

pub area_width : (r : Area) → IsArea r → 0 < width r
unfolding width
area_width r a = omega (arith, a.left_to)

line_is_column : (f : Fun) (r : Area) → (f ≡ Fun.HLookup → ⊥) → line_of f r ≡ column_of r 0
line_is_column Fun.HLookup r n = absurd (n refl)
line_is_column f r n = refl

pub across_is_width : (f : Fun) (r : Area) → (f ≡ Fun.HLookup → ⊥) → across f r ≡ width r
across_is_width Fun.HLookup r n = absurd (n refl)
across_is_width f r n = refl

pub row_next : (f : Fun) (r : Area) (n w : ℕ) (a : Addr) → f ≡ Fun.HLookup → w ≡ width r → n < w → a ≡ cell_of r 0 n → drop n (line_of f r) ≡ a ∷ drop (n + 1) (line_of f r)
row_next f r n w a h e l c = subst (λ z. drop n (line_of z r) ≡ a ∷ drop (n + 1) (line_of z r)) (sym h) (drop_first_row r n (subst (λ z. n < z) e l) ∙ ap (λ z. z ∷ drop (n + 1) (row_of r 0)) (sym c))

pub row_past : (f : Fun) (r : Area) (n w : ℕ) → f ≡ Fun.HLookup → w ≡ width r → w ≤ n → drop n (line_of f r) ≡ []
row_past f r n w h e l = subst (λ z. drop n (line_of z r) ≡ []) (sym h) (drop_past (row_of r 0) n (let long : length (row_of r 0) ≡ width r = length-first_row r in omega arith))

pub column_next : (f : Fun) (r : Area) (n w : ℕ) (a : Addr) → (f ≡ Fun.HLookup → ⊥) → w ≡ height r → n < w → a ≡ cell_of r n 0 → drop n (line_of f r) ≡ a ∷ drop (n + 1) (line_of f r)
column_next f r n w a h e l c = subst (λ z. drop n z ≡ a ∷ drop (n + 1) z) (sym (line_is_column f r h)) (drop_column r n (subst (λ z. n < z) e l) ∙ ap (λ z. z ∷ drop (n + 1) (column_of r 0)) (sym c))

pub column_past : (f : Fun) (r : Area) (n w : ℕ) → (f ≡ Fun.HLookup → ⊥) → w ≡ height r → w ≤ n → drop n (line_of f r) ≡ []
column_past f r n w h e l = subst (λ z. drop n z ≡ []) (sym (line_is_column f r h)) (drop_past (column_of r 0) n (let long : length (column_of r 0) ≡ height r = length-column r in omega arith))

pub row_within : (f : Fun) (r : Area) (n : ℕ) → f ≡ Fun.HLookup → n < length (line_of f r) → n < width r
row_within f r n h l = subst (λ z. n < z) (ap (λ z. length (line_of z r)) h ∙ length-first_row r) l

pub column_within : (f : Fun) (r : Area) (n : ℕ) → (f ≡ Fun.HLookup → ⊥) → n < length (line_of f r) → n < height r
column_within f r n h l = subst (λ z. n < z) (ap length (line_is_column f r h) ∙ length-column r) l

pub target_is : (f : Fun) (r : Area) (m n : ℕ) → (f ≡ Fun.HLookup → ⊥) → cell_of r n m ≡ target_of f r m n
target_is Fun.HLookup r m n h = absurd (h refl)
target_is f r m n h = refl
