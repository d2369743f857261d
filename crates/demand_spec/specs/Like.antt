-- Plans, formulas and books that correspond: addresses by one relation, values by another.
use Rattle.std.specs.Prelude.{◌≡◌, ℕ, ◌<◌, ◌↔◌, Option, Some, None}
use Rattle.cell_values.specs.declared.address.Addr.{Addr}
use Rattle.cell_values.specs.declared.address.Area.{Area}
use Rattle.cell_values.specs.declared.values.Value.{Value}
use Rattle.cell_values.specs.declared.values.Shown.{Shown}
use Rattle.cell_values.specs.Areas.{height, width, cell_of}
use Rattle.cell_values.specs.Texts.{Texts}
use Rattle.formula_trees.specs.Expr.{Expr, Exprs, Number, Text, Truth, Ref, Range, RefError, Unary, Binary, Call, End, More}
use Rattle.formula_trees.specs.References.{resolve}
use Rattle.formula_trees.specs.declared.place.Place.{Place}
use Rattle.formula_trees.specs.declared.place.Place.TheVariants.{Nowhere, Bad, Cells}
use Rattle.formula_trees.specs.Mentions.{place_of}
use Rattle.builtin_functions.specs.Tables.{class}
use Rattle.demand_spec.specs.TextNumbers.{TextBelow}
use Rattle.demand_spec.specs.Book.{Book, formula_at, own, shown}
use Rattle.demand_spec.specs.Laws.{HasPeriod, Reached, Set, OfSet}

-- a value that names no text of the book
abbrev pub IsPlain : Value → Type 0
IsPlain v = TextBelow (λ i. ⊥) v

-- two relations: one on addresses, one on values
abbrev pub OnCells : Type 1
OnCells = Addr → Addr → Type 0

abbrev pub OnValues : Type 1
OnValues = Value → Value → Type 0

-- what is related is the same to every operation, and a plain value is related to itself
pub record Respects (ts us : Texts) (V : OnValues) : Type 0 where
  pub plain : (v : Value) → IsPlain v → V v v
  pub same_class : (v w : Value) → V v w → class ts v ≡ class us w

abbrev pub LikeOption : {T : Type 0} → (T → T → Type 0) → Option T → Option T → Type 0
LikeOption Q (Some x) (Some y) = Q x y
LikeOption Q None None = Unit {0}
LikeOption Q _ _ = ⊥

-- two rectangles of one shape, with related cells
pub record LikeAreas (R : OnCells) (r s : Area) : Type 0 where
  pub high : height r ≡ height s
  pub wide : width r ≡ width s
  pub cells : (i j : ℕ) → i < height r → j < width r → R (cell_of r i j) (cell_of s i j)

abbrev pub LikePlaces : OnCells → Place → Place → Type 0
LikePlaces R (Cells r) (Cells s) = LikeAreas R r s
LikePlaces R Bad Bad = Unit {0}
LikePlaces R Nowhere Nowhere = Unit {0}
LikePlaces R _ _ = ⊥

-- two formulas of one shape at two cells, with related references, ranges and texts
abbrev mutual
  pub LikeTrees : OnCells → OnValues → Addr → Expr → Addr → Expr → Type 0
  LikeTrees R V at (Number n) at' (Number m) = n ≡ m
  LikeTrees R V at (Text i) at' (Text j) = V (Value.Text i) (Value.Text j)
  LikeTrees R V at (Truth p) at' (Truth q) = p ≡ q
  LikeTrees R V at (Ref r) at' (Ref s) = LikeOption R (resolve at r) (resolve at' s)
  LikeTrees R V at (Range p q) at' (Range r s) = LikePlaces R (place_of at (Range p q)) (place_of at' (Range r s))
  LikeTrees R V at RefError at' RefError = Unit {0}
  LikeTrees R V at (Unary g a) at' (Unary h b) = (g ≡ h) × LikeTrees R V at a at' b
  LikeTrees R V at (Binary o a b) at' (Binary p c d) = (o ≡ p) × LikeTrees R V at a at' c × LikeTrees R V at b at' d
  LikeTrees R V at (Call f args) at' (Call g others) = (f ≡ g) × AllLikeTrees R V at args at' others
  LikeTrees R V at t at' u = ⊥

  pub AllLikeTrees : OnCells → OnValues → Addr → Exprs → Addr → Exprs → Type 0
  AllLikeTrees R V at End at' End = Unit {0}
  AllLikeTrees R V at (More a rest) at' (More b others) = LikeTrees R V at a at' b × AllLikeTrees R V at rest at' others
  AllLikeTrees R V at args at' others = ⊥

-- two cells: both with a formula, or both without one
abbrev pub LikeCells : OnCells → OnValues → Addr → Option Expr → Value → Addr → Option Expr → Value → Type 0
LikeCells R V a None v x None w = V v w
LikeCells R V a (Some t) v x (Some u) w = LikeTrees R V a t x u
LikeCells R V a _ v x _ w = ⊥

-- two books: cells that correspond, one to one, hold what corresponds
pub record Mirrors (R : OnCells) (V : OnValues) (b b' : Book) : Type 0 where
  pub respects : Respects b.texts b'.texts V
  pub one : (a x y : Addr) → R a x → R a y → x ≡ y
  pub back : (a c x : Addr) → R a x → R c x → a ≡ c
  pub cells : (a x : Addr) → R a x → LikeCells R V a (formula_at b a) (own b a) x (formula_at b' x) (own b' x)

-- the same of two books in which cells of a set were touched: those that correspond but for these hold what corresponds
pub record MirrorsOutside (A : Addr → Type 0) (R : OnCells) (V : OnValues) (b b' : Book) : Type 0 where
  pub respects : Respects b.texts b'.texts V
  pub one : (a x y : Addr) → R a x → R a y → x ≡ y
  pub back : (a c x : Addr) → R a x → R c x → a ≡ c
  pub cells : (a x : Addr) → R a x → (A x → ⊥) → LikeCells R V a (formula_at b a) (own b a) x (formula_at b' x) (own b' x)

abbrev pub LikeShown : OnValues → Shown → Shown → Type 0
LikeShown V (Shown.Val v) (Shown.Val w) = V v w
LikeShown V (Shown.Cycle n) (Shown.Cycle m) = n ≡ m
LikeShown V Shown.ToCycle Shown.ToCycle = Unit {0}
LikeShown V s t = ⊥

-- what two cells show corresponds, and they lie on loops of one length
abbrev pub ShowLike : OnValues → Book → Book → Addr → Addr → Type 0
ShowLike V b b' a x = LikeShown V (shown b a) (shown b' x) × ((n : ℕ) → HasPeriod b a n ↔ HasPeriod b' x n)

-- cells that correspond show what corresponds
abbrev pub MirroredBy : OnCells → OnValues → Type 0
MirroredBy R V = (b b' : Book) → Mirrors R V b b' → (a x : Addr) → R a x → ShowLike V b b' a x

-- cells that correspond, and that no touched cell reaches, show what corresponds
abbrev pub MirroredOutsideBy : OnCells → OnValues → Type 0
MirroredOutsideBy R V = (b b' : Book) (A : Set) → MirrorsOutside (OfSet A) R V b b' → (a x : Addr) → R a x → (Reached b' (OfSet A) x → ⊥) → ShowLike V b b' a x
