-- Formulas that correspond demand cells that correspond, and give values that do.
use Rattle.std.proofs.Common.{◌≡◌, ℕ, zero, suc, ◌+◌, ◌<◌, min, Bool, true, false, cond, not, ℤ, pos, negsuc, List, [], ◌∷◌, ◌++◌, map, length, flat_map, refl, sym, ap, ◌∙◌, subst, Option, Some, None, Result, Ok, Err, nat_lt, arith}
use Rattle.std.proofs.lemmas.Bool.{ltb-true}
use Rattle.std.proofs.lemmas.List.{length-map}
use Rattle.cell_values.specs.declared.address.Addr.{Addr}
use Rattle.cell_values.specs.declared.address.Area.{Area}
use Rattle.cell_values.specs.declared.values.Code.{Code}
use Rattle.cell_values.specs.declared.values.Value.{Value}
use Rattle.cell_values.specs.Texts.{Texts}
use Rattle.cell_values.specs.Areas.{numbers_from, height, width, cell_of, row_of, column_of, walk, between_cells}
use Rattle.formula_trees.specs.declared.tree.Fun.{Fun}
use Rattle.formula_trees.specs.declared.tree.Op.{Op}
use Rattle.formula_trees.specs.declared.tree.Sign.{Sign}
use Rattle.formula_trees.specs.Expr.{Expr, Exprs, Number, Text, Truth, Ref, Range, RefError, Unary, Binary, Call, End, More}
use Rattle.formula_trees.specs.References.{resolve, area_between}
use Rattle.formula_trees.specs.declared.place.Place.{Place}
use Rattle.formula_trees.specs.declared.place.Place.TheVariants.{Nowhere, Bad, Cells}
use Rattle.formula_trees.specs.Mentions.{place_from, place_of}
use Rattle.cell_values.specs.Values.{is_error, as_number}
use Rattle.builtin_functions.specs.Tables.{Class, class, class_order, is_zero, equals, order, table, sign_table, condition, with_number}
use Rattle.builtin_functions.specs.declared.operators.Op2.{Op2}
use Rattle.builtin_functions.specs.declared.operators.Sign2.{Sign2}
use Rattle.builtin_functions.specs.declared.folds.FoldKind.{FoldKind}
use Rattle.builtin_functions.specs.Folds.{Total, so_far, counted, stops, taken}
use Rattle.cell_values.specs.ShownText.{int_text, bool_text, code_text, value_text}
use Rattle.computed_text.specs.Computed.{joined, left_of, right_of, mid_of, length_of}
use Rattle.demand_spec.specs.Plan.{Plan, Give, Demand, and_then}
use Rattle.demand_spec.specs.Formula.{fails, unless_error, value_of, or_fail, condition_of, if_number, Argument, if_cells, if_up_to, if_plan, and_plan, or_plan, not_plan, value_at, from_one, chosen, choose_plan, if_error_plan, is_error_plan, go_on, fold_cells, fold_argument, fold_plan, one_value, two_values, three_values, with_one, is_found, search_plan, index_plan, match_plan, v_lookup_plan, h_lookup_plan, call_plan, demand_of, op_of, sign_of, operator_table, operator_value, sign_value, plan, arguments}
use Rattle.demand_spec.specs.Like.{IsPlain, OnCells, OnValues, Respects, LikeOption, LikeAreas, LikePlaces, LikeTrees, AllLikeTrees}
use Rattle.demand_spec.proofs.Plain.{sign_plain, table_plain, joined_plain, left_plain, right_plain, mid_plain}
use Rattle.cell_values.proofs.Walking.{length-numbers_from}

-- Two plans that demand related cells, and give related values.
abbrev pub Like : OnCells → OnValues → Plan → Plan → Type 0
Like R V (Give v) (Give w) = V v w
Like R V (Give v) (Demand b h) = ⊥
Like R V (Demand a k) (Give w) = ⊥
Like R V (Demand a k) (Demand b h) = R a b × ((v w : Value) → V v w → Like R V (k v) (h w))

-- What an operation does with a value is a function of its class

abbrev class_number : Class → Option ℤ
class_number (Class.Number n) = Some n
class_number Class.Blank = Some (pos 0)
class_number c = None

number_is : (ts : Texts) (v : Value) → as_number v ≡ class_number (class ts v)
number_is ts (Value.Number n) = refl
number_is ts (Value.Text n) = refl
number_is ts (Value.Short n) = refl
number_is ts (Value.Bool n) = refl
number_is ts Value.Blank = refl
number_is ts (Value.Error n) = refl

abbrev class_condition : Class → Result Bool Code
class_condition (Class.Truth b) = Ok b
class_condition (Class.Number n) = Ok (not (is_zero n))
class_condition Class.Blank = Ok false
class_condition (Class.Text t) = Err Code.Value
class_condition (Class.Failed e) = Err e

condition_is : (ts : Texts) (v : Value) → condition v ≡ class_condition (class ts v)
condition_is ts (Value.Number n) = refl
condition_is ts (Value.Text n) = refl
condition_is ts (Value.Short n) = refl
condition_is ts (Value.Bool n) = refl
condition_is ts Value.Blank = refl
condition_is ts (Value.Error n) = refl

abbrev error_of : Value → Option Code
error_of (Value.Error e) = Some e
error_of v = None

abbrev class_error : Class → Option Code
class_error (Class.Failed e) = Some e
class_error c = None

error_is : (ts : Texts) (v : Value) → error_of v ≡ class_error (class ts v)
error_is ts (Value.Number n) = refl
error_is ts (Value.Text n) = refl
error_is ts (Value.Short n) = refl
error_is ts (Value.Bool n) = refl
error_is ts Value.Blank = refl
error_is ts (Value.Error n) = refl

abbrev class_is_error : Class → Bool
class_is_error (Class.Failed e) = true
class_is_error c = false

is_error_is : (ts : Texts) (v : Value) → is_error v ≡ class_is_error (class ts v)
is_error_is ts (Value.Number n) = refl
is_error_is ts (Value.Text n) = refl
is_error_is ts (Value.Short n) = refl
is_error_is ts (Value.Bool n) = refl
is_error_is ts Value.Blank = refl
is_error_is ts (Value.Error n) = refl

abbrev class_taken : FoldKind → Total → Bool → Class → Result Total Code
class_taken k t q (Class.Failed e) = Err e
class_taken k t q (Class.Number n) = counted k t n
class_taken k t q Class.Blank = Ok t
class_taken k t true (Class.Text s) = Ok t
class_taken k t false (Class.Text s) = stops k t
class_taken k t true (Class.Truth b) = Ok t
class_taken k t false (Class.Truth b) = stops k t

taken_is : (ts : Texts) (k : FoldKind) (t : Total) (q : Bool) (v : Value) → taken k t q v ≡ class_taken k t q (class ts v)
taken_is ts k t q (Value.Number n) = refl
taken_is ts k t true (Value.Text n) = refl
taken_is ts k t false (Value.Text n) = refl
taken_is ts k t true (Value.Short n) = refl
taken_is ts k t false (Value.Short n) = refl
taken_is ts k t true (Value.Bool n) = refl
taken_is ts k t false (Value.Bool n) = refl
taken_is ts k t q Value.Blank = refl
taken_is ts k t q (Value.Error n) = refl

abbrev class_text : Class → List ℕ
class_text (Class.Number n) = int_text n
class_text (Class.Text t) = t
class_text (Class.Truth b) = bool_text b
class_text Class.Blank = []
class_text (Class.Failed e) = code_text e

text_is : (ts : Texts) (v : Value) → value_text ts v ≡ class_text (class ts v)
text_is ts (Value.Number n) = refl
text_is ts (Value.Text n) = refl
text_is ts (Value.Short n) = refl
text_is ts (Value.Bool n) = refl
text_is ts Value.Blank = refl
text_is ts (Value.Error n) = refl

order_is : (ts : Texts) (a b : Value) → order ts a b ≡ class_order (class ts a) (class ts b)
unfolding order
order_is ts a b = refl

-- what a search compares: nothing at an error or Blank
abbrev class_found : Class → Class → Bool
class_found c (Class.Failed e) = false
class_found c Class.Blank = false
class_found c d = equals (class_order d c)

found_is : (ts : Texts) (key v : Value) → is_found ts key v ≡ class_found (class ts key) (class ts v)
found_is ts key (Value.Error e) = refl
found_is ts key Value.Blank = refl
found_is ts key (Value.Number n) = ap equals (order_is ts (Value.Number n) key)
found_is ts key (Value.Text n) = ap equals (order_is ts (Value.Text n) key)
found_is ts key (Value.Short n) = ap equals (order_is ts (Value.Short n) key)
found_is ts key (Value.Bool n) = ap equals (order_is ts (Value.Bool n) key)

-- an error ends the formula, any other value goes on
abbrev error_or : Option Code → Plan → Plan
error_or (Some e) p = fails e
error_or None p = p

unless_error_is : (v : Value) (f : Value → Plan) → unless_error v f ≡ error_or (error_of v) (f v)
unless_error_is (Value.Number n) f = refl
unless_error_is (Value.Text n) f = refl
unless_error_is (Value.Short n) f = refl
unless_error_is (Value.Bool n) f = refl
unless_error_is Value.Blank f = refl
unless_error_is (Value.Error n) f = refl

-- Lists of related cells

abbrev Related : OnCells → List Addr → List Addr → Type 0
Related R [] [] = Unit {0}
Related R (a ∷ xs) (b ∷ bs) = R a b × Related R xs bs
Related R xs bs = ⊥

related_append : (R : OnCells) (xs bs cs ds : List Addr) → Related R xs bs → Related R cs ds → Related R (xs ++ cs) (bs ++ ds)
related_append R [] [] cs ds h k = k
related_append R [] (b ∷ bs) cs ds h k = absurd h
related_append R (a ∷ xs) [] cs ds h k = absurd h
related_append R (a ∷ xs) (b ∷ bs) cs ds h k = (h.0, related_append R xs bs cs ds h.1 k)

related_mapped : (R : OnCells) (f g : ℕ → Addr) (n m : ℕ) → ((i : ℕ) → i < n + m → R (f i) (g i)) → Related R (map f (numbers_from n m)) (map g (numbers_from n m))
related_mapped R f g n zero h = tt
related_mapped R f g n (suc m) h = (h n (omega arith), related_mapped R f g (suc n) m (λ i l. h i (omega arith)))

related_rows : (R : OnCells) (f g : ℕ → List Addr) (n m : ℕ) → ((i : ℕ) → i < n + m → Related R (f i) (g i)) → Related R (flat_map f (numbers_from n m)) (flat_map g (numbers_from n m))
related_rows R f g n zero h = tt
related_rows R f g n (suc m) h = related_append R (f n) (g n) (flat_map f (numbers_from (suc n) m)) (flat_map g (numbers_from (suc n) m)) (h n (omega arith)) (related_rows R f g (suc n) m (λ i l. h i (omega arith)))

related_row : (R : OnCells) (r s : Area) → LikeAreas R r s → (i : ℕ) → i < height r → Related R (row_of r i) (row_of s i)
related_row R r s h i l = subst (λ w. Related R (row_of r i) (map (cell_of s i) (numbers_from 0 w))) h.wide (related_mapped R (cell_of r i) (cell_of s i) 0 (width r) (λ j k. h.cells i j l (omega arith)))

related_column : (R : OnCells) (r s : Area) → LikeAreas R r s → (j : ℕ) → j < width r → Related R (column_of r j) (column_of s j)
related_column R r s h j l = subst (λ w. Related R (column_of r j) (map (λ i. cell_of s i j) (numbers_from 0 w))) h.high (related_mapped R (λ i. cell_of r i j) (λ i. cell_of s i j) 0 (height r) (λ i k. h.cells i j (omega arith) l))

related_walk : (R : OnCells) (r s : Area) → LikeAreas R r s → Related R (walk r) (walk s)
related_walk R r s h = subst (λ w. Related R (walk r) (flat_map (row_of s) (numbers_from 0 w))) h.high (related_rows R (row_of r) (row_of s) 0 (height r) (λ i l. related_row R r s h i (omega arith)))

length-mapped : (f : ℕ → Addr) (m : ℕ) → length (map f (numbers_from 0 m)) ≡ m
length-mapped f m = length-map (numbers_from 0 m) f ∙ length-numbers_from 0 m

-- the rectangle of one cell

cell_one : (a : Addr) (i j : ℕ) → i < height (between_cells a a) → j < width (between_cells a a) → cell_of (between_cells a a) i j ≡ a
unfolding height width
cell_one a i j h w =
    let r : min a.row a.row + i ≡ a.row = omega (arith, h) in
    let c : min a.col a.col + j ≡ a.col = omega (arith, w) in
    λ k. record { sheet = a.sheet; row = r k; col = c k }

high_one : (a b : Addr) → height (between_cells a a) ≡ height (between_cells b b)
unfolding height
high_one a b = omega arith

wide_one : (a b : Addr) → width (between_cells a a) ≡ width (between_cells b b)
unfolding width
wide_one a b = omega arith

one_area : (R : OnCells) (a b : Addr) → R a b → LikeAreas R (between_cells a a) (between_cells b b)
one_area R a b h = record {
  high = high_one a b;
  wide = wide_one a b;
  cells = λ i j l k.
      subst (λ z. R z (cell_of (between_cells b b) i j)) (sym (cell_one a i j l k))
      (subst (R a) (sym (cell_one b i j (subst (λ n. i < n) (high_one a b) l) (subst (λ n. j < n) (wide_one a b) k))) h);
}

one_place : (R : OnCells) (o p : Option Addr) → LikeOption R o p → LikePlaces R (place_from (area_between o o)) (place_from (area_between p p))
one_place R (Some a) (Some b) h = one_area R a b h
one_place R None None h = tt
one_place R o p h = absurd h

place_like : (R : OnCells) (V : OnValues) (at at' : Addr) (t u : Expr) → LikeTrees R V at t at' u → LikePlaces R (place_of at t) (place_of at' u)
place_like R V at at' (Ref r) (Ref s) h = one_place R (resolve at r) (resolve at' s) h
place_like R V at at' (Range p q) (Range r s) h = h
place_like R V at at' RefError RefError h = tt
place_like R V at at' (Number n) (Number m) h = tt
place_like R V at at' (Text n) (Text m) h = tt
place_like R V at at' (Truth n) (Truth m) h = tt
place_like R V at at' (Unary g a) (Unary k b) h = tt
place_like R V at at' (Binary o a b) (Binary p c d) h = tt
place_like R V at at' (Call f args) (Call g others) h = tt
place_like R V at at' t u h = absurd h

-- Arguments that correspond

record Both : Type 0 where
  left : Argument
  right : Argument

abbrev lefts : List Both → List Argument
lefts [] = []
lefts (b ∷ bs) = b.left ∷ lefts bs

abbrev rights : List Both → List Argument
rights [] = []
rights (b ∷ bs) = b.right ∷ rights bs

abbrev AllLike : OnCells → OnValues → List Both → Type 0
AllLike R V [] = Unit {0}
AllLike R V (b ∷ bs) = Like R V b.left.value b.right.value × LikePlaces R b.left.place b.right.place × AllLike R V bs

record Pairs (R : OnCells) (V : OnValues) (xs ys : List Argument) : Type 0 where
  both : List Both
  left : lefts both ≡ xs
  right : rights both ≡ ys
  like : AllLike R V both

module _ (R : OnCells) (V : OnValues) (ts us : Texts) (ok : Respects ts us V) where
  same_number : (v w : Value) → V v w → as_number v ≡ as_number w
  same_number v w h = number_is ts v ∙ ap class_number (ok.same_class v w h) ∙ sym (number_is us w)

  same_condition : (v w : Value) → V v w → condition v ≡ condition w
  same_condition v w h = condition_is ts v ∙ ap class_condition (ok.same_class v w h) ∙ sym (condition_is us w)

  same_error : (v w : Value) → V v w → error_of v ≡ error_of w
  same_error v w h = error_is ts v ∙ ap class_error (ok.same_class v w h) ∙ sym (error_is us w)

  same_is_error : (v w : Value) → V v w → is_error v ≡ is_error w
  same_is_error v w h = is_error_is ts v ∙ ap class_is_error (ok.same_class v w h) ∙ sym (is_error_is us w)

  same_taken : (k : FoldKind) (t : Total) (q : Bool) (v w : Value) → V v w → taken k t q v ≡ taken k t q w
  same_taken k t q v w h = taken_is ts k t q v ∙ ap (class_taken k t q) (ok.same_class v w h) ∙ sym (taken_is us k t q w)

  same_order : (a c b d : Value) → V a c → V b d → order ts a b ≡ order us c d
  same_order a c b d p q = order_is ts a b ∙ ap (λ z. class_order z (class ts b)) (ok.same_class a c p) ∙ ap (class_order (class us c)) (ok.same_class b d q) ∙ sym (order_is us c d)

  same_found : (a c b d : Value) → V a c → V b d → is_found ts a b ≡ is_found us c d
  same_found a c b d p q = found_is ts a b ∙ ap (λ z. class_found z (class ts b)) (ok.same_class a c p) ∙ ap (class_found (class us c)) (ok.same_class b d q) ∙ sym (found_is us c d)

  same_text : (v w : Value) → V v w → value_text ts v ≡ value_text us w
  same_text v w h = text_is ts v ∙ ap class_text (ok.same_class v w h) ∙ sym (text_is us w)

  -- values that are the same and plain
  same_plain : (v w : Value) → IsPlain v → v ≡ w → V v w
  same_plain v w p e = subst (V v) e (ok.plain v p)

  sign_like : (s : Sign2) (v w : Value) → V v w → V (sign_table s v) (sign_table s w)
  sign_like s v w h = same_plain (sign_table s v) (sign_table s w) (sign_plain s v) (by_sign s)
    where
      by_sign : (s : Sign2) → sign_table s v ≡ sign_table s w
      by_sign Sign2.Minus = ap (with_number _) (same_number v w h)
      by_sign Sign2.Plus = ap (with_number _) (same_number v w h)
      by_sign Sign2.Abs = ap (with_number _) (same_number v w h)

  table_like : (o : Op2) (a c b d : Value) → V a c → V b d → V (table ts o a b) (table us o c d)
  table_like o a c b d p q = same_plain (table ts o a b) (table us o c d) (table_plain ts o a b) (by_op o)
    where
      by_op : (o : Op2) → table ts o a b ≡ table us o c d
      by_op Op2.Eq = rw (same_order a c b d p q) refl
      by_op Op2.Ne = rw (same_order a c b d p q) refl
      by_op Op2.Lt = rw (same_order a c b d p q) refl
      by_op Op2.Le = rw (same_order a c b d p q) refl
      by_op Op2.Gt = rw (same_order a c b d p q) refl
      by_op Op2.Ge = rw (same_order a c b d p q) refl
      by_op Op2.Add = rw (same_number a c p, same_number b d q) refl
      by_op Op2.Sub = rw (same_number a c p, same_number b d q) refl
      by_op Op2.Mul = rw (same_number a c p, same_number b d q) refl
      by_op Op2.Div = rw (same_number a c p, same_number b d q) refl
      by_op Op2.Mod = rw (same_number a c p, same_number b d q) refl
      by_op Op2.Quotient = rw (same_number a c p, same_number b d q) refl

  joined_like : (a c b d : Value) → V a c → V b d → V (joined ts a b) (joined us c d)
  joined_like a c b d p q = same_plain (joined ts a b) (joined us c d) (joined_plain ts a b) (rw (same_text a c p, same_text b d q) refl)

  left_like : (t u n m : Value) → V t u → V n m → V (left_of ts t n) (left_of us u m)
  left_like t u n m p q = same_plain (left_of ts t n) (left_of us u m) (left_plain ts t n) (rw (same_text t u p, same_number n m q) refl)

  right_like : (t u n m : Value) → V t u → V n m → V (right_of ts t n) (right_of us u m)
  right_like t u n m p q = same_plain (right_of ts t n) (right_of us u m) (right_plain ts t n) (rw (same_text t u p, same_number n m q) refl)

  mid_like : (t u s r n m : Value) → V t u → V s r → V n m → V (mid_of ts t s n) (mid_of us u r m)
  mid_like t u s r n m p o q = same_plain (mid_of ts t s n) (mid_of us u r m) (mid_plain ts t s n) (rw (same_text t u p, same_number s r o, same_number n m q) refl)

  length_like : (t u : Value) → V t u → V (length_of ts t) (length_of us u)
  length_like t u p = same_plain (length_of ts t) (length_of us u) tt (rw (same_text t u p) refl)

  operator_table_like : (o : Option Op2) (a c b d : Value) → V a c → V b d → V (operator_table ts o a b) (operator_table us o c d)
  operator_table_like (Some o) a c b d p q = table_like o a c b d p q
  operator_table_like None a c b d p q = joined_like a c b d p q

  -- operators and signs, at any values

  choice_like : (p q : Bool) (a b c d : Value) → p ≡ q → V a b → V c d → V (cond p a c) (cond q b d)
  choice_like true true a b c d e h k = h
  choice_like false false a b c d e h k = k
  choice_like true false a b c d e h k = cc
  choice_like false true a b c d e h k = cc

  sign_value_like : (s : Sign) (v w : Value) → V v w → V (sign_value s v) (sign_value s w)
  sign_value_like s v w h = choice_like (is_error v) (is_error w) v w (sign_table (sign_of s) v) (sign_table (sign_of s) w) (same_is_error v w h) h (sign_like (sign_of s) v w h)

  operator_like : (o : Op) (v w x y : Value) → V v w → V x y → V (operator_value ts o v x) (operator_value us o w y)
  operator_like o v w x y h k =
      choice_like (is_error v) (is_error w) v w _ _ (same_is_error v w h) h
      (choice_like (is_error x) (is_error y) x y (operator_table ts (op_of o) v x) (operator_table us (op_of o) w y) (same_is_error x y k) k (operator_table_like (op_of o) v w x y h k))

  -- Ways on

  abbrev LikeOn : (Value → Plan) → (Value → Plan) → Type 0
  LikeOn f g = (v w : Value) → V v w → Like R V (f v) (g w)

  fails_like : (e : Code) → Like R V (fails e) (fails e)
  fails_like e = ok.plain (Value.Error e) tt

  truth_like : (q : Bool) → V (Value.Bool q) (Value.Bool q)
  truth_like q = ok.plain (Value.Bool q) tt

  number_like : (z : ℤ) → V (Value.Number z) (Value.Number z)
  number_like z = ok.plain (Value.Number z) tt

  and_then_like : (f g : Value → Plan) → LikeOn f g → (p q : Plan) → Like R V p q → Like R V (and_then p f) (and_then q g)
  and_then_like f g h (Give v) (Give w) e = h v w e
  and_then_like f g h (Give v) (Demand b r) e = absurd e
  and_then_like f g h (Demand a k) (Give w) e = absurd e
  and_then_like f g h (Demand a k) (Demand b r) e = (e.0, λ v w t. and_then_like f g h (k v) (r w) (e.1 v w t))

  error_or_like : (o : Option Code) (p q : Plan) → Like R V p q → Like R V (error_or o p) (error_or o q)
  error_or_like (Some e) p q h = fails_like e
  error_or_like None p q h = h

  unless_error_like : (f g : Value → Plan) → LikeOn f g → LikeOn (λ v. unless_error v f) (λ w. unless_error w g)
  unless_error_like f g h v w t = rw (unless_error_is v f, unless_error_is w g, same_error v w t) (error_or_like (error_of w) (f v) (g w) (h v w t))

  value_of_like : (f g : Value → Plan) → LikeOn f g → (p q : Plan) → Like R V p q → Like R V (value_of p f) (value_of q g)
  value_of_like f g h p q e = and_then_like (λ v. unless_error v f) (λ v. unless_error v g) (unless_error_like f g h) p q e

  or_fail_like : (f g : Bool → Plan) → ((b : Bool) → Like R V (f b) (g b)) → (r s : Result Bool Code) → r ≡ s → Like R V (or_fail r f) (or_fail s g)
  or_fail_like f g h r s e = subst (λ z. Like R V (or_fail r f) (or_fail z g)) e (go r)
    where
      go : (r : Result Bool Code) → Like R V (or_fail r f) (or_fail r g)
      go (Ok b) = h b
      go (Err c) = fails_like c

  condition_of_like : (f g : Bool → Plan) → ((b : Bool) → Like R V (f b) (g b)) → (p q : Plan) → Like R V p q → Like R V (condition_of p f) (condition_of q g)
  condition_of_like f g h p q e = and_then_like (λ v. or_fail (condition v) f) (λ v. or_fail (condition v) g) (λ v w t. or_fail_like f g h (condition v) (condition w) (same_condition v w t)) p q e

  if_number_like : (f g : ℤ → Plan) → ((z : ℤ) → Like R V (f z) (g z)) → (o o' : Option ℤ) → o ≡ o' → Like R V (if_number o f) (if_number o' g)
  if_number_like f g h o o' e = subst (λ z. Like R V (if_number o f) (if_number z g)) e (go o)
    where
      go : (o : Option ℤ) → Like R V (if_number o f) (if_number o g)
      go (Some z) = h z
      go None = fails_like Code.Value

  if_cells_like : (f g : Area → Plan) (p q : Place) → LikePlaces R p q → ((r s : Area) → LikeAreas R r s → Like R V (f r) (g s)) → Like R V (if_cells p f) (if_cells q g)
  if_cells_like f g (Cells r) (Cells s) c h = h r s c
  if_cells_like f g Bad Bad c h = fails_like Code.Ref
  if_cells_like f g Nowhere Nowhere c h = fails_like Code.Ref
  if_cells_like f g p q c h = absurd c

  cond_like : (p q r s : Plan) (b c : Bool) → b ≡ c → Like R V p q → Like R V r s → Like R V (cond b p r) (cond c q s)
  cond_like p q r s b c e h k = subst (λ z. Like R V (cond b p r) (cond z q s)) e (go b)
    where
      go : (b : Bool) → Like R V (cond b p r) (cond b q s)
      go true = h
      go false = k

  if_up_to_like : (f g : ℕ → Plan) (most more : ℕ) → most ≡ more → ((i : ℕ) → i < most → Like R V (f i) (g i)) → (z : ℤ) → Like R V (if_up_to most z f) (if_up_to more z g)
  if_up_to_like f g most more same h z = subst (λ m. Like R V (if_up_to most z f) (if_up_to m z g)) same (go z)
    where
      by_test : (i : ℕ) (b : Bool) → nat_lt i most ≡ b → Like R V (cond b (f i) (fails Code.Ref)) (cond b (g i) (fails Code.Ref))
      by_test i true e = h i (ltb-true i most e)
      by_test i false e = fails_like Code.Ref

      go : (z : ℤ) → Like R V (if_up_to most z f) (if_up_to most z g)
      go (pos (suc i)) = by_test i (nat_lt i most) refl
      go (pos zero) = fails_like Code.Ref
      go (negsuc i) = fails_like Code.Ref

  -- IF

  if_like : (bs : List Both) → AllLike R V bs → Like R V (if_plan (lefts bs)) (if_plan (rights bs))
  if_like (c ∷ t ∷ []) h = condition_of_like _ _ (λ b. cond_like t.left.value t.right.value (Give (Value.Bool false)) (Give (Value.Bool false)) b b refl h.2.0 (truth_like false)) c.left.value c.right.value h.0
  if_like (c ∷ t ∷ e ∷ []) h = condition_of_like _ _ (λ b. cond_like t.left.value t.right.value e.left.value e.right.value b b refl h.2.0 h.2.2.0) c.left.value c.right.value h.0
  if_like [] h = fails_like Code.Value
  if_like (c ∷ []) h = fails_like Code.Value
  if_like (c ∷ t ∷ e ∷ x ∷ rest) h = fails_like Code.Value

  -- AND, OR, NOT

  and_like : (bs : List Both) → AllLike R V bs → Like R V (and_plan (lefts bs)) (and_plan (rights bs))
  and_like [] h = truth_like true
  and_like (c ∷ bs) h = condition_of_like _ _ (λ b. cond_like (and_plan (lefts bs)) (and_plan (rights bs)) (Give (Value.Bool false)) (Give (Value.Bool false)) b b refl (and_like bs h.2) (truth_like false)) c.left.value c.right.value h.0

  or_like : (bs : List Both) → AllLike R V bs → Like R V (or_plan (lefts bs)) (or_plan (rights bs))
  or_like [] h = truth_like false
  or_like (c ∷ bs) h = condition_of_like _ _ (λ b. cond_like (Give (Value.Bool true)) (Give (Value.Bool true)) (or_plan (lefts bs)) (or_plan (rights bs)) b b refl (truth_like true) (or_like bs h.2)) c.left.value c.right.value h.0

  not_like : (bs : List Both) → AllLike R V bs → Like R V (not_plan (lefts bs)) (not_plan (rights bs))
  not_like [] h = fails_like Code.Value
  not_like (c ∷ []) h = condition_of_like (λ b. Give (Value.Bool (not b))) (λ b. Give (Value.Bool (not b))) (λ b. truth_like (not b)) c.left.value c.right.value h.0
  not_like (c ∷ x ∷ rest) h = fails_like Code.Value

  -- CHOOSE

  value_at_like : (i : ℕ) (bs : List Both) → AllLike R V bs → Like R V (value_at i (lefts bs)) (value_at i (rights bs))
  value_at_like i [] h = fails_like Code.Value
  value_at_like zero (b ∷ bs) h = h.0
  value_at_like (suc i) (b ∷ bs) h = value_at_like i bs h.2

  chosen_like : (bs : List Both) → AllLike R V bs → (o : Option ℕ) → Like R V (chosen o (lefts bs)) (chosen o (rights bs))
  chosen_like bs h (Some i) = value_at_like i bs h
  chosen_like bs h None = fails_like Code.Value

  choose_like : (bs : List Both) → AllLike R V bs → Like R V (choose_plan (lefts bs)) (choose_plan (rights bs))
  choose_like [] h = fails_like Code.Value
  choose_like (c ∷ bs) h = value_of_like _ _ (λ v w t. if_number_like (λ z. chosen (from_one z) (lefts bs)) (λ z. chosen (from_one z) (rights bs)) (λ z. chosen_like bs h.2 (from_one z)) (as_number v) (as_number w) (same_number v w t)) c.left.value c.right.value h.0

  -- IFERROR, ISERROR

  if_error_like : (bs : List Both) → AllLike R V bs → Like R V (if_error_plan (lefts bs)) (if_error_plan (rights bs))
  if_error_like (a ∷ b ∷ []) h = and_then_like _ _ (λ v w t. cond_like b.left.value b.right.value (Give v) (Give w) (is_error v) (is_error w) (same_is_error v w t) h.2.0 t) a.left.value a.right.value h.0
  if_error_like [] h = fails_like Code.Value
  if_error_like (a ∷ []) h = fails_like Code.Value
  if_error_like (a ∷ b ∷ x ∷ rest) h = fails_like Code.Value

  is_error_like : (bs : List Both) → AllLike R V bs → Like R V (is_error_plan (lefts bs)) (is_error_plan (rights bs))
  is_error_like [] h = fails_like Code.Value
  is_error_like (a ∷ []) h = and_then_like (λ v. Give (Value.Bool (is_error v))) (λ v. Give (Value.Bool (is_error v))) (λ v w t. same_plain (Value.Bool (is_error v)) (Value.Bool (is_error w)) tt (ap Value.Bool (same_is_error v w t))) a.left.value a.right.value h.0
  is_error_like (a ∷ x ∷ rest) h = fails_like Code.Value

  -- SUM, MIN, MAX, COUNT

  go_on_like : (f g : Total → Plan) → ((t : Total) → Like R V (f t) (g t)) → (r s : Result Total Code) → r ≡ s → Like R V (go_on r f) (go_on s g)
  go_on_like f g h r s e = subst (λ z. Like R V (go_on r f) (go_on z g)) e (go r)
    where
      go : (r : Result Total Code) → Like R V (go_on r f) (go_on r g)
      go (Ok t) = h t
      go (Err c) = fails_like c

  fold_cells_like : (f g : Total → Plan) → ((t : Total) → Like R V (f t) (g t)) → (k : FoldKind) (cs ds : List Addr) → Related R cs ds → (t : Total) → Like R V (fold_cells k t cs f) (fold_cells k t ds g)
  fold_cells_like f g h k [] [] c t = h t
  fold_cells_like f g h k [] (d ∷ ds) c t = absurd c
  fold_cells_like f g h k (a ∷ cs) [] c t = absurd c
  fold_cells_like f g h k (a ∷ cs) (d ∷ ds) c t = (c.0, λ v w p. go_on_like (λ u. fold_cells k u cs f) (λ u. fold_cells k u ds g) (fold_cells_like f g h k cs ds c.1) (taken k t true v) (taken k t true w) (same_taken k t true v w p))

  fold_argument_like : (f g : Total → Plan) → ((t : Total) → Like R V (f t) (g t)) → (k : FoldKind) (t : Total) (b c : Place) (p q : Plan) → LikePlaces R b c → Like R V p q → Like R V (fold_argument k t b p f) (fold_argument k t c q g)
  fold_argument_like f g h k t (Cells r) (Cells s) p q c e = fold_cells_like f g h k (walk r) (walk s) (related_walk R r s c) t
  fold_argument_like f g h k t Bad Bad p q c e = fails_like Code.Ref
  fold_argument_like f g h k t Nowhere Nowhere p q c e = and_then_like (λ v. go_on (taken k t false v) f) (λ v. go_on (taken k t false v) g) (λ v w o. go_on_like f g h (taken k t false v) (taken k t false w) (same_taken k t false v w o)) p q e
  fold_argument_like f g h k t b d p q c e = absurd c

  fold_like : (k : FoldKind) (bs : List Both) → AllLike R V bs → (t : Total) → Like R V (fold_plan k t (lefts bs)) (fold_plan k t (rights bs))
  fold_like k [] h t = number_like (so_far t)
  fold_like k (b ∷ bs) h t = fold_argument_like (λ u. fold_plan k u (lefts bs)) (λ u. fold_plan k u (rights bs)) (fold_like k bs h.2) k t b.left.place b.right.place b.left.value b.right.value h.1 h.0

  -- functions of one value, of two, of three

  one_value_like : (f g : Value → Value) → ((v w : Value) → V v w → V (f v) (g w)) → (bs : List Both) → AllLike R V bs → Like R V (one_value f (lefts bs)) (one_value g (rights bs))
  one_value_like f g s [] h = fails_like Code.Value
  one_value_like f g s (a ∷ []) h = value_of_like (λ x. Give (f x)) (λ x. Give (g x)) s a.left.value a.right.value h.0
  one_value_like f g s (a ∷ x ∷ rest) h = fails_like Code.Value

  two_in_turn_like : (f g : Value → Value → Value) → ((v w x y : Value) → V v w → V x y → V (f v x) (g w y)) → (p q r s : Plan) → Like R V p q → Like R V r s → Like R V (value_of p (λ x. value_of r (λ y. Give (f x y)))) (value_of q (λ x. value_of s (λ y. Give (g x y))))
  two_in_turn_like f g k p q r s h o = value_of_like (λ x. value_of r (λ y. Give (f x y))) (λ x. value_of s (λ y. Give (g x y))) (λ v w t. value_of_like (λ y. Give (f v y)) (λ y. Give (g w y)) (λ x y u. k v w x y t u) r s o) p q h

  two_values_like : (f g : Value → Value → Value) → ((v w x y : Value) → V v w → V x y → V (f v x) (g w y)) → (bs : List Both) → AllLike R V bs → Like R V (two_values f (lefts bs)) (two_values g (rights bs))
  two_values_like f g s (a ∷ b ∷ []) h = two_in_turn_like f g s a.left.value a.right.value b.left.value b.right.value h.0 h.2.0
  two_values_like f g s [] h = fails_like Code.Value
  two_values_like f g s (a ∷ []) h = fails_like Code.Value
  two_values_like f g s (a ∷ b ∷ x ∷ rest) h = fails_like Code.Value

  -- with 1 for a count that is not given
  counted_like : (f g : Value → Value → Value) → ((v w x y : Value) → V v w → V x y → V (f v x) (g w y)) → (bs : List Both) → AllLike R V bs → Like R V (two_values f (with_one (lefts bs))) (two_values g (with_one (rights bs)))
  counted_like f g s (a ∷ []) h = two_in_turn_like f g s a.left.value a.right.value (Give (Value.Number (pos 1))) (Give (Value.Number (pos 1))) h.0 (number_like (pos 1))
  counted_like f g s (a ∷ b ∷ []) h = two_values_like f g s (a ∷ b ∷ []) h
  counted_like f g s [] h = fails_like Code.Value
  counted_like f g s (a ∷ b ∷ x ∷ rest) h = fails_like Code.Value

  three_values_like : (f g : Value → Value → Value → Value) → ((v w x y i j : Value) → V v w → V x y → V i j → V (f v x i) (g w y j)) → (bs : List Both) → AllLike R V bs → Like R V (three_values f (lefts bs)) (three_values g (rights bs))
  three_values_like f g s (a ∷ b ∷ c ∷ []) h = value_of_like (λ x. value_of b.left.value (λ y. value_of c.left.value (λ z. Give (f x y z)))) (λ x. value_of b.right.value (λ y. value_of c.right.value (λ z. Give (g x y z)))) (λ v w t. two_in_turn_like (f v) (g w) (λ x y i j u k. s v w x y i j t u k) b.left.value b.right.value c.left.value c.right.value h.2.0 h.2.2.0) a.left.value a.right.value h.0
  three_values_like f g s [] h = fails_like Code.Value
  three_values_like f g s (a ∷ []) h = fails_like Code.Value
  three_values_like f g s (a ∷ b ∷ []) h = fails_like Code.Value
  three_values_like f g s (a ∷ b ∷ c ∷ x ∷ rest) h = fails_like Code.Value

  -- INDEX, MATCH, VLOOKUP, HLOOKUP

  demand_like : (a b : Addr) → R a b → Like R V (Demand a Give) (Demand b Give)
  demand_like a b h = (h, λ v w t. t)

  search_like : (key other : Value) → V key other → (f g : ℕ → Plan) (m : ℕ) → ((i : ℕ) → i < m → Like R V (f i) (g i)) → (cs ds : List Addr) → Related R cs ds → (i : ℕ) → i + length cs ≡ m → Like R V (search_plan ts key i cs f) (search_plan us other i ds g)
  search_like key other t f g m h [] [] c i e = fails_like Code.Na
  search_like key other t f g m h [] (d ∷ ds) c i e = absurd c
  search_like key other t f g m h (a ∷ cs) [] c i e = absurd c
  search_like key other t f g m h (a ∷ cs) (d ∷ ds) c i e = (c.0, λ v w p. cond_like (f i) (g i) (search_plan ts key (suc i) cs f) (search_plan us other (suc i) ds g) (is_found ts key v) (is_found us other w) (same_found key other v w t p) (h i (omega arith)) (search_like key other t f g m h cs ds c.1 (suc i) (omega arith)))

  index_like : (bs : List Both) → AllLike R V bs → Like R V (index_plan (lefts bs)) (index_plan (rights bs))
  index_like (range ∷ row ∷ col ∷ []) h =
      value_of_like _ _ (λ v w t. value_of_like _ _ (λ x y u.
      if_number_like _ _ (λ i. if_number_like _ _ (λ j.
      if_cells_like _ _ range.left.place range.right.place h.1 (λ r s c. if_up_to_like _ _ (height r) (height s) c.high (λ a k. if_up_to_like _ _ (width r) (width s) c.wide (λ b m.
      demand_like (cell_of r a b) (cell_of s a b) (c.cells a b k m)) j) i)) (as_number x) (as_number y) (same_number x y u)) (as_number v) (as_number w) (same_number v w t)) col.left.value col.right.value h.2.2.0) row.left.value row.right.value h.2.0
  index_like [] h = fails_like Code.Value
  index_like (a ∷ []) h = fails_like Code.Value
  index_like (a ∷ b ∷ []) h = fails_like Code.Value
  index_like (a ∷ b ∷ c ∷ x ∷ rest) h = fails_like Code.Value

  match_like : (bs : List Both) → AllLike R V bs → Like R V (match_plan ts (lefts bs)) (match_plan us (rights bs))
  match_like (key ∷ range ∷ rest) h =
      value_of_like _ _ (λ k l t.
      if_cells_like _ _ range.left.place range.right.place h.2.1 (λ r s c.
      search_like k l t (λ i. Give (Value.Number (pos (suc i)))) (λ i. Give (Value.Number (pos (suc i)))) (length (walk r)) (λ i m. number_like (pos (suc i))) (walk r) (walk s) (related_walk R r s c) 0 (omega arith))) key.left.value key.right.value h.0
  match_like [] h = fails_like Code.Value
  match_like (a ∷ []) h = fails_like Code.Value

  v_lookup_like : (bs : List Both) → AllLike R V bs → Like R V (v_lookup_plan ts (lefts bs)) (v_lookup_plan us (rights bs))
  v_lookup_like (key ∷ range ∷ col ∷ rest) h =
      value_of_like _ _ (λ k l t. value_of_like _ _ (λ v w u.
      if_number_like _ _ (λ j.
      if_cells_like _ _ range.left.place range.right.place h.2.1 (λ r s c. if_up_to_like _ _ (width r) (width s) c.wide (λ b m.
      search_like k l t (λ i. Demand (cell_of r i b) Give) (λ i. Demand (cell_of s i b) Give) (height r) (λ i o. demand_like (cell_of r i b) (cell_of s i b) (c.cells i b o m)) (column_of r 0) (column_of s 0) (related_column R r s c 0 (omega arith)) 0 (omega (arith, length-mapped (λ i. cell_of r i 0) (height r)))) j)) (as_number v) (as_number w) (same_number v w u)) col.left.value col.right.value h.2.2.0) key.left.value key.right.value h.0
  v_lookup_like [] h = fails_like Code.Value
  v_lookup_like (a ∷ []) h = fails_like Code.Value
  v_lookup_like (a ∷ b ∷ []) h = fails_like Code.Value

  h_lookup_like : (bs : List Both) → AllLike R V bs → Like R V (h_lookup_plan ts (lefts bs)) (h_lookup_plan us (rights bs))
  h_lookup_like (key ∷ range ∷ row ∷ rest) h =
      value_of_like _ _ (λ k l t. value_of_like _ _ (λ v w u.
      if_number_like _ _ (λ j.
      if_cells_like _ _ range.left.place range.right.place h.2.1 (λ r s c. if_up_to_like _ _ (height r) (height s) c.high (λ a m.
      search_like k l t (λ i. Demand (cell_of r a i) Give) (λ i. Demand (cell_of s a i) Give) (width r) (λ i o. demand_like (cell_of r a i) (cell_of s a i) (c.cells a i m o)) (row_of r 0) (row_of s 0) (related_row R r s c 0 (omega arith)) 0 (omega (arith, length-mapped (cell_of r 0) (width r)))) j)) (as_number v) (as_number w) (same_number v w u)) row.left.value row.right.value h.2.2.0) key.left.value key.right.value h.0
  h_lookup_like [] h = fails_like Code.Value
  h_lookup_like (a ∷ []) h = fails_like Code.Value
  h_lookup_like (a ∷ b ∷ []) h = fails_like Code.Value

  call_like : (f : Fun) (bs : List Both) → AllLike R V bs → Like R V (call_plan ts f (lefts bs)) (call_plan us f (rights bs))
  call_like Fun.If bs h = if_like bs h
  call_like Fun.And bs h = and_like bs h
  call_like Fun.Or bs h = or_like bs h
  call_like Fun.Not bs h = not_like bs h
  call_like Fun.Choose bs h = choose_like bs h
  call_like Fun.IfError bs h = if_error_like bs h
  call_like Fun.IsError bs h = is_error_like bs h
  call_like Fun.Sum bs h = fold_like FoldKind.Sum bs h None
  call_like Fun.Min bs h = fold_like FoldKind.Min bs h None
  call_like Fun.Max bs h = fold_like FoldKind.Max bs h None
  call_like Fun.Count bs h = fold_like FoldKind.Count bs h None
  call_like Fun.Abs bs h = one_value_like (sign_table Sign2.Abs) (sign_table Sign2.Abs) (sign_like Sign2.Abs) bs h
  call_like Fun.Mod bs h = two_values_like (table ts Op2.Mod) (table us Op2.Mod) (λ v w x y p q. table_like Op2.Mod v w x y p q) bs h
  call_like Fun.Quotient bs h = two_values_like (table ts Op2.Quotient) (table us Op2.Quotient) (λ v w x y p q. table_like Op2.Quotient v w x y p q) bs h
  call_like Fun.Index bs h = index_like bs h
  call_like Fun.Match bs h = match_like bs h
  call_like Fun.VLookup bs h = v_lookup_like bs h
  call_like Fun.HLookup bs h = h_lookup_like bs h
  call_like Fun.Left bs h = counted_like (left_of ts) (left_of us) (λ v w x y p q. left_like v w x y p q) bs h
  call_like Fun.Right bs h = counted_like (right_of ts) (right_of us) (λ v w x y p q. right_like v w x y p q) bs h
  call_like Fun.Mid bs h = three_values_like (mid_of ts) (mid_of us) (λ v w x y i j p q r. mid_like v w x y i j p q r) bs h
  call_like Fun.Len bs h = one_value_like (length_of ts) (length_of us) (λ v w p. length_like v w p) bs h

  -- Formulas

  demand_of_like : (o p : Option Addr) → LikeOption R o p → Like R V (demand_of o) (demand_of p)
  demand_of_like (Some a) (Some b) h = demand_like a b h
  demand_of_like None None h = fails_like Code.Ref
  demand_of_like o p h = absurd h

  mutual
    pub plan_like : (at at' : Addr) (t u : Expr) → LikeTrees R V at t at' u → Like R V (plan ts at t) (plan us at' u)
    plan_like at at' (Number n) (Number m) h = same_plain (Value.Number n) (Value.Number m) tt (ap Value.Number h)
    plan_like at at' (Text n) (Text m) h = h
    plan_like at at' (Truth n) (Truth m) h = same_plain (Value.Bool n) (Value.Bool m) tt (ap Value.Bool h)
    plan_like at at' (Ref r) (Ref s) h = demand_of_like (resolve at r) (resolve at' s) h
    plan_like at at' (Range p q) (Range r s) h = fails_like Code.Value
    plan_like at at' RefError RefError h = fails_like Code.Ref
    plan_like at at' (Unary g a) (Unary k b) h = value_of_like (λ x. Give (sign_value g x)) (λ x. Give (sign_value k x)) (λ v w t. subst (λ z. V (sign_value g v) (sign_value z w)) h.0 (sign_value_like g v w t)) (plan ts at a) (plan us at' b) (plan_like at at' a b h.1)
    plan_like at at' (Binary o a b) (Binary p c d) h =
        value_of_like (λ x. value_of (plan ts at b) (λ y. Give (operator_value ts o x y))) (λ x. value_of (plan us at' d) (λ y. Give (operator_value us p x y)))
        (λ v w t. value_of_like (λ y. Give (operator_value ts o v y)) (λ y. Give (operator_value us p w y)) (λ x y u. subst (λ z. V (operator_value ts o v x) (operator_value us z w y)) h.0 (operator_like o v w x y t u)) (plan ts at b) (plan us at' d) (plan_like at at' b d h.2))
        (plan ts at a) (plan us at' c) (plan_like at at' a c h.1)
    plan_like at at' (Call f args) (Call g others) h =
        let p = all_like at at' args others h.1 in
        subst (λ z. Like R V (call_plan ts f (arguments ts at args)) (call_plan us z (arguments us at' others))) h.0
        (subst (λ z. Like R V (call_plan ts f z) (call_plan us f (arguments us at' others))) p.left
        (subst (λ z. Like R V (call_plan ts f (lefts p.both)) (call_plan us f z)) p.right
        (call_like f p.both p.like)))
    plan_like at at' t u h = absurd h

    all_like : (at at' : Addr) (args others : Exprs) → AllLikeTrees R V at args at' others → Pairs R V (arguments ts at args) (arguments us at' others)
    all_like at at' End End h = record { both = []; left = refl; right = refl; like = tt }
    all_like at at' (More a rest) (More b others) h =
        let p = all_like at at' rest others h.1 in
        record {
          both = record { left = record { value = plan ts at a; place = place_of at a }; right = record { value = plan us at' b; place = place_of at' b } } ∷ p.both;
          left = ap (λ z. record { value = plan ts at a; place = place_of at a } ∷ z) p.left;
          right = ap (λ z. record { value = plan us at' b; place = place_of at' b } ∷ z) p.right;
          like = (plan_like at at' a b h.0, place_like R V at at' a b h.0, p.like);
        }
    all_like at at' End (More b others) h = absurd h
    all_like at at' (More a rest) End h = absurd h
