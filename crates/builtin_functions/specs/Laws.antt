-- Laws of the tables and of the walks.
use Rattle.std.specs.Prelude.{◌≡◌, ◌≢◌, ℕ, ◌<◌, Bool, ℤ, pos, ◌+ℤ◌, ◌*ℤ◌, ◌≤ℤ◌, ◌<ℤ◌, unsigned_abs, IsTrue, Some, None, Ok, MatchOption, List, [], ◌∷◌, ◌++◌, map, take, length, All, Contains}
use Rattle.std.specs.Ordering.{nat_cmp}
use Rattle.std.specs.Cmp.Lexicographic.{slice_cmp}
use Rattle.cell_values.specs.declared.values.Value.{Value}
use Rattle.cell_values.specs.Numbers.{fits}
use Rattle.cell_values.specs.Texts.{Texts}
use Rattle.cell_values.specs.Values.{text_of}
use Rattle.builtin_functions.specs.declared.operators.Op2.{Op2}
use Rattle.builtin_functions.specs.declared.folds.FoldKind.{FoldKind}
use Rattle.builtin_functions.specs.Tables.{number, quotient, modulo, order, same, table}
use Rattle.builtin_functions.specs.Folds.{Total, so_far, taken_all, and_then_take, fold_value}

-- `=` does not tell its two sides apart
abbrev pub SameIsSymmetric : Type 0
SameIsSymmetric = (ts : Texts) (a b : Value) → same ts a b ≡ same ts b a

-- two texts compare by their bytes, of whichever kind each is
abbrev pub TextsCompareByBytes : Type 0
TextsCompareByBytes = (ts : Texts) (a b : Value) (xs ys : List ℕ) → text_of ts a ≡ Some xs → text_of ts b ≡ Some ys
    → order ts a b ≡ Some (slice_cmp nat_cmp xs ys)

-- a < b is b > a, and a <= b is b >= a
pub record OrderTurns (ts : Texts) (a b : Value) : Type 0 where
  pub less : table ts Op2.Lt a b ≡ table ts Op2.Gt b a
  pub less_or_equal : table ts Op2.Le a b ≡ table ts Op2.Ge b a

-- x is a multiple of y and r, and r is smaller than y and has its sign or is 0
pub record IsRemainder (x y r : ℤ) : Type 0 where
  pub congruent : (q : ℤ) × (q *ℤ y +ℤ r ≡ x)
  pub smaller : unsigned_abs r < unsigned_abs y
  pub not_negative : pos 0 <ℤ y → pos 0 ≤ℤ r
  pub not_positive : y <ℤ pos 0 → r ≤ℤ pos 0

-- MOD gives the remainder
abbrev pub ModuloIsRemainder : Type 0
ModuloIsRemainder = (x y : ℤ) → y ≢ pos 0 → (r : ℤ) × (modulo x y ≡ Value.Number r) × IsRemainder x y r

-- q times y and r are x, and r is smaller than y and has the sign of x or is 0
pub record IsTruncated (x y q r : ℤ) : Type 0 where
  pub whole : q *ℤ y +ℤ r ≡ x
  pub smaller : unsigned_abs r < unsigned_abs y
  pub not_negative : pos 0 ≤ℤ x → pos 0 ≤ℤ r
  pub not_positive : x ≤ℤ pos 0 → r ≤ℤ pos 0

-- a quotient times the divisor and the truncated remainder are the dividend
abbrev pub QuotientIsTruncated : Type 0
QuotientIsTruncated = (x y : ℤ) → y ≢ pos 0 → (q : ℤ) × (r : ℤ) × (quotient x y ≡ number q) × IsTruncated x y q r

-- the Numbers of a list of values
abbrev pub and_its_number : Value → List ℤ → List ℤ
and_its_number (Value.Number n) ns = n ∷ ns
and_its_number (Value.Text t) ns = ns
and_its_number (Value.Short t) ns = ns
and_its_number (Value.Bool b) ns = ns
and_its_number Value.Blank ns = ns
and_its_number (Value.Error e) ns = ns

abbrev pub numbers_in : List (Value × Bool) → List ℤ
numbers_in [] = []
numbers_in (v ∷ rest) = and_its_number v.0 (numbers_in rest)

-- these numbers as values, each from a range or not
abbrev pub numbers : Bool → List ℤ → List (Value × Bool)
numbers in_range ns = map (λ n. (Value.Number n, in_range)) ns

abbrev pub sum_of : List ℤ → ℤ
sum_of [] = pos 0
sum_of (n ∷ ns) = n +ℤ sum_of ns

-- m is one of the numbers, and none is less; none is greater
pub record IsLeast (ns : List ℤ) (m : ℤ) : Type 0 where
  pub member : Contains ns m
  pub bound : All (λ n. m ≤ℤ n) ns

pub record IsGreatest (ns : List ℤ) (m : ℤ) : Type 0 where
  pub member : Contains ns m
  pub bound : All (λ n. n ≤ℤ m) ns

-- a walk over two lists is one over the first, and then one over the second
abbrev pub WalksJoin : Type 0
WalksJoin = (k : FoldKind) (t : Total) (xs ys : List (Value × Bool))
    → taken_all k t (xs ++ ys) ≡ and_then_take (taken_all k t xs) (λ u. taken_all k u ys)

-- what a walk that comes to its end has found
pub record WalkFinds (vs : List (Value × Bool)) : Type 0 where
  pub sum : (t : Total) → taken_all FoldKind.Sum None vs ≡ Ok t → so_far t ≡ sum_of (numbers_in vs)
  pub least : (t : Total) → taken_all FoldKind.Min None vs ≡ Ok t
      → MatchOption t (numbers_in vs ≡ []) (IsLeast (numbers_in vs))
  pub greatest : (t : Total) → taken_all FoldKind.Max None vs ≡ Ok t
      → MatchOption t (numbers_in vs ≡ []) (IsGreatest (numbers_in vs))
  pub count : (t : Total) → taken_all FoldKind.Count None vs ≡ Ok t
      → IsTrue (fits (pos (length (numbers_in vs)))) → so_far t ≡ pos (length (numbers_in vs))

-- the sums of two lists that come to their end add up, where the joined list does too
abbrev pub SumsAdd : Type 0
SumsAdd = (xs ys : List (Value × Bool)) (t u v : Total)
    → taken_all FoldKind.Sum None xs ≡ Ok t
    → taken_all FoldKind.Sum None ys ≡ Ok u
    → taken_all FoldKind.Sum None (xs ++ ys) ≡ Ok v
    → so_far v ≡ so_far t +ℤ so_far u

-- SUM of Numbers none of whose running sums leaves the range is their sum
abbrev pub SumIsSum : Type 0
SumIsSum = (in_range : Bool) (ns : List ℤ) → ((k : ℕ) → IsTrue (fits (sum_of (take k ns))))
    → fold_value FoldKind.Sum (numbers in_range ns) ≡ Value.Number (sum_of ns)
