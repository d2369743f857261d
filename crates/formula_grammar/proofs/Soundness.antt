-- What is read within the limits is a sound formula.
use Rattle.std.proofs.Common.{◌≡◌, ℕ, zero, suc, ◌+◌, ◌*◌, ◌≤◌, List, [], ◌∷◌, ◌++◌, Bool, true, false, cond, Option, Some, None, IsTrue, refl, sym, ap, ◌∙◌, subst, arith}
use Rattle.std.proofs.lemmas.Int.{ints}
use Rattle.std.proofs.lemmas.Bool.Decides.{nat_tests}
use Rattle.std.specs.List.{AllByRecursion}
use Rattle.std.specs.Prelude.{pos, negsuc, ◌-ℤ◌, ◌+ℤ◌, int_le, ◌&&◌, nat_le, IsSome, IsSomeAnd, unwrap_or}
use Rattle.cell_values.specs.declared.address.Addr.{Addr}
use Rattle.cell_values.specs.Areas.{height, width, between_cells}
use Rattle.cell_values.specs.Numbers.{fits}
use Rattle.cell_values.specs.declared.TheConstants.{LAST_COLUMN, LAST_ROW, MAX_RANGE_CELLS}
use Rattle.formula_trees.specs.declared.TheConstants.{MAX_LEVELS}
use Rattle.formula_trees.specs.declared.levels.TheConstants.{COMPARISON_LEVEL, JOIN_LEVEL, SUM_LEVEL, TERM_LEVEL, SIGN_LEVEL, OPERAND_LEVEL}
use Rattle.formula_trees.specs.declared.tree.Fun.{Fun}
use Rattle.formula_trees.specs.declared.tree.Op.{Op}
use Rattle.formula_trees.specs.declared.tree.Sign.{Sign}
use Rattle.formula_trees.specs.Expr.{Expr, Exprs, Number, Range, Unary, Binary, Call}
use Rattle.formula_trees.specs.declared.functions.Kind.{Kind}
use Rattle.formula_trees.specs.declared.functions.Kind.TheVariants.{Plain, Place, Many, Exact}
use Rattle.formula_trees.specs.Functions.{kind_of, takes_more}
use Rattle.formula_trees.specs.References.{resolve, area_of, area_between, cell_at, up_to, part_at}
use Rattle.formula_trees.specs.Sound.{IsRange, IsExact, IsPlace, RangeOr, OfKind, IsExpression, HasArguments, nodes, nodes_of, op_level, level_of, in_parentheses, levels, levels_of, IsSound}
use Rattle.formula_tokens.specs.declared.token.Corner.{Corner}
use Rattle.formula_tokens.specs.declared.token.Literal.{Literal}
use Rattle.formula_tokens.specs.declared.token.Token.{Token}
use Rattle.formula_tokens.specs.declared.token.Word.{Word}
use Rattle.formula_grammar.specs.Syntax.{Mark, quiet, node, is_exact, is_ref_error, part, cells_between, Target, here, on_sheet, target_sheet, Expression, only_joins, compare, Joins, only_sum, join, Sums, only_term, add, Term, only_signed, multiply, Signed, plain, signed, Primary, literal, reference, group, call_none, call, Arguments, last, more, Argument, value, cell, area, lone, sign_op, target_spelling, spelling, joins_spelling, sums_spelling, term_spelling, signed_spelling, primary_spelling, arguments_spelling, argument_spelling, target_marks, marks, joins_marks, sums_marks, term_marks, signed_marks, primary_marks, arguments_marks, argument_marks, IsOfKind, Fits, JoinsFit, SumsFit, TermFits, SignedFits, PrimaryFits, ArgumentsFit, ArgumentFits, literal_meaning, reference_at, target_meaning, meaning, joins_meaning, sums_meaning, term_meaning, signed_meaning, primary_meaning, arguments_meaning, argument_meaning}
use Rattle.formula_grammar.specs.declared.faults.FaultKind.{FaultKind}
use Rattle.formula_grammar.specs.Fault.{own_fault, named_fault, literal_fault, word_fault, corner_fault, is_inside, total_nodes, Reads}
use Rattle.formula_grammar.proofs.Verdict.{total-append}

split_all : {A : Type 0} (P : A → Type 0) (a b : List A) → AllByRecursion P (a ++ b) → AllByRecursion P a × AllByRecursion P b
split_all P [] b h = (tt, h)
split_all P (x ∷ a) b h = let r = split_all P a b h.1 in ((h.0, r.0), r.1)

-- tokens without a fault of their own, and marks within the limits
record Fine (ts : List Token) (ms : List Mark) : Type 0 where
  known : AllByRecursion (λ t. own_fault t ≡ None) ts
  inside : AllByRecursion (λ t. named_fault t ≡ None) ts
  low : AllByRecursion (λ m. m.level ≤ MAX_LEVELS) ms
  small : AllByRecursion (λ m. m.cells ≤ MAX_RANGE_CELLS) ms

fine_front : (a b : List Token) (m n : List Mark) → Fine (a ++ b) (m ++ n) → Fine a m
fine_front a b m n f = record {
  known = (split_all (λ t. own_fault t ≡ None) a b f.known).0;
  inside = (split_all (λ t. named_fault t ≡ None) a b f.inside).0;
  low = (split_all (λ m. m.level ≤ MAX_LEVELS) m n f.low).0;
  small = (split_all (λ m. m.cells ≤ MAX_RANGE_CELLS) m n f.small).0;
}

fine_back : (a b : List Token) (m n : List Mark) → Fine (a ++ b) (m ++ n) → Fine b n
fine_back a b m n f = record {
  known = (split_all (λ t. own_fault t ≡ None) a b f.known).1;
  inside = (split_all (λ t. named_fault t ≡ None) a b f.inside).1;
  low = (split_all (λ m. m.level ≤ MAX_LEVELS) m n f.low).1;
  small = (split_all (λ m. m.cells ≤ MAX_RANGE_CELLS) m n f.small).1;
}

fine_tail : (t : Token) (ts : List Token) (m : Mark) (ms : List Mark) → Fine (t ∷ ts) (m ∷ ms) → Fine ts ms
fine_tail t ts m ms f = record { known = f.known.1; inside = f.inside.1; low = f.low.1; small = f.small.1 }

-- parentheses
in_level : (least : ℕ) (x : Expr) (n : ℕ) → least ≤ level_of x → in_parentheses least x n ≡ n
in_level least x n h = grind (arith, nat_tests)

at_least_inner : (least : ℕ) (x : Expr) (n : ℕ) → n ≤ in_parentheses least x n
at_least_inner least x n = grind (arith, nat_tests)

at_most_outer : (least : ℕ) (x : Expr) (n : ℕ) → in_parentheses least x n ≤ suc n
at_most_outer least x n = grind (arith, nat_tests)

weaker : (least : ℕ) (x : Expr) (n : ℕ) → in_parentheses least x n ≤ in_parentheses (suc least) x n
weaker least x n = grind (arith, nat_tests)

-- what the reading of a part is to be, where d levels are open and a root below `least` needs parentheses
record Good (own : Addr) (least : ℕ) (x : Expr) (d : ℕ) (ms : List Mark) : Type 0 where
  shape : IsExpression own x
  counts : nodes x ≡ total_nodes ms
  flat : d + in_parentheses least x (levels x) ≤ MAX_LEVELS

good_weaker : (own : Addr) (least : ℕ) (x : Expr) (d : ℕ) (ms : List Mark) → Good own (suc least) x d ms → Good own least x d ms
good_weaker own least x d ms g = let w = weaker least x (levels x) in let f = g.flat in record { shape = g.shape; counts = g.counts; flat = omega (arith, w, f) }

good_binary : (own : Addr) (op : Op) (x y : Expr) (d : ℕ) (ms ns : List Mark) → Good own (op_level op) x d ms → Good own (suc (op_level op)) y d ns → Good own (op_level op) (Binary op x y) d (ms ++ node ∷ ns)
good_binary own op x y d ms ns a b =
    let total = total-append ms (node ∷ ns) in
    let i = in_level (op_level op) (Binary op x y) (levels (Binary op x y)) (omega arith) in
    let f = a.flat in
    let g = b.flat in
    let p = a.counts in
    let q = b.counts in
    record { shape = (a.shape, b.shape); counts = omega (arith, total, p, q); flat = omega (arith, i, f, g) }

good_operator : (own : Addr) (k : ℕ) (op : Op) (x y : Expr) (d : ℕ) (ms ns : List Mark) → op_level op ≡ k → Good own k x d ms → Good own (suc k) y d ns → Good own k (Binary op x y) d (ms ++ node ∷ ns)
good_operator own k op x y d ms ns e a b =
    subst (λ j. Good own j (Binary op x y) d (ms ++ node ∷ ns)) e (good_binary own op x y d ms ns (subst (λ j. Good own j x d ms) (sym e) a) (subst (λ j. Good own (suc j) y d ns) (sym e) b))

-- words and corners
by_none : (b : Bool) (k : FaultKind) → cond b None (Some k) ≡ None → b ≡ true
by_none true k e = refl
by_none false k e = cc

not_unknown : own_fault (Token.Function None) ≡ None → ⊥
not_unknown e = cc

both_true : (a b : Bool) → (a && b) ≡ true → (a ≡ true) × (b ≡ true)
both_true true true e = (refl, refl)
both_true true false e = cc
both_true false b e = cc

here_again : (own n : ℕ) → pos own +ℤ (pos n -ℤ pos own) ≡ pos n
here_again own n = omega (arith, ints)

part_number : (own : ℕ) (b : Bool) (n : ℕ) → part_at own (part own (record { number = n; absolute = b })) ≡ pos n
part_number own true n = refl
part_number own false n = here_again own n

up_to_number : (most n : ℕ) → (nat_le 1 n && nat_le n most) ≡ true → up_to most (pos n) ≡ Some n
up_to_number most n e = ap (λ b. cond b (Some n) None) e

-- the cell that a corner is
abbrev cell_named : Addr → Option ℕ → Corner → Addr
cell_named own s c = record { sheet = unwrap_or s own.sheet; row = c.row.number; col = c.col.number }

corner_resolves : (own : Addr) (s : Option ℕ) (c : Corner) → is_inside c ≡ true → resolve own (reference_at own s (Word.Cell c)) ≡ Some (cell_named own s c)
unfolding resolve
corner_resolves own s c e =
    let p = both_true (nat_le 1 c.col.number && nat_le c.col.number LAST_COLUMN) (nat_le 1 c.row.number && nat_le c.row.number LAST_ROW) e in
    let col = ap (up_to LAST_COLUMN) (part_number own.col c.col.absolute c.col.number) ∙ up_to_number LAST_COLUMN c.col.number p.0 in
    let row = ap (up_to LAST_ROW) (part_number own.row c.row.absolute c.row.number) ∙ up_to_number LAST_ROW c.row.number p.1 in
    ap (λ r. cell_at (unwrap_or s own.sheet) r (up_to LAST_COLUMN (part_at own.col (part own.col c.col)))) row ∙ ap (cell_at (unwrap_or s own.sheet) (Some c.row.number)) col

resolves : (own : Addr) (s : Option ℕ) (w : Word) → word_fault w ≡ None → corner_fault w ≡ None → IsSome (resolve own (reference_at own s w))
resolves own s (Word.Cell c) k i = subst IsSome (sym (corner_resolves own s c (by_none (is_inside c) FaultKind.OutsideSheet i))) refl
resolves own s Word.Unknown k i = cc

range_small : (own : Addr) (s : Option ℕ) (v w : Word) → word_fault v ≡ None → corner_fault v ≡ None → word_fault w ≡ None → corner_fault w ≡ None → cells_between v w ≤ MAX_RANGE_CELLS → IsRange own (reference_at own s v) (reference_at own s w)
unfolding height width
range_small own s (Word.Cell c) (Word.Cell d) k i l j h =
    let a = corner_resolves own s c (by_none (is_inside c) FaultKind.OutsideSheet i) in
    let b = corner_resolves own s d (by_none (is_inside d) FaultKind.OutsideSheet j) in
    let e : area_of own (reference_at own s (Word.Cell c)) (reference_at own s (Word.Cell d)) ≡ Some (between_cells (cell_named own s c) (cell_named own s d)) =
    ap (λ x. area_between x (resolve own (reference_at own s (Word.Cell d)))) a ∙ ap (area_between (Some (cell_named own s c))) b in
    record { one_sheet = refl; small = subst (λ o. IsSomeAnd o (λ r. height r * width r ≤ MAX_RANGE_CELLS)) (sym e) h }
range_small own s (Word.Cell c) Word.Unknown k i l j h = cc
range_small own s Word.Unknown w k i l j h = cc

-- literals
good_literal : (own : Addr) (l : Literal) (d : ℕ) → literal_fault l ≡ None → d ≤ MAX_LEVELS → Good own OPERAND_LEVEL (literal_meaning l) d (node ∷ [])
good_literal own (Literal.Number n) d k h = record { shape = by_none (int_le (pos 0) n && fits n) FaultKind.HugeNumber k; counts = refl; flat = omega (arith, h) }
good_literal own Literal.HugeNumber d k h = cc
good_literal own (Literal.Text t) d k h = record { shape = tt; counts = refl; flat = omega (arith, h) }
good_literal own (Literal.Truth b) d k h = record { shape = tt; counts = refl; flat = omega (arith, h) }
good_literal own Literal.RefError d k h = record { shape = tt; counts = refl; flat = omega (arith, h) }

exact_literal : (l : Literal) → is_exact l ≡ true → IsExact (literal_meaning l)
exact_literal (Literal.Number (pos zero)) e = refl
exact_literal (Literal.Number (pos (suc n))) e = cc
exact_literal (Literal.Number (negsuc n)) e = cc
exact_literal (Literal.Truth true) e = cc
exact_literal (Literal.Truth false) e = refl
exact_literal l e = cc

error_place : (own : Addr) (l : Literal) → is_ref_error l ≡ true → IsPlace own (literal_meaning l)
error_place own Literal.RefError e = tt
error_place own l e = cc

-- targets
target_resolves : (own : Addr) (x : Target) (ms : List Mark) → Fine (target_spelling x) ms → IsSome (resolve own (target_meaning own x))
target_resolves own (here w) ms f = resolves own None w f.known.0 f.inside.0
target_resolves own (on_sheet s w) ms f = resolves own s w f.known.1.0 f.inside.1.0

target_counts : (x : Target) → total_nodes (target_marks x) ≡ 1
target_counts (here w) = refl
target_counts (on_sheet s w) = refl

target_range : (own : Addr) (x : Target) (w : Word) → Fine (argument_spelling (area x w)) (argument_marks (area x w) 0) → IsRange own (target_meaning own x) (reference_at own (target_sheet x) w)
target_range own (here v) w f = range_small own None v w f.known.0 f.inside.0 f.known.1.1.0 f.inside.1.1.0 f.small.1.1.0
target_range own (on_sheet s v) w f = range_small own s v w f.known.1.0 f.inside.1.0 f.known.1.1.1.0 f.inside.1.1.1.0 f.small.1.1.1.0

area_counts : (x : Target) (w : Word) (d : ℕ) → total_nodes (argument_marks (area x w) d) ≡ 1
area_counts (here v) w d = refl
area_counts (on_sheet s v) w d = refl

-- a call takes an argument at all
first_argument : (f : Fun) → IsTrue (takes_more f 0)
first_argument Fun.If = refl
first_argument f = refl

range_or : (own : Addr) (x : Expr) → IsExpression own x → RangeOr own x (IsExpression own x)
range_or own (Range r s) h = absurd h
range_or own (Number n) h = h
range_or own x h = h

record GoodArgument (own : Addr) (k : Kind) (x : Expr) (d : ℕ) (ms : List Mark) : Type 0 where
  shape : OfKind own k x (IsExpression own x)
  counts : nodes x ≡ total_nodes ms
  flat : d + levels x ≤ MAX_LEVELS

record GoodArguments (own : Addr) (f : Fun) (n : ℕ) (xs : Exprs) (d : ℕ) (ms : List Mark) : Type 0 where
  shape : HasArguments own f n xs
  counts : nodes_of xs ≡ total_nodes ms
  flat : d + levels_of xs ≤ MAX_LEVELS

good_value : (own : Addr) (x : Expr) (d : ℕ) (ms : List Mark) → Good own COMPARISON_LEVEL x d ms → GoodArgument own Plain x d ms
good_value own x d ms g = let i = at_least_inner COMPARISON_LEVEL x (levels x) in let f = g.flat in record { shape = g.shape; counts = g.counts; flat = omega (arith, i, f) }

good_many : (own : Addr) (x : Expr) (d : ℕ) (ms : List Mark) → Good own COMPARISON_LEVEL x d ms → GoodArgument own Many x d ms
good_many own x d ms g = let i = at_least_inner COMPARISON_LEVEL x (levels x) in let f = g.flat in record { shape = range_or own x g.shape; counts = g.counts; flat = omega (arith, i, f) }

good_lone : (own : Addr) (k : Kind) (l : Literal) (d : ℕ) → OfKind own k (literal_meaning l) (IsExpression own (literal_meaning l)) → literal_fault l ≡ None → d ≤ MAX_LEVELS → GoodArgument own k (literal_meaning l) d (node ∷ [])
good_lone own k l d s z h =
    let g = good_literal own l d z h in
    let i = at_least_inner OPERAND_LEVEL (literal_meaning l) (levels (literal_meaning l)) in
    let f = g.flat in
    record { shape = s; counts = g.counts; flat = omega (arith, i, f) }

good_group : (own : Addr) (x : Expr) (d : ℕ) (ms : List Mark) (m : Mark) → m.nodes ≡ 0 → Good own COMPARISON_LEVEL x (suc d) ms → Good own OPERAND_LEVEL x d (m ∷ (ms ++ quiet ∷ []))
good_group own x d ms m z g =
    let total = total-append ms (quiet ∷ []) in
    let i = at_least_inner COMPARISON_LEVEL x (levels x) in
    let o = at_most_outer OPERAND_LEVEL x (levels x) in
    let f = g.flat in
    let c = g.counts in
    record { shape = g.shape; counts = omega (arith, total, c, z); flat = omega (arith, i, o, f) }

good_call : (own : Addr) (f : Fun) (xs : Exprs) (d : ℕ) (ms : List Mark) (m : Mark) → m.nodes ≡ 0 → GoodArguments own f 0 xs (suc d) ms → Good own OPERAND_LEVEL (Call f xs) d (node ∷ m ∷ (ms ++ quiet ∷ []))
good_call own f xs d ms m z g =
    let total = total-append ms (quiet ∷ []) in
    let i = in_level OPERAND_LEVEL (Call f xs) (levels (Call f xs)) (omega arith) in
    let k = g.flat in
    let c = g.counts in
    record { shape = g.shape; counts = omega (arith, total, c, z); flat = omega (arith, i, k) }

good_sign : (own : Addr) (s : Sign) (x : Expr) (d : ℕ) (ms : List Mark) (m : Mark) → m.nodes ≡ 1 → Good own SIGN_LEVEL x (suc d) ms → Good own SIGN_LEVEL (Unary s x) d (m ∷ ms)
good_sign own s x d ms m z g =
    let i = in_level SIGN_LEVEL (Unary s x) (levels (Unary s x)) (omega arith) in
    let f = g.flat in
    let c = g.counts in
    record { shape = g.shape; counts = omega (arith, c, z); flat = omega (arith, i, f) }

module _ (own : Addr) where
  mutual
    good-expression : (e : Expression) (d : ℕ) → Fits true e → d ≤ MAX_LEVELS → Fine (spelling e) (marks e d) → Good own COMPARISON_LEVEL (meaning own e) d (marks e d)
    good-expression (only_joins j) d fit h f = good_weaker own COMPARISON_LEVEL (joins_meaning own j) d (joins_marks j d) (good-joins j d fit h f)
    good-expression (compare e op j) d fit h f =
        good_operator own COMPARISON_LEVEL op (meaning own e) (joins_meaning own j) d (marks e d) (joins_marks j d) fit.1
        (good-expression e d fit.0 h (fine_front (spelling e) (Token.Operator op ∷ joins_spelling j) (marks e d) (node ∷ joins_marks j d) f))
        (good-joins j d fit.2 h (fine_tail (Token.Operator op) (joins_spelling j) node (joins_marks j d) (fine_back (spelling e) (Token.Operator op ∷ joins_spelling j) (marks e d) (node ∷ joins_marks j d) f)))

    good-joins : (j : Joins) (d : ℕ) → JoinsFit true j → d ≤ MAX_LEVELS → Fine (joins_spelling j) (joins_marks j d) → Good own JOIN_LEVEL (joins_meaning own j) d (joins_marks j d)
    good-joins (only_sum s) d fit h f = good_weaker own JOIN_LEVEL (sums_meaning own s) d (sums_marks s d) (good-sums s d fit h f)
    good-joins (join j op s) d fit h f =
        good_operator own JOIN_LEVEL op (joins_meaning own j) (sums_meaning own s) d (joins_marks j d) (sums_marks s d) fit.1
        (good-joins j d fit.0 h (fine_front (joins_spelling j) (Token.Operator op ∷ sums_spelling s) (joins_marks j d) (node ∷ sums_marks s d) f))
        (good-sums s d fit.2 h (fine_tail (Token.Operator op) (sums_spelling s) node (sums_marks s d) (fine_back (joins_spelling j) (Token.Operator op ∷ sums_spelling s) (joins_marks j d) (node ∷ sums_marks s d) f)))

    good-sums : (s : Sums) (d : ℕ) → SumsFit true s → d ≤ MAX_LEVELS → Fine (sums_spelling s) (sums_marks s d) → Good own SUM_LEVEL (sums_meaning own s) d (sums_marks s d)
    good-sums (only_term t) d fit h f = good_weaker own SUM_LEVEL (term_meaning own t) d (term_marks t d) (good-term t d fit h f)
    good-sums (add s op t) d fit h f =
        good_operator own SUM_LEVEL op (sums_meaning own s) (term_meaning own t) d (sums_marks s d) (term_marks t d) fit.1
        (good-sums s d fit.0 h (fine_front (sums_spelling s) (Token.Operator op ∷ term_spelling t) (sums_marks s d) (node ∷ term_marks t d) f))
        (good-term t d fit.2 h (fine_tail (Token.Operator op) (term_spelling t) node (term_marks t d) (fine_back (sums_spelling s) (Token.Operator op ∷ term_spelling t) (sums_marks s d) (node ∷ term_marks t d) f)))

    good-term : (t : Term) (d : ℕ) → TermFits true t → d ≤ MAX_LEVELS → Fine (term_spelling t) (term_marks t d) → Good own TERM_LEVEL (term_meaning own t) d (term_marks t d)
    good-term (only_signed s) d fit h f = good_weaker own TERM_LEVEL (signed_meaning own s) d (signed_marks s d) (good-signed s d fit h f)
    good-term (multiply t op s) d fit h f =
        good_operator own TERM_LEVEL op (term_meaning own t) (signed_meaning own s) d (term_marks t d) (signed_marks s d) fit.1
        (good-term t d fit.0 h (fine_front (term_spelling t) (Token.Operator op ∷ signed_spelling s) (term_marks t d) (node ∷ signed_marks s d) f))
        (good-signed s d fit.2 h (fine_tail (Token.Operator op) (signed_spelling s) node (signed_marks s d) (fine_back (term_spelling t) (Token.Operator op ∷ signed_spelling s) (term_marks t d) (node ∷ signed_marks s d) f)))

    good-signed : (s : Signed) (d : ℕ) → SignedFits true s → d ≤ MAX_LEVELS → Fine (signed_spelling s) (signed_marks s d) → Good own SIGN_LEVEL (signed_meaning own s) d (signed_marks s d)
    good-signed (plain p) d fit h f = good_weaker own SIGN_LEVEL (primary_meaning own p) d (primary_marks p d) (good-primary p d fit h f)
    good-signed (signed sign s) d fit h f =
        good_sign own sign (signed_meaning own s) d (signed_marks s (suc d)) _ refl (good-signed s (suc d) fit f.low.0 (fine_tail (Token.Operator (sign_op sign)) (signed_spelling s) _ (signed_marks s (suc d)) f))

    good-primary : (p : Primary) (d : ℕ) → PrimaryFits true p → d ≤ MAX_LEVELS → Fine (primary_spelling p) (primary_marks p d) → Good own OPERAND_LEVEL (primary_meaning own p) d (primary_marks p d)
    good-primary (literal l) d fit h f = good_literal own l d f.known.0 h
    good-primary (reference x) d fit h f = record { shape = target_resolves own x (target_marks x) f; counts = sym (target_counts x); flat = omega (arith, h) }
    good-primary (group e) d fit h f =
        good_group own (meaning own e) d (marks e (suc d)) _ refl
        (good-expression e (suc d) fit f.low.0 (fine_front (spelling e) (Token.RightParen ∷ []) (marks e (suc d)) (quiet ∷ []) (fine_tail Token.LeftParen (spelling e ++ Token.RightParen ∷ []) _ (marks e (suc d) ++ quiet ∷ []) f)))
    good-primary (call_none (Some g)) d fit h f = let low : suc d ≤ MAX_LEVELS = f.low.1.0 in record { shape = fit; counts = refl; flat = omega (arith, low) }
    good-primary (call_none None) d fit h f = absurd (not_unknown f.known.0)
    good-primary (call (Some g) xs) d fit h f =
        good_call own g (arguments_meaning own xs) d (arguments_marks xs (suc d)) _ refl
        (good-arguments xs g 0 (suc d) (first_argument g) fit f.low.1.0
        (fine_front (arguments_spelling xs) (Token.RightParen ∷ []) (arguments_marks xs (suc d)) (quiet ∷ [])
        (fine_tail Token.LeftParen (arguments_spelling xs ++ Token.RightParen ∷ []) _ (arguments_marks xs (suc d) ++ quiet ∷ []) (fine_tail (Token.Function (Some g)) (Token.LeftParen ∷ (arguments_spelling xs ++ Token.RightParen ∷ [])) node _ f))))
    good-primary (call None xs) d fit h f = absurd (not_unknown f.known.0)

    good-arguments : (xs : Arguments) (g : Fun) (n d : ℕ) → IsTrue (takes_more g n) → ArgumentsFit true (Some g) n xs → d ≤ MAX_LEVELS → Fine (arguments_spelling xs) (arguments_marks xs d) → GoodArguments own g n (arguments_meaning own xs) d (arguments_marks xs d)
    good-arguments (last x) g n d t fit h f =
        let a = good-argument x (kind_of g n) d fit.0 fit.1 h f in
        let c = a.counts in
        let l = a.flat in
        record { shape = (t, a.shape, fit.2); counts = omega (arith, c); flat = omega (arith, l) }
    good-arguments (more x xs) g n d t fit h f =
        let a = good-argument x (kind_of g n) d fit.0 fit.1 h (fine_front (argument_spelling x) (Token.Comma ∷ arguments_spelling xs) (argument_marks x d) (quiet ∷ arguments_marks xs d) f) in
        let b =
        good-arguments xs g (suc n) d fit.2 fit.3 h
        (fine_tail Token.Comma (arguments_spelling xs) quiet (arguments_marks xs d) (fine_back (argument_spelling x) (Token.Comma ∷ arguments_spelling xs) (argument_marks x d) (quiet ∷ arguments_marks xs d) f))
        in
        let total = total-append (argument_marks x d) (quiet ∷ arguments_marks xs d) in
        let c = a.counts in
        let l = a.flat in
        let c' = b.counts in
        let l' = b.flat in
        record { shape = (t, a.shape, b.shape); counts = omega (arith, total, c, c'); flat = omega (arith, l, l') }

    good-argument : (x : Argument) (k : Kind) (d : ℕ) → IsOfKind k x → ArgumentFits true x → d ≤ MAX_LEVELS → Fine (argument_spelling x) (argument_marks x d) → GoodArgument own k (argument_meaning own x) d (argument_marks x d)
    good-argument (value e) Plain d kind fit h f = good_value own (meaning own e) d (marks e d) (good-expression e d fit h f)
    good-argument (value e) Many d kind fit h f = good_many own (meaning own e) d (marks e d) (good-expression e d fit h f)
    good-argument (value e) Place d kind fit h f = absurd kind
    good-argument (value e) Exact d kind fit h f = absurd kind
    good-argument (cell x) Place d kind fit h f = record { shape = target_resolves own x (target_marks x) f; counts = sym (target_counts x); flat = omega (arith, h) }
    good-argument (cell x) Plain d kind fit h f = absurd kind
    good-argument (cell x) Many d kind fit h f = absurd kind
    good-argument (cell x) Exact d kind fit h f = absurd kind
    good-argument (area x w) Place d kind fit h f = record { shape = target_range own x w f; counts = sym (area_counts x w d); flat = omega (arith, h) }
    good-argument (area x w) Many d kind fit h f = record { shape = target_range own x w f; counts = sym (area_counts x w d); flat = omega (arith, h) }
    good-argument (area x w) Plain d kind fit h f = absurd kind
    good-argument (area x w) Exact d kind fit h f = absurd kind
    good-argument (lone l) Plain d kind fit h f = cc
    good-argument (lone l) Many d kind fit h f = cc
    good-argument (lone l) Place d kind fit h f = good_lone own Place l d (error_place own l kind) f.known.0 h
    good-argument (lone l) Exact d kind fit h f = good_lone own Exact l d (exact_literal l kind) f.known.0 h

  -- what is read is sound
  pub reads_sound : (ts : List Token) (x : Expr) → Reads own ts x → IsSound own x
  reads_sound ts x r =
      let e = r.expression in
      let fine : Fine (spelling e) (marks e 0) = record {
        known = subst (AllByRecursion (λ t. own_fault t ≡ None)) (sym r.spelled) r.known;
        inside = subst (AllByRecursion (λ t. named_fault t ≡ None)) (sym r.spelled) r.inside;
        low = r.low;
        small = r.small;
      } in
      let g = good-expression e 0 r.fits (omega arith) fine in
      let i = at_least_inner COMPARISON_LEVEL (meaning own e) (levels (meaning own e)) in
      let f = g.flat in
      let c = g.counts in
      let few = r.few in
      subst (IsSound own) r.means (record { shape = g.shape; small = omega (arith, c, few); flat = omega (arith, i, f) })
