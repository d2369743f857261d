-- What walks find.
use Rattle.std.proofs.Common.{◌≡◌, ℕ, ◌+◌, ◌≤◌, zero, suc, Bool, true, false, cond, ◌⊎◌, inl, inr, ℤ, pos, ◌+ℤ◌, ◌≤ℤ◌, Some, None, Result, Ok, Err, MatchOption, List, [], ◌∷◌, ◌++◌, take, length, fold, All, Contains, refl, sym, ap, ◌∙◌, arith}
use Rattle.std.proofs.lemmas.Bool.Decides.{nat_tests}
use Rattle.std.proofs.lemmas.Int.{ints, fold-int_min_bounds, fold-int_min_reached, fold-int_max_bounds, fold-int_max_reached}
use Rattle.cell_values.specs.declared.values.Code.{Code}
use Rattle.cell_values.specs.declared.values.Value.{Value}
use Rattle.cell_values.specs.Numbers.{fits}
use Rattle.builtin_functions.specs.declared.folds.FoldKind.{FoldKind}
use Rattle.builtin_functions.specs.Folds.{Total, so_far, lesser, greater, best, counted, stops, taken, taken_all, and_then_take, walk_value, fold_value}
use Rattle.builtin_functions.specs.Laws.{and_its_number, numbers_in, numbers, sum_of, IsLeast, IsGreatest, WalkFinds}

pub walks_join : (k : FoldKind) (t : Total) (xs ys : List (Value × Bool))
    → taken_all k t (xs ++ ys) ≡ and_then_take (taken_all k t xs) (λ u. taken_all k u ys)
walks_join k t [] ys = refl
walks_join k t (v ∷ xs) ys = joined (taken k t v.1 v.0) (λ u. walks_join k u xs ys)
  where
    joined : (r : Result Total Code)
        → ((u : Total) → taken_all k u (xs ++ ys) ≡ and_then_take (taken_all k u xs) (λ w. taken_all k w ys))
        → and_then_take r (λ u. taken_all k u (xs ++ ys)) ≡ and_then_take (and_then_take r (λ u. taken_all k u xs)) (λ w. taken_all k w ys)
    joined (Ok u) h = h u
    joined (Err e) h = refl

-- a fact over a walk that comes to its end is one over the Numbers that it counts
through : (k : FoldKind) (R : Total → List ℤ → Total → Type 0)
    → ((t : Total) → R t [] t)
    → ((t u w : Total) (n : ℤ) (ns : List ℤ) → counted k t n ≡ Ok u → R u ns w → R t (n ∷ ns) w)
    → (t w : Total) (vs : List (Value × Bool)) → taken_all k t vs ≡ Ok w → R t (numbers_in vs) w
through k R none more t w [] e = ended t w (none t) (cc)
  where
    ended : (t w : Total) → R t [] t → t ≡ w → R t [] w
    ended t w h e = rw (← e) h
through k R none more t w (v ∷ rest) e = step v.0 v.1 (λ u. through k R none more u w rest) e
  where
    numbered : (n : ℤ) → ((u : Total) → taken_all k u rest ≡ Ok w → R u (numbers_in rest) w)
        → (r : Result Total Code) → counted k t n ≡ r → and_then_take r (λ u. taken_all k u rest) ≡ Ok w
        → R t (n ∷ numbers_in rest) w
    numbered n h (Ok u) q e = more t u w n (numbers_in rest) q (h u e)
    numbered n h (Err c) q e = absurd (cc)

    passed : (k : FoldKind) (f : Total → Result Total Code) → and_then_take (stops k t) f ≡ Ok w → f t ≡ Ok w
    passed FoldKind.Count f e = e
    passed FoldKind.Sum f e = absurd (cc)
    passed FoldKind.Min f e = absurd (cc)
    passed FoldKind.Max f e = absurd (cc)

    step : (v : Value) (in_range : Bool) → ((u : Total) → taken_all k u rest ≡ Ok w → R u (numbers_in rest) w)
        → and_then_take (taken k t in_range v) (λ u. taken_all k u rest) ≡ Ok w
        → R t (and_its_number v (numbers_in rest)) w
    step (Value.Number n) in_range h e = numbered n h (counted k t n) refl e
    step Value.Blank in_range h e = h t e
    step (Value.Error c) in_range h e = absurd (cc)
    step (Value.Text s) true h e = h t e
    step (Value.Text s) false h e = h t (passed k (λ u. taken_all k u rest) e)
    step (Value.Short s) true h e = h t e
    step (Value.Short s) false h e = h t (passed k (λ u. taken_all k u rest) e)
    step (Value.Bool b) true h e = h t e
    step (Value.Bool b) false h e = h t (passed k (λ u. taken_all k u rest) e)

-- SUM

summed : (t u : Total) (n : ℤ) → counted FoldKind.Sum t n ≡ Ok u → so_far u ≡ so_far t +ℤ n
summed t u n e = fitting (fits (so_far t +ℤ n)) e
  where
    fitting : (b : Bool) → cond b (Ok (Some (so_far t +ℤ n))) (Err Code.Num) ≡ Ok u → so_far u ≡ so_far t +ℤ n
    fitting true e = ap so_far (let q : u ≡ Some (so_far t +ℤ n) = cc in q)
    fitting false e = absurd (cc)

pub sum_found : (t u : Total) (vs : List (Value × Bool)) → taken_all FoldKind.Sum t vs ≡ Ok u → so_far u ≡ so_far t +ℤ sum_of (numbers_in vs)
sum_found = through FoldKind.Sum (λ t ns u. so_far u ≡ so_far t +ℤ sum_of ns) (λ t. none (so_far t)) (λ t u w n ns e h. more (so_far t) (so_far u) (so_far w) n (sum_of ns) (summed t u n e) h)
  where
    none : (a : ℤ) → a ≡ a +ℤ pos 0
    none a = omega (arith, ints)

    more : (a b c n m : ℤ) → b ≡ a +ℤ n → c ≡ b +ℤ m → c ≡ a +ℤ (n +ℤ m)
    more a b c n m p q = omega (arith, ints)

sum_of-append : (ms ns : List ℤ) → sum_of (ms ++ ns) ≡ sum_of ms +ℤ sum_of ns
sum_of-append [] ns = none (sum_of ns)
  where
    none : (a : ℤ) → a ≡ pos 0 +ℤ a
    none a = omega (arith, ints)
sum_of-append (m ∷ ms) ns = more m (sum_of ms) (sum_of ns) (sum_of (ms ++ ns)) (sum_of-append ms ns)
  where
    more : (m a b c : ℤ) → c ≡ a +ℤ b → m +ℤ c ≡ (m +ℤ a) +ℤ b
    more m a b c e = omega (arith, ints)

numbers_in-append : (xs ys : List (Value × Bool)) → numbers_in (xs ++ ys) ≡ numbers_in xs ++ numbers_in ys
numbers_in-append [] ys = refl
numbers_in-append (v ∷ xs) ys = one v.0 (numbers_in-append xs ys)
  where
    one : (v : Value) → numbers_in (xs ++ ys) ≡ numbers_in xs ++ numbers_in ys
        → and_its_number v (numbers_in (xs ++ ys)) ≡ and_its_number v (numbers_in xs) ++ numbers_in ys
    one (Value.Number n) e = ap (λ ns. n ∷ ns) e
    one Value.Blank e = e
    one (Value.Text s) e = e
    one (Value.Short s) e = e
    one (Value.Bool b) e = e
    one (Value.Error c) e = e

pub sums_add : (xs ys : List (Value × Bool)) (t u v : Total)
    → taken_all FoldKind.Sum None xs ≡ Ok t
    → taken_all FoldKind.Sum None ys ≡ Ok u
    → taken_all FoldKind.Sum None (xs ++ ys) ≡ Ok v
    → so_far v ≡ so_far t +ℤ so_far u
sums_add xs ys t u v p q r =
    add (so_far t) (so_far u) (so_far v) (sum_of (numbers_in xs)) (sum_of (numbers_in ys)) (sum_found None t xs p) (sum_found None u ys q)
    (sum_found None v (xs ++ ys) r ∙ ap (λ ns. pos 0 +ℤ sum_of ns) (numbers_in-append xs ys) ∙ ap (λ n. pos 0 +ℤ n) (sum_of-append (numbers_in xs) (numbers_in ys)))
  where
    add : (a b c m n : ℤ) → a ≡ pos 0 +ℤ m → b ≡ pos 0 +ℤ n → c ≡ pos 0 +ℤ (m +ℤ n) → c ≡ a +ℤ b
    add a b c m n p q r = omega (arith, ints)

pub walk_sums : (in_range : Bool) (t : Total) (ns : List ℤ) → ((k : ℕ) → fits (so_far t +ℤ sum_of (take k ns)) ≡ true)
    → walk_value (taken_all FoldKind.Sum t (numbers in_range ns)) ≡ Value.Number (so_far t +ℤ sum_of ns)
walk_sums in_range t [] h = ap Value.Number (none (so_far t))
  where
    none : (a : ℤ) → a ≡ a +ℤ pos 0
    none a = omega (arith, ints)
walk_sums in_range t (n ∷ ns) h =
    ap (λ b. walk_value (and_then_take (cond b (Ok (Some (so_far t +ℤ n))) (Err Code.Num)) (λ u. taken_all FoldKind.Sum u (numbers in_range ns)))) first
    ∙ walk_sums in_range (Some (so_far t +ℤ n)) ns (λ k. ap fits (regroup (so_far t) n (sum_of (take k ns))) ∙ h (suc k))
    ∙ ap Value.Number (regroup (so_far t) n (sum_of ns))
  where
    regroup : (a n m : ℤ) → (a +ℤ n) +ℤ m ≡ a +ℤ (n +ℤ m)
    regroup a n m = omega (arith, ints)

    alone : (a n : ℤ) → a +ℤ n ≡ a +ℤ (n +ℤ pos 0)
    alone a n = omega (arith, ints)

    first : fits (so_far t +ℤ n) ≡ true
    first = ap fits (alone (so_far t) n) ∙ h 1

pub sum_is_sum : (in_range : Bool) (ns : List ℤ) → ((k : ℕ) → fits (sum_of (take k ns)) ≡ true)
    → fold_value FoldKind.Sum (numbers in_range ns) ≡ Value.Number (sum_of ns)
sum_is_sum in_range ns h = walk_sums in_range None ns (λ k. ap fits (none (sum_of (take k ns))) ∙ h k) ∙ ap Value.Number (none (sum_of ns))
  where
    none : (a : ℤ) → pos 0 +ℤ a ≡ a
    none a = omega (arith, ints)

-- MIN and MAX

-- the best of the number so far and these
best_of : (ℤ → ℤ → ℤ) → Total → List ℤ → Total
best_of choose (Some x) ns = Some (fold choose x ns)
best_of choose None [] = None
best_of choose None (n ∷ ns) = Some (fold choose n ns)

best_none : (choose : ℤ → ℤ → ℤ) (t : Total) → t ≡ best_of choose t []
unfolding best_of
best_none choose (Some x) = refl
best_none choose None = refl

best_more : (choose : ℤ → ℤ → ℤ) (t w : Total) (n : ℤ) (ns : List ℤ) → w ≡ best_of choose (best choose t n) ns → w ≡ best_of choose t (n ∷ ns)
unfolding best_of
best_more choose (Some x) w n ns h = h
best_more choose None w n ns h = h

least_found : (t w : Total) (vs : List (Value × Bool)) → taken_all FoldKind.Min t vs ≡ Ok w → w ≡ best_of lesser t (numbers_in vs)
least_found = through FoldKind.Min (λ t ns w. w ≡ best_of lesser t ns) (best_none lesser)
    (λ t u w n ns e h. best_more lesser t w n ns (h ∙ ap (λ s. best_of lesser s ns) (let q : u ≡ best lesser t n = cc in q)))

greatest_found : (t w : Total) (vs : List (Value × Bool)) → taken_all FoldKind.Max t vs ≡ Ok w → w ≡ best_of greater t (numbers_in vs)
greatest_found = through FoldKind.Max (λ t ns w. w ≡ best_of greater t ns) (best_none greater)
    (λ t u w n ns e h. best_more greater t w n ns (h ∙ ap (λ s. best_of greater s ns) (let q : u ≡ best greater t n = cc in q)))

member_more : (a : ℤ) (xs : List ℤ) (r : ℤ) → (r ≡ a) ⊎ Contains xs r → Contains (a ∷ xs) r
member_more a xs r (inl e) = (0, omega arith, sym e)
member_more a xs r (inr (k, h, e)) = (suc k, omega arith, e)

bound_more : (P : ℤ → Type 0) (a : ℤ) (xs : List ℤ) → P a → All P xs → All P (a ∷ xs)
bound_more P a xs p h zero d l = p
bound_more P a xs p h (suc k) d l = h k d (omega arith)

least : (ns : List ℤ) (w : Total) → w ≡ best_of lesser None ns → MatchOption w (ns ≡ []) (IsLeast ns)
unfolding best_of
least [] None e = refl
least [] (Some m) e = absurd (cc)
least (n ∷ ns) None e = absurd (cc)
least (n ∷ ns) (Some m) e =
    let q : m ≡ fold lesser n ns = cc in
    let b = fold-int_min_bounds n ns m q in
    record { member = member_more n ns m (fold-int_min_reached n ns m q); bound = bound_more (λ x. m ≤ℤ x) n ns b.0 b.1 }

greatest : (ns : List ℤ) (w : Total) → w ≡ best_of greater None ns → MatchOption w (ns ≡ []) (IsGreatest ns)
unfolding best_of
greatest [] None e = refl
greatest [] (Some m) e = absurd (cc)
greatest (n ∷ ns) None e = absurd (cc)
greatest (n ∷ ns) (Some m) e =
    let q : m ≡ fold greater n ns = cc in
    let b = fold-int_max_bounds n ns m q in
    record { member = member_more n ns m (fold-int_max_reached n ns m q); bound = bound_more (λ x. x ≤ℤ m) n ns b.0 b.1 }

-- COUNT

fits_below : (i j : ℕ) → i ≤ j → fits (pos j) ≡ true → fits (pos i) ≡ true
fits_below i j h e = grind (arith, nat_tests)

counted_one : (t u : Total) (n : ℤ) (k : ℕ) → counted FoldKind.Count t n ≡ Ok u → so_far t ≡ pos k → fits (pos (suc k)) ≡ true → so_far u ≡ pos (suc k)
counted_one t u n k e q f =
    ap so_far (let r : u ≡ Some (cond (fits (so_far t +ℤ pos 1)) (so_far t +ℤ pos 1) (so_far t)) = cc in r)
    ∙ ap (λ a. cond (fits (a +ℤ pos 1)) (a +ℤ pos 1) a) q
    ∙ ap (λ a. cond (fits a) a (pos k)) (let r : pos k +ℤ pos 1 ≡ pos (suc k) = omega (arith, ints) in r)
    ∙ ap (λ b. cond b (pos (suc k)) (pos k)) f

count_found : (t w : Total) (vs : List (Value × Bool)) → taken_all FoldKind.Count t vs ≡ Ok w
    → (k : ℕ) → so_far t ≡ pos k → fits (pos (k + length (numbers_in vs))) ≡ true → so_far w ≡ pos (k + length (numbers_in vs))
count_found = through FoldKind.Count
    (λ t ns w. (k : ℕ) → so_far t ≡ pos k → fits (pos (k + length ns)) ≡ true → so_far w ≡ pos (k + length ns))
    (λ t k q f. q ∙ ap pos (let e : k ≡ k + 0 = omega arith in e))
    (λ t u w n ns e h k q f.
    let next : suc k + length ns ≡ k + suc (length ns) = omega arith in
    let fitting : fits (pos (suc k)) ≡ true = fits_below (suc k) (k + suc (length ns)) (omega arith) f in
    h (suc k) (counted_one t u n k e q fitting) (ap (λ m. fits (pos m)) next ∙ f) ∙ ap pos next)

pub walk_finds : (vs : List (Value × Bool)) → WalkFinds vs
walk_finds vs = record {
  sum = λ t e. sum_found None t vs e ∙ none (sum_of (numbers_in vs));
  least = λ t e. least (numbers_in vs) t (least_found None t vs e);
  greatest = λ t e. greatest (numbers_in vs) t (greatest_found None t vs e);
  count = λ t e f.
      let whole : 0 + length (numbers_in vs) ≡ length (numbers_in vs) = omega arith in
      count_found None t vs e 0 refl (ap (λ m. fits (pos m)) whole ∙ f) ∙ ap pos whole;
}
  where
    none : (a : ℤ) → pos 0 +ℤ a ≡ a
    none a = omega (arith, ints)
