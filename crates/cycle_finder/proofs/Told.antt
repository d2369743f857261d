-- Results that are found one after the other: values, loops, and cells that lead into one.
use Rattle.std.proofs.Common.{◌≡◌, ℕ, zero, suc, ◌+◌, ◌<◌, ◌≤◌, Bool, true, false, cond, ◌||◌, inl, inr, ◌⊎◌, ⊎_elim, Option, Some, None, List, [], ◌∷◌, ◌++◌, take, get_or, length, refl, sym, ap, ◌∙◌, subst, arith}
use Rattle.std.specs.Prelude.{is_some}
use Rattle.std.specs.BTreeMap as tree
use Rattle.std.specs.BTreeMap.{BTreeMap}
use Rattle.std.proofs.lemmas.Bool.{false_from_ne_true}
use Rattle.std.proofs.lemmas.List.{take_more}
use Rattle.std.proofs.lemmas.List.Folds.{list_any_more}
use Rattle.cell_values.specs.declared.address.Addr.{Addr}
use Rattle.cell_values.specs.declared.values.Shown.{Shown}
use Rattle.cell_values.specs.declared.values.Value.{Value}
use Rattle.cell_values.specs.Addresses.{same_addr, IsBefore}
use Rattle.cell_values.specs.Order.{InOrder, addresses, entry_at}
use Rattle.cell_values.proofs.Order.{cmp, same_cmp, lookup_is, same_addr-true, same_addr-sym}
use Rattle.formula_trees.specs.Expr.{Expr}
use Rattle.demand_spec.specs.declared.Asked.{Asked}
use Rattle.demand_spec.specs.declared.Asked.TheVariants.{Val, Needs}
use Rattle.demand_spec.specs.Book.{Book, Known, formula_at, ask, ask_formula, ask_cell, value_given, finished, need, shown}
use Rattle.demand_spec.specs.Laws.{In, PartOf, Demands, Chain, NeedChain, Distinct, OnLoop, IsLoop}
use Rattle.demand_spec.proofs.Cycles.{values_show, loop_shows, others_lead, loop_period, needs_unfinished}
use Rattle.demand_spec.proofs.Loops.{carried, need_from_demand, stack_closes}
use Rattle.demand_spec.proofs.Members.{member_found, found_member}
use Rattle.demand_spec.proofs.Rounds.{ask_value, finished_again}
use Rattle.demand_spec.proofs.Spread.{in_filter}
use Rattle.demand_spec.proofs.Walks.{in_either}
use Rattle.workbook_core.specs.Books.{lies_after, next_in}
use Rattle.cycle_finder.specs.Loops.{trail, loop_length, loop_from, HoldShown}
use Rattle.cycle_finder.specs.Search.{AreShown, value_of, values_in, has}
use Rattle.cycle_finder.specs.Told.{IsRight, AreRight, IsMark, Marks, AllTold}
use Rattle.cycle_finder.proofs.Around.{period_length, loop_is_trail, back_on, formula_in}
use Rattle.cycle_finder.proofs.Trails.{trail_none, around}
use Rattle.cycle_finder.proofs.Found.{is_next, none_next}
use Rattle.cycle_finder.proofs.Leading.{same_or_behind}

-- results by look-up

pub told_after : (m n : BTreeMap Addr Shown) (cell : Addr) (r : Shown) → tree.Updates cmp m n cell (Some r) → (a : Addr) → entry_at n.entries a ≡ cond (same_addr cell a) (Some r) (entry_at m.entries a)
told_after m n cell r u a = sym (lookup_is n.entries a) ∙ u.0 a ∙ (λ i. cond (same_cmp cell a i) (Some r) (lookup_is m.entries a i))

-- the results are right
pub shown_right : (b : Book) (told : List (Addr × Shown)) → AreRight b told → AreShown b told
shown_right b told h c t r e f = sym (h.right c r f).shows

pub nothing_told : (b : Book) → AreRight b []
nothing_told b = record { right = λ c r e. cc; whole = λ c n e. cc }

-- their values are a part of what is finished
known_part : (b : Book) (told : List (Addr × Shown)) → AreRight b told → PartOf (values_in told) (finished b)
known_part b told h a v e = go (entry_at told a) refl e
  where
    go : (o : Option Shown) → entry_at told a ≡ o → value_of o ≡ Some v → finished b a ≡ Some v
    go None p q = cc
    go (Some (Shown.Cycle n)) p q = cc
    go (Some Shown.ToCycle) p q = cc
    go (Some (Shown.Val w)) p q =
        let i = h.right a (Shown.Val w) p in
        let s : w ≡ v = cc in
        (values_show b a i.tree v i.is_formula).0 (i.shows ∙ ap Shown.Val s)

-- one result more

more_told : (told told' : List (Addr × Shown)) (c : Addr) (r : Shown) → ((a : Addr) → entry_at told' a ≡ cond (same_addr c a) (Some r) (entry_at told a)) → (x : Addr) → is_some (entry_at told x) ≡ true → is_some (entry_at told' x) ≡ true
more_told told told' c r h x k = ap is_some (h x) ∙ go (same_addr c x)
  where
    go : (t : Bool) → is_some (cond t (Some r) (entry_at told x)) ≡ true
    go true = refl
    go false = k

-- it is that of no loop
add_right : (b : Book) (told told' : List (Addr × Shown)) (c : Addr) (r : Shown) → AreRight b told → IsRight b c r → ((n : ℕ) → r ≡ Shown.Cycle n → ⊥) → ((a : Addr) → entry_at told' a ≡ cond (same_addr c a) (Some r) (entry_at told a)) → AreRight b told'
add_right b told told' c r h k never e = record { right = right; whole = whole }
  where
    right : (a : Addr) (s : Shown) → entry_at told' a ≡ Some s → IsRight b a s
    right a s f = go (same_addr c a) refl (sym (e a) ∙ f)
      where
        go : (t : Bool) → same_addr c a ≡ t → cond t (Some r) (entry_at told a) ≡ Some s → IsRight b a s
        go true p q = (let z : r ≡ s = cc in subst (IsRight b a) z (subst (λ y. IsRight b y r) (same_addr-true c a p) k))
        go false p q = h.right a s q

    whole : (a : Addr) (n : ℕ) → entry_at told' a ≡ Some (Shown.Cycle n) → (x : Addr) → In x (loop_from b a) → is_some (entry_at told' x) ≡ true
    whole a n f x m = go (same_addr c a) (sym (e a) ∙ f)
      where
        go : (t : Bool) → cond t (Some r) (entry_at told a) ≡ Some (Shown.Cycle n) → is_some (entry_at told' x) ≡ true
        go true q = absurd (never n (let z : r ≡ Shown.Cycle n = cc in z))
        go false q = more_told told told' c r e x (h.whole a n q x m)

-- what is asked of a formula cell
record AsksOf (b : Book) (e : Known) (c : Addr) (r : Asked) : Type 0 where
  tree : Expr
  is_formula : formula_at b c ≡ Some tree
  gives : ask b e c tree ≡ r

asks_of : (b : Book) (e : Known) (c : Addr) (r : Asked) → ask_cell b e c ≡ Some r → AsksOf b e c r
unfolding ask_cell
asks_of b e c r h = go (formula_at b c) refl h
  where
    go : (o : Option Expr) → formula_at b c ≡ o → ask_formula b e c o ≡ Some r → AsksOf b e c r
    go (Some t) p q = record { tree = t; is_formula = p; gives = cc }
    go None p q = cc

finished_value : (b : Book) (c : Addr) (t : Expr) (v : Value) → formula_at b c ≡ Some t → ask b (finished b) c t ≡ Val v → finished b c ≡ Some v
unfolding ask_cell
finished_value b c t v f h = sym (ap (λ (e : Known). e c) (finished_again b)) ∙ ap (λ o. value_given (ask_formula b (finished b) c o)) f ∙ ap (λ a. value_given (Some a)) h

pub value_right : (b : Book) (told told' : List (Addr × Shown)) (c : Addr) (v : Value) → AreRight b told → ask_cell b (values_in told) c ≡ Some (Val v) → ((a : Addr) → entry_at told' a ≡ cond (same_addr c a) (Some (Shown.Val v)) (entry_at told a)) → AreRight b told'
value_right b told told' c v h q e =
    let a = asks_of b (values_in told) c (Val v) q in
    let f : finished b c ≡ Some v = finished_value b c a.tree v a.is_formula (ask_value b (values_in told) (finished b) c a.tree (known_part b told h) v a.gives) in
    add_right b told told' c (Shown.Val v) h (record { tree = a.tree; is_formula = a.is_formula; shows = (values_show b c a.tree v a.is_formula).1 f }) (λ n p. cc) e

-- a cell that needs one that shows a mark

demand_of : (b : Book) (told : List (Addr × Shown)) → AreRight b told → (c x : Addr) → ask_cell b (values_in told) c ≡ Some (Needs x) → Demands b c x
demand_of b told h c x q =
    let a = asks_of b (values_in told) c (Needs x) q in
    record { tree = a.tree; is_formula = a.is_formula; over = values_in told; part = known_part b told h; needs = a.gives }

mark_unfinished : (b : Book) (x : Addr) (r : Shown) → IsRight b x r → IsMark r → finished b x ≡ None
mark_unfinished b x r i m = go (finished b x) refl
  where
    go : (o : Option Value) → finished b x ≡ o → finished b x ≡ None
    go None e = e
    go (Some v) e = absurd (clash r (sym i.shows ∙ (values_show b x i.tree v i.is_formula).1 e) m)
      where
        clash : (s : Shown) → s ≡ Shown.Val v → IsMark s → ⊥
        clash (Shown.Val w) p k = k
        clash (Shown.Cycle n) p k = cc
        clash Shown.ToCycle p k = cc

off_loop : (b : Book) (told : List (Addr × Shown)) → AreRight b told → (c x : Addr) (r : Shown) → need b c ≡ Some x → entry_at told c ≡ None → entry_at told x ≡ Some r → shown b x ≡ r → IsMark r → OnLoop b c → ⊥
off_loop b told h c x (Shown.Val v) n absent there shows m l = m
off_loop b told h c x Shown.ToCycle n absent there shows m l = ((others_lead b x).0 shows).1 (carried b c x n l)
off_loop b told h c x (Shown.Cycle k) n absent there shows m l =
    let p = loop_period b c l in
    let on : loop_length b c ≡ Some p.0 = period_length b c p.0 p.1 in
    let next : In x (loop_from b c) = subst (In x) (sym (loop_is_trail b c p.0 on)) (around b c p.0 p.1 1 1 x (omega arith) n) in
    let told_too : is_some (entry_at told c) ≡ true = h.whole x k there c (back_on b c p.0 on x next) in
    (let q : false ≡ true = sym (ap is_some absent) ∙ told_too in cc)

pub lead_right : (b : Book) (told told' : List (Addr × Shown)) (c x : Addr) (r : Shown) → AreRight b told → ask_cell b (values_in told) c ≡ Some (Needs x) → entry_at told c ≡ None → entry_at told x ≡ Some r → IsMark r → ((a : Addr) → entry_at told' a ≡ cond (same_addr c a) (Some Shown.ToCycle) (entry_at told a)) → AreRight b told'
lead_right b told told' c x r h q absent there m e =
    let d = demand_of b told h c x q in
    let i = h.right x r there in
    let n : need b c ≡ Some x = need_from_demand b c x d (mark_unfinished b x r i m) in
    add_right b told told' c Shown.ToCycle h (record {
      tree = d.tree;
      is_formula = d.is_formula;
      shows = (others_lead b c).1 (needs_unfinished b c x n, off_loop b told h c x r n absent there i.shows m);
    }) (λ k p. cc) e

-- a loop, cell by cell

first_pushed : (rest : List Addr) (y z : Addr) → get_or rest 0 y ≡ get_or (rest ++ y ∷ []) 0 z
first_pushed [] y z = refl
first_pushed (t ∷ rest) y z = refl

chain_push : (b : Book) (cs : List Addr) (y z : Addr) → Chain b cs y → Demands b y z → Chain b (cs ++ y ∷ []) z
chain_push b [] y z h d = (d, tt)
chain_push b (s ∷ rest) y z h d = (subst (Demands b s) (first_pushed rest y z) h.0, chain_push b rest y z h.1 d)

same_at : (cs : List Addr) (i : ℕ) (d e : Addr) → i < length cs → get_or cs i d ≡ get_or cs i e
same_at [] i d e l = absurd (omega arith)
same_at (c ∷ cs) zero d e l = refl
same_at (c ∷ cs) (suc i) d e l = same_at cs i d e (omega arith)

pub chain_more : (b : Book) (told : List (Addr × Shown)) (ring : List Addr) (i : ℕ) (first d : Addr) → i < length ring → AreRight b told → Chain b (take i ring) (get_or ring i first) → ask_cell b (values_in told) (get_or ring i d) ≡ Some (Needs (get_or ring (i + 1) first)) → Chain b (take (i + 1) ring) (get_or ring (i + 1) first)
chain_more b told ring i first d l h k q =
    let here : Chain b (take i ring) (get_or ring i d) = subst (Chain b (take i ring)) (same_at ring i first d l) k in
    subst (λ z. Chain b z (get_or ring (i + 1) first)) (sym (take_more ring i d l)) (chain_push b (take i ring) (get_or ring i d) (get_or ring (i + 1) first) here (demand_of b told h (get_or ring i d) (get_or ring (i + 1) first) q))

-- its marks

distinct_push : (cs : List Addr) (c : Addr) → Distinct cs → (In c cs → ⊥) → Distinct (cs ++ c ∷ [])
distinct_push [] c d n = (λ k. k, tt)
distinct_push (x ∷ cs) c d n = (λ k. ⊎_elim (λ (m : In x cs). d.0 m) (λ (m : In x (c ∷ [])). ⊎_elim (λ (e : x ≡ c). n (inl (sym e))) (λ (f : ⊥). f) m) (in_either x cs (c ∷ []) k), distinct_push cs c d.1 (λ k. n (inr k)))

pub marks_more : (ring : List Addr) (i : ℕ) (d : Addr) (r : Shown) (told old new : List (Addr × Shown)) → i < length ring → Marks (take i ring) r told old → entry_at old (get_or ring i d) ≡ None → ((a : Addr) → entry_at new a ≡ cond (same_addr (get_or ring i d) a) (Some r) (entry_at old a)) → Marks (take (i + 1) ring) r told new
marks_more ring i d r told old new l h absent e = record {
  apart = subst Distinct (sym (take_more ring i d l)) (distinct_push (take i ring) (get_or ring i d) h.apart fresh);
  lookups = lookups;
}
  where
    fresh : In (get_or ring i d) (take i ring) → ⊥
    fresh k =
        let f : entry_at old (get_or ring i d) ≡ Some r = h.lookups (get_or ring i d) ∙ ap (λ t. cond t (Some r) (entry_at told (get_or ring i d))) (member_found (get_or ring i d) (take i ring) k) in
        (let q : None ≡ Some r = sym absent ∙ f in cc)

    joined : (a : Addr) (s t : Bool) → cond s (Some r) (cond t (Some r) (entry_at told a)) ≡ cond (t || s) (Some r) (entry_at told a)
    joined a true true = refl
    joined a true false = refl
    joined a false true = refl
    joined a false false = refl

    lookups : (a : Addr) → entry_at new a ≡ cond (has a (take (i + 1) ring)) (Some r) (entry_at told a)
    lookups a =
        e a
        ∙ ap (λ z. cond (same_addr (get_or ring i d) a) (Some r) z) (h.lookups a)
        ∙ joined a (same_addr (get_or ring i d) a) (has a (take i ring))
        ∙ ap (λ t. cond t (Some r) (entry_at told a)) (ap (λ t. has a (take i ring) || t) (same_addr-sym (get_or ring i d) a) ∙ sym (list_any_more (same_addr a) ring i d l))

-- a loop is closed under needs

chain_need : (b : Book) (cs : List Addr) (y : Addr) → NeedChain b cs y → (c : Addr) → In c cs → (z : Addr) → need b c ≡ Some z → In z cs ⊎ (z ≡ y)
chain_need b [] y h c k z e = absurd k
chain_need b (s ∷ rest) y h c (inl q) z e =
    let n : Some z ≡ Some (get_or rest 0 y) = sym e ∙ ap (need b) q ∙ h.0 in
    let p : z ≡ get_or rest 0 y = cc in
    next rest p
  where
    next : (xs : List Addr) → z ≡ get_or xs 0 y → In z (s ∷ xs) ⊎ (z ≡ y)
    next [] p = inr p
    next (t ∷ xs) p = inl (inr (inl p))
chain_need b (s ∷ rest) y h c (inr k) z e = ⊎_elim (λ m. inl (inr m)) (λ m. inr m) (chain_need b rest y h.1 c k z e)

trail_within : (b : Book) (xs : List Addr) → ((c z : Addr) → In c xs → need b c ≡ Some z → In z xs) → (n : ℕ) (c : Addr) → In c xs → (x : Addr) → In x (trail b n (Some c)) → In x xs
trail_within b xs closed zero c k x m = absurd m
trail_within b xs closed (suc n) c k x (inl e) = subst (λ z. In z xs) (sym e) k
trail_within b xs closed (suc n) c k x (inr m) = go (need b c) refl m (trail_within b xs closed n)
  where
    go : (o : Option Addr) → need b c ≡ o → In x (trail b n o) → ((y : Addr) → In y xs → (z : Addr) → In z (trail b n (Some y)) → In z xs) → In x xs
    go None e q later = absurd (subst (In x) (trail_none b n) q)
    go (Some y) e q later = later y (closed c y k e) x q

pub ring_right : (b : Book) (s : Addr) (rest : List Addr) (n : ℕ) (told told' : List (Addr × Shown)) → AreRight b told → Chain b (s ∷ rest) s → n ≡ length (s ∷ rest) → Marks (s ∷ rest) (Shown.Cycle n) told told' → AreRight b told'
ring_right b s rest n told told' h chain e m = record { right = right; whole = whole }
  where
    loop : IsLoop b s rest
    loop = stack_closes b [] s rest m.apart chain

    right : (a : Addr) (r : Shown) → entry_at told' a ≡ Some r → IsRight b a r
    right a r f = go (has a (s ∷ rest)) refl (sym (m.lookups a) ∙ f)
      where
        go : (t : Bool) → has a (s ∷ rest) ≡ t → cond t (Some (Shown.Cycle n)) (entry_at told a) ≡ Some r → IsRight b a r
        go true p q =
            let k = found_member a (s ∷ rest) p in
            let u = loop.unfinished a k in
            let z : Shown.Cycle n ≡ r = cc in
            record { tree = u.tree; is_formula = u.is_formula; shows = loop_shows b s rest loop a k ∙ ap Shown.Cycle (sym e) ∙ z }
        go false p q = h.right a r q

    within : (a x : Addr) → In a (s ∷ rest) → In x (loop_from b a) → In x (s ∷ rest)
    within a x k j =
        let on : loop_length b a ≡ Some (length (s ∷ rest)) = period_length b a (length (s ∷ rest)) (loop.period a k) in
        trail_within b (s ∷ rest) (λ c z i f. ⊎_elim (λ q. q) (λ q. inl q) (chain_need b (s ∷ rest) s loop.steps c i z f)) (length (s ∷ rest)) a k x (subst (In x) (loop_is_trail b a (length (s ∷ rest)) on) j)

    whole : (a : Addr) (k : ℕ) → entry_at told' a ≡ Some (Shown.Cycle k) → (x : Addr) → In x (loop_from b a) → is_some (entry_at told' x) ≡ true
    whole a k f x j = go (has a (s ∷ rest)) refl (sym (m.lookups a) ∙ f)
      where
        later : (t : Bool) → is_some (entry_at told x) ≡ true → is_some (cond t (Some (Shown.Cycle n)) (entry_at told x)) ≡ true
        later true q = refl
        later false q = q

        go : (t : Bool) → has a (s ∷ rest) ≡ t → cond t (Some (Shown.Cycle n)) (entry_at told a) ≡ Some (Shown.Cycle k) → is_some (entry_at told' x) ≡ true
        go true p q = ap is_some (m.lookups x) ∙ ap (λ t. is_some (cond t (Some (Shown.Cycle n)) (entry_at told x))) (member_found x (s ∷ rest) (within a x (found_member a (s ∷ rest) p) j))
        go false p q = ap is_some (m.lookups x) ∙ later (has x (s ∷ rest)) (h.whole a k q x j)

pub nonempty_right : (b : Book) (ring : List Addr) (d : Addr) (told told' : List (Addr × Shown)) → AreRight b told → 1 ≤ length ring → Chain b ring (get_or ring 0 d) → Marks ring (Shown.Cycle (length ring)) told told' → AreRight b told'
nonempty_right b [] d told told' h l chain m = absurd (omega arith)
nonempty_right b (s ∷ rest) d told told' h l chain m = ring_right b s rest (length (s ∷ rest)) told told' h chain refl m

-- all cells

pub told_on : (b : Book) → InOrder (addresses b.cells) → (last : Option Addr) (x : Addr) (told : List (Addr × Shown)) → next_in b.cells last ≡ Some x → AllTold b last told → ((t : Expr) → formula_at b x ≡ Some t → is_some (entry_at told x) ≡ true) → AllTold b (Some x) told
told_on b order last x told e h here c k l t f = ⊎_elim
    (λ (q : x ≡ c). subst (λ z. is_some (entry_at told z) ≡ true) q (here t (subst (λ z. formula_at b z ≡ Some t) (sym q) f)))
    (λ (q : IsBefore c x). h c k ((is_next b order last x e).first c k q) t f)
    (same_or_behind x c l)

pub all_told : (b : Book) (last : Option Addr) (told : List (Addr × Shown)) → next_in b.cells last ≡ None → AreRight b told → AllTold b last told → HoldShown b told
all_told b last told e r h c t f = go (entry_at told c) refl (h c there gone t f)
  where
    there : In c (addresses b.cells)
    there = formula_in b c t f

    gone : lies_after last c ≡ false
    gone = false_from_ne_true (lies_after last c) (λ q. subst (In c) (none_next b.cells last e) (in_filter (lies_after last) (addresses b.cells) c (formula_in b c t f) q))

    go : (o : Option Shown) → entry_at told c ≡ o → is_some o ≡ true → entry_at told c ≡ Some (shown b c)
    go None p q = cc
    go (Some s) p q = p ∙ ap Some (sym (r.right c s p).shows)
