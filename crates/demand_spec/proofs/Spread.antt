-- The cells that an edit leaves pending, as a list.
use Rattle.std.proofs.Common.{◌≡◌, ℕ, zero, suc, ◌≤◌, Bool, true, false, cond, ◌||◌, ◌⊎◌, inl, inr, ⊎_elim, List, [], ◌∷◌, length, Option, Some, None, refl, sym, ap, ◌∙◌, subst, arith}
use Rattle.std.specs.List.{list_any, filter}
use Rattle.std.proofs.lemmas.Bool.{cases_Bool, or_cases, or_left, or_right}
use Rattle.cell_values.specs.declared.address.Addr.{Addr}
use Rattle.cell_values.specs.Addresses.{same_addr, IsBefore}
use Rattle.formula_trees.specs.Expr.{Expr}
use Rattle.cell_values.specs.Order.{IsBeforeAll, InOrder, addresses, entry_at}
use Rattle.cell_values.proofs.Order.{same_addr-refl, same_addr-true, never_before}
use Rattle.demand_spec.specs.Book.{Book, Content, formula_of, formula_at, with_formula, formulas_in, formulas}
use Rattle.demand_spec.specs.Laws.{In, Distinct, Mentions, Reached, start, step, Pending, Set, OfSet}
use Rattle.demand_spec.specs.Edits.{named_by, mentioned, reached_in, pending_after, PendingListed, PendingListIsClosed, AllStayPending}
use Rattle.demand_spec.proofs.Rounds.{in_formulas}
use Rattle.demand_spec.proofs.Cycles.{in_or_not, no_more}
use Rattle.demand_spec.proofs.OneList.{before_member}
use Rattle.demand_spec.proofs.Local.{of_set_or_not, pending_closed}
use Rattle.demand_spec.proofs.Members.{member_found, found_member}

-- a cell that passes a test, among the members of a list

pub any_member : (p : Set) (xs : List Addr) (x : Addr) → In x xs → p x ≡ true → list_any p xs ≡ true
any_member p [] x h e = absurd h
any_member p (y ∷ xs) x (inl q) e = or_left (p y) (list_any p xs) (subst (λ z. p z ≡ true) q e)
any_member p (y ∷ xs) x (inr h) e = or_right (p y) (list_any p xs) (any_member p xs x h e)

pub member_of_any : (p : Set) (xs : List Addr) → list_any p xs ≡ true → (x : Addr) × In x xs × (p x ≡ true)
member_of_any p [] e = cc
member_of_any p (x ∷ xs) e = ⊎_elim (λ (k : p x ≡ true). (x, inl refl, k)) (λ (k : list_any p xs ≡ true). let m = member_of_any p xs k in (m.0, inr m.1, m.2)) (or_cases (p x) (list_any p xs) e)

-- what a formula mentions

named_mentions : (b : Book) (c a : Addr) → In a (mentioned b c) → Mentions b c a
unfolding mentioned
named_mentions b c a h = go (formula_at b c) refl h
  where
    go : (o : Option Expr) → formula_at b c ≡ o → In a (named_by c o) → Mentions b c a
    go (Some t) e k = record { tree = t; is_formula = e; named = k }
    go None e k = absurd k

mentions_named : (b : Book) (c a : Addr) → Mentions b c a → In a (mentioned b c)
unfolding mentioned
mentions_named b c a m = subst (λ o. In a (named_by c o)) (sym m.is_formula) m.named

-- what is reached within some steps is reached

reached_within : (b : Book) (A : Set) (k : ℕ) (c : Addr) → reached_in b A k c ≡ true → Reached b (OfSet A) c
unfolding reached_in
reached_within b A zero c h = start c h
reached_within b A (suc k) c h =
    ⊎_elim (λ (e : reached_in b A k c ≡ true). reached_within b A k c e)
    (λ (e : list_any (reached_in b A k) (mentioned b c) ≡ true).
    let m = member_of_any (reached_in b A k) (mentioned b c) e in
    step m.0 c (reached_within b A k m.0 m.2) (named_mentions b c m.0 m.1))
    (or_cases (reached_in b A k c) (list_any (reached_in b A k) (mentioned b c)) h)

reached_longer : (b : Book) (A : Set) (k n : ℕ) (c : Addr) → k ≤ n → reached_in b A k c ≡ true → reached_in b A n c ≡ true
unfolding reached_in
reached_longer b A k zero c l h = (let same : k ≡ 0 = omega arith in subst (λ z. reached_in b A z c ≡ true) same h)
reached_longer b A k (suc n) c l h =
    ⊎_elim (λ (e : k ≤ n). or_left (reached_in b A n c) (list_any (reached_in b A n) (mentioned b c)) (reached_longer b A k n c e h))
    (λ (e : k ≡ suc n). subst (λ z. reached_in b A z c ≡ true) e h)
    (cases k n l)
  where
    cases : (k n : ℕ) → k ≤ suc n → (k ≤ n) ⊎ (k ≡ suc n)
    cases k n l = grind arith

-- a way from a cell of the set, the last cell first

abbrev Way : Book → Set → List Addr → Addr → Type 0
Way b A [] c = A c ≡ true
Way b A (x ∷ rest) c = (c ≡ x) × (y : Addr) × Mentions b x y × Way b A rest y

way_of : (b : Book) (A : Set) (c : Addr) → Reached b (OfSet A) c → (xs : List Addr) × Way b A xs c
way_of b A c (start c' h) = ([], h)
way_of b A c (step a c' r m) = (let w = way_of b A a r in (c ∷ w.0, (refl, a, m, w.1)))

way_reached : (b : Book) (A : Set) (xs : List Addr) (c : Addr) → Way b A xs c → reached_in b A (length xs) c ≡ true
unfolding reached_in
way_reached b A [] c h = h
way_reached b A (x ∷ rest) c (e, y, m, w) =
    or_right (reached_in b A (length rest) c) (list_any (reached_in b A (length rest)) (mentioned b c))
    (any_member (reached_in b A (length rest)) (mentioned b c) y (mentions_named b c y (subst (λ z. Mentions b z y) (sym e) m)) (way_reached b A rest y w))

-- a way without a cell twice

record SimpleWay (b : Book) (A : Set) (c : Addr) : Type 0 where
  cells : List Addr
  way : Way b A cells c
  apart : Distinct cells

from_there : (b : Book) (A : Set) (x : Addr) (xs : List Addr) (y : Addr) → In x xs → Way b A xs y → Distinct xs → SimpleWay b A x
from_there b A x [] y k w d = absurd k
from_there b A x (z ∷ xs) y (inl e) w d = record { cells = z ∷ xs; way = (e, w.1, w.2, w.3); apart = d }
from_there b A x (z ∷ xs) y (inr k) w d = from_there b A x xs w.1 k w.3 d.1

simple_way : (b : Book) (A : Set) (xs : List Addr) (c : Addr) → Way b A xs c → SimpleWay b A c
simple_way b A [] c h = record { cells = []; way = h; apart = tt }
simple_way b A (x ∷ rest) c (e, y, m, w) =
    let s = simple_way b A rest y w in
    ⊎_elim (λ (k : In c s.cells). from_there b A c s.cells y k s.way s.apart)
    (λ (n : In c s.cells → ⊥). record { cells = c ∷ s.cells; way = (refl, y, subst (λ z. Mentions b z y) (sym e) m, s.way); apart = (n, s.apart) })
    (in_or_not c s.cells)

way_formulas : (b : Book) (A : Set) (xs : List Addr) (c : Addr) → Way b A xs c → (x : Addr) → In x xs → In x (formulas b)
way_formulas b A [] c w x k = absurd k
way_formulas b A (z ∷ xs) c (e, y, m, w) x (inl q) = subst (λ a. In a (formulas b)) (sym q) (in_formulas b z m.tree m.is_formula)
way_formulas b A (z ∷ xs) c (e, y, m, w) x (inr k) = way_formulas b A xs y w x k

reached_found : (b : Book) (A : Set) (c : Addr) → Reached b (OfSet A) c → reached_in b A (length (formulas b)) c ≡ true
reached_found b A c r =
    let w = way_of b A c r in
    let s = simple_way b A w.0 c w.1 in
    reached_longer b A (length s.cells) (length (formulas b)) c (no_more s.cells (formulas b) s.apart (way_formulas b A s.cells c s.way)) (way_reached b A s.cells c s.way)

-- filters

pub in_filter : (p : Set) (xs : List Addr) (c : Addr) → In c xs → p c ≡ true → In c (filter p xs)
in_filter p [] c k e = absurd k
in_filter p (x ∷ xs) c k e = go (p x) refl k (λ m. in_filter p xs c m e)
  where
    go : (q : Bool) → p x ≡ q → In c (x ∷ xs) → (In c xs → In c (filter p xs)) → In c (cond q (x ∷ filter p xs) (filter p xs))
    go true f (inl m) later = inl m
    go true f (inr m) later = inr (later m)
    go false f (inl m) later = (let g : p c ≡ false = ap p m ∙ f in cc)
    go false f (inr m) later = later m

pub filter_in : (p : Set) (xs : List Addr) (c : Addr) → In c (filter p xs) → In c xs × (p c ≡ true)
filter_in p [] c k = absurd k
filter_in p (x ∷ xs) c k = go (p x) refl k (filter_in p xs c)
  where
    go : (q : Bool) → p x ≡ q → In c (cond q (x ∷ filter p xs) (filter p xs)) → (In c (filter p xs) → In c xs × (p c ≡ true)) → In c (x ∷ xs) × (p c ≡ true)
    go true f (inl m) later = (inl m, ap p m ∙ f)
    go true f (inr m) later = (let l = later m in (inr l.0, l.1))
    go false f m later = (let l = later m in (inr l.0, l.1))

filter_before : (p : Set) (a : Addr) (xs : List Addr) → IsBeforeAll a xs → IsBeforeAll a (filter p xs)
filter_before p a [] h = tt
filter_before p a (x ∷ xs) h = go (p x) (filter_before p a xs h.1)
  where
    go : (q : Bool) → IsBeforeAll a (filter p xs) → IsBeforeAll a (cond q (x ∷ filter p xs) (filter p xs))
    go true k = (h.0, k)
    go false k = k

pub filter_order : (p : Set) (xs : List Addr) → InOrder xs → InOrder (filter p xs)
filter_order p [] h = tt
filter_order p (x ∷ xs) h = go (p x) (filter_order p xs h.1)
  where
    go : (q : Bool) → InOrder (filter p xs) → InOrder (cond q (x ∷ filter p xs) (filter p xs))
    go true k = (filter_before p x xs h.0, k)
    go false k = k

-- the formula cells of a book in order

formulas_before : (a : Addr) (cs : List (Addr × Content)) → IsBeforeAll a (addresses cs) → IsBeforeAll a (formulas_in cs)
formulas_before a [] h = tt
formulas_before a (c ∷ cs) h = go c.1 (formulas_before a cs h.1)
  where
    go : (d : Content) → IsBeforeAll a (formulas_in cs) → IsBeforeAll a (with_formula c.0 d (formulas_in cs))
    go (Content.Formula t) k = (h.0, k)
    go (Content.Number n) k = k
    go (Content.Text n) k = k
    go (Content.Truth n) k = k

order_of_formulas : (cs : List (Addr × Content)) → InOrder (addresses cs) → InOrder (formulas_in cs)
order_of_formulas [] h = tt
order_of_formulas (c ∷ cs) h = go c.1 (order_of_formulas cs h.1)
  where
    go : (d : Content) → InOrder (formulas_in cs) → InOrder (with_formula c.0 d (formulas_in cs))
    go (Content.Formula t) k = (formulas_before c.0 cs h.0, k)
    go (Content.Number n) k = k
    go (Content.Text n) k = k
    go (Content.Truth n) k = k

pub formulas_order : (b : Book) → InOrder (addresses b.cells) → InOrder (formulas b)
unfolding formulas
formulas_order b h = order_of_formulas b.cells h

formula_listed : (cs : List (Addr × Content)) → InOrder (addresses cs) → (a : Addr) → In a (formulas_in cs) → (t : Expr) × (formula_of (entry_at cs a) ≡ Some t)
formula_listed [] h a k = absurd k
formula_listed (c ∷ cs) h a k = by_content c.1 refl k (λ m. later (same_addr a c.0) refl m (formula_listed cs h.1 a m))
  where
    -- the first cell is no later one
    later : (q : Bool) → same_addr a c.0 ≡ q → In a (formulas_in cs) → (t : Expr) × (formula_of (entry_at cs a) ≡ Some t) → (t : Expr) × (formula_of (cond q (Some c.1) (entry_at cs a)) ≡ Some t)
    later true e m l = absurd (never_before c.0 (subst (IsBefore c.0) (same_addr-true a c.0 e) (before_member c.0 (formulas_in cs) a (formulas_before c.0 cs h.0) m)))
    later false e m l = l

    by_content : (d : Content) → c.1 ≡ d → In a (with_formula c.0 d (formulas_in cs)) → (In a (formulas_in cs) → (t : Expr) × (formula_of (entry_at (c ∷ cs) a) ≡ Some t)) → (t : Expr) × (formula_of (entry_at (c ∷ cs) a) ≡ Some t)
    by_content (Content.Formula t) e (inl m) f = (t, ap (λ q. formula_of (cond q (Some c.1) (entry_at cs a))) (ap (same_addr a) (sym m) ∙ same_addr-refl a) ∙ ap (λ z. formula_of (Some z)) e)
    by_content (Content.Formula t) e (inr m) f = f m
    by_content (Content.Number n) e m f = f m
    by_content (Content.Text n) e m f = f m
    by_content (Content.Truth n) e m f = f m

-- each cell of the list has a formula
pub formulas_hold : (b : Book) → InOrder (addresses b.cells) → (a : Addr) → In a (formulas b) → (t : Expr) × (formula_at b a ≡ Some t)
unfolding formulas formula_at
formulas_hold b h a k = formula_listed b.cells h a k

pub pending_listed : PendingListed
unfolding pending_after
pending_listed b P A h = (λ c. (to c, from c), filter_order (kept P) (formulas b) (formulas_order b h))
  where
    kept : List Addr → Set
    kept Q c = list_any (same_addr c) Q || reached_in b A (length (formulas b)) c

    to : (c : Addr) → In c (filter (kept P) (formulas b)) → Pending b (λ a. In a P) (OfSet A) c
    to c k =
        let m = filter_in (kept P) (formulas b) c k in
        (formulas_hold b h c m.0, ⊎_elim (λ (e : list_any (same_addr c) P ≡ true). inl (found_member c P e)) (λ (e : reached_in b A (length (formulas b)) c ≡ true). inr (reached_within b A (length (formulas b)) c e)) (or_cases (list_any (same_addr c) P) (reached_in b A (length (formulas b)) c) m.1))

    from : (c : Addr) → Pending b (λ a. In a P) (OfSet A) c → In c (filter (kept P) (formulas b))
    from c k = in_filter (kept P) (formulas b) c (in_formulas b c k.0.0 k.0.1)
        (⊎_elim (λ (m : In c P). or_left (list_any (same_addr c) P) (reached_in b A (length (formulas b)) c) (member_found c P m))
        (λ (r : Reached b (OfSet A) c). or_right (list_any (same_addr c) P) (reached_in b A (length (formulas b)) c) (reached_found b A c r)) k.1)

pub pending_list_is_closed : PendingListIsClosed
pending_list_is_closed b b' P A = pending_closed b b' (λ a. In a P) (OfSet A) (of_set_or_not A)

filter_all : (p : Set) (xs : List Addr) → ((x : Addr) → In x xs → p x ≡ true) → filter p xs ≡ xs
filter_all p [] h = refl
filter_all p (x ∷ xs) h = ap (λ q. cond q (x ∷ filter p xs) (filter p xs)) (h x (inl refl)) ∙ ap (λ z. x ∷ z) (filter_all p xs (λ y k. h y (inr k)))

pub all_stay_pending : AllStayPending
unfolding pending_after reached_in
all_stay_pending b b' A o s = filter_all kept (formulas b') (λ c k. let f = formulas_hold b' o c k in ⊎_elim (inside c) (outside c f.0 f.1) (cases_Bool (A c)))
  where
    kept : Set
    kept c = list_any (same_addr c) (formulas b) || reached_in b' A (length (formulas b')) c

    inside : (c : Addr) → A c ≡ true → kept c ≡ true
    inside c e = or_right (list_any (same_addr c) (formulas b)) (reached_in b' A (length (formulas b')) c) (reached_longer b' A 0 (length (formulas b')) c (omega arith) e)

    outside : (c : Addr) (t : Expr) → formula_at b' c ≡ Some t → A c ≡ false → kept c ≡ true
    outside c t f e = or_left (list_any (same_addr c) (formulas b)) (reached_in b' A (length (formulas b')) c) (member_found c (formulas b) (in_formulas b c t (s.formula c (λ (k : A c ≡ true). cc) ∙ f)))
