-- Searches in lists in order, and two of them as one.
use Rattle.std.proofs.Common.{◌≡◌, ℕ, zero, suc, ◌+◌, ◌<◌, ◌≤◌, Bool, true, false, ◌||◌, not, ◌⊎◌, inl, inr, ⊎_elim, List, [], ◌∷◌, ◌++◌, append_assoc, length, take, drop, drop-cons, get_or, Ordering, Less, Equal, Greater, Result, Ok, Err, is_ok, IfOk, is_some, refl, sym, ap, ◌∙◌, subst, arith}
use Rattle.std.specs.Prelude.{◌↔◌, HoldsAt}
use Rattle.std.specs.List.{filter}
use Rattle.std.specs.List.Sorted.{IsBinarySearchResult, IsNonDecreasingBy, IsSearchInRange}
use Rattle.std.specs.Ordering.{ordering_index}
use Rattle.std.proofs.lemmas.List.{append-nil}
use Rattle.cell_values.specs.declared.address.Addr.{Addr}
use Rattle.cell_values.specs.declared.address.Area.{Area}
use Rattle.cell_values.specs.Addresses.{IsBefore}
use Rattle.cell_values.specs.Areas.{is_inside}
use Rattle.cell_values.specs.Order.{IsBeforeAll, InOrder, entry_at}
use Rattle.cell_values.proofs.Order.{cmp, cmp_less, cmp_equal, cmp_greater, never_before, before_apart, before_trans}
use Rattle.demand_spec.specs.Laws.{In}
use Rattle.demand_spec.proofs.Walks.{in_either, in_left, in_right}
use Rattle.demand_spec.proofs.OneList.{before_member}
use Rattle.demand_spec.proofs.Spread.{filter_in, in_filter}
use Rattle.support_graph.specs.Support.{CellAreas, IsCell}
use Rattle.support_graph.specs.Steps.{TookOne, stays}

-- places

in_place : (c : Addr) (xs : List Addr) → In c xs → (k : ℕ) × (k < length xs) × ((d : Addr) → get_or xs k d ≡ c)
in_place c [] m = elim m [ ]
in_place c (x ∷ xs) (inl e) = (0, omega arith, λ d. sym e)
in_place c (x ∷ xs) (inr m) = (let p = in_place c xs m in (suc p.0, (let l = p.1 in omega (arith, l)), p.2))

place_in : (xs : List Addr) (k : ℕ) (d : Addr) → k < length xs → In (get_or xs k d) xs
place_in [] k d h = absurd (omega (arith, h))
place_in (x ∷ xs) zero d h = inl refl
place_in (x ∷ xs) (suc k) d h = inr (place_in xs k d (omega (arith, h)))

in_taken : (c : Addr) (i : ℕ) (xs : List Addr) → In c (take i xs) → (k : ℕ) × (k < i) × ((d : Addr) → get_or xs k d ≡ c)
in_taken c zero xs m = elim m [ ]
in_taken c (suc i) [] m = elim m [ ]
in_taken c (suc i) (x ∷ xs) (inl e) = (0, omega arith, λ d. sym e)
in_taken c (suc i) (x ∷ xs) (inr m) = (let p = in_taken c i xs m in (suc p.0, (let l = p.1 in omega (arith, l)), p.2))

places_in_order : (xs : List Addr) (i j : ℕ) (d : Addr) → InOrder xs → i < j → j < length xs → IsBefore (get_or xs i d) (get_or xs j d)
places_in_order [] i j d h l m = absurd (omega (arith, m))
places_in_order (x ∷ xs) i zero d h l m = absurd (omega (arith, l))
places_in_order (x ∷ xs) zero (suc j) d h l m = before_member x xs (get_or xs j d) h.0 (place_in xs j d (omega (arith, m)))
places_in_order (x ∷ xs) (suc i) (suc j) d h l m = places_in_order xs i j d h.1 (omega (arith, l)) (omega (arith, m))

-- what a search tells

compared : (a b x : Addr) → IsBefore a b → ordering_index (cmp a x) ≤ ordering_index (cmp b x)
compared a b x h = go (cmp a x) (cmp b x) refl refl
  where
    go : (o p : Ordering) → cmp a x ≡ o → cmp b x ≡ p → ordering_index o ≤ ordering_index p
    go Less p e f = omega arith
    go Equal Less e f = absurd (before_apart a b h (subst (IsBefore b) (sym (cmp_equal a x e)) (cmp_less b x f)))
    go Equal Equal e f = omega arith
    go Equal Greater e f = omega arith
    go Greater Less e f = absurd (before_apart a b h (before_trans b x a (cmp_less b x f) (cmp_greater a x e)))
    go Greater Equal e f = absurd (before_apart a b h (subst (λ z. IsBefore z a) (sym (cmp_equal b x f)) (cmp_greater a x e)))
    go Greater Greater e f = omega arith

rising : (xs : List Addr) (x : Addr) → InOrder xs → IsNonDecreasingBy (λ y. ordering_index (cmp y x)) xs
rising xs x h i j d l m = go (order i j l)
  where
    order : (i j : ℕ) → i ≤ j → (i < j) ⊎ (i ≡ j)
    order i j l = grind (arith, l)

    go : (i < j) ⊎ (i ≡ j) → ordering_index (cmp (get_or xs i d) x) ≤ ordering_index (cmp (get_or xs j d) x)
    go (inl k) = compared (get_or xs i d) (get_or xs j d) x (places_in_order xs i j d h k m)
    go (inr e) = subst (λ k. ordering_index (cmp (get_or xs i d) x) ≤ ordering_index (cmp (get_or xs k d) x)) e (omega arith)

pub searched_found : (xs : List Addr) (x : Addr) (r : Result ℕ ℕ) → IsSearchInRange r (length xs) → IfOk r (HoldsAt (λ y. cmp y x ≡ Equal) xs) → is_ok r ≡ true → In x xs
searched_found xs x (Ok k) b h e = subst (λ z. In z xs) (cmp_equal (get_or xs k x) x (h x)) (place_in xs k x b)
searched_found xs x (Err k) b h e = cc

pub searched_missed : (xs : List Addr) (x : Addr) (r : Result ℕ ℕ) → IsBinarySearchResult (λ y. cmp y x) xs r → InOrder xs → is_ok r ≡ false → In x xs → ⊥
searched_missed xs x (Ok k) h order e m = cc
searched_missed xs x (Err i) h order e m = go (in_place x xs m)
  where
    sides : (k : ℕ) → (k < i) ⊎ (i ≤ k)
    sides k = grind arith

    go : (k : ℕ) × (k < length xs) × ((d : Addr) → get_or xs k d ≡ x) → ⊥
    go p = ⊎_elim (λ (l : p.0 < i). never_before x (subst (λ z. IsBefore z x) (p.2 x) (cmp_less (get_or xs p.0 x) x ((h (rising xs x order)).0 p.0 x (omega arith) l))))
        (λ (l : i ≤ p.0). never_before x (subst (IsBefore x) (p.2 x) (cmp_greater (get_or xs p.0 x) x ((h (rising xs x order)).1 p.0 x l p.1)))) (sides p.0)

-- the cells in front of the place where a cell was found
pub before_found : (xs : List Addr) (x : Addr) (k : ℕ) → InOrder xs → k < length xs → ((d : Addr) → cmp (get_or xs k d) x ≡ Equal) → (c : Addr) → In c (take k xs) → IsBefore c x
before_found xs x k order l h c m =
    let p = in_taken c k xs m in
    subst (λ z. IsBefore z x) (p.2 x) (subst (IsBefore (get_or xs p.0 x)) (cmp_equal (get_or xs k x) x (h x)) (places_in_order xs p.0 k x order p.1 l))

-- and of that where it would stand
pub before_missed : (xs : List Addr) (x : Addr) (i : ℕ) → InOrder xs → IsBinarySearchResult (λ y. cmp y x) xs (Err i) → (c : Addr) → In c (take i xs) → IsBefore c x
before_missed xs x i order h c m =
    let p = in_taken c i xs m in
    subst (λ z. IsBefore z x) (p.2 x) (cmp_less (get_or xs p.0 x) x ((h (rising xs x order)).0 p.0 x (omega arith) p.1))

-- two lists as one

all_behind : (x y : Addr) (ys : List Addr) → IsBefore x y → IsBeforeAll y ys → IsBeforeAll x ys
all_behind x y [] h k = tt
all_behind x y (z ∷ ys) h k = (before_trans x y z h k.0, all_behind x y ys h k.1)

rest_in_order : (xs ys : List Addr) → InOrder (xs ++ ys) → InOrder ys
rest_in_order [] ys h = h
rest_in_order (x ∷ xs) ys h = rest_in_order xs ys h.1

before_between : (a x : Addr) (all xs ys : List Addr) → IsBeforeAll a (all ++ x ∷ xs) → IsBeforeAll a (all ++ ys) → IsBeforeAll a ((all ++ x ∷ []) ++ ys)
before_between a x [] xs ys h k = (h.0, k)
before_between a x (b ∷ all) xs ys h k = (h.0, before_between a x all xs ys h.1 k.1)

-- a cell between the lists
put_between : (x : Addr) (all xs ys : List Addr) → InOrder (all ++ x ∷ xs) → InOrder (all ++ ys) → IsBeforeAll x ys → InOrder ((all ++ x ∷ []) ++ ys)
put_between x [] xs ys h k b = (b, k)
put_between x (a ∷ all) xs ys h k b = (before_between a x all xs ys h.0 k.0, put_between x all xs ys h.1 k.1 b)

before_without : (a y : Addr) (all ys : List Addr) → IsBeforeAll a (all ++ y ∷ ys) → IsBeforeAll a (all ++ ys)
before_without a y [] ys h = h.1
before_without a y (b ∷ all) ys h = (h.0, before_without a y all ys h.1)

without_one : (y : Addr) (all ys : List Addr) → InOrder (all ++ y ∷ ys) → InOrder (all ++ ys)
without_one y [] ys h = h.1
without_one y (a ∷ all) ys h = (before_without a y all ys h.0, without_one y all ys h.1)

-- what was taken, and what is left of both lists
pub record Merging (all xs ys old new : List Addr) : Type 0 where
  pub first : InOrder (all ++ xs)
  pub second : InOrder (all ++ ys)
  pub only : (c : Addr) → In c all → In c old ⊎ In c new
  pub old_left : (c : Addr) → In c xs → In c old
  pub new_left : (c : Addr) → In c ys → In c new
  pub olds : (c : Addr) → In c old → In c all ⊎ In c xs
  pub news : (c : Addr) → In c new → (In c all ⊎ In c xs) ⊎ In c ys

pub nothing_merged : (old new : List Addr) → InOrder old → InOrder new → Merging [] old new old new
nothing_merged old new h k = record {
  first = h;
  second = k;
  only = λ c m. elim m [ ];
  old_left = λ c m. m;
  new_left = λ c m. m;
  olds = λ c m. inr m;
  news = λ c m. inr m;
}

-- the first cell of the old ones is the lesser
old_merged : (x y : Addr) (all xs ys old new : List Addr) → IsBefore x y → Merging all (x ∷ xs) (y ∷ ys) old new → Merging (all ++ x ∷ []) xs (y ∷ ys) old new
old_merged x y all xs ys old new b m = record {
  first = subst InOrder (sym (append_assoc all (x ∷ []) xs)) m.first;
  second = put_between x all xs (y ∷ ys) m.first m.second (b, all_behind x y ys b (rest_in_order all (y ∷ ys) m.second).0);
  only = λ c k. taken c (in_either c all (x ∷ []) k);
  old_left = λ c k. m.old_left c (inr k);
  new_left = m.new_left;
  olds = λ c k. moved c (m.olds c k);
  news = λ c k. ⊎_elim (λ (n : In c all ⊎ In c (x ∷ xs)). inl (moved c n)) (λ (n : In c (y ∷ ys)). inr n) (m.news c k);
}
  where
    taken : (c : Addr) → In c all ⊎ In c (x ∷ []) → In c old ⊎ In c new
    taken c (inl k) = m.only c k
    taken c (inr (inl e)) = inl (m.old_left c (inl e))
    taken c (inr (inr k)) = elim k [ ]

    moved : (c : Addr) → In c all ⊎ In c (x ∷ xs) → In c (all ++ x ∷ []) ⊎ In c xs
    moved c (inl k) = inl (in_left c all (x ∷ []) k)
    moved c (inr (inl e)) = inl (in_right c all (x ∷ []) (inl e))
    moved c (inr (inr k)) = inr k

-- that of the new ones is
new_merged : (x y : Addr) (all xs ys old new : List Addr) → IsBefore y x → Merging all (x ∷ xs) (y ∷ ys) old new → Merging (all ++ y ∷ []) (x ∷ xs) ys old new
new_merged x y all xs ys old new b m = record {
  first = put_between y all ys (x ∷ xs) m.second m.first (b, all_behind y x xs b (rest_in_order all (x ∷ xs) m.first).0);
  second = subst InOrder (sym (append_assoc all (y ∷ []) ys)) m.second;
  only = λ c k. taken c (in_either c all (y ∷ []) k);
  old_left = m.old_left;
  new_left = λ c k. m.new_left c (inr k);
  olds = λ c k. longer c (m.olds c k);
  news = λ c k. moved c (m.news c k);
}
  where
    taken : (c : Addr) → In c all ⊎ In c (y ∷ []) → In c old ⊎ In c new
    taken c (inl k) = m.only c k
    taken c (inr (inl e)) = inr (m.new_left c (inl e))
    taken c (inr (inr k)) = elim k [ ]

    longer : (c : Addr) → In c all ⊎ In c (x ∷ xs) → In c (all ++ y ∷ []) ⊎ In c (x ∷ xs)
    longer c (inl k) = inl (in_left c all (y ∷ []) k)
    longer c (inr k) = inr k

    moved : (c : Addr) → (In c all ⊎ In c (x ∷ xs)) ⊎ In c (y ∷ ys) → (In c (all ++ y ∷ []) ⊎ In c (x ∷ xs)) ⊎ In c ys
    moved c (inl k) = inl (longer c k)
    moved c (inr (inl e)) = inl (inl (in_right c all (y ∷ []) (inl e)))
    moved c (inr (inr k)) = inr k

-- both are one cell
same_merged : (x y : Addr) (all xs ys old new : List Addr) → x ≡ y → Merging all (x ∷ xs) (y ∷ ys) old new → Merging all (x ∷ xs) ys old new
same_merged x y all xs ys old new e m = record {
  first = m.first;
  second = without_one y all ys m.second;
  only = m.only;
  old_left = m.old_left;
  new_left = λ c k. m.new_left c (inr k);
  olds = m.olds;
  news = λ c k. moved c (m.news c k);
}
  where
    moved : (c : Addr) → (In c all ⊎ In c (x ∷ xs)) ⊎ In c (y ∷ ys) → (In c all ⊎ In c (x ∷ xs)) ⊎ In c ys
    moved c (inl k) = inl k
    moved c (inr (inl f)) = inl (inr (inl (f ∙ sym e)))
    moved c (inr (inr k)) = inr k

took_old : (x y : Addr) (all next xs ys old new : List Addr) → TookOne true x y all next → Merging all (x ∷ xs) (y ∷ ys) old new → Merging next xs (y ∷ ys) old new
took_old x y all next xs ys old new h m = subst (λ z. Merging z xs (y ∷ ys) old new) (sym h.1) (old_merged x y all xs ys old new h.0 m)

took_new : (x y : Addr) (all next xs ys old new : List Addr) → TookOne false x y all next → Merging all (x ∷ xs) (y ∷ ys) old new → Merging next (x ∷ xs) ys old new
took_new x y all next xs ys old new (inl h) m = subst (λ z. Merging z (x ∷ xs) ys old new) (sym h.1) (new_merged x y all xs ys old new h.0 m)
took_new x y all next xs ys old new (inr h) m = subst (λ z. Merging z (x ∷ xs) ys old new) (sym h.1) (same_merged x y all xs ys old new h.0 m)

-- the same by places
abbrev pub no_addr : Addr
no_addr = record { sheet = 0; row = 0; col = 0 }

places_merged : (all old new : List Addr) (i j : ℕ) → i < length old → j < length new → Merging all (drop i old) (drop j new) old new → Merging all (get_or old i no_addr ∷ drop (suc i) old) (get_or new j no_addr ∷ drop (suc j) new) old new
places_merged all old new i j h k m = subst (λ xs. Merging all xs (get_or new j no_addr ∷ drop (suc j) new) old new) (drop-cons old i no_addr h) (subst (λ ys. Merging all (drop i old) ys old new) (drop-cons new j no_addr k) m)

pub took_old_at : (all next old new : List Addr) (i j : ℕ) → i < length old → j < length new → TookOne true (get_or old i no_addr) (get_or new j no_addr) all next → Merging all (drop i old) (drop j new) old new → Merging next (drop (i + 1) old) (drop j new) old new
took_old_at all next old new i j h k t m =
    let one : suc i ≡ i + 1 = omega arith in
    subst (λ n. Merging next (drop n old) (drop j new) old new) one (subst (λ ys. Merging next (drop (suc i) old) ys old new) (sym (drop-cons new j no_addr k))
    (took_old (get_or old i no_addr) (get_or new j no_addr) all next (drop (suc i) old) (drop (suc j) new) old new t (places_merged all old new i j h k m)))

pub took_new_at : (all next old new : List Addr) (i j : ℕ) → i < length old → j < length new → TookOne false (get_or old i no_addr) (get_or new j no_addr) all next → Merging all (drop i old) (drop j new) old new → Merging next (drop i old) (drop (j + 1) new) old new
took_new_at all next old new i j h k t m =
    let one : suc j ≡ j + 1 = omega arith in
    subst (λ n. Merging next (drop i old) (drop n new) old new) one (subst (λ xs. Merging next xs (drop (suc j) new) old new) (sym (drop-cons old i no_addr h))
    (took_new (get_or old i no_addr) (get_or new j no_addr) all next (drop (suc i) old) (drop (suc j) new) old new t (places_merged all old new i j h k m)))

-- one of the lists is taken whole
pub merged_order : (all xs ys old new : List Addr) → Merging all xs ys old new → (xs ≡ []) ⊎ (ys ≡ []) → InOrder ((all ++ xs) ++ ys)
merged_order all xs ys old new m (inl e) = subst (λ z. InOrder (z ++ ys)) (sym (ap (λ z. all ++ z) e ∙ append-nil all)) m.second
merged_order all xs ys old new m (inr e) = subst InOrder (sym (ap (λ z. (all ++ xs) ++ z) e ∙ append-nil (all ++ xs))) m.first

pub merged_cells : (all xs ys old new : List Addr) → Merging all xs ys old new → (c : Addr) → In c ((all ++ xs) ++ ys) ↔ (In c old ⊎ In c new)
merged_cells all xs ys old new m c = (λ (k : In c ((all ++ xs) ++ ys)). to (in_either c (all ++ xs) ys k), λ (k : In c old ⊎ In c new). back k)
  where
    inner : In c all ⊎ In c xs → In c old ⊎ In c new
    inner (inl k) = m.only c k
    inner (inr k) = inl (m.old_left c k)

    to : In c (all ++ xs) ⊎ In c ys → In c old ⊎ In c new
    to (inl k) = inner (in_either c all xs k)
    to (inr k) = inr (m.new_left c k)

    front : In c all ⊎ In c xs → In c ((all ++ xs) ++ ys)
    front (inl k) = in_left c (all ++ xs) ys (in_left c all xs k)
    front (inr k) = in_left c (all ++ xs) ys (in_right c all xs k)

    back : In c old ⊎ In c new → In c ((all ++ xs) ++ ys)
    back (inl k) = front (m.olds c k)
    back (inr k) = ⊎_elim (λ (n : In c all ⊎ In c xs). front n) (λ (n : In c ys). in_right c (all ++ xs) ys n) (m.news c k)

-- the cells that stay, by their test
pub staying : (s : CellAreas) (area : Area) (old : List Addr) (c : Addr) → In c (filter (stays s area) old) ↔ (In c old × (is_inside area c ≡ true → IsCell s c))
staying s area old c = (λ (m : In c (filter (stays s area) old)). to (filter_in (stays s area) old c m), λ (m : In c old × (is_inside area c ≡ true → IsCell s c)). back m.0 m.1)
  where
    there : (q o : Bool) → (not q || o) ≡ true → q ≡ true → o ≡ true
    there true o h e = h
    there false o h e = cc

    passes : (q o : Bool) → (q ≡ true → o ≡ true) → (not q || o) ≡ true
    passes true o f = f refl
    passes false o f = refl

    to : In c old × (stays s area c ≡ true) → In c old × (is_inside area c ≡ true → IsCell s c)
    to m = (m.0, λ e. there (is_inside area c) (is_some (entry_at s c)) m.1 e)

    back : In c old → (is_inside area c ≡ true → IsCell s c) → In c (filter (stays s area) old)
    back m f = in_filter (stays s area) old c m (passes (is_inside area c) (is_some (entry_at s c)) f)

-- cells that are looked at from a place on

-- all cells in front of the place stand before the first one
pub found_behind : (c : Addr) (i : ℕ) (xs : List Addr) → In c xs → In c (take i xs) ⊎ In c (drop i xs)
found_behind c zero xs m = inr m
found_behind c (suc i) [] m = elim m [ ]
found_behind c (suc i) (x ∷ xs) (inl e) = inl (inl e)
found_behind c (suc i) (x ∷ xs) (inr m) = ⊎_elim (λ (n : In c (take i xs)). inl (inr n)) (λ (n : In c (drop i xs)). inr n) (found_behind c i xs m)

pub dropped_in_order : (i : ℕ) (xs : List Addr) → InOrder xs → InOrder (drop i xs)
dropped_in_order zero xs h = h
dropped_in_order (suc i) [] h = h
dropped_in_order (suc i) (x ∷ xs) h = dropped_in_order i xs h.1
