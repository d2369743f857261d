-- The listed loops: each is whole, each cell on a loop is in one of them, and they stand in order.
use Rattle.std.proofs.Common.{◌≡◌, ℕ, ◌+◌, Bool, true, false, cond, inl, inr, ⊎_elim, Some, List, [], ◌∷◌, map, refl, sym, ap, ◌∙◌, subst, arith}
use Rattle.std.specs.Prelude.{All, count_by}
use Rattle.std.specs.List.{filter, list_any}
use Rattle.std.proofs.lemmas.Bool.{cases_Bool}
use Rattle.std.proofs.lemmas.List.Elements.{All-cons}
use Rattle.std.proofs.lemmas.List.Sums.{sum_by-cons}
use Rattle.cell_values.specs.declared.address.Addr.{Addr}
use Rattle.cell_values.specs.Addresses.{same_addr}
use Rattle.cell_values.specs.Order.{InOrder, addresses}
use Rattle.demand_spec.specs.Book.{Book}
use Rattle.demand_spec.specs.Laws.{In, Distinct}
use Rattle.demand_spec.proofs.Cycles.{loop_shows}
use Rattle.demand_spec.proofs.Members.{member_found, found_member}
use Rattle.demand_spec.proofs.Ordered.{distinct_from_order}
use Rattle.demand_spec.proofs.Spread.{filter_order}
use Rattle.cycle_finder.specs.Loops.{loop_length, loop_from, leads, loops}
use Rattle.cycle_finder.specs.Laws.{IsWholeLoop, AreWholeLoops, ShowsLength, MembersShow, EachInOne, firsts, AreInOrder}
use Rattle.cycle_finder.proofs.Around.{shows_length, loop_parts, same_length, back_on, further_on, loop_in_book}
use Rattle.cycle_finder.proofs.Leading.{leads_length, one_leader, leader_of, led_whole}

-- the loops that begin at cells of a list
abbrev led_by : Book → List Addr → List (List Addr)
led_by b xs = map (loop_from b) (filter (leads b) xs)

-- what holds of each loop from its leader on holds of all
all_led : (b : Book) (P : List Addr → Type 0) → ((c : Addr) → leads b c ≡ true → P (loop_from b c)) → (xs : List Addr) → All P (led_by b xs)
all_led b P h [] = λ k d l. absurd (omega arith)
all_led b P h (x ∷ xs) = go (leads b x) refl (all_led b P h xs)
  where
    go : (t : Bool) → leads b x ≡ t → All P (led_by b xs) → All P (map (loop_from b) (cond t (x ∷ filter (leads b) xs) (filter (leads b) xs)))
    go true e rest = All-cons P (loop_from b x) (led_by b xs) (h x e) rest
    go false e rest = rest

pub are_whole_loops : AreWholeLoops
unfolding loops
are_whole_loops b = all_led b (IsWholeLoop b) (led_whole b) (addresses b.cells)

led_shows : (b : Book) (c : Addr) → leads b c ≡ true → ShowsLength b (loop_from b c)
led_shows b c h =
    let n = leads_length b c h in
    let p = loop_parts b c n.0 n.1 in
    subst (ShowsLength b) (sym p.parts) (loop_shows b c p.rest p.loop)

pub members_show : MembersShow
unfolding loops
members_show b = all_led b (ShowsLength b) (led_shows b) (addresses b.cells)

-- how many loops have a cell

abbrev has : Addr → List Addr → Bool
has c cells = list_any (same_addr c) cells

one_more : (c : Addr) (cells : List Addr) (rest : List (List Addr)) → has c cells ≡ true → count_by (has c) (cells ∷ rest) ≡ 1 + count_by (has c) rest
one_more c cells rest e = sum_by-cons (λ q. cond (has c q) 1 0) cells rest ∙ ap (λ t. cond t 1 0 + count_by (has c) rest) e

no_more : (c : Addr) (cells : List Addr) (rest : List (List Addr)) → has c cells ≡ false → count_by (has c) (cells ∷ rest) ≡ count_by (has c) rest
no_more c cells rest e = sum_by-cons (λ q. cond (has c q) 1 0) cells rest ∙ ap (λ t. cond t 1 0 + count_by (has c) rest) e ∙ omega arith

in_none : (b : Book) (c : Addr) (xs : List Addr) → ((x : Addr) → In x xs → leads b x ≡ true → has c (loop_from b x) ≡ false) → count_by (has c) (led_by b xs) ≡ 0
in_none b c [] h = refl
in_none b c (x ∷ xs) h = go (leads b x) refl (in_none b c xs (λ y k. h y (inr k)))
  where
    go : (t : Bool) → leads b x ≡ t → count_by (has c) (led_by b xs) ≡ 0 → count_by (has c) (map (loop_from b) (cond t (x ∷ filter (leads b) xs) (filter (leads b) xs))) ≡ 0
    go true e rest = no_more c (loop_from b x) (led_by b xs) (h x (inl refl) e) ∙ rest
    go false e rest = rest

in_one : (b : Book) (c d : Addr) → leads b d ≡ true → has c (loop_from b d) ≡ true → ((x : Addr) → leads b x ≡ true → has c (loop_from b x) ≡ true → x ≡ d) → (xs : List Addr) → Distinct xs → In d xs → count_by (has c) (led_by b xs) ≡ 1
in_one b c d l e one [] u k = absurd k
in_one b c d l e one (x ∷ xs) u k = go (leads b x) refl k (λ m. in_one b c d l e one xs u.1 m)
  where
    others : d ≡ x → (y : Addr) → In y xs → leads b y ≡ true → has c (loop_from b y) ≡ false
    others q y m f = ⊎_elim (λ (g : has c (loop_from b y) ≡ true). absurd (u.0 (subst (λ z. In z xs) (one y f g ∙ q) m))) (λ g. g) (cases_Bool (has c (loop_from b y)))

    another : In d xs → leads b x ≡ true → has c (loop_from b x) ≡ false
    another m f = ⊎_elim (λ (g : has c (loop_from b x) ≡ true). absurd (u.0 (subst (λ z. In z xs) (sym (one x f g)) m))) (λ g. g) (cases_Bool (has c (loop_from b x)))

    go : (t : Bool) → leads b x ≡ t → In d (x ∷ xs) → (In d xs → count_by (has c) (led_by b xs) ≡ 1) → count_by (has c) (map (loop_from b) (cond t (x ∷ filter (leads b) xs) (filter (leads b) xs))) ≡ 1
    go true f (inl q) later = one_more c (loop_from b x) (led_by b xs) (ap (λ z. has c (loop_from b z)) (sym q) ∙ e) ∙ ap (λ n. 1 + n) (in_none b c xs (others q))
    go true f (inr m) later = no_more c (loop_from b x) (led_by b xs) (another m f) ∙ later m
    go false f (inl q) later = (let g : true ≡ false = sym l ∙ ap (leads b) q ∙ f in cc)
    go false f (inr m) later = later m

-- two leaders whose loops have a cell in common
met_leader : (b : Book) (c : Addr) (n : ℕ) → loop_length b c ≡ Some n → (d x : Addr) → In d (loop_from b c) → leads b x ≡ true → In c (loop_from b x) → In x (loop_from b d)
met_leader b c n on d x k l m =
    let e = leads_length b x l in
    let there : In x (loop_from b c) = back_on b x e.0 e.1 c m in
    further_on b d n (same_length b c n on d k) c x (back_on b c n on d k) there

pub each_in_one : EachInOne
unfolding loops
each_in_one b order c n e =
    let on : loop_length b c ≡ Some n = shows_length b c n e in
    let d = leader_of b c n on in
    in_one b c d.cell d.leading
    (member_found c (loop_from b d.cell) (back_on b c n on d.cell d.there))
    (λ x l h. one_leader b d.cell x d.leading l (met_leader b c n on d.cell x d.there l (found_member c (loop_from b x) h)))
    (addresses b.cells) (distinct_from_order b.cells order) (loop_in_book b c n on d.cell d.there)

-- the order

firsts_led : (b : Book) (xs : List Addr) → firsts (led_by b xs) ≡ filter (leads b) xs
firsts_led b [] = refl
firsts_led b (x ∷ xs) = go (leads b x) refl (firsts_led b xs)
  where
    go : (t : Bool) → leads b x ≡ t → firsts (led_by b xs) ≡ filter (leads b) xs → firsts (map (loop_from b) (cond t (x ∷ filter (leads b) xs) (filter (leads b) xs))) ≡ cond t (x ∷ filter (leads b) xs) (filter (leads b) xs)
    go true e rest =
        let n = leads_length b x e in
        let p = loop_parts b x n.0 n.1 in
        ap (λ z. firsts (z ∷ led_by b xs)) p.parts ∙ ap (λ z. x ∷ z) rest
    go false e rest = rest

pub are_in_order : AreInOrder
unfolding loops
are_in_order b order = subst InOrder (sym (firsts_led b (addresses b.cells))) (filter_order (leads b) (addresses b.cells) order)
