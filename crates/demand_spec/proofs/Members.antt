-- The members of a list of addresses by a test, and the cells of an area by its walk.
use Rattle.std.proofs.Common.{◌≡◌, ℕ, ◌+◌, ◌-◌, ◌<◌, ◌≤◌, Bool, true, false, ◌||◌, inl, inr, List, [], ◌∷◌, refl, sym, ap, ◌∙◌, subst, arith}
use Rattle.std.specs.List.{list_any}
use Rattle.std.proofs.lemmas.Bool.{or_right}
use Rattle.std.proofs.lemmas.Bool.Decides.{same_from_decides}
use Rattle.cell_values.specs.declared.address.Addr.{Addr}
use Rattle.cell_values.specs.declared.address.Area.{Area}
use Rattle.cell_values.specs.Addresses.{same_addr}
use Rattle.cell_values.specs.Areas.{height, width, cell_of, walk, is_inside}
use Rattle.cell_values.proofs.Order.{same_addr-refl, same_addr-true}
use Rattle.demand_spec.specs.Laws.{In}
use Rattle.demand_spec.proofs.Walks.{in_walk, walk_parts}

-- a member passes the test
pub member_found : (c : Addr) (xs : List Addr) → In c xs → list_any (same_addr c) xs ≡ true
member_found c [] h = absurd h
member_found c (x ∷ xs) (inl e) = ap (λ q. q || list_any (same_addr c) xs) (ap (same_addr c) (sym e) ∙ same_addr-refl c)
member_found c (x ∷ xs) (inr h) = or_right (same_addr c x) (list_any (same_addr c) xs) (member_found c xs h)

-- what passes it is a member
pub found_member : (c : Addr) (xs : List Addr) → list_any (same_addr c) xs ≡ true → In c xs
found_member c [] h = cc
found_member c (x ∷ xs) h = go (same_addr c x) refl h (found_member c xs)
  where
    go : (q : Bool) → same_addr c x ≡ q → (q || list_any (same_addr c) xs) ≡ true → (list_any (same_addr c) xs ≡ true → In c xs) → In c (x ∷ xs)
    go true e k f = inl (same_addr-true c x e)
    go false e k f = inr (f k)

-- the walk of an area has exactly its cells

cell_inside : (r : Area) (i j : ℕ) → i < height r → j < width r → is_inside r (cell_of r i j) ≡ true
unfolding height width
cell_inside r i j h w = grind (arith, h, w)

pub walked_inside : (r : Area) (a : Addr) → In a (walk r) → is_inside r a ≡ true
walked_inside r a m = (let p = walk_parts r a m in subst (λ z. is_inside r z ≡ true) (sym p.same) (cell_inside r p.i p.j p.high p.wide))

pub inside_walked : (r : Area) (a : Addr) → is_inside r a ≡ true → In a (walk r)
unfolding height width
inside_walked r a h =
    let sheet : r.sheet ≡ a.sheet = grind (arith, h) in
    let top : r.top ≤ a.row = grind (arith, h) in
    let bottom : a.row ≤ r.bottom = grind (arith, h) in
    let left : r.left ≤ a.col = grind (arith, h) in
    let right : a.col ≤ r.right = grind (arith, h) in
    let row : r.top + (a.row - r.top) ≡ a.row = omega (arith, top) in
    let col : r.left + (a.col - r.left) ≡ a.col = omega (arith, left) in
    let same : cell_of r (a.row - r.top) (a.col - r.left) ≡ a = (λ i. record { sheet = sheet i; row = row i; col = col i }) in
    subst (λ z. In z (walk r)) same (in_walk r (a.row - r.top) (a.col - r.left) (omega (arith, top, bottom)) (omega (arith, left, right)))

pub walk_holds : (r : Area) (a : Addr) → list_any (same_addr a) (walk r) ≡ is_inside r a
walk_holds r a = same_from_decides (list_any (same_addr a) (walk r)) (is_inside r a) (found_member a (walk r), member_found a (walk r)) (inside_walked r a, walked_inside r a)
