-- A search ends with the cells that can be reached.
use Rattle.std.proofs.Common.{◌≡◌, ℕ, zero, suc, ◌+◌, ◌<◌, Bool, true, false, cond, not, ◌⊎◌, inl, inr, ⊎_elim, List, [], ◌∷◌, ◌++◌, length, length-append, take, get_or, refl, sym, ap, ◌∙◌, subst, arith, Option, Some, None, IsSome, IsSomeAnd}
use Rattle.std.specs.Prelude.{◌↔◌}
use Rattle.std.specs.List.{list_any, filter}
use Rattle.cell_values.specs.declared.address.Addr.{Addr}
use Rattle.cell_values.specs.declared.address.Area.{Area}
use Rattle.cell_values.specs.Addresses.{same_addr}
use Rattle.cell_values.specs.Areas.{IsArea, is_inside}
use Rattle.cell_values.specs.Order.{addresses, entry_at}
use Rattle.cell_values.proofs.Order.{same_addr-true, same_addr-refl}
use Rattle.demand_spec.specs.Laws.{In}
use Rattle.demand_spec.proofs.Members.{found_member, member_found}
use Rattle.demand_spec.proofs.Walks.{in_either, in_left, in_right}
use Rattle.support_graph.specs.declared.block.Block.{Block}
use Rattle.support_graph.specs.declared.search.Search.{Search}
use Rattle.support_graph.specs.Support.{CellAreas, hold, IsCell, Reads}
use Rattle.support_graph.specs.Pending.{among, Reached, start, step, IsClosedBut, IsPendingFrom}
use Rattle.support_graph.specs.Steps.{IsMet, Visits, AreRead, ReadsArea, IsSearch, IsFrontier, unseen}
use Rattle.support_graph.proofs.Visits.{stays_met}
use Rattle.support_graph.proofs.Readers.{inside}
use Rattle.support_graph.proofs.Truths.{true_false}
use Rattle.support_graph.proofs.Lists.{no_addr}

pub cell_in : (c : Addr) (s : CellAreas) → IsCell s c → In c (addresses s)
cell_in c [] m = cc
cell_in c (e ∷ s) m = go (same_addr c e.0) refl m (cell_in c s)
  where
    go : (q : Bool) → same_addr c e.0 ≡ q → IsSome (cond q (Some e.1) (entry_at s c)) → (IsCell s c → In c (addresses s)) → In c (addresses (e ∷ s))
    go true p k f = inl (same_addr-true c e.0 p)
    go false p k f = inr (f k)

pub cell_listed : (c : Addr) (s : CellAreas) → In c (addresses s) → IsCell s c
cell_listed c [] m = elim m [ ]
cell_listed c (e ∷ s) m = go (same_addr c e.0) refl m (cell_listed c s)
  where
    go : (q : Bool) → same_addr c e.0 ≡ q → In c (addresses (e ∷ s)) → (In c (addresses s) → IsCell s c) → IsSome (cond q (Some e.1) (entry_at s c))
    go true p k f = refl
    go false p (inl k) f = true_false (same_addr c e.0) (subst (λ x. same_addr c x ≡ true) k (same_addr-refl c)) p
    go false p (inr k) f = f k

pub reads_cell : (s : CellAreas) (c a : Addr) → Reads s c a → IsCell s c
reads_cell s c a m = go (entry_at s c) m
  where
    go : (o : Option (List Area)) → IsSomeAnd o (λ areas. hold areas a ≡ true) → IsSome o
    go None k = elim k [ ]
    go (Some areas) k = refl

pub started : (s : CellAreas) (area : Area) → IsArea area → (x y z : Search) → x.seen.keys ≡ [] → x.todo.items ≡ [] → Visits (λ c. IsCell s c × (is_inside area c ≡ true)) x y → Visits (ReadsArea s area 257) y z → IsSearch s (is_inside area) z
started s area good x y z none nothing a b = record {
  reached = λ c m. reached c (b.only c m);
  cells = λ c m h. stays_met (ReadsArea s area 257) y z b c (a.found c (m, h));
  readers = λ a c h m. b.found c (reader a c h m);
  closed = λ a c m k. inr (waits a (b.queued a m));
  todo = λ a m. known a (b.known a m);
}
  where
    none_seen : {A : Type 0} → (c : Addr) → In c x.seen.keys → A
    none_seen c m = absurd (subst (In c) none m)

    first : (c : Addr) → In c x.seen.keys ⊎ (IsCell s c × (is_inside area c ≡ true)) → IsCell s c × Reached s (is_inside area) c
    first c (inl m) = none_seen c m
    first c (inr m) = (m.0, start c m.1)

    reached : (c : Addr) → In c y.seen.keys ⊎ ReadsArea s area 257 c → IsCell s c × Reached s (is_inside area) c
    reached c (inl m) = first c (a.only c m)
    reached c (inr m) = (reads_cell s c m.at m.reads, step m.at c (start m.at m.inside) m.reads)

    reader : (a c : Addr) → is_inside area a ≡ true → Reads s c a → ReadsArea s area 257 c
    reader a c h m = record { at = a; before = (let w = (inside area a h).right in let k = good.right_to in omega (arith, w, k)); inside = h; reads = m }

    waits : (c : Addr) → In c y.seen.keys ⊎ In c z.todo.items → In c z.todo.items
    waits c (inl m) = ⊎_elim (λ (n : In c x.seen.keys). none_seen c n) (λ (n : In c y.todo.items). b.kept c n) (a.queued c m)
    waits c (inr m) = m

    known : (c : Addr) → In c y.todo.items ⊎ In c z.seen.keys → In c z.seen.keys
    known c (inl m) = ⊎_elim (λ (n : In c x.todo.items). absurd (subst (In c) nothing n)) (λ (n : In c y.seen.keys). b.stays c n) (a.known c m)
    known c (inr m) = m

-- the dependents of a cell that was still to be visited
pub popped : (s : CellAreas) (from : Addr → Bool) (cell : Addr) (x y z : Search) → IsSearch s from x → y.seen.keys ≡ x.seen.keys → y.pending.now ≡ x.pending.now → x.todo.items ≡ y.todo.items ++ cell ∷ [] → Visits (λ c. Reads s c cell) y z → IsSearch s from z
popped s from cell x y z old same pending rest v = record {
  reached = λ c m. reached c (v.only c m);
  cells = λ c m h. met c (old.cells c m h);
  readers = λ a c h m. met c (old.readers a c h m);
  closed = λ a c m k. closed a c k (v.queued a m);
  todo = λ a m. known a (v.known a m);
}
  where
    still : (c : Addr) → In c x.seen.keys → In c z.seen.keys
    still c m = v.stays c (subst (In c) (sym same) m)

    met : (c : Addr) → IsMet x c → IsMet z c
    met c (inl m) = inl (still c m)
    met c (inr m) = inr (subst (In c) (sym (v.pending ∙ pending)) m)

    was_seen : In cell x.seen.keys
    was_seen = old.todo cell (subst (In cell) (sym rest) (in_right cell y.todo.items (cell ∷ []) (inl refl)))

    reached : (c : Addr) → In c y.seen.keys ⊎ Reads s c cell → IsCell s c × Reached s from c
    reached c (inl m) = old.reached c (subst (In c) same m)
    reached c (inr m) = (reads_cell s c cell m, step cell c (old.reached cell was_seen).1 m)

    waits : (a c : Addr) → Reads s c a → In a y.todo.items ⊎ In a (cell ∷ []) → IsMet z c ⊎ In a z.todo.items
    waits a c k (inl m) = inr (v.kept a m)
    waits a c k (inr (inl e)) = inl (v.found c (subst (Reads s c) e k))
    waits a c k (inr (inr m)) = elim m [ ]

    closed : (a c : Addr) → Reads s c a → In a y.seen.keys ⊎ In a z.todo.items → IsMet z c ⊎ In a z.todo.items
    closed a c k (inr m) = inr m
    closed a c k (inl m) = go (old.closed a c (subst (In a) same m) k)
      where
        go : IsMet x c ⊎ In a x.todo.items → IsMet z c ⊎ In a z.todo.items
        go (inl n) = inl (met c n)
        go (inr n) = waits a c k (in_either a y.todo.items (cell ∷ []) (subst (In a) rest n))

    known : (a : Addr) → In a y.todo.items ⊎ In a z.seen.keys → In a z.seen.keys
    known a (inl m) = still a (old.todo a (subst (In a) (sym rest) (in_left a y.todo.items (cell ∷ []) m)))
    known a (inr m) = m

pub fewer : (s : CellAreas) (cell : Addr) (x y z : Search) → y.seen.keys ≡ x.seen.keys → x.todo.items ≡ y.todo.items ++ cell ∷ [] → Visits (λ c. Reads s c cell) y z → unseen (addresses s) z < unseen (addresses s) x
fewer s cell x y z same rest v =
    let a = v.ends (addresses s) (λ c m. cell_in c s (reads_cell s c cell m)) in
    let b : length x.todo.items ≡ length y.todo.items + 1 = ap length rest ∙ length-append y.todo.items (cell ∷ []) in
    let e : length (filter (λ c. not (list_any (same_addr c) y.seen.keys)) (addresses s)) ≡ length (filter (λ c. not (list_any (same_addr c) x.seen.keys)) (addresses s)) = (λ i. length (filter (λ c. not (list_any (same_addr c) (same i))) (addresses s))) in
    omega (arith, a, b, e)

-- one cell more to begin from

-- the second test passes what the first one does, and one cell
pub record PassesOneMore (p q : Addr → Bool) (cell : Addr) : Type 0 where
  pub same : (c : Addr) → p c ≡ true → q c ≡ true
  pub more : q cell ≡ true
  pub only : (c : Addr) → q c ≡ true → (p c ≡ true) ⊎ (c ≡ cell)

reached_more : (s : CellAreas) (p q : Addr → Bool) → ((c : Addr) → p c ≡ true → q c ≡ true) → (c : Addr) → Reached s p c → Reached s q c
reached_more s p q h c (start c' k) = start c (h c k)
reached_more s p q h c (step a c' r k) = step a c (reached_more s p q h a r) k

pub begun : (s : CellAreas) (p q : Addr → Bool) (cell : Addr) → PassesOneMore p q cell → (x y z : Search) → IsSearch s p x → Visits (λ c. (c ≡ cell) × IsCell s c) x y → Visits (λ c. Reads s c cell) y z → IsSearch s q z
begun s p q cell h x y z old v w = record {
  reached = λ c m. reached c (w.only c m);
  cells = λ c m k. cells c m (h.only c k);
  readers = λ a c k m. readers a c m (h.only a k);
  closed = λ a c m k. closed a c k (w.queued a m);
  todo = λ a m. known a (w.known a m);
}
  where
    met : (c : Addr) → IsMet x c → IsMet z c
    met c m = stays_met (λ c. Reads s c cell) y z w c (stays_met (λ c. (c ≡ cell) × IsCell s c) x y v c m)

    first : (c : Addr) → In c x.seen.keys ⊎ ((c ≡ cell) × IsCell s c) → IsCell s c × Reached s q c
    first c (inl m) = (let r = old.reached c m in (r.0, reached_more s p q h.same c r.1))
    first c (inr m) = (m.1, start c (subst (λ d. q d ≡ true) (sym m.0) h.more))

    reached : (c : Addr) → In c y.seen.keys ⊎ Reads s c cell → IsCell s c × Reached s q c
    reached c (inl m) = first c (v.only c m)
    reached c (inr m) = (reads_cell s c cell m, step cell c (start cell h.more) m)

    cells : (c : Addr) → IsCell s c → (p c ≡ true) ⊎ (c ≡ cell) → IsMet z c
    cells c m (inl k) = met c (old.cells c m k)
    cells c m (inr e) = stays_met (λ c. Reads s c cell) y z w c (v.found c (e, m))

    readers : (a c : Addr) → Reads s c a → (p a ≡ true) ⊎ (a ≡ cell) → IsMet z c
    readers a c m (inl k) = met c (old.readers a c k m)
    readers a c m (inr e) = w.found c (subst (Reads s c) e m)

    later : (a c : Addr) → IsMet x c ⊎ In a x.todo.items → IsMet z c ⊎ In a z.todo.items
    later a c (inl m) = inl (met c m)
    later a c (inr m) = inr (w.kept a (v.kept a m))

    inner : (a c : Addr) → Reads s c a → In a x.seen.keys ⊎ In a y.todo.items → IsMet z c ⊎ In a z.todo.items
    inner a c k (inl m) = later a c (old.closed a c m k)
    inner a c k (inr m) = inr (w.kept a m)

    closed : (a c : Addr) → Reads s c a → In a y.seen.keys ⊎ In a z.todo.items → IsMet z c ⊎ In a z.todo.items
    closed a c k (inl m) = inner a c k (v.queued a m)
    closed a c k (inr m) = inr m

    waited : (a : Addr) → In a x.todo.items ⊎ In a y.seen.keys → In a z.seen.keys
    waited a (inl m) = w.stays a (v.stays a (old.todo a m))
    waited a (inr m) = w.stays a m

    known : (a : Addr) → In a y.todo.items ⊎ In a z.seen.keys → In a z.seen.keys
    known a (inl m) = waited a (v.known a m)
    known a (inr m) = m

-- nothing to begin from
pub nothing_begun : (s : CellAreas) (from : Addr → Bool) (x : Search) → ((c : Addr) → from c ≡ true → ⊥) → x.seen.keys ≡ [] → x.todo.items ≡ [] → IsSearch s from x
nothing_begun s from x h none nothing = record {
  reached = λ c m. absurd (subst (In c) none m);
  cells = λ c m k. absurd (h c k);
  readers = λ a c k m. absurd (h a k);
  closed = λ a c m k. absurd (subst (In a) none m);
  todo = λ a m. absurd (subst (In a) nothing m);
}

pub still_read : (s : CellAreas) (blocks : List Block) (P : Addr → Type 0) (x y : Search) → Visits P x y → AreRead s blocks x → AreRead s blocks y
still_read s blocks P x y v h b c m k = stays_met P x y v c (h b c m k)

-- where nothing is left to be visited, the search is over
pub ended : (s : CellAreas) (old : List Addr) (from : Addr → Bool) (z : Search) (found : List Addr) → IsSearch s from z → z.todo.items ≡ [] → z.pending.now ≡ old → found ≡ z.seen.keys → IsFrontier s old from found
ended s old from z found w none pending same = record {
  reached = λ c m. w.reached c (subst (In c) same m);
  cells = λ c m k. met c (w.cells c m k);
  readers = λ a c k m. met c (w.readers a c k m);
  closed = λ a c m k. ⊎_elim (λ (n : IsMet z c). met c n) (λ (n : In a z.todo.items). absurd (subst (In a) none n)) (w.closed a c (subst (In a) same m) k);
}
  where
    met : (c : Addr) → IsMet z c → In c found ⊎ In c old
    met c (inl m) = inl (subst (In c) (sym same) m)
    met c (inr m) = inr (subst (In c) pending m)

-- the cells that are pending then, against those found and those that stay
pub pending_are : (s : CellAreas) (old : List Addr) (from : Addr → Bool) (found staying new : List Addr) → IsClosedBut s old from → IsFrontier s old from found → ((c : Addr) → In c staying ↔ (In c old × (from c ≡ true → IsCell s c))) → ((c : Addr) → In c new ↔ (In c staying ⊎ In c found)) → (c : Addr) → In c new ↔ IsPendingFrom s old from c
pending_are s old from found staying new closed front keep all c = (λ (m : In c new). to ((all c).0 m), λ (m : IsPendingFrom s old from c). (all c).1 (back m.0 m.1))
  where
    stayed : In c old → (from c ≡ true → IsCell s c) → (from c ≡ true) ⊎ IsCell s c → IsPendingFrom s old from c
    stayed m f (inl h) = (f h, inl m)
    stayed m f (inr h) = (h, inl m)

    to : In c staying ⊎ In c found → IsPendingFrom s old from c
    to (inl m) = (let k = (keep c).0 m in stayed k.0 k.1 (closed.cells c k.0))
    to (inr m) = (let r = front.reached c m in (r.0, inr r.1))

    met : (a d : Addr) → Reads s d a → (from a ≡ true) ⊎ (In a found ⊎ In a old) → (from d ≡ true) ⊎ (In d found ⊎ In d old)
    met a d k (inl h) = inr (front.readers a d h k)
    met a d k (inr (inl h)) = inr (front.closed a d h k)
    met a d k (inr (inr h)) = ⊎_elim (λ (n : In d old). inr (inr n)) (λ (n : from d ≡ true). inl n) (closed.readers a d h k)

    reached : (d : Addr) → Reached s from d → (from d ≡ true) ⊎ (In d found ⊎ In d old)
    reached d (start d' h) = inl h
    reached d (step a d' r k) = met a d k (reached a r)

    either : IsCell s c → In c found ⊎ In c old → In c staying ⊎ In c found
    either m (inl h) = inr h
    either m (inr h) = inl ((keep c).1 (h, λ k. m))

    back : IsCell s c → In c old ⊎ Reached s from c → In c staying ⊎ In c found
    back m (inl h) = either m (inr h)
    back m (inr r) = ⊎_elim (λ (h : from c ≡ true). either m (front.cells c m h)) (λ (h : In c found ⊎ In c old). either m h) (reached c r)

-- and they are closed then
pub closed_after : (s : CellAreas) (old new : List Addr) (from none : Addr → Bool) → IsClosedBut s old from → ((c : Addr) → In c new ↔ IsPendingFrom s old from c) → IsClosedBut s new none
closed_after s old new from none closed all = record {
  cells = λ a m. inr ((all a).0 m).0;
  readers = λ a c m k. inl ((all c).1 (reads_cell s c a k, next a c k ((all a).0 m).1));
}
  where
    next : (a c : Addr) → Reads s c a → In a old ⊎ Reached s from a → In c old ⊎ Reached s from c
    next a c k (inl m) = ⊎_elim (λ (n : In c old). inl n) (λ (n : from c ≡ true). inr (start c n)) (closed.readers a c m k)
    next a c k (inr r) = inr (step a c r k)

-- the same from some cells on, where all old ones stay
pub spread_are : (s : CellAreas) (old from found new : List Addr) → ((c : Addr) → In c old → IsCell s c) → ((a c : Addr) → In a old → Reads s c a → In c old ⊎ In c from) → IsFrontier s old (among from) found → ((c : Addr) → In c new ↔ (In c old ⊎ In c found)) → (c : Addr) → In c new ↔ IsPendingFrom s old (among from) c
spread_are s old from found new cells readers front all = pending_are s old (among from) found old new (record {
  cells = λ a m. inr (cells a m);
  readers = λ a d m k. ⊎_elim (λ (n : In d old). inl n) (λ (n : In d from). inr (member_found d from n)) (readers a d m k);
}) front (λ c. (λ (m : In c old). (m, λ h. cells c m), λ (m : In c old × (among from c ≡ true → IsCell s c)). m.0)) all

-- the cells of two lists that were merged, by other names of the lists
pub merged_as : (old found x y z new : List Addr) → x ≡ old → y ≡ found → z ≡ new → ((c : Addr) → In c z ↔ (In c x ⊎ In c y)) → (c : Addr) → In c new ↔ (In c old ⊎ In c found)
merged_as old found x y z new e f g h c = subst (λ w. In c w ↔ (In c old ⊎ In c found)) g (subst (λ w. In c z ↔ (In c old ⊎ In c w)) f (subst (λ w. In c z ↔ (In c w ⊎ In c y)) e (h c)))

-- nothing was found
pub none_found : (old found : List Addr) → found ≡ [] → (c : Addr) → In c old ↔ (In c old ⊎ In c found)
none_found old found e c = (λ (m : In c old). inl m, λ (m : In c old ⊎ In c found). ⊎_elim (λ (n : In c old). n) (λ (n : In c found). absurd (subst (In c) e n)) m)

-- all of the area's old cells are there
pub all_stay : (s : CellAreas) (area : Area) (old : List Addr) → ((c : Addr) → In c old → is_inside area c ≡ true → IsCell s c) → (c : Addr) → In c old ↔ (In c old × (is_inside area c ≡ true → IsCell s c))
all_stay s area old h c = (λ (m : In c old). (m, h c m), λ (m : In c old × (is_inside area c ≡ true → IsCell s c)). m.0)

-- the first cells of a list

pub take_more : (c : Addr) (i : ℕ) (xs : List Addr) → i < length xs → In c (take (suc i) xs) → In c (take i xs) ⊎ (c ≡ get_or xs i no_addr)
take_more c i [] h m = absurd (omega (arith, h))
take_more c zero (x ∷ xs) h (inl e) = inr e
take_more c zero (x ∷ xs) h (inr m) = elim m [ ]
take_more c (suc i) (x ∷ xs) h (inl e) = inl (inl e)
take_more c (suc i) (x ∷ xs) h (inr m) = ⊎_elim (λ (n : In c (take i xs)). inl (inr n)) (λ (n : c ≡ get_or xs i no_addr). inr n) (take_more c i xs (omega (arith, h)) m)

pub more_taken : (c : Addr) (i : ℕ) (xs : List Addr) → i < length xs → In c (take i xs) ⊎ (c ≡ get_or xs i no_addr) → In c (take (suc i) xs)
more_taken c i [] h m = absurd (omega (arith, h))
more_taken c zero (x ∷ xs) h (inl m) = elim m [ ]
more_taken c zero (x ∷ xs) h (inr e) = inl e
more_taken c (suc i) (x ∷ xs) h (inl (inl e)) = inl e
more_taken c (suc i) (x ∷ xs) h (inl (inr m)) = inr (more_taken c i xs (omega (arith, h)) (inl m))
more_taken c (suc i) (x ∷ xs) h (inr e) = inr (more_taken c i xs (omega (arith, h)) (inr e))

pub one_more_passes : (i : ℕ) (xs : List Addr) → i < length xs → PassesOneMore (among (take i xs)) (among (take (i + 1) xs)) (get_or xs i no_addr)
one_more_passes i xs h = (let next : suc i ≡ i + 1 = omega arith in subst (λ n. PassesOneMore (among (take i xs)) (among (take n xs)) (get_or xs i no_addr)) next (record {
  same = λ c k. member_found c (take (suc i) xs) (more_taken c i xs h (inl (found_member c (take i xs) k)));
  more = member_found (get_or xs i no_addr) (take (suc i) xs) (more_taken (get_or xs i no_addr) i xs h (inr refl));
  only = λ c k. ⊎_elim (λ (m : In c (take i xs)). inl (member_found c (take i xs) m)) (λ (e : c ≡ get_or xs i no_addr). inr e) (take_more c i xs h (found_member c (take (suc i) xs) k));
}))
