-- Lists of numbers, and the known results by number.
use Rattle.std.proofs.Common.{◌≡◌, ℕ, zero, suc, ◌<◌, ◌≢◌, Bool, true, false, ◌||◌, ◌⊎◌, inl, inr, ⊎_elim, List, [], ◌∷◌, length, map, get_or, set, eqb, refl, sym, ap, ◌∙◌, subst, Option, Some, None, arith, eq-eqb}
use Rattle.std.proofs.lemmas.Bool.{cases_eq}
use Rattle.std.proofs.lemmas.List.{length-set, get_or-set_same, get_or-set_other}
use Rattle.cell_values.specs.declared.address.Addr.{Addr}
use Rattle.cell_values.specs.declared.values.Shown.{Shown}
use Rattle.demand_spec.specs.Laws.{In, Distinct}
use Rattle.claim_core.specs.Pending.{IsPending}
use Rattle.worker_machine.specs.Jobs.{Pending, cell_at}
use Rattle.worker_machine.specs.Evaluation.{Among, Below, Differ, has, mark_all}
use Rattle.worker_machine.proofs.Places.{cell_one}

abbrev pub KnownList : Type 0
KnownList = List (Option Shown)

pub below_at : (m n : ℕ) (xs : List ℕ) → Below m xs → Among n xs → n < m
below_at m n [] b k = absurd k
below_at m n (x ∷ xs) b (inl e) = (let h = b.0 in omega arith)
below_at m n (x ∷ xs) b (inr k) = below_at m n xs b.1 k

pub has_not : (n : ℕ) (xs : List ℕ) → has n xs ≡ false → Among n xs → ⊥
has_not n [] h k = k
has_not n (x ∷ xs) h (inl e) = (let t : eqb x n ≡ true = eq-eqb x n (sym e) in let d = subst (λ z. (z || has n xs) ≡ false) t h in cc)
has_not n (x ∷ xs) h (inr k) = go (λ e. has_not n xs e k) (eqb x n) h
  where
    go : (has n xs ≡ false → ⊥) → (p : Bool) → (p || has n xs) ≡ false → ⊥
    go later true d = cc
    go later false d = later d

pub in_cells : (ps : Pending) (a : Addr) (ns : List ℕ) → In a (map (cell_at ps) ns) → (n : ℕ) × Among n ns × (a ≡ cell_at ps n)
in_cells ps a [] k = absurd k
in_cells ps a (x ∷ ns) (inl e) = (x, inl refl, e)
in_cells ps a (x ∷ ns) (inr k) = (let r = in_cells ps a ns k in (r.0, inr r.1, r.2))

pub cells_in : (ps : Pending) (n : ℕ) (ns : List ℕ) → Among n ns → In (cell_at ps n) (map (cell_at ps) ns)
cells_in ps n [] k = absurd k
cells_in ps n (x ∷ ns) (inl e) = inl (ap (cell_at ps) e)
cells_in ps n (x ∷ ns) (inr k) = inr (cells_in ps n ns k)

pub cells_differ : (ps : Pending) → IsPending ps.book ps.cells → (ns : List ℕ) → Below (length ps.cells) ns → Differ ns → Distinct (map (cell_at ps) ns)
cells_differ ps pending [] b d = tt
cells_differ ps pending (x ∷ ns) b d = (
  (λ k. let r = in_cells ps (cell_at ps x) ns k in
      let same : x ≡ r.0 = cell_one ps pending x r.0 b.0 (below_at (length ps.cells) r.0 ns b.1 r.1) r.2 in
      d.0 (subst (λ z. Among z ns) (sym same) r.1)),
  cells_differ ps pending ns b.1 d.1,
)

pub known_below : (k : KnownList) (i : ℕ) (r : Shown) → get_or k i None ≡ Some r → i < length k
known_below [] i r e = cc
known_below (o ∷ k) zero r e = omega arith
known_below (o ∷ k) (suc i) r e = (let h = known_below k i r e in omega arith)

-- one result more

pub set_from : (k : KnownList) (i n : ℕ) (r q : Shown) → i < length k → get_or (set k i (Some r)) n None ≡ Some q → ((n ≡ i) × (q ≡ r)) ⊎ (get_or k n None ≡ Some q)
set_from k i n r q l e = ⊎_elim
    (λ (s : n ≡ i). let h : get_or (set k i (Some r)) i None ≡ Some q = subst (λ z. get_or (set k i (Some r)) z None ≡ Some q) s e in
    let g : get_or (set k i (Some r)) i None ≡ Some r = get_or-set_same k i (Some r) None l in
    let same : q ≡ r = cc in
    inl (s, same))
    (λ (d : n ≢ i). inr (sym (get_or-set_other k i n (Some r) None d) ∙ e))
    (cases_eq n i)

pub set_keeps : (k : KnownList) (i n : ℕ) (r q : Shown) → i < length k → get_or k n None ≡ Some q → (n ≡ i → q ≡ r) → get_or (set k i (Some r)) n None ≡ Some q
set_keeps k i n r q l e h = ⊎_elim
    (λ (s : n ≡ i). subst (λ z. get_or (set k i (Some r)) z None ≡ Some q) (sym s) (get_or-set_same k i (Some r) None l ∙ ap Some (sym (h s))))
    (λ (d : n ≢ i). get_or-set_other k i n (Some r) None d ∙ e)
    (cases_eq n i)

-- many marks of one cycle

pub length-marks : (n : ℕ) (xs : List ℕ) (k : KnownList) → length (mark_all n xs k) ≡ length k
length-marks n [] k = refl
length-marks n (i ∷ xs) k = length-marks n xs (set k i (Some (Shown.Cycle n))) ∙ length-set k i (Some (Shown.Cycle n))

below_set : (k : KnownList) (i : ℕ) (o : Option Shown) (xs : List ℕ) → Below (length k) xs → Below (length (set k i o)) xs
below_set k i o xs b = subst (λ z. Below z xs) (sym (length-set k i o)) b

pub marks_from : (n : ℕ) (xs : List ℕ) (k : KnownList) (m : ℕ) (q : Shown) → Below (length k) xs → get_or (mark_all n xs k) m None ≡ Some q → (Among m xs × (q ≡ Shown.Cycle n)) ⊎ (get_or k m None ≡ Some q)
marks_from n [] k m q b e = inr e
marks_from n (i ∷ xs) k m q b e =
    ⊎_elim (λ (p : Among m xs × (q ≡ Shown.Cycle n)). inl (inr p.0, p.1))
    (λ (p : get_or (set k i (Some (Shown.Cycle n))) m None ≡ Some q). ⊎_elim (λ (d : (m ≡ i) × (q ≡ Shown.Cycle n)). inl (inl d.0, d.1)) (λ d. inr d) (set_from k i m (Shown.Cycle n) q b.0 p))
    (marks_from n xs (set k i (Some (Shown.Cycle n))) m q (below_set k i (Some (Shown.Cycle n)) xs b.1) e)

-- what is known stays, where it is no other mark
pub marks_keep : (n : ℕ) (xs : List ℕ) (k : KnownList) (m : ℕ) (q : Shown) → Below (length k) xs → get_or k m None ≡ Some q → (Among m xs → q ≡ Shown.Cycle n) → get_or (mark_all n xs k) m None ≡ Some q
marks_keep n [] k m q b e h = e
marks_keep n (i ∷ xs) k m q b e h = marks_keep n xs (set k i (Some (Shown.Cycle n))) m q (below_set k i (Some (Shown.Cycle n)) xs b.1) (set_keeps k i m (Shown.Cycle n) q b.0 e (λ s. h (inl s))) (λ a. h (inr a))

pub marks_at : (n : ℕ) (xs : List ℕ) (k : KnownList) (m : ℕ) → Below (length k) xs → Among m xs → get_or (mark_all n xs k) m None ≡ Some (Shown.Cycle n)
marks_at n [] k m b a = absurd a
marks_at n (i ∷ xs) k m b (inl e) = marks_keep n xs (set k i (Some (Shown.Cycle n))) m (Shown.Cycle n) (below_set k i (Some (Shown.Cycle n)) xs b.1) (subst (λ z. get_or (set k i (Some (Shown.Cycle n))) z None ≡ Some (Shown.Cycle n)) (sym e) (get_or-set_same k i (Some (Shown.Cycle n)) None b.0)) (λ a. refl)
marks_at n (i ∷ xs) k m b (inr a) = marks_at n xs (set k i (Some (Shown.Cycle n))) m (below_set k i (Some (Shown.Cycle n)) xs b.1) a
