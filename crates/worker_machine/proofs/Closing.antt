-- A stack whose top needs one of its cells closes exactly one loop.
use Rattle.std.proofs.Common.{◌≡◌, ℕ, ◌+◌, arith, Bool, true, false, ◌||◌, cond, ◌⊎◌, inl, inr, ⊎_elim, List, [], ◌∷◌, length, map, eqb, refl, sym, ◌∙◌, subst, Some, get_or, eqb-true}
use Rattle.std.proofs.lemmas.List.{length-map}
use Rattle.cell_values.specs.declared.address.Addr.{Addr}
use Rattle.demand_spec.specs.Book.{Book, need}
use Rattle.demand_spec.specs.Laws.{In, Demands, Chain, NeedChain, HasPeriod, IsLoop}
use Rattle.demand_spec.proofs.Loops.{stack_closes}
use Rattle.worker_machine.proofs.Numbers.{cells_differ, cells_in}
use Rattle.claim_core.specs.Pending.{IsPending}
use Rattle.worker_machine.specs.Jobs.{Pending, cell_at}
use Rattle.worker_machine.specs.Evaluation.{Among, Below, Differ, LinkTo, has, part_to}

abbrev cells : Pending → List ℕ → List Addr
cells ps ns = map (cell_at ps) ns

pub record Closes (ps : Pending) (i : ℕ) (acc part : List ℕ) : Type 0 where
  pub rest : List ℕ
  pub loop : IsLoop ps.book (cell_at ps i) (map (cell_at ps) rest)
  pub from : (n : ℕ) → Among n (i ∷ rest) → Among n acc ⊎ Among n part
  pub into : (n : ℕ) → Among n acc ⊎ Among n part → Among n (i ∷ rest)
  pub count : length (i ∷ rest) ≡ length acc + length part

abbrev Apart : List ℕ → List ℕ → Type 0
Apart acc xs = (n : ℕ) → Among n acc → Among n xs → ⊥

closed_here : (ps : Pending) (i x : ℕ) (acc : List ℕ) → IsPending ps.book ps.cells → x ≡ i → Chain ps.book (cells ps (x ∷ acc)) (cell_at ps i) → Differ (x ∷ acc) → Below (length ps.cells) (x ∷ acc) → Closes ps i acc (x ∷ [])
closed_here ps i x acc pending e chain d b =
    let here : IsLoop ps.book (cell_at ps x) (cells ps acc) = stack_closes ps.book [] (cell_at ps x) (cells ps acc) (cells_differ ps pending (x ∷ acc) b d) (subst (λ z. Chain ps.book (cells ps (x ∷ acc)) (cell_at ps z)) (sym e) chain) in
    record {
      rest = acc;
      loop = subst (λ z. IsLoop ps.book (cell_at ps z) (cells ps acc)) e here;
      from = λ n. ⊎_elim (λ (k : n ≡ i). inr (inl (k ∙ sym e))) (λ k. inl k);
      into = λ n. ⊎_elim (λ k. inr k) (⊎_elim (λ (k : n ≡ x). inl (k ∙ e)) (λ k. absurd k));
      count = omega arith;
    }

further : (ps : Pending) (i x : ℕ) (acc part : List ℕ) → Closes ps i (x ∷ acc) part → Closes ps i acc (x ∷ part)
further ps i x acc part c = record {
  rest = c.rest;
  loop = c.loop;
  from = λ n k. ⊎_elim (⊎_elim (λ (e : n ≡ x). inr (inl e)) (λ m. inl m)) (λ m. inr (inr m)) (c.from n k);
  into = λ n k. c.into n (⊎_elim (λ m. inl (inr m)) (⊎_elim (λ (e : n ≡ x). inl (inl e)) (λ m. inr m)) k);
  count = (let z = c.count in omega arith);
}

closes_from : (ps : Pending) → IsPending ps.book ps.cells → (i : ℕ) (acc : List ℕ) (x : ℕ) (lower : List ℕ) → Chain ps.book (cells ps (x ∷ acc)) (cell_at ps i) → LinkTo ps x lower → Differ (x ∷ acc) → Differ (x ∷ lower) → Apart acc (x ∷ lower) → Below (length ps.cells) (x ∷ acc) → Below (length ps.cells) (x ∷ lower) → has i (x ∷ lower) ≡ true → Closes ps i acc (part_to i (x ∷ lower))
closes_from ps pending i acc x [] chain links d dl ap_ b bl h = go (eqb x i) refl h
  where
    go : (t : Bool) → eqb x i ≡ t → (t || false) ≡ true → Closes ps i acc (cond t (x ∷ []) (x ∷ []))
    go true e q = closed_here ps i x acc pending (eqb-true x i e) chain d b
    go false e q = cc
closes_from ps pending i acc x (y ∷ lower) chain links d dl apt b bl h =
    go (λ q. closes_from ps pending i (x ∷ acc) y lower
    (links.0, chain) links.1
    ((λ k. ⊎_elim (λ (s : y ≡ x). dl.0 (inl (sym s))) (λ m. apt y m (inr (inl refl))) k), d)
    dl.1
    (λ n k m. ⊎_elim (λ (s : n ≡ x). dl.0 (subst (λ z. Among z (y ∷ lower)) s m)) (λ p. apt n p (inr m)) k)
    (bl.1.0, b) bl.1 q)
    (eqb x i) refl h
  where
    go : (has i (y ∷ lower) ≡ true → Closes ps i (x ∷ acc) (part_to i (y ∷ lower))) → (t : Bool) → eqb x i ≡ t → (t || has i (y ∷ lower)) ≡ true → Closes ps i acc (cond t (x ∷ []) (x ∷ part_to i (y ∷ lower)))
    go later true e q = closed_here ps i x acc pending (eqb-true x i e) chain d b
    go later false e q = further ps i x acc (part_to i (y ∷ lower)) (later q)

-- the top needs the cell i of the stack
pub closes : (ps : Pending) → IsPending ps.book ps.cells → (i x : ℕ) (lower : List ℕ) → Demands ps.book (cell_at ps x) (cell_at ps i) → LinkTo ps x lower → Differ (x ∷ lower) → Below (length ps.cells) (x ∷ lower) → has i (x ∷ lower) ≡ true → Closes ps i [] (part_to i (x ∷ lower))
closes ps pending i x lower top links d b h = closes_from ps pending i [] x lower (top, tt) links ((λ k. k), tt) d (λ n k m. k) (b.0, tt) b h

-- a cell of a loop needs a cell of it
next_in_chain : (b : Book) (cs : List Addr) (y c : Addr) → NeedChain b cs y → In c cs → (z : Addr) × (need b c ≡ Some z) × (In z cs ⊎ (z ≡ y))
next_in_chain b [] y c h k = absurd k
next_in_chain b (s ∷ rest) y c h (inl e) = (get_or rest 0 y, subst (λ z. need b z ≡ Some (get_or rest 0 y)) (sym e) h.0, first rest)
  where
    first : (rest : List Addr) → In (get_or rest 0 y) (s ∷ rest) ⊎ (get_or rest 0 y ≡ y)
    first [] = inr refl
    first (t ∷ more) = inl (inr (inl refl))
next_in_chain b (s ∷ rest) y c h (inr k) = (let r = next_in_chain b rest y c h.1 k in (r.0, r.1, ⊎_elim (λ m. inl (inr m)) (λ m. inr m) r.2))

pub next_in_loop : (b : Book) (s : Addr) (rest : List Addr) (c y : Addr) → IsLoop b s rest → In c (s ∷ rest) → need b c ≡ Some y → In y (s ∷ rest)
next_in_loop b s rest c y loop k e =
    let r = next_in_chain b (s ∷ rest) s c loop.steps k in
    let at : In r.0 (s ∷ rest) = ⊎_elim (λ m. m) (λ (m : r.0 ≡ s). inl m) r.2 in
    let n = r.1 in
    let same : r.0 ≡ y = cc in
    subst (λ z. In z (s ∷ rest)) same at

-- the cells that are marked are as many as the loop is long
pub closes_period : (ps : Pending) (i : ℕ) (part : List ℕ) → Closes ps i [] part → (n : ℕ) → Among n part → HasPeriod ps.book (cell_at ps n) (length part)
closes_period ps i part c n k =
    let z = c.count in
    let l = length-map c.rest (cell_at ps) in
    let same : length (cell_at ps i ∷ map (cell_at ps) c.rest) ≡ length part = omega arith in
    subst (HasPeriod ps.book (cell_at ps n)) same (c.loop.period (cell_at ps n) (cells_in ps n (i ∷ c.rest) (c.into n (inr k))))
