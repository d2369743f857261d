-- The notes of cells, one changed.
use Rattle.std.proofs.Common.{◌≡◌, ◌≢◌, ℕ, zero, suc, ◌<◌, ◌⊎◌, inl, inr, ⊎_elim, Bool, true, false, cond, ◌||◌, eqb, List, [], ◌∷◌, length, get_or, set, refl, sym, ap, ◌∙◌, subst, None}
use Rattle.std.proofs.lemmas.Bool.{cases_eq}
use Rattle.std.proofs.lemmas.List.{length-set, get_or-set_same, get_or-set_other, length-map}
use Rattle.demand_stack.specs.declared.notes.Note.{Note}
use Rattle.worker_machine.specs.Evaluation.{Among, Differ, Below, has, part_to, mark_all}
use Rattle.demand_stack.specs.Open.{blank, begun_of}
use Rattle.demand_stack.specs.Recall.{known_of}
use Rattle.demand_stack.specs.Kept.{lower, cycled, note_cycle}
use Rattle.worker_machine.proofs.Numbers.{KnownList}
use Rattle.worker_machine.proofs.Evaluating.{below_part}
use Rattle.demand_stack.proofs.Recalls.{known_at}

pub length-known : (ns : List Note) → length (known_of ns) ≡ length ns
length-known ns = length-map ns (λ (n : Note). n.shown)

pub known_set : (ns : List Note) (i : ℕ) (n : Note) → known_of (set ns i n) ≡ set (known_of ns) i n.shown
known_set [] i n = refl
known_set (x ∷ ns) zero n = refl
known_set (x ∷ ns) (suc i) n = ap (λ z. x.shown ∷ z) (known_set ns i n)

set_same : (k : KnownList) (i : ℕ) → set k i (get_or k i None) ≡ k
set_same [] i = refl
set_same (x ∷ k) zero = refl
set_same (x ∷ k) (suc i) = ap (λ z. x ∷ z) (set_same k i)

pub note_again : (ns : List Note) (i : ℕ) → get_or ns i blank ≡ get_or ns i (get_or ns i blank)
note_again [] i = refl
note_again (x ∷ ns) zero = refl
note_again (x ∷ ns) (suc i) = note_again ns i

-- a note with the same result
pub known_stays : (ns : List Note) (i : ℕ) (n : Note) → n.shown ≡ (get_or ns i blank).shown → known_of (set ns i n) ≡ known_of ns
known_stays ns i n e = known_set ns i n ∙ ap (set (known_of ns) i) (e ∙ sym (known_at ns i)) ∙ set_same (known_of ns) i

-- what holds of the other notes holds of all
pub all_set : (P : ℕ → Note → Type 0) (ns : List Note) (i : ℕ) (n : Note) → i < length ns → P i n → ((m : ℕ) → (m ≡ i → ⊥) → P m (get_or ns m blank)) → (m : ℕ) → P m (get_or (set ns i n) m blank)
all_set P ns i n l here others m = ⊎_elim
    (λ (e : m ≡ i). subst (λ z. P z (get_or (set ns i n) z blank)) (sym e) (subst (P i) (sym (get_or-set_same ns i n blank l)) here))
    (λ (d : m ≢ i). subst (P m) (sym (get_or-set_other ns i m n blank d)) (others m d))
    (cases_eq m i)

pub begun_other : (ns : List Note) (i : ℕ) (n : Note) (cs : List ℕ) → (Among i cs → ⊥) → begun_of (set ns i n) cs ≡ begun_of ns cs
begun_other ns i n [] h = refl
begun_other ns i n (c ∷ cs) h =
    let other : get_or (set ns i n) c blank ≡ get_or ns c blank = get_or-set_other ns i c n blank (λ e. h (inl (sym e))) in
    let rest = begun_other ns i n cs (λ k. h (inr k)) in
    (λ z. cond (other z).begun (c ∷ rest z) (rest z))

pub begun_here : (ns : List Note) (i : ℕ) (n : Note) (cs : List ℕ) → i < length ns → (Among i cs → ⊥) → begun_of (set ns i n) (i ∷ cs) ≡ cond n.begun (i ∷ begun_of ns cs) (begun_of ns cs)
begun_here ns i n cs l h =
    let here : get_or (set ns i n) i blank ≡ n = get_or-set_same ns i n blank l in
    let rest = begun_other ns i n cs h in
    (λ z. cond (here z).begun (i ∷ rest z) (rest z))

-- cells whose evaluations stand open are cells of the stack

pub begun_among : (ns : List Note) (cs : List ℕ) (n : ℕ) → Among n (begun_of ns cs) → Among n cs
begun_among ns [] n k = k
begun_among ns (c ∷ cs) n k = go (begun_among ns cs n) (get_or ns c blank).begun k
  where
    go : (Among n (begun_of ns cs) → Among n cs) → (t : Bool) → Among n (cond t (c ∷ begun_of ns cs) (begun_of ns cs)) → Among n (c ∷ cs)
    go later true (inl e) = inl e
    go later true (inr m) = inr (later m)
    go later false m = inr (later m)

pub begun_differ : (ns : List Note) (cs : List ℕ) → Differ cs → Differ (begun_of ns cs)
begun_differ ns [] d = tt
begun_differ ns (c ∷ cs) d = go (begun_differ ns cs d.1) (λ k. d.0 (begun_among ns cs c k)) (get_or ns c blank).begun
  where
    go : Differ (begun_of ns cs) → (Among c (begun_of ns cs) → ⊥) → (t : Bool) → Differ (cond t (c ∷ begun_of ns cs) (begun_of ns cs))
    go rest out true = (out, rest)
    go rest out false = rest

pub begun_below : (m : ℕ) (ns : List Note) (cs : List ℕ) → Below m cs → Below m (begun_of ns cs)
begun_below m ns [] b = tt
begun_below m ns (c ∷ cs) b = go (begun_below m ns cs b.1) (get_or ns c blank).begun
  where
    go : Below m (begun_of ns cs) → (t : Bool) → Below m (cond t (c ∷ begun_of ns cs) (begun_of ns cs))
    go rest true = (b.0, rest)
    go rest false = rest

-- the marks of a cycle of m cells

pub length-note_cycle : (m : ℕ) (xs : List ℕ) (ns : List Note) → length (note_cycle m xs ns) ≡ length ns
length-note_cycle m [] ns = refl
length-note_cycle m (i ∷ xs) ns = length-note_cycle m xs (set ns i (cycled m (get_or ns i blank))) ∙ length-set ns i (cycled m (get_or ns i blank))

pub known_cycle : (m : ℕ) (xs : List ℕ) (ns : List Note) → known_of (note_cycle m xs ns) ≡ mark_all m xs (known_of ns)
known_cycle m [] ns = refl
known_cycle m (i ∷ xs) ns = known_cycle m xs (set ns i (cycled m (get_or ns i blank))) ∙ ap (mark_all m xs) (known_set ns i (cycled m (get_or ns i blank)))

-- each mark keeps what holds of each note, by its number
pub cycle_keeps : (P : ℕ → Note → Type 0) (m : ℕ) → ((i : ℕ) (n : Note) → P i n → P i (cycled m n)) → (xs : List ℕ) (ns : List Note) → Below (length ns) xs → ((i : ℕ) → P i (get_or ns i blank)) → (i : ℕ) → P i (get_or (note_cycle m xs ns) i blank)
cycle_keeps P m keeps [] ns b h k = h k
cycle_keeps P m keeps (i ∷ xs) ns b h k =
    let next : List Note = set ns i (cycled m (get_or ns i blank)) in
    cycle_keeps P m keeps xs next (subst (λ z. Below z xs) (sym (length-set ns i (cycled m (get_or ns i blank)))) b.1) (all_set P ns i (cycled m (get_or ns i blank)) b.0 (keeps i (get_or ns i blank) (h i)) (λ c d. h c)) k

-- a cell that is marked is not begun
pub cycle_shut : (m : ℕ) (xs : List ℕ) (ns : List Note) (i : ℕ) → Below (length ns) xs → (Among i xs ⊎ ((get_or ns i blank).begun ≡ false)) → (get_or (note_cycle m xs ns) i blank).begun ≡ false
cycle_shut m [] ns i b (inl k) = absurd k
cycle_shut m [] ns i b (inr e) = e
cycle_shut m (x ∷ xs) ns i b k =
    let next : List Note = set ns x (cycled m (get_or ns x blank)) in
    cycle_shut m xs next i (subst (λ z. Below z xs) (sym (length-set ns x (cycled m (get_or ns x blank)))) b.1) (step k)
  where
    here : (i ≡ x) → (get_or (set ns x (cycled m (get_or ns x blank))) i blank).begun ≡ false
    here e = subst (λ z. (get_or (set ns x (cycled m (get_or ns x blank))) z blank).begun ≡ false) (sym e) (ap (λ (z : Note). z.begun) (get_or-set_same ns x (cycled m (get_or ns x blank)) blank b.0))

    step : (Among i (x ∷ xs) ⊎ ((get_or ns i blank).begun ≡ false)) → Among i xs ⊎ ((get_or (set ns x (cycled m (get_or ns x blank))) i blank).begun ≡ false)
    step (inl (inl e)) = inr (here e)
    step (inl (inr a)) = inl a
    step (inr q) = ⊎_elim
        (λ (e : i ≡ x). inr (here e))
        (λ (d : i ≢ x). inr (ap (λ (z : Note). z.begun) (get_or-set_other ns x i (cycled m (get_or ns x blank)) blank d) ∙ q))
        (cases_eq i x)

lower_among : (i n : ℕ) (cs : List ℕ) → Among n (lower i cs) → Among n cs
lower_among i n [] k = k
lower_among i n (c ∷ cs) k = go (lower_among i n cs) (eqb c i) k
  where
    go : (Among n (lower i cs) → Among n cs) → (t : Bool) → Among n (cond t cs (lower i cs)) → Among n (c ∷ cs)
    go later true m = inr m
    go later false m = inr (later m)

shut_top : (m : ℕ) (ns : List Note) (c : ℕ) (xs cs : List ℕ) → Below (length ns) (c ∷ xs) → begun_of (note_cycle m (c ∷ xs) ns) (c ∷ cs) ≡ begun_of (note_cycle m (c ∷ xs) ns) cs
shut_top m ns c xs cs b = ap (λ t. cond t (c ∷ begun_of (note_cycle m (c ∷ xs) ns) cs) (begun_of (note_cycle m (c ∷ xs) ns) cs)) (cycle_shut m (c ∷ xs) ns c b (inl (inl refl)))

-- the stack falls into the part that is marked, and what lies below it
pub begun_cycle : (m i : ℕ) (cs : List ℕ) (ns : List Note) → Differ cs → Below (length ns) cs → has i cs ≡ true → begun_of (note_cycle m (part_to i cs) ns) cs ≡ begun_of ns (lower i cs)
begun_cycle m i [] ns d b h = cc
begun_cycle m i (c ∷ cs) ns d b h = go (begun_cycle m i cs (set ns c (cycled m (get_or ns c blank))) d.1 (subst (λ z. Below z cs) (sym (length-set ns c (cycled m (get_or ns c blank)))) b.1)) (eqb c i) h
  where
    go : (has i cs ≡ true → begun_of (note_cycle m (part_to i cs) (set ns c (cycled m (get_or ns c blank)))) cs ≡ begun_of (set ns c (cycled m (get_or ns c blank))) (lower i cs)) → (t : Bool) → (t || has i cs) ≡ true → begun_of (note_cycle m (cond t (c ∷ []) (c ∷ part_to i cs)) ns) (c ∷ cs) ≡ begun_of ns (cond t cs (lower i cs))
    go later true q = shut_top m ns c [] cs (b.0, tt) ∙ begun_other ns c (cycled m (get_or ns c blank)) cs d.0
    go later false q = shut_top m ns c (part_to i cs) cs (b.0, below_part (length ns) i cs b.1) ∙ later q ∙ begun_other ns c (cycled m (get_or ns c blank)) (lower i cs) (λ k. d.0 (lower_among i c cs k))
