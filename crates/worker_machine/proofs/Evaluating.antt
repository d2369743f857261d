-- What each change keeps of an evaluation.
use Rattle.std.proofs.Common.{◌≡◌, ℕ, zero, suc, ◌<◌, ◌≤◌, Bool, true, false, cond, inl, inr, List, [], ◌∷◌, length, map, get_or, set, eqb, replicate, sym, subst, Some, None, arith}
use Rattle.std.proofs.lemmas.List.{length-map, length-replicate}
use Rattle.cell_values.specs.declared.values.Shown.{Shown}
use Rattle.demand_spec.specs.Laws.{In, Demands}
use Rattle.demand_spec.proofs.Cycles.{no_more}
use Rattle.claim_core.specs.Pending.{IsPending}
use Rattle.worker_machine.specs.Jobs.{Pending, cell_at, shows}
use Rattle.worker_machine.specs.Evaluation.{Among, Below, Differ, LinkTo, Links, IsEvaluation, has, part_to, mark_cycle}
use Rattle.worker_machine.proofs.Places.{cell_in_cells}
use Rattle.worker_machine.proofs.Numbers.{KnownList, below_at, has_not, in_cells, cells_differ}
use Rattle.worker_machine.proofs.Closing.{closes}
use Rattle.worker_machine.proofs.Knowing.{knows_more, knows_loop}

links_tail : (ps : Pending) (x : ℕ) (cs : List ℕ) → LinkTo ps x cs → Links ps cs
links_tail ps x [] h = tt
links_tail ps x (y ∷ cs) h = h.1

-- the top is taken off
pub tail_evaluates : (ps : Pending) (k : KnownList) (x : ℕ) (cs : List ℕ) → IsEvaluation ps k (x ∷ cs) → IsEvaluation ps k cs
tail_evaluates ps k x cs h = record { knows = h.knows; linked = links_tail ps x cs h.linked; differ = h.differ.1; below = h.below.1 }

-- a result is learnt that is no mark of a cycle
pub learnt_evaluates : (ps : Pending) (k : KnownList) (cs : List ℕ) (i : ℕ) (r : Shown) → IsEvaluation ps k cs → i < length ps.cells → r ≡ shows ps i → ((n : ℕ) → r ≡ Shown.Cycle n → ⊥) → IsEvaluation ps (set k i (Some r)) cs
learnt_evaluates ps k cs i r h l e n = record { knows = knows_more ps k i r h.knows l e n; linked = h.linked; differ = h.differ; below = h.below }

-- a cell that the top demands is put on it
pub pushed_evaluates : (ps : Pending) (k : KnownList) (x i : ℕ) (cs : List ℕ) → Demands ps.book (cell_at ps x) (cell_at ps i) → i < length ps.cells → has i (x ∷ cs) ≡ false → IsEvaluation ps k (x ∷ cs) → IsEvaluation ps k (i ∷ x ∷ cs)
pushed_evaluates ps k x i cs d l off h = record { knows = h.knows; linked = (d, h.linked); differ = (has_not i (x ∷ cs) off, h.differ); below = (l, h.below) }

-- a cell is put on the empty stack
pub first_evaluates : (ps : Pending) (k : KnownList) (i : ℕ) → i < length ps.cells → IsEvaluation ps k [] → IsEvaluation ps k (i ∷ [])
first_evaluates ps k i l h = record { knows = h.knows; linked = tt; differ = ((λ n. n), tt); below = (l, tt) }

pub below_part : (m i : ℕ) (cs : List ℕ) → Below m cs → Below m (part_to i cs)
below_part m i [] h = tt
below_part m i (c ∷ cs) h = go (below_part m i cs h.1) (eqb c i)
  where
    go : Below m (part_to i cs) → (t : Bool) → Below m (cond t (c ∷ []) (c ∷ part_to i cs))
    go rest true = (h.0, tt)
    go rest false = (h.0, rest)

pub part_in : (n i : ℕ) (cs : List ℕ) → Among n (part_to i cs) → Among n cs
part_in n i [] m = m
part_in n i (c ∷ cs) m = go (part_in n i cs) (eqb c i) m
  where
    go : (Among n (part_to i cs) → Among n cs) → (t : Bool) → Among n (cond t (c ∷ []) (c ∷ part_to i cs)) → Among n (c ∷ cs)
    go later true (inl e) = inl e
    go later true (inr k) = absurd k
    go later false (inl e) = inl e
    go later false (inr k) = inr (later k)

-- the top demands a cell of the stack
pub closed_evaluates : (ps : Pending) → IsPending ps.book ps.cells → (k : KnownList) (i x : ℕ) (cs : List ℕ) → Demands ps.book (cell_at ps x) (cell_at ps i) → has i (x ∷ cs) ≡ true → IsEvaluation ps k (x ∷ cs) → IsEvaluation ps (mark_cycle (part_to i (x ∷ cs)) k) (x ∷ cs)
closed_evaluates ps pending k i x cs d on h =
    let c = closes ps pending i x cs d h.linked h.differ h.below on in
    record { knows = knows_loop ps k i (part_to i (x ∷ cs)) h.knows c (below_part (length ps.cells) i (x ∷ cs) h.below); linked = h.linked; differ = h.differ; below = h.below }

-- the start

pub none_known : (n i : ℕ) (r : Shown) → get_or (replicate n None) i None ≡ Some r → ⊥
none_known zero i r e = cc
none_known (suc n) zero r e = cc
none_known (suc n) (suc i) r e = none_known n i r e

pub start_evaluates : (ps : Pending) → IsEvaluation ps (replicate (length ps.cells) None) []
start_evaluates ps = record {
  knows = record { sized = length-replicate (length ps.cells) None; right = λ i r e. absurd (none_known (length ps.cells) i r e); whole = λ i n y e p. absurd (none_known (length ps.cells) i (Shown.Cycle n) e) };
  linked = tt;
  differ = tt;
  below = tt;
}

-- the stack is no higher than the cells are many
pub few_numbers : (ps : Pending) → IsPending ps.book ps.cells → (ns : List ℕ) → Below (length ps.cells) ns → Differ ns → length ns ≤ length ps.cells
few_numbers ps pending ns b d =
    let l = no_more (map (cell_at ps) ns) ps.cells (cells_differ ps pending ns b d) (λ c k. let r = in_cells ps c ns k in subst (λ z. In z ps.cells) (sym r.2) (cell_in_cells ps r.0 (below_at (length ps.cells) r.0 ns b r.1))) in
    omega (arith, length-map ns (cell_at ps), l)
