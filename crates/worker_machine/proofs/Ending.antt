-- A worker without a step knows every cell, and has seen every cell done.
use Rattle.std.proofs.Common.{◌≡◌, ℕ, zero, suc, ◌<◌, ⊎_elim, [], ◌∷◌, length, get_or, drop, refl, ap, ◌∙◌, subst, Option, Some, None, arith}
use Rattle.std.specs.Option.{option_or}
use Rattle.cell_values.specs.declared.values.Shown.{Shown}
use Rattle.claim_core.specs.declared.view.View.{View}
use Rattle.claim_core.specs.Passes.{SeesAllDone}
use Rattle.worker_machine.specs.declared.action.Next.{Next}
use Rattle.worker_machine.specs.declared.action.Next.TheVariants.{Alter, Do, Rest}
use Rattle.worker_machine.specs.Jobs.{Job}
use Rattle.worker_machine.specs.Evaluation.{Among, KnowsAll, cells_of, first_from, first_unknown}
use Rattle.worker_machine.specs.States.{State}
use Rattle.worker_machine.specs.Machine.{begins_at, look_at_cell, action_from, action, next}
use Rattle.worker_machine.specs.Runs.{IsSettled}
use Rattle.worker_machine.specs.Invariant.{SawDone, IsMet, IsRightState}
use Rattle.worker_machine.proofs.Numbers.{KnownList}
use Rattle.worker_machine.proofs.Why.{why_is}

all_known : (k : KnownList) (i : ℕ) → first_unknown k i ≡ None → (n : ℕ) → n < length k → (r : Shown) × (get_or k n None ≡ Some r)
all_known [] i e n l = absurd (omega arith)
all_known (None ∷ k) i e n l = cc
all_known (Some r ∷ k) i e zero l = (r, refl)
all_known (Some r ∷ k) i e (suc n) l = all_known k (suc i) e n (omega arith)

no_look : (j : Job) (s : State) (hint : Option ℕ) → look_at_cell (option_or hint (first_from s.known (begins_at j))) ≡ None → first_unknown s.known 0 ≡ None
no_look j s (Some i) e = cc
no_look j s None e = go (first_unknown (drop (begins_at j) s.known) (begins_at j)) e
  where
    last : (o : Option ℕ) → look_at_cell o ≡ None → o ≡ None
    last None d = refl
    last (Some n) d = cc

    go : (o : Option ℕ) → look_at_cell (option_or o (first_unknown s.known 0)) ≡ None → first_unknown s.known 0 ≡ None
    go (Some n) d = cc
    go None d = last (first_unknown s.known 0) d

-- the stack is empty, and no cell is unknown
none_left : (j : Job) (s : State) (hint : Option ℕ) → IsSettled j s → action j s hint ≡ None → (s.stack ≡ []) × (first_unknown s.known 0 ≡ None)
none_left j s hint settled e = go (next j s) refl e
  where
    go : (n : Next) → next j s ≡ n → action_from j s hint n ≡ None → (s.stack ≡ []) × (first_unknown s.known 0 ≡ None)
    go (Alter c) d f = absurd (settled c d)
    go (Do a) d f = cc
    go Rest d f = ((why_is j s Rest d).1, no_look j s hint f)

pub ends_with_all : (j : Job) (v : View) (s : State) (hint : Option ℕ) → IsRightState j v s → IsSettled j s → action j s hint ≡ None → KnowsAll j.pending s.known × SeesAllDone (length j.pending.cells) v
ends_with_all j v s hint h settled e =
    let left = none_left j s hint settled e in
    let size = h.evaluation.knows.sized in
    let met : IsMet v s.known [] = subst (λ fs. IsMet v s.known (cells_of fs)) left.0 h.tied.met in (
      (λ i l. let w = all_known s.known 0 left.1 i (omega arith) in w.1 ∙ ap Some (h.evaluation.knows.right i w.0 w.1)),
      (λ i l. let w = all_known s.known 0 left.1 i (omega arith) in ⊎_elim (λ (d : SawDone v i). d) (λ (a : Among i []). absurd a) (met i w.0 w.1)),
    )
