-- A pass that takes or gives the turn keeps all that it has seen and holds.
use Rattle.std.proofs.Common.{◌≡◌, ℕ, ◌+◌, ◌<◌, length, length-append, arith, List, [], ◌∷◌, refl, sym, ap, ◌∙◌, subst, Option, Some, None}
use mathlib.Core.Option.{some}
use lib.ListN.{get_elem?}
use Rattle.claim_core.specs.declared.view.Made.{Made}
use Rattle.claim_core.specs.declared.view.View.{View}
use Rattle.claim_core.specs.declared.view.RoundWords.{RoundWords}
use Rattle.claim_core.specs.Rule.{ShowsDone}
use Rattle.claim_core.specs.Steps.{in_turn, idle, made, me}
use Rattle.claim_core.specs.Passes.{PassSeen, SeesAllDone}
use Rattle.worker_machine.specs.declared.state.Store.{Store}
use Rattle.worker_machine.specs.Jobs.{Job}
use Rattle.worker_machine.specs.States.{State}
use Rattle.worker_machine.specs.Invariant.{HoldsNoted, IsWorker}
use Rattle.speculative_eval.specs.declared.machine.Machine.{Machine}
use Rattle.speculative_eval.specs.declared.step.Step.{Step}
use Rattle.speculative_eval.specs.Hinted.{HintsSeen}
use Rattle.speculative_eval.specs.Machines.{IsKept, job_of, state_of}
use Rattle.speculative_eval.specs.Workers.{WorkerSeen, worker_with}
use Rattle.speculative_eval.specs.Steps.{EndsWith, Makes, steps_in}

-- the same view with other parts of the turn and other words
abbrev seat_with : ℕ → RoundWords → View → View
seat_with parts words v = record { book = v.book; cells = v.cells; workers = v.workers; numbers = v.numbers; events = v.events; held = v.held; parts = parts; words = words }

holds_over : (v w : View) (s : State) (o : Option Store) → w.held ≡ v.held → HoldsNoted v s o → HoldsNoted w s o
holds_over v w s None e h = e ∙ h
holds_over v w s (Some x) e h = record { holds = h.holds; is_held = e ∙ h.is_held; rec = h.rec; stored = h.stored }

works_over : (j : Job) (v : View) (s : State) (parts : ℕ) (words : RoundWords) → IsWorker j v s → IsWorker j (seat_with parts words v) s
works_over j v s parts words h = record {
  job = h.job;
  view = record { of_round = h.view.of_round; number = h.view.number };
  state = record {
    evaluation = h.state.evaluation;
    tied = record { reading = h.state.tied.reading; owing = h.state.tied.owing; met = h.state.tied.met };
  };
  writes = holds_over v (seat_with parts words v) s s.held refl h.writes;
  bounded = h.bounded;
}

kept_over : (p q : PassSeen) (m : Machine) (parts : ℕ) (words : RoundWords) → q.view ≡ seat_with parts words p.view → q.taken ≡ p.taken → IsKept p m → IsKept q m
kept_over p q m parts words view taken h = record {
  works = subst (λ v. IsWorker (job_of m) v (state_of m)) (sym view) (works_over (job_of m) p.view (state_of m) parts words h.works);
  first = h.first;
  taken = taken ∙ h.taken;
}

pub kept_with_turn : (p q : PassSeen) (m : Machine) (words : RoundWords) → q.view ≡ in_turn words p.view → q.taken ≡ p.taken → IsKept p m → IsKept q m
kept_with_turn p q m words view taken h = kept_over p q m _ words view taken h

pub kept_idle : (p q : PassSeen) (m : Machine) → q.view ≡ idle p.view → q.taken ≡ p.taken → IsKept p m → IsKept q m
kept_idle p q m view taken h = kept_over p q m 0 p.view.words view taken h

-- the cells that these events show done
SeesDone : ℕ → List Made → Type 0
SeesDone m es = (i : ℕ) → i < m → (k : ℕ) × (n : ℕ) × (x : Made) × (get_elem? es n ≡ some x) × ShowsDone x i k

sees_over : (m : ℕ) (v w : View) → w.events ≡ v.events → SeesAllDone m v → SeesAllDone m w
unfolding SeesDone
sees_over m v w e h i low = (let s = subst (SeesDone m) (sym e) (λ n l. let k = h n l in (k.0, k.1.0, k.1.1, k.1.2, k.1.3)) i low in (s.0, (s.1, s.2, s.3, s.4)))

pub ends_over : (p q : PassSeen) (m : Machine) (h : HintsSeen) (x : Step) → q.view ≡ idle p.view → EndsWith x (worker_with p m h) → EndsWith x (worker_with q m h)
ends_over p q m h (Step.Did e) view k = tt
ends_over p q m h Step.Finished view k = (k.0, sees_over _ p.view q.view (ap (λ (v : View). v.events) view) k.1)

-- a step is one event more
pub steps_made : (old new : WorkerSeen) (x : Step) → Makes old x new → length new.pass.view.events ≡ length old.pass.view.events + steps_in x
steps_made old new (Step.Did e) h = ap (λ (v : View). length v.events) h.view ∙ length-append old.pass.view.events (made (me old.pass.view) e ∷ [])
steps_made old new Step.Finished h = ap (λ (p : PassSeen). length p.view.events) h.pass ∙ (let n : ℕ = length old.pass.view.events in let e : n ≡ n + 0 = omega arith in e)

-- the same between two turns
pub steps_in_turn : (p q : PassSeen) (p' q' : PassSeen) (m m' : Machine) (h h' : HintsSeen) (words : RoundWords) (x : Step) → p'.view ≡ in_turn words p.view → q'.view ≡ idle q.view
    → Makes (worker_with p' m h) x (worker_with q m' h') → length q'.view.events ≡ length p.view.events + steps_in x
steps_in_turn p q p' q' m m' h h' words x taken given made =
    ap (λ (v : View). length v.events) given ∙ (steps_made (worker_with p' m h) (worker_with q m' h') x made ∙ ap (λ (v : View). length v.events + steps_in x) taken)
