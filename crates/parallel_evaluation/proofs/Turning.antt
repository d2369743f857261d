-- One turn of a worker on the board.
use Rattle.std.proofs.Common.{◌≡◌, ◌≢◌, ℕ, zero, suc, ◌+◌, ◌*◌, ◌<◌, ◌≤◌, true, false, cond, Option, None, List, [], ◌∷◌, ◌++◌, map, length, get_or, set, sym, refl, ap, ◌∙◌, subst, arith}
use mathlib.Core.Option.{some, some-injective, some-ne-none}
use lib.ListN.{get_elem?}
use lib.Seq.{map-set}
use Rattle.claim_core.specs.declared.view.RoundWords.{RoundWords}
use Rattle.claim_core.specs.Rule.{Setup, or_none}
use Rattle.claim_core.specs.Passes.{RoundSeen}
use Rattle.worker_machine.specs.declared.action.Action.{Action}
use Rattle.worker_machine.specs.declared.action.Next.{Next}
use Rattle.worker_machine.specs.declared.action.Next.TheVariants.{Alter, Do, Rest}
use Rattle.worker_machine.specs.Jobs.{Job}
use Rattle.worker_machine.specs.States.{State, start}
use Rattle.worker_machine.specs.Machine.{settle, action}
use Rattle.worker_machine.specs.Found.{event_then, words_then, state_then}
use Rattle.speculative_eval.specs.declared.step.Step.{Step}
use Rattle.speculative_eval.specs.declared.step.Step.TheVariants.{Did, Finished}
use Rattle.speculative_eval.specs.Hinted.{HintsSeen, asks, hint_of}
use Rattle.speculative_eval.specs.Hinted as hinted
use Rattle.speculative_eval.specs.Workers.{WorkerSeen, BelongsTo, settled, step_action, TakesHints}
use Rattle.speculative_eval.specs.Steps.{IsTurned, event_in, HasAll, HasFewEvents, EndsWith}
use Rattle.parallel_evaluation.specs.declared.trace.Traced.{Traced}
use Rattle.parallel_evaluation.specs.Order.{Board, job_of, state_at, settled_at, action_at, traced, is_stopped}
use Rattle.parallel_evaluation.specs.Turns.{AreWorkers, IsWorkerAt, state_of, board, steps_of, steps_at, IsTurnOn, EndsAt, HaveEnded}
use Rattle.parallel_evaluation.specs.Workers.{HasEnded}
use Rattle.std.specs.List.{All}

-- hints that have ended are never asked
asks_none : (n : Next) (h : HintsSeen) → h.over ≡ true → asks n h ≡ false
asks_none Rest h e = ap (λ b. cond b false true) e
asks_none (Alter c) h e = refl
asks_none (Do a) h e = refl

-- so the action is the one without a hint
pub action_unhinted : (w : WorkerSeen) (h : HintsSeen) → w.hints.over ≡ true → step_action w h ≡ action w.job (settled w) None
action_unhinted w h e = ap (λ b. action w.job (settled w) (hint_of b h)) (asks_none _ w.hints e)

-- the state of a worker stands on the board
state_there : (s : State) (ws : List WorkerSeen) (w : ℕ) (x : WorkerSeen) → get_elem? ws w ≡ some x → get_or (map state_of ws) w s ≡ x.state
state_there s [] w x e = absurd (some-ne-none x (sym e))
state_there s (y ∷ ys) zero x e = ap state_of (some-injective y x e)
state_there s (y ∷ ys) (suc w) x e = state_there s ys w x e

-- what a step in turn comes to is a turn on the board
pub turn_made : (r : Setup) (w : ℕ) (ws : List WorkerSeen) (words words' : RoundWords) (x x' : WorkerSeen) (step : Step) (events : List Traced)
    → get_elem? ws w ≡ some x → x.job ≡ job_of r w → x.hints.over ≡ true → IsTurned x words step words' x'
    → IsTurnOn r w step (board events words ws) (board (events ++ traced w (event_in step)) words' (set ws w x'))
turn_made r w ws words words' x x' step events there job over t =
    let b : Board = board events words ws in
    let j : Job = job_of r w in
    let now : State = settled_at r b w in
    let a : Option Action = action_at r b w in
    let stands : state_at r b w ≡ x.state = state_there (start (job_of r w)) ws w x there in
    let settles : settled x ≡ now = (λ i. settle (job i) x.state) ∙ ap (settle j) (sym stands) in
    let called : step_action x x'.hints ≡ a = action_unhinted x x'.hints over ∙ (λ i. action (job i) (settles i) None) in
    let event : event_in step ≡ event_then words a = t.event ∙ ap (event_then words) called in
    let after_words : words' ≡ words_then w words a = t.words_after ∙ (λ i. words_then (job i).worker words (called i)) in
    let after_state : x'.state ≡ state_then j words now a = t.state ∙ (λ i. state_then (job i) words (settles i) (called i)) in
    let states : map state_of (set ws w x') ≡ set (map state_of ws) w (state_then j words now a) = map-set state_of ws w x' ∙ ap (set (map state_of ws) w) after_state in
    record {
      event = event;
      board = λ i. record { events = events ++ traced w (event i); words = after_words i; states = states i };
    }

-- what stands in a list with one element changed
at_same : {A : Type 0} (xs : List A) (w : ℕ) (x : A) → w < length xs → get_elem? (set xs w x) w ≡ some x
at_same [] w x low = absurd (omega arith)
at_same (y ∷ ys) zero x low = refl
at_same (y ∷ ys) (suc w) x low = at_same ys w x (omega arith)

pub at_others : {A : Type 0} (xs : List A) (w k : ℕ) (x : A) → k ≢ w → get_elem? (set xs w x) k ≡ get_elem? xs k
at_others [] w k x n = refl
at_others (y ∷ ys) zero zero x n = absurd (n refl)
at_others (y ∷ ys) zero (suc k) x n = refl
at_others (y ∷ ys) (suc w) zero x n = refl
at_others (y ∷ ys) (suc w) (suc k) x n = at_others ys w k x (λ e. n (ap suc e))

pub at_or : {A : Type 0} (xs : List A) (i : ℕ) (d : A) → i < length xs → get_elem? xs i ≡ some (get_or xs i d)
at_or [] i d low = absurd (omega arith)
at_or (x ∷ xs) zero d low = refl
at_or (x ∷ xs) (suc i) d low = at_or xs i d (omega arith)

-- where the changed element is asked
pub changed_at : {A : Type 0} (P : A → Type 0) (xs : List A) (w : ℕ) (x : A) → w < length xs → P x → (y : A) → get_elem? (set xs w x) w ≡ some y → P y
changed_at P xs w x low h y e = subst P (some-injective x y (sym (at_same xs w x low) ∙ e)) h

same_or_not : (a b : ℕ) → (P : Type 0) → (a ≡ b → P) → (a ≢ b → P) → P
same_or_not zero zero P h n = h refl
same_or_not zero (suc b) P h n = n (λ e. omega arith)
same_or_not (suc a) zero P h n = n (λ e. omega arith)
same_or_not (suc a) (suc b) P h n = same_or_not a b P (λ e. h (ap suc e)) (λ k. n (λ e. k (omega arith)))

pub still_workers : (r : RoundSeen) (ws : List WorkerSeen) (w : ℕ) (x : WorkerSeen) → w < length ws → AreWorkers r ws → IsWorkerAt r w x → AreWorkers r (set ws w x)
still_workers r ws w x low all own k y at = same_or_not k w (IsWorkerAt r k y)
    (λ e. subst (λ n. IsWorkerAt r n y) (sym e) (changed_at (IsWorkerAt r w) ws w x low own y (subst (λ n. get_elem? (set ws w x) n ≡ some y) e at)))
    (λ n. all k y (sym (at_others ws w k x n) ∙ at))

-- steps are counted at the worker that makes them
pub steps_there : (ws : List WorkerSeen) (w : ℕ) (x : WorkerSeen) → get_elem? ws w ≡ some x → steps_at ws w ≡ steps_of x
steps_there ws w x e = ap (or_none steps_of) e

pub steps_set : (ws : List WorkerSeen) (w : ℕ) (x : WorkerSeen) → w < length ws → steps_at (set ws w x) w ≡ steps_of x
steps_set ws w x low = ap (or_none steps_of) (at_same ws w x low)

-- hints that have ended stay so
pub hints_stay : (w : WorkerSeen) (h : HintsSeen) → w.hints.over ≡ true → TakesHints w h → h.over ≡ true
hints_stay w h e t = ap (λ (h : HintsSeen). h.over) (subst (λ b. hinted.TakesHints (settled w).known b w.hints h) (asks_none _ w.hints e) t) ∙ e

-- a worker behind its turn
pub stays_at : (r : RoundSeen) (w : ℕ) (x x' : WorkerSeen) → IsWorkerAt r w x → BelongsTo r x' → x'.job ≡ x.job → TakesHints x x'.hints → HasFewEvents x' → IsWorkerAt r w x'
stays_at r w x x' it belongs job hints few = record { belongs = belongs; job = job ∙ it.job; no_hints = hints_stay x x'.hints it.no_hints hints; few = few }

-- a worker of the round makes few steps
pub few_of : (r : RoundSeen) (w : ℕ) (x : WorkerSeen) → IsWorkerAt r w x → steps_of x ≤ 16 * length r.setup.cells + 16
few_of r w x it = subst (λ (j : Job). steps_of x ≤ 16 * length j.pending.cells + 16) it.job it.few

-- what holds of a worker that finished stands at its place
pub ends_at : (step : Step) (ws : List WorkerSeen) (w : ℕ) (x : WorkerSeen) → w < length ws → EndsWith step x → EndsAt step (set ws w x) w
ends_at (Did e) ws w x low h = h
ends_at Finished ws w x low h = changed_at HasAll ws w x low h

-- all workers of a round belong to it
pub all_belong : (r : RoundSeen) (ws : List WorkerSeen) → AreWorkers r ws → All (BelongsTo r) ws
all_belong r ws h k d low = (h k (get_or ws k d) (at_or ws k d low)).belongs

-- a worker that is not stopped has ended
pub ended_there : (r : RoundSeen) (stopped : List ℕ) (ws : List WorkerSeen) (k : ℕ) (x : WorkerSeen) → k < length ws → x ≡ get_or ws k x → AreWorkers r ws → HaveEnded stopped ws (length ws) → is_stopped stopped k ≡ false → HasEnded r x
ended_there r stopped ws k x low read all ended runs =
    let there : get_elem? ws k ≡ some x = at_or ws k x low ∙ ap some (sym read) in record {
      belongs = (all k x there).belongs;
      all = ended k low runs x there;
    }
