-- Runs of turns on the board.
use Rattle.std.proofs.Common.{◌≡◌, ℕ, zero, suc, ◌+◌, ◌-◌, ◌*◌, ◌<◌, ◌≤◌, false, Option, Some, None, List, [], ◌∷◌, drop, length, get_or, sym, refl, ap, ◌∙◌, subst, arith}
use Rattle.std.proofs.lemmas.List.{drop_more}
use Rattle.claim_core.specs.declared.event.Event.{Event}
use Rattle.claim_core.specs.declared.view.RoundWords.{RoundWords}
use Rattle.claim_core.specs.Rule.{Setup}
use Rattle.claim_core.specs.Passes.{RoundSeen}
use Rattle.worker_machine.specs.declared.action.Action.{Action}
use Rattle.worker_machine.specs.Found.{event_then}
use Rattle.speculative_eval.specs.declared.step.Step.{Step}
use Rattle.speculative_eval.specs.declared.step.Step.TheVariants.{Did, Finished}
use Rattle.speculative_eval.specs.Workers.{WorkerSeen}
use Rattle.speculative_eval.specs.Steps.{event_in}
use Rattle.parallel_evaluation.specs.Order.{Board, action_at, turned, run, unless_finished, to_end, is_stopped, ended, all_ended}
use Rattle.parallel_evaluation.specs.Turns.{AreWorkers, steps_at, IsTurnOn, HasEndedAt, HaveEnded, OthersStay}
use Rattle.parallel_evaluation.proofs.Turning.{at_or, steps_there, few_of}

-- one turn of an order
pub run_next : (r : Setup) (order : List ℕ) (i : ℕ) (b after : Board) → i < length order → after ≡ turned r (get_or order i 0) b → run r (drop (i + 1) order) after ≡ run r (drop i order) b
run_next r order i b after inside made = ap (run r (drop (i + 1) order)) made ∙ ap (λ ws. run r ws b) (sym (drop_more order i 0 inside))

-- a worker that made a step had an action, and one that made none had none
acts : (words : RoundWords) (o : Option Action) (e : Event) (again : Board → Board) (b : Board) → Some e ≡ event_then words o → unless_finished o again b ≡ again b
acts words None e again b same = absurd (cc)
acts words (Some a) e again b same = refl

rests : (words : RoundWords) (o : Option Action) (again : Board → Board) (b : Board) → None ≡ event_then words o → unless_finished o again b ≡ b
rests words None again b same = refl
rests words (Some a) again b same = absurd (cc)

-- a turn with a step is one of those to the end
pub goes_on : (r : Setup) (w n : ℕ) (b after : Board) (step : Step) (e : Event) → step ≡ Did e → IsTurnOn r w step b after → to_end r w n after ≡ to_end r w (suc n) b
goes_on r w n b after step e is turn =
    ap (to_end r w n) turn.board ∙ sym (acts b.words (action_at r b w) e (to_end r w n) (turned r w b) (ap event_in (sym is) ∙ turn.event))

-- a turn without one is the last
pub comes_to_end : (r : Setup) (w n : ℕ) (b after : Board) → IsTurnOn r w Finished b after → after ≡ to_end r w (suc n) b
comes_to_end r w n b after turn = turn.board ∙ sym (rests b.words (action_at r b w) (to_end r w n) (turned r w b) turn.event)

-- the workers of a round make few steps
pub few_at : (r : RoundSeen) (ws : List WorkerSeen) (w : ℕ) → w < length ws → AreWorkers r ws → steps_at ws w ≤ 16 * length r.setup.cells + 16
few_at r [] w low all = absurd (omega arith)
few_at r (y ∷ ys) w low all =
    let there = at_or (y ∷ ys) w y low in
    subst (λ n. n ≤ 16 * length r.setup.cells + 16) (sym (steps_there (y ∷ ys) w (get_or (y ∷ ys) w y) there)) (few_of r w (get_or (y ∷ ys) w y) (all w (get_or (y ∷ ys) w y) there))

-- one worker more has run to its end
pub one_ended : (r : Setup) (stopped : List ℕ) (n w : ℕ) (b after : Board) → w < n → after ≡ ended r stopped w b → all_ended r stopped (n - (w + 1)) (w + 1) after ≡ all_ended r stopped (n - w) w b
one_ended r stopped n w b after low made =
    (λ i. all_ended r stopped (n - (w + 1)) (let e : w + 1 ≡ suc w = omega arith in e i) (made i))
    ∙ ap (λ k. all_ended r stopped k w b) (let e : suc (n - (w + 1)) ≡ n - w = omega arith in e)

pub none_left : (r : Setup) (stopped : List ℕ) (n w : ℕ) (b : Board) → n ≤ w → all_ended r stopped (n - w) w b ≡ b
none_left r stopped n w b e = ap (λ k. all_ended r stopped k w b) (let z : n - w ≡ 0 = omega arith in z)

same_or_less : (a b : ℕ) → a ≤ b → (P : Type 0) → (a ≡ b → P) → (a < b → P) → P
same_or_less zero zero h P e l = e refl
same_or_less zero (suc b) h P e l = l (omega arith)
same_or_less (suc a) zero h P e l = absurd (omega arith)
same_or_less (suc a) (suc b) h P e l = same_or_less a b (omega arith) P (λ s. e (ap suc s)) (λ s. l (omega arith))

-- what has ended stays so while another worker has its turns
pub more_ended : (stopped : List ℕ) (old new : List WorkerSeen) (w : ℕ) → HaveEnded stopped old w → OthersStay w old new → (is_stopped stopped w ≡ false → HasEndedAt new w) → HaveEnded stopped new (w + 1)
more_ended stopped old new w all stay own k low runs = same_or_less k w (omega arith) (HasEndedAt new k)
    (λ e. subst (HasEndedAt new) (sym e) (own (subst (λ n. is_stopped stopped n ≡ false) e runs)))
    (λ less x at. all k less runs x (sym (stay k (λ e. omega arith)) ∙ at))

-- others stay through one turn more
pub others_on : (w : ℕ) (a b c : List WorkerSeen) → OthersStay w a b → OthersStay w b c → OthersStay w a c
others_on w a b c h g k n = g k n ∙ h k n
