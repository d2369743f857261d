-- Workers of a round that was just opened, on the board.
use Rattle.std.proofs.Common.{◌≡◌, ◌≢◌, ℕ, zero, suc, ◌+◌, List, [], ◌∷◌, map, replicate, length, sym, refl, ap, ◌∙◌, subst, arith}
use Rattle.std.specs.List.{All}
use Rattle.std.proofs.lemmas.List.{length-map}
use mathlib.Core.Option.{some, some-injective, some-ne-none}
use lib.ListN.{get_elem?}
use Rattle.cell_values.specs.declared.address.Addr.{Addr}
use Rattle.demand_spec.specs.Book.{Book}
use Rattle.claim_core.specs.declared.view.RoundWords.{RoundWords}
use Rattle.claim_core.specs.Rule.{Setup}
use Rattle.claim_core.specs.Passes.{RoundSeen, PassSeen, IsIdle, number}
use Rattle.claim_core.specs.Table.{count_from, first_words}
use Rattle.worker_machine.specs.States.{start}
use Rattle.speculative_eval.specs.Workers.{WorkerSeen}
use Rattle.parallel_evaluation.specs.declared.trace.Traced.{Traced}
use Rattle.parallel_evaluation.specs.Workers.{begun_in}
use Rattle.parallel_evaluation.specs.Order.{job_of, opening, run, all_ended, whole_run, run_order}
use Rattle.parallel_evaluation.specs.Turns.{IsWorkerAt, AreWorkers, state_of, board}
use Rattle.parallel_evaluation.proofs.Lists.{passes_counted}

count_at : (n a k x : ℕ) → get_elem? (count_from n a) k ≡ some x → x ≡ a + k
count_at zero a k x e = absurd (some-ne-none x (sym e))
count_at (suc n) a zero x e = let h : a ≡ x = some-injective a x e in omega arith
count_at (suc n) a (suc k) x e = let h = count_at n (a + 1) k x e in omega arith

at_map : {A B : Type 0} (f : A → B) (xs : List A) (k : ℕ) (x : A) → get_elem? xs k ≡ some x → get_elem? (map f xs) k ≡ some (f x)
at_map f [] k x e = absurd (some-ne-none x (sym e))
at_map f (y ∷ ys) zero x e = ap (λ z. some (f z)) (some-injective y x e)
at_map f (y ∷ ys) (suc k) x e = at_map f ys k x e

-- each worker is the one of its pass
begun_at : (r : RoundSeen) (ps : List PassSeen) → All (IsIdle r) ps → (k : ℕ) (w : WorkerSeen) → get_elem? (map (begun_in r) ps) k ≡ some w
    → (p : PassSeen) × (get_elem? ps k ≡ some p) × (begun_in r p ≡ w) × IsIdle r p
begun_at r [] all k w e = absurd (some-ne-none w (sym e))
begun_at r (p ∷ ps) all zero w e = (p, refl, some-injective (begun_in r p) w e, all 0 p (omega arith))
begun_at r (p ∷ ps) all (suc k) w e = begun_at r ps (λ k d low. all (suc k) d (omega arith)) k w e

numbered : (r : RoundSeen) (k : ℕ) (p : PassSeen) → IsIdle r p → p.worker ≡ k → IsWorkerAt r k (begun_in r p)
numbered r k p idle e = record {
  belongs = (idle.0, refl);
  job = ap (job_of r.setup) e;
  no_hints = refl;
  few = let none : length p.view.events ≡ 0 = ap length idle.1 in omega arith;
}

pub workers_begun : (r : RoundSeen) (ps : List PassSeen) → All (IsIdle r) ps → map number ps ≡ count_from r.setup.workers 0 → AreWorkers r (map (begun_in r) ps)
workers_begun r ps all numbers k w e =
    let it = begun_at r ps all k w e in
    let named : it.0.worker ≡ k = let h = count_at r.setup.workers 0 k it.0.worker (ap (λ ns. get_elem? ns k) (sym numbers) ∙ at_map number ps k it.0 it.1) in omega arith in
    subst (IsWorkerAt r k) it.2 (numbered r k it.0 it.3 named)

states_begun : (r : RoundSeen) (ps : List PassSeen) → map state_of (map (begun_in r) ps) ≡ replicate (length ps) (start (job_of r.setup 0))
states_begun r [] = refl
states_begun r (p ∷ ps) = ap (λ ss. start (job_of r.setup 0) ∷ ss) (states_begun r ps)

board_begun : (r : RoundSeen) (ps : List PassSeen) → map number ps ≡ count_from r.setup.workers 0 → board [] (first_words r.setup) (map (begun_in r) ps) ≡ opening r.setup
board_begun r ps numbers = λ i. record { events = []; words = first_words r.setup; states = (states_begun r ps ∙ ap (λ n. replicate n (start (job_of r.setup 0))) (passes_counted r.setup.workers ps numbers)) i }

-- the run of workers that were just begun is the whole run
pub whole_begun : (r : RoundSeen) (s : Setup) (ps : List PassSeen) (words : RoundWords) (ws : List WorkerSeen) (order stopped : List ℕ) (events : List Traced)
    → r.setup ≡ s → map number ps ≡ count_from r.setup.workers 0 → words ≡ first_words r.setup → ws ≡ map (begun_in r) ps
    → events ≡ (all_ended r.setup stopped (length ws) 0 (run r.setup order (board [] words ws))).events
    → events ≡ (whole_run s order stopped).events
whole_begun r s ps words ws order stopped events same numbers first begun ran =
    let count : length ws ≡ r.setup.workers = ap length begun ∙ (length-map ps (begun_in r) ∙ passes_counted r.setup.workers ps numbers) in
    let stands : board [] words ws ≡ opening r.setup = (λ i. board [] (first i) (begun i)) ∙ board_begun r ps numbers in
    ran ∙ ((λ i. (all_ended r.setup stopped (count i) 0 (run r.setup order (stands i))).events) ∙ ap (λ s. (whole_run s order stopped).events) same)

-- there are no events where nothing is pending
pub no_run : (b : Book) (cells : List Addr) (workers : ℕ) (order stopped : List ℕ) → cells ≡ [] → run_order b cells workers order stopped ≡ []
unfolding run_order
no_run b [] workers order stopped e = refl
no_run b (c ∷ cells) workers order stopped e = absurd (cc)

pub some_run : (b : Book) (cells : List Addr) (workers : ℕ) (order stopped : List ℕ) → cells ≢ []
    → run_order b cells workers order stopped ≡ (whole_run (record { book = b; cells = cells; workers = workers }) order stopped).events
unfolding run_order
some_run b [] workers order stopped e = absurd (e refl)
some_run b (c ∷ cells) workers order stopped e = refl
