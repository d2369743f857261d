-- What changes without a step keeps all that holds of a worker.
use Rattle.std.proofs.Common.{◌≡◌, ℕ, ◌<◌, true, inl, inr, ⊎_elim, List, [], ◌∷◌, length, set, sym, subst, Some, None}
use Rattle.cell_values.specs.declared.values.Shown.{Shown}
use Rattle.demand_spec.specs.Laws.{Demands}
use Rattle.claim_core.specs.declared.view.View.{View}
use Rattle.worker_machine.specs.declared.action.Change.{Change}
use Rattle.worker_machine.specs.declared.action.Change.TheVariants.{Take, Learn, Close}
use Rattle.worker_machine.specs.declared.action.Next.TheVariants.{Alter}
use Rattle.worker_machine.specs.declared.state.Entry.{Entry}
use Rattle.worker_machine.specs.Jobs.{Pending, Job, IsJob, cell_at, shows}
use Rattle.worker_machine.specs.Evaluation.{Among, Below, IsEvaluation, cells_of, has, learn_top, mark_cycle, part_to, pop, values}
use Rattle.worker_machine.specs.States.{State, Phase}
use Rattle.worker_machine.specs.Machine.{after_change, next, settle}
use Rattle.worker_machine.specs.Invariant.{open_cells, AreOwed, IsOwed, SawDone, IsMet, IsRightState, EntriesBelow, Within}
use Rattle.worker_machine.proofs.Places.{number_some, formula_there}
use Rattle.worker_machine.proofs.Numbers.{KnownList, set_from, marks_from}
use Rattle.worker_machine.proofs.Settle.{settle_keeps}
use Rattle.worker_machine.proofs.Shows.{values_part, demands, asked_none}
use Rattle.worker_machine.proofs.Knowing.{needs_other, needs_known, gives_value}
use Rattle.worker_machine.proofs.Evaluating.{tail_evaluates, learnt_evaluates, closed_evaluates, below_part, part_in}
use Rattle.worker_machine.proofs.Why.{Top, TopNeeds, Marked, other, known, nothing, why_is}

-- what holds of the stack of a state that is free
pub top_evaluates : (j : Job) (v : View) (s : State) (t : Top s) → IsRightState j v s → IsEvaluation j.pending s.known (cells_of (t.entry ∷ t.rest))
top_evaluates j v s t h = subst (λ p. IsEvaluation j.pending s.known (open_cells p (cells_of (t.entry ∷ t.rest)))) t.is_free (subst (λ fs. IsEvaluation j.pending s.known (open_cells s.phase (cells_of fs))) t.on_top h.evaluation)

-- and back, for what is made of the known results and of the stack
at_top : (ps : Pending) (s : State) (t : Top s) (k : List Entry → KnownList) (g : List Entry → List Entry) → IsEvaluation ps (k (t.entry ∷ t.rest)) (cells_of (g (t.entry ∷ t.rest))) → IsEvaluation ps (k s.stack) (open_cells s.phase (cells_of (g s.stack)))
at_top ps s t k g h = subst (λ fs. IsEvaluation ps (k fs) (open_cells s.phase (cells_of (g fs)))) (sym t.on_top) (subst (λ p. IsEvaluation ps (k (t.entry ∷ t.rest)) (open_cells p (cells_of (g (t.entry ∷ t.rest))))) (sym t.is_free) h)

top_owed : (j : Job) (v : View) (s : State) (t : Top s) → IsRightState j v s → AreOwed j v (t.entry ∷ t.rest)
top_owed j v s t h = subst (AreOwed j v) t.on_top h.tied.owing

top_met : (j : Job) (v : View) (s : State) (t : Top s) → IsRightState j v s → IsMet v s.known (cells_of (t.entry ∷ t.rest))
top_met j v s t h = subst (λ fs. IsMet v s.known (cells_of fs)) t.on_top h.tied.met

pub owed_popped : (j : Job) (v : View) (fs : List Entry) → AreOwed j v fs → AreOwed j v (pop fs)
owed_popped j v [] h = h
owed_popped j v (f ∷ rest) h = h.1

pub top_below : (j : Job) (v : View) (s : State) (t : Top s) → IsRightState j v s → t.entry.cell < length j.pending.cells
top_below j v s t h = (top_evaluates j v s t h).below.0

-- where a known cell was met

pub met_top : (v : View) (k : KnownList) (c : ℕ) (r : Shown) (cs : List ℕ) → c < length k → IsMet v k (c ∷ cs) → IsMet v (set k c (Some r)) (c ∷ cs)
met_top v k c r cs l m = λ i q e. ⊎_elim (λ (p : (i ≡ c) × (q ≡ r)). inr (inl p.0)) (λ p. m i q p) (set_from k c i r q l e)

pub met_popped : (v : View) (k : KnownList) (c : ℕ) (cs : List ℕ) → SawDone v c → IsMet v k (c ∷ cs) → IsMet v k cs
met_popped v k c cs d m = λ i q e. ⊎_elim (λ x. inl x) (λ (a : Among i (c ∷ cs)). ⊎_elim (λ (p : i ≡ c). inl (subst (SawDone v) (sym p) d)) (λ b. inr b) a) (m i q e)

met_marked : (v : View) (k : KnownList) (i : ℕ) (cs : List ℕ) → Below (length k) (part_to i cs) → IsMet v k cs → IsMet v (mark_cycle (part_to i cs) k) cs
met_marked v k i cs b m = λ n q e. ⊎_elim
    (λ (p : Among n (part_to i cs) × (q ≡ Shown.Cycle (length (part_to i cs)))). inr (part_in n i cs p.0))
    (λ p. m n q p)
    (marks_from (length (part_to i cs)) (part_to i cs) k n q b e)

learn_keeps : (j : Job) (v : View) (s : State) (t : Top s) (r : Shown) → IsRightState j v s → r ≡ shows j.pending t.entry.cell → ((n : ℕ) → r ≡ Shown.Cycle n → ⊥) → IsRightState j v (after_change s (Learn r))
learn_keeps j v s t r h e n =
    let low : t.entry.cell < length s.known = subst (λ z. t.entry.cell < z) (sym h.evaluation.knows.sized) (top_below j v s t h) in
    record {
      evaluation = at_top j.pending s t (λ fs. learn_top fs r s.known) (λ fs. fs) (learnt_evaluates j.pending s.known (cells_of (t.entry ∷ t.rest)) t.entry.cell r (top_evaluates j v s t h) (top_below j v s t h) e n);
      tied = record {
        reading = h.tied.reading;
        owing = h.tied.owing;
        met = subst (λ fs. IsMet v (learn_top fs r s.known) (cells_of fs)) (sym t.on_top) (met_top v s.known t.entry.cell r (cells_of t.rest) low (top_met j v s t h));
      };
    }

drop_keeps : (j : Job) (v : View) (s : State) (t : Top s) → t.entry.owed ≡ None → IsRightState j v s → IsRightState j v (after_change s Take)
drop_keeps j v s t o h =
    let done : SawDone v t.entry.cell = subst (IsOwed j v t.entry.cell) o (top_owed j v s t h).0 in
    record {
      evaluation = at_top j.pending s t (λ fs. s.known) pop (tail_evaluates j.pending s.known t.entry.cell (cells_of t.rest) (top_evaluates j v s t h));
      tied = record {
        reading = h.tied.reading;
        owing = owed_popped j v s.stack h.tied.owing;
        met = subst (λ fs. IsMet v s.known (cells_of (pop fs))) (sym t.on_top) (met_popped v s.known t.entry.cell (cells_of t.rest) done (top_met j v s t h));
      };
    }

marked_shows : (j : Job) (v : View) (s : State) → IsJob j → IsRightState j v s → Marked j s → (t : Top s) × (shows j.pending t.entry.cell ≡ Shown.ToCycle)
marked_shows j v s job h (other x g p) = (g.top, needs_other j.pending s.known job.pending h.evaluation.knows g.top.entry.cell x (top_below j v s g.top h) g.gives p)
marked_shows j v s job h (known x g i p r e) = (g.top, needs_known j.pending s.known job.pending h.evaluation.knows g.top.entry.cell x (top_below j v s g.top h) g.unknown g.gives i p r e)
marked_shows j v s job h (nothing g) = (let f = formula_there j.pending job.pending g.top.entry.cell (top_below j v s g.top h) in absurd (asked_none j.pending.book (values j.pending s.known) (cell_at j.pending g.top.entry.cell) f.0 f.1 g.gives))

-- what the top cell demands
pub top_demands : (j : Job) (v : View) (s : State) (i : ℕ) → IsJob j → IsRightState j v s → (n : TopNeeds j s i) → Demands j.pending.book (cell_at j.pending n.asked.top.entry.cell) (cell_at j.pending i)
top_demands j v s i job h n =
    let at = number_some j.pending n.cell i n.is_number in
    let d = demands j.pending.book (values j.pending s.known) (cell_at j.pending n.asked.top.entry.cell) n.cell (values_part j.pending s.known job.pending h.evaluation.knows.right) n.asked.gives in
    subst (λ x. Demands j.pending.book (cell_at j.pending n.asked.top.entry.cell) x) (sym at.1) d

close_keeps : (j : Job) (v : View) (s : State) (i : ℕ) → IsJob j → IsRightState j v s → (n : TopNeeds j s i) → has i (cells_of s.stack) ≡ true → IsRightState j v (after_change s (Close i))
close_keeps j v s i job h n on =
    let t = n.asked.top in
    let o = top_evaluates j v s t h in
    let cs = cells_of (t.entry ∷ t.rest) in
    let low = below_part (length j.pending.cells) i cs o.below in
    record {
      evaluation = at_top j.pending s t (λ fs. mark_cycle (part_to i (cells_of fs)) s.known) (λ fs. fs) (closed_evaluates j.pending job.pending s.known i t.entry.cell (cells_of t.rest) (top_demands j v s i job h n) (subst (λ fs. has i (cells_of fs) ≡ true) t.on_top on) o);
      tied = record {
        reading = h.tied.reading;
        owing = h.tied.owing;
        met = subst (λ fs. IsMet v (mark_cycle (part_to i (cells_of fs)) s.known) (cells_of fs)) (sym t.on_top)
            (met_marked v s.known i cs (subst (λ z. Below z (part_to i cs)) (sym h.evaluation.knows.sized) low) (top_met j v s t h));
      };
    }

pub change_keeps : (j : Job) (v : View) → IsJob j → (s : State) (c : Change) → next j s ≡ Alter c → IsRightState j v s → IsRightState j v (after_change s c)
change_keeps j v job s Take e h = (let k = why_is j s (Alter Take) e in drop_keeps j v s k.0.top k.1 h)
change_keeps j v job s (Learn (Shown.Val x)) e h =
    let g = why_is j s (Alter (Learn (Shown.Val x))) e in
    learn_keeps j v s g.top (Shown.Val x) h (sym (gives_value j.pending s.known job.pending h.evaluation.knows g.top.entry.cell x g.gives)) (λ n q. cc)
change_keeps j v job s (Learn Shown.ToCycle) e h =
    let m = marked_shows j v s job h (why_is j s (Alter (Learn Shown.ToCycle)) e) in
    learn_keeps j v s m.0 Shown.ToCycle h (sym m.1) (λ n q. cc)
change_keeps j v job s (Learn (Shown.Cycle n)) e h = absurd (why_is j s (Alter (Learn (Shown.Cycle n))) e)
change_keeps j v job s (Close i) e h = (let w = why_is j s (Alter (Close i)) e in close_keeps j v s i job h w.0 w.1)

pub settle_right : (j : Job) (v : View) → IsJob j → (s : State) → IsRightState j v s → IsRightState j v (settle j s)
settle_right j v job s h = settle_keeps j (IsRightState j v) (change_keeps j v job) s h

-- what settling needs
entries_below : (m : ℕ) (fs : List Entry) → Below m (cells_of fs) → EntriesBelow m fs
entries_below m [] h = tt
entries_below m (f ∷ rest) h = (h.0, entries_below m rest h.1)

below_open : (m : ℕ) (p : Phase) (cs : List ℕ) → Below m (open_cells p cs) → Below m cs
below_open m Phase.Free cs h = h
below_open m (Phase.Claiming i) cs h = h.1
below_open m (Phase.ReadingTag i r) cs h = h.1
below_open m (Phase.ReadingValue i r t words) cs h = h.1

pub right_within : (j : Job) (v : View) (s : State) → IsRightState j v s → Within s
right_within j v s h = subst (λ n. EntriesBelow n s.stack) (sym h.evaluation.knows.sized) (entries_below (length j.pending.cells) s.stack (below_open (length j.pending.cells) s.phase (cells_of s.stack) h.evaluation.below))
