-- What holds of a worker between its steps is kept.
use Rattle.std.proofs.Common.{◌≡◌, ℕ, ◌<◌, List, [], ◌∷◌, refl, sym, ap, ◌∙◌, subst, cond, Bool, true, false, eqb, ltb, length, ◌++◌, Option, Some, None, IsSome, is_some, arith}
use Rattle.std.specs.Option.{option_or}
use Rattle.cell_values.specs.declared.values.Shown.{Shown}
use Rattle.cell_words.specs.declared.cell_word.CellWord.{CellWord}
use Rattle.cell_words.specs.Records.{filled, shown_read, tag_words}
use Rattle.cell_values.specs.declared.address.Addr.{Addr}
use Rattle.demand_spec.specs.Book.{Book}
use Rattle.claim_core.specs.declared.event.Claim.{Claim}
use Rattle.claim_core.specs.declared.event.Publish.{Publish}
use Rattle.claim_core.specs.declared.event.Event.{Event}
use Rattle.claim_core.specs.declared.view.View.{View}
use Rattle.claim_core.specs.Steps.{grown, taken_after}
use Rattle.claim_core.specs.Passes.{RoundSeen, PassSeen, IsIdle, SeesAllDone}
use Rattle.claim_core.specs.Pending.{IsPending}
use Rattle.worker_machine.specs.declared.action.Action.{Action}
use Rattle.worker_machine.specs.declared.action.Change.{Change}
use Rattle.worker_machine.specs.declared.action.Change.TheVariants.{Take, Learn, Close}
use Rattle.worker_machine.specs.declared.action.Next.{Next}
use Rattle.worker_machine.specs.declared.action.Next.TheVariants.{Alter, Do, Rest}
use Rattle.worker_machine.specs.declared.state.Store.{Store}
use Rattle.worker_machine.specs.Jobs.{Job, round_of}
use Rattle.worker_machine.specs.States.{State, Phase, Free, Claiming, ReadingTag, ReadingValue, start, held_number, top_result}
use Rattle.worker_machine.specs.Machine.{next, action_from, look_at_cell, begins_at, settle, changes_left, after_change, after, after_word, after_claim, after_load_tag, after_record, after_load_value, learn_cell, push_cell, with_word, with_tag, store_after}
use Rattle.worker_machine.specs.Evaluation.{KnowsAll, first_from}
use Rattle.worker_machine.specs.RoundSteps.{IsAllowed, IsEvent, IsHint, IsTold, action_of, claimer_in}
use Rattle.worker_machine.specs.Invariant.{IsWorker}
use Rattle.worker_machine.specs.Runs.{IsSettled}
use Rattle.worker_machine.proofs.Settle.{change_less, settle_keeps, settle_step}
use Rattle.worker_machine.proofs.Changing.{right_within}
use Rattle.worker_machine.proofs.Working.{work_begins, change_works, settle_works, steps_keep, worker_allowed, worker_ends}
use Rattle.speculative_eval.specs.declared.machine.Machine.{Machine}
use Rattle.speculative_eval.specs.Hinted.{HintsSeen, TakesHints, Took, asks, hint_of, hints_with}
use Rattle.speculative_eval.specs.Performs.{CanDo, FitsTag, TagFits, taken_by}
use Rattle.speculative_eval.specs.Workers.{job_in}
use Rattle.speculative_eval.specs.Machines.{job_of, state_of, SameTask, IsWorking, IsKept, IsCalled, IsChosen, CanNote}

-- the state of a machine that works on the same

works_as : (m n : Machine) (v : View) (s : State) → SameTask m n → state_of n ≡ s → IsWorker (job_of m) v s → IsWorker (job_of n) v (state_of n)
works_as m n v s same e h = subst (λ j. IsWorker j v (state_of n)) (sym same.job) (subst (IsWorker (job_of m) v) (sym e) h)

pub same_then : (l m n : Machine) → SameTask l m → SameTask m n → SameTask l n
same_then l m n p q = record { job = q.job ∙ p.job; first = q.first ∙ p.first }

-- a change

pub changed_works : (m n : Machine) (c : Change) → IsCalled m c → state_of n ≡ after_change (state_of m) c → SameTask m n → IsWorking n
changed_works m n c h e same = record {
  view = h.working.view;
  works = works_as m n h.working.view _ same e (change_works (job_of m) h.working.view (state_of m) c h.called h.working.works);
}

pub changed_settles : (m n : Machine) (c : Change) → IsCalled m c → state_of n ≡ after_change (state_of m) c → SameTask m n → settle (job_of n) (state_of n) ≡ settle (job_of m) (state_of m)
changed_settles m n c h e same =
    ap (λ j. settle j (state_of n)) same.job
    ∙ ap (settle (job_of m)) e
    ∙ settle_step (job_of m) (state_of m) c (right_within (job_of m) h.working.view (state_of m) h.working.works.state) h.called

pub changed_less : (m n : Machine) (c : Change) → IsCalled m c → state_of n ≡ after_change (state_of m) c → changes_left (state_of n) < changes_left (state_of m)
changed_less m n c h e = subst (λ s. changes_left s < changes_left (state_of m)) (sym e)
    (change_less (job_of m) (state_of m) c h.called (right_within (job_of m) h.working.view (state_of m) h.working.works.state))

-- settling

held_stays : (s : State) (c : Change) → (after_change s c).held ≡ s.held
held_stays s Take = refl
held_stays s (Learn r) = refl
held_stays s (Close i) = refl

settle_held : (j : Job) (s : State) → (settle j s).held ≡ s.held
settle_held j s = settle_keeps j (λ t. t.held ≡ s.held) (λ t c e h. held_stays t c ∙ h) s refl

pub settled_kept : (p : PassSeen) (m n : Machine) → IsKept p m → state_of n ≡ settle (job_of m) (state_of m) → SameTask m n → IsKept p n
settled_kept p m n h e same = record {
  works = works_as m n p.view _ same e (settle_works (job_of m) p.view (state_of m) h.works);
  first = same.first ∙ h.first ∙ ap begins_at (sym same.job);
  taken = h.taken ∙ ap held_number (sym (ap (λ (s : State). s.held) e ∙ settle_held (job_of m) (state_of m)));
}

-- the record that is held after an event

word_held : (s : State) (i : ℕ) (w : CellWord) → (after_word s i w).held ≡ s.held
word_held s i CellWord.Stale = refl
word_held s i (CellWord.Claimed c) = refl
word_held s i (CellWord.Done p c r) = refl

claim_held : (j : Job) (s : State) (i : ℕ) (a : Claim) → (after_claim j s i a).held ≡ s.held
claim_held j s i Claim.Won = refl
claim_held j s i (Claim.Found w) = word_held s i w

either_held : (b : Bool) (s t : State) (h : Option Store) → s.held ≡ h → t.held ≡ h → (cond b s t).held ≡ h
either_held true s t h p q = p
either_held false s t h p q = q

tag_held : (s : State) (t : ℕ) (p : Phase) → (after_load_tag s t p).held ≡ s.held
tag_held s t Free = refl
tag_held s t (Claiming i) = refl
tag_held s t (ReadingTag i r) = either_held (eqb t 7) (learn_cell i Shown.ToCycle s) _ s.held refl (either_held (eqb t 6) (push_cell i None s) (record s { phase = ReadingValue i r t [] }) s.held refl refl)
tag_held s t (ReadingValue i r u words) = refl

record_held : (s : State) (i : ℕ) (o : Option Shown) → (after_record s i o).held ≡ s.held
record_held s i (Some r) = refl
record_held s i None = refl

value_held : (s : State) (w : ℕ) (p : Phase) → (after_load_value s w p).held ≡ s.held
value_held s w Free = refl
value_held s w (Claiming i) = refl
value_held s w (ReadingTag i r) = refl
value_held s w (ReadingValue i r t words) =
    let all = words ++ w ∷ [] in
    either_held (ltb (length all) (tag_words t)) (record s { phase = ReadingValue i r t all }) (after_record s i (shown_read t (filled all))) s.held refl (record_held s i (shown_read t (filled all)))

word_number : (h : Option Store) → held_number (with_word h) ≡ held_number h
word_number (Some h) = refl
word_number None = refl

tag_number : (h : Option Store) → held_number (with_tag h) ≡ held_number h
tag_number (Some h) = refl
tag_number None = refl

publish_number : (r : ℕ) (a : Publish) (taken : Option ℕ) → taken ≡ Some r → taken_after a taken ≡ held_number (store_after a r)
publish_number r Publish.Won taken e = refl
publish_number r (Publish.Lost p c k) taken e = e

-- a publish gives the record that is held
abbrev GivesHeld : Event → Option ℕ → Type 0
GivesHeld (Event.Publish i r a) taken = taken ≡ Some r
GivesHeld (Event.Look i w) taken = Unit {0}
GivesHeld (Event.Claim i a) taken = Unit {0}
GivesHeld (Event.TakeRecord r) taken = Unit {0}
GivesHeld (Event.StoreValue r k w) taken = Unit {0}
GivesHeld (Event.StoreTag r w) taken = Unit {0}
GivesHeld (Event.LoadTag r t) taken = Unit {0}
GivesHeld (Event.LoadValue r k w) taken = Unit {0}

held_after_event : (j : Job) (s : State) (e : Event) → GivesHeld e (held_number s.held) → taken_by e (held_number s.held) ≡ held_number (after j s e).held
held_after_event j s (Event.Look i w) g = ap held_number (sym (word_held s i w))
held_after_event j s (Event.Claim i a) g = ap held_number (sym (claim_held j s i a))
held_after_event j s (Event.TakeRecord r) g = refl
held_after_event j s (Event.StoreValue r k w) g = sym (word_number s.held)
held_after_event j s (Event.StoreTag r w) g = sym (tag_number s.held)
held_after_event j s (Event.Publish i r a) g = publish_number r a (held_number s.held) g
held_after_event j s (Event.LoadTag r t) g = ap held_number (sym (tag_held s t s.phase))
held_after_event j s (Event.LoadValue r k w) g = ap held_number (sym (value_held s w s.phase))

allowed_gives : (j : Job) (v : View) (held : Option ℕ) (c : ℕ) (e : Event) → IsAllowed j v held (action_of c e) → GivesHeld e held
allowed_gives j v held c (Event.Look i w) a = tt
allowed_gives j v held c (Event.Claim i b) a = tt
allowed_gives j v held c (Event.TakeRecord r) a = tt
allowed_gives j v held c (Event.StoreValue r k w) a = tt
allowed_gives j v held c (Event.StoreTag r w) a = tt
allowed_gives j v held c (Event.Publish i r b) a = a.0
allowed_gives j v held c (Event.LoadTag r t) a = tt
allowed_gives j v held c (Event.LoadValue r k w) a = tt

-- a step

chosen_allowed : (p : PassSeen) (m : Machine) (a : Action) → IsKept p m → IsChosen m a → IsAllowed (job_of m) p.view (held_number m.held) a
chosen_allowed p m a h c = worker_allowed (job_of m) p.view (state_of m) h.works c.hint c.new a c.called

some_taken : (o : Option ℕ) (r : ℕ) → o ≡ Some r → IsSome o
some_taken o r e = ap is_some e

-- the round of the job allows it
allowed_can : (j : Job) (p : PassSeen) (t : _) (a : Action) → IsAllowed j p.view p.taken a → CanDo (record { setup = round_of j; table = t }) p a
allowed_can j p t (Action.Look i) h = h
allowed_can j p t (Action.Claim i) h = h
allowed_can j p t Action.TakeRecord h = ap is_some h.0
allowed_can j p t (Action.StoreValue r k w) h = (some_taken p.taken r h.0, h.1, h.2)
allowed_can j p t (Action.StoreTag r w) h = (some_taken p.taken r h.0, h.1)
allowed_can j p t (Action.Publish i r c) h = (some_taken p.taken r h.0, h.1, h.2, h.3, h.4, h.5)
allowed_can j p t (Action.LoadTag r) h = h
allowed_can j p t (Action.LoadValue r k) h = h

pub chosen_can : (r : RoundSeen) (p : PassSeen) (m : Machine) (a : Action) → round_of (job_of m) ≡ r.setup → IsKept p m → IsChosen m a → CanDo r p a
chosen_can r p m a e h c = subst (λ s. CanDo (record { setup = s; table = r.table }) p a) e
    (allowed_can (job_of m) p r.table a (subst (λ o. IsAllowed (job_of m) p.view o a) (sym h.taken) (chosen_allowed p m a h c)))

pub chosen_steps : (p : PassSeen) (m : Machine) (a : Action) (e : Event) → IsKept p m → IsChosen m a → IsEvent a e → IsTold p.view (state_of m) e → CanNote m e
chosen_steps p m a e h c made told = record {
  working = record { view = p.view; works = h.works };
  step = record { hint = c.hint; new = c.new; act = a; called = c.called; made = made; told = told };
}

pub stepped_kept : (p q : PassSeen) (m n : Machine) (a : Action) (e : Event) → IsKept p m → IsChosen m a → IsEvent a e → IsTold p.view (state_of m) e
    → q.view ≡ grown e p.view → q.taken ≡ taken_by e p.taken → state_of n ≡ after (job_of m) (state_of m) e → SameTask m n → IsKept q n
unfolding chosen_steps
stepped_kept p q m n a e h c made told view taken state same =
    let step = (chosen_steps p m a e h c made told).step in
    let gives = allowed_gives (job_of m) p.view (held_number m.held) (claimer_in a) e (subst (IsAllowed (job_of m) p.view (held_number m.held)) made (chosen_allowed p m a h c)) in
    record {
      works = subst (λ v. IsWorker (job_of n) v (state_of n)) (sym view) (works_as m n (grown e p.view) _ same state (steps_keep (job_of m) p.view (state_of m) e h.works step));
      first = same.first ∙ h.first ∙ ap begins_at (sym same.job);
      taken = taken ∙ ap (taken_by e) h.taken ∙ held_after_event (job_of m) (state_of m) e gives ∙ ap held_number (sym (ap (λ (s : State). s.held) state));
    }

-- what was chosen for a state whose next step is known

hint_new : (j : Job) (s : State) (asked : Bool) (old new : HintsSeen) → length s.known ≡ length j.pending.cells → TakesHints s.known asked old new → IsHint j s (hint_of asked new)
hint_new j s false old new sized h = tt
hint_new j s true old new sized h = go new.over new.last h
  where
    go : (over : Bool) (last : Option ℕ) → Took s.known over old (hints_with new.left last over) → IsHint j s (cond over None last)
    go true last k = tt
    go false None k = absurd k.1
    go false (Some i) k = (let low = k.1.0 in omega arith, k.1.1)

action_fits : (j : Job) (s : State) (hint : Option ℕ) (n : Next) (a : Action) (o : Option Shown) → action_from j s hint n ≡ Some a → FitsTag n o → TagFits a o
action_fits j s hint (Alter c) a o e h = cc
action_fits j s hint (Do b) a o e h = (let same : b ≡ a = cc in subst (λ x. TagFits x o) same h)
action_fits j s hint Rest a o e h = go (option_or hint (first_from s.known (begins_at j))) e
  where
    go : (c : Option ℕ) → look_at_cell c ≡ Some a → TagFits a o
    go None d = cc
    go (Some i) d = (let same : Action.Look i ≡ a = cc in subst (λ x. TagFits x o) same tt)

pub chosen_is : (p : PassSeen) (m : Machine) (n : Next) (old new : HintsSeen) (hint : Option ℕ) (a : Action) → IsKept p m → n ≡ next (job_of m) (state_of m) → FitsTag n (top_result m.demands.known m.demands.stack)
    → TakesHints m.demands.known (asks n old) old new → hint ≡ hint_of (asks n old) new → action_from (job_of m) (state_of m) hint n ≡ Some a → IsChosen m a
chosen_is p m n old new hint a h is_next fits taken is_hint e = record {
  hint = hint;
  new = subst (IsHint (job_of m) (state_of m)) (sym is_hint) (hint_new (job_of m) (state_of m) (asks n old) old new h.works.state.evaluation.knows.sized taken);
  called = subst (λ z. action_from (job_of m) (state_of m) hint z ≡ Some a) is_next e;
  fits = action_fits (job_of m) (state_of m) hint n a _ e fits;
}

-- where there is no step, all is known and was seen done
pub ends_with_all : (p : PassSeen) (m : Machine) (n : Next) (hint : Option ℕ) → IsKept p m → IsSettled (job_of m) (state_of m) → n ≡ next (job_of m) (state_of m) → action_from (job_of m) (state_of m) hint n ≡ None
    → KnowsAll (job_of m).pending m.demands.known × SeesAllDone (length m.demands.cells) p.view
ends_with_all p m n hint h settled is_next e = worker_ends (job_of m) p.view (state_of m) h.works settled hint (subst (λ z. action_from (job_of m) (state_of m) hint z ≡ None) is_next e)

-- at the start

abbrev pub job_with : Book → List Addr → ℕ → ℕ → Job
job_with b cs w m = record { pending = record { book = b; cells = cs }; worker = w; workers = m }

pub same_jobs : (b d : Book) (cs ds : List Addr) (w v m n : ℕ) → b ≡ d → cs ≡ ds → w ≡ v → m ≡ n
    → job_with b cs w m ≡ job_with d ds v n
same_jobs b d cs ds w v m n p q e f = λ i. job_with (p i) (q i) (e i) (f i)

begun_works : (r : RoundSeen) (p : PassSeen) → IsIdle r p → IsPending r.setup.book r.setup.cells → IsWorker (job_in r p) p.view (start (job_in r p))
begun_works r p idle pending = work_begins (job_in r p) (record { pending = pending; worker = idle.0.3 }) p.view (record {
  view = record { of_round = idle.0.1; number = idle.0.2 };
  no_events = idle.1;
  holds_none = idle.2;
})

pub begun_kept : (r : RoundSeen) (p : PassSeen) (m : Machine) → IsIdle r p → IsPending r.setup.book r.setup.cells → job_of m ≡ job_in r p → state_of m ≡ start (job_of m) → m.demands.first ≡ begins_at (job_of m) → IsKept p m
begun_kept r p m idle pending job state first = record {
  works = subst (λ s. IsWorker (job_of m) p.view s) (sym state) (subst (λ j. IsWorker j p.view (start j)) (sym job) (begun_works r p idle pending));
  first = first;
  taken = idle.3 ∙ ap held_number (sym (ap (λ (s : State). s.held) state));
}
