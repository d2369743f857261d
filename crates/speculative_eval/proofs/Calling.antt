-- What the changes that a state calls for may ask of the stack.
use Rattle.std.proofs.Common.{◌≡◌, ℕ, ◌<◌, true, length, get_or, set, sym, subst, Some, None, arith}
use Rattle.std.proofs.lemmas.List.{get_or-set_same}
use Rattle.cell_values.specs.declared.values.Shown.{Shown}
use Rattle.claim_core.specs.declared.view.View.{View}
use Rattle.worker_machine.specs.declared.action.Change.TheVariants.{Take, Learn, Close}
use Rattle.worker_machine.specs.declared.action.Next.TheVariants.{Alter}
use Rattle.worker_machine.specs.declared.state.Entry.{Entry}
use Rattle.worker_machine.specs.Jobs.{Job, shows}
use Rattle.worker_machine.specs.Evaluation.{cells_of, has, learn_top}
use Rattle.worker_machine.specs.States.{State, known_at}
use Rattle.worker_machine.specs.Machine.{next}
use Rattle.worker_machine.specs.Invariant.{IsWorker}
use Rattle.worker_machine.proofs.Why.{Top, TopGives, Marked, other, known, nothing, WhyLearn, why_is}
use Rattle.worker_machine.proofs.Changing.{top_below, top_demands}
use Rattle.worker_machine.proofs.Working.{change_works}
use Rattle.demand_stack.specs.StackSeen.{IsFound, IsKnownTop, IsUnknownTop, TopDemands}
use Rattle.speculative_eval.specs.declared.machine.Machine.{Machine}
use Rattle.speculative_eval.specs.Machines.{job_of, state_of, IsCalled}

-- the top that is taken off is known
pub takes_known : (m : Machine) → IsCalled m Take → (f : Entry) × IsKnownTop m.demands f
takes_known m h =
    let k = (why_is (job_of m) (state_of m) (Alter Take) h.called).0 in
    (k.top.entry, record { rest = k.top.rest; on_top = k.top.on_top; result = k.result; is_known = k.is_known })

-- a top of which nothing is known
record Unknown (s : State) : Type 0 where
  top : Top s
  unknown : known_at s top.entry.cell ≡ None

gives_unknown : (j : Job) (s : State) (o : _) → TopGives j s o → Unknown s
gives_unknown j s o g = record { top = g.top; unknown = g.unknown }

marked_unknown : (j : Job) (s : State) → Marked j s → Unknown s
marked_unknown j s (other x g p) = gives_unknown j s _ g
marked_unknown j s (known x g i p r e) = gives_unknown j s _ g
marked_unknown j s (nothing g) = gives_unknown j s _ g

learns_unknown : (j : Job) (s : State) (r : Shown) → WhyLearn j s r → Unknown s
learns_unknown j s (Shown.Val v) g = gives_unknown j s _ g
learns_unknown j s Shown.ToCycle g = marked_unknown j s g
learns_unknown j s (Shown.Cycle n) g = absurd g

no_cycle_learnt : (j : Job) (s : State) (r : Shown) → WhyLearn j s r → (n : ℕ) → r ≡ Shown.Cycle n → ⊥
no_cycle_learnt j s r w n e = subst (WhyLearn j s) e w

-- what is learnt of the top is right, since it is known then
learnt_right : (j : Job) (v : View) (s : State) (t : Top s) (r : Shown) → IsWorker j v s → next j s ≡ Alter (Learn r) → r ≡ shows j.pending t.entry.cell
learnt_right j v s t r h e =
    let right = (change_works j v s (Learn r) e h).state.evaluation.knows.right in
    let low = top_below j v s t h.state in
    let sized = h.state.evaluation.knows.sized in
    let there : t.entry.cell < length s.known = omega arith in
    let at : get_or (set s.known t.entry.cell (Some r)) t.entry.cell None ≡ Some r = get_or-set_same s.known t.entry.cell (Some r) None there in
    right t.entry.cell r (subst (λ fs. get_or (learn_top fs r s.known) t.entry.cell None ≡ Some r) (sym t.on_top) at)

pub learns_found : (m : Machine) (r : Shown) → IsCalled m (Learn r) → (f : Entry) × (IsUnknownTop m.demands f × IsFound m.demands f.cell r)
learns_found m r h =
    let w = why_is (job_of m) (state_of m) (Alter (Learn r)) h.called in
    let u = learns_unknown (job_of m) (state_of m) r w in (
      u.top.entry,
      (
        record { rest = u.top.rest; on_top = u.top.on_top; unknown = u.unknown },
        record { right = learnt_right (job_of m) h.working.view (state_of m) u.top r h.working.works h.called; no_cycle = no_cycle_learnt (job_of m) (state_of m) r w },
      ),
    )

-- the cell at which a cycle closes is demanded by the top, and is on the stack

pub closes_demanded : (m : Machine) (i : ℕ) → IsCalled m (Close i) → (f : Entry) × TopDemands m.demands i f
closes_demanded m i h =
    let w = why_is (job_of m) (state_of m) (Alter (Close i)) h.called in
    let t = w.0.asked.top in (
      t.entry,
      record {
        top = record { rest = t.rest; on_top = t.on_top; unknown = w.0.asked.unknown };
        demands = top_demands (job_of m) h.working.view (state_of m) i h.working.works.job h.working.works.state w.0;
      },
    )

pub closes_there : (m : Machine) (i : ℕ) → IsCalled m (Close i) → has i (cells_of m.demands.stack) ≡ true
closes_there m i h = (why_is (job_of m) (state_of m) (Alter (Close i)) h.called).1
