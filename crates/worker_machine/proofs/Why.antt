-- What a state's next change or step says of the state.
use Rattle.std.proofs.Common.{◌≡◌, ℕ, Bool, true, false, cond, List, [], ◌∷◌, length, refl, subst, Option, Some, None, ltb}
use Rattle.cell_values.specs.declared.address.Addr.{Addr}
use Rattle.demand_spec.specs.declared.Asked.{Asked}
use Rattle.demand_spec.specs.declared.Asked.TheVariants.{Val, Needs}
use Rattle.cell_values.specs.declared.values.Shown.{Shown}
use Rattle.demand_spec.specs.Book.{ask_cell}
use Rattle.worker_machine.specs.declared.action.Change.{Change}
use Rattle.worker_machine.specs.declared.action.Next.{Next}
use Rattle.worker_machine.specs.declared.state.Entry.{Entry}
use Rattle.worker_machine.specs.declared.state.Store.{Store}
use Rattle.worker_machine.specs.declared.action.Next.TheVariants.{Alter, Do, Rest}
use Rattle.worker_machine.specs.declared.action.Change.TheVariants.{Take, Learn, Close}
use Rattle.worker_machine.specs.declared.action.Action.{Action}
use Rattle.cell_words.specs.Records.{record_words, tag_of, value_of}
use Rattle.worker_machine.specs.Invariant.{TopIsOwed}
use Rattle.worker_machine.specs.Jobs.{Job, cell_at, cell_number}
use Rattle.worker_machine.specs.Evaluation.{cells_of, has, values}
use Rattle.worker_machine.specs.Machine.{next_answered, next_needed, next_pending, next_unknown, next, next_free, next_in, next_top, next_known, next_store}
use Rattle.worker_machine.specs.States.{Claiming, Free, Phase, ReadingTag, ReadingValue, State, known_at}

pub record Top (s : State) : Type 0 where
  pub entry : Entry
  pub rest : List Entry
  pub is_free : s.phase ≡ Free
  pub on_top : s.stack ≡ entry ∷ rest

-- the top cell is known
pub record TopKnown (s : State) : Type 0 where
  pub top : Top s
  pub result : Shown
  pub is_known : known_at s top.entry.cell ≡ Some result

-- the top cell is not known, and its formula gives this
pub record TopGives (j : Job) (s : State) (o : Option Asked) : Type 0 where
  pub top : Top s
  pub unknown : known_at s top.entry.cell ≡ None
  pub gives : ask_cell j.pending.book (values j.pending s.known) (cell_at j.pending top.entry.cell) ≡ o

-- the top cell needs a pending cell that is not known
pub record TopNeeds (j : Job) (s : State) (i : ℕ) : Type 0 where
  pub cell : Addr
  pub asked : TopGives j s (Some (Needs cell))
  pub is_number : cell_number j.pending cell ≡ Some i
  pub lacking : known_at s i ≡ None

-- the top cell needs a cell that has no value
pub data Marked (j : Job) (s : State) : Type 0 where
  other : (x : Addr) → TopGives j s (Some (Needs x)) → cell_number j.pending x ≡ None → Marked j s
  known : (x : Addr) → TopGives j s (Some (Needs x)) → (i : ℕ) → cell_number j.pending x ≡ Some i → (r : Shown) → known_at s i ≡ Some r → Marked j s
  nothing : TopGives j s None → Marked j s

abbrev pub WhyLearn : Job → State → Shown → Type 0
WhyLearn j s (Shown.Val v) = TopGives j s (Some (Val v))
WhyLearn j s Shown.ToCycle = Marked j s
WhyLearn j s (Shown.Cycle n) = ⊥

abbrev pub WhyAlter : Job → State → Change → Type 0
WhyAlter j s Take = (k : TopKnown s) × (k.top.entry.owed ≡ None)
WhyAlter j s (Learn r) = WhyLearn j s r
WhyAlter j s (Close i) = TopNeeds j s i × (has i (cells_of s.stack) ≡ true)

-- a result goes into the record that is held
pub record Storing (s : State) (h : Store) (r : Shown) : Type 0 where
  pub cell : ℕ
  pub claimer : ℕ
  pub owed : TopIsOwed s cell claimer r
  pub held : s.held ≡ Some h

abbrev pub WhyDo : Job → State → Action → Type 0
WhyDo j s (Action.Look i) = TopNeeds j s i × (has i (cells_of s.stack) ≡ false)
WhyDo j s (Action.Claim i) = s.phase ≡ Claiming i
WhyDo j s Action.TakeRecord = (i : ℕ) × (c : ℕ) × (r : Shown) × TopIsOwed s i c r × (s.held ≡ None)
WhyDo j s (Action.StoreValue n k w) = (h : Store) × (r : Shown) × Storing s h r × (n ≡ h.rec) × (k ≡ h.stored) × (w ≡ value_of r k) × (ltb h.stored (record_words r) ≡ true)
WhyDo j s (Action.StoreTag n w) = (h : Store) × (r : Shown) × Storing s h r × (n ≡ h.rec) × (w ≡ tag_of r) × (ltb h.stored (record_words r) ≡ false) × (h.tagged ≡ false)
WhyDo j s (Action.Publish i n c) = (h : Store) × (r : Shown) × TopIsOwed s i c r × (s.held ≡ Some h) × (n ≡ h.rec) × (ltb h.stored (record_words r) ≡ false) × (h.tagged ≡ true)
WhyDo j s (Action.LoadTag r) = (i : ℕ) × (s.phase ≡ ReadingTag i r)
WhyDo j s (Action.LoadValue r k) = (i : ℕ) × (t : ℕ) × (ws : List ℕ) × (s.phase ≡ ReadingValue i r t ws) × (k ≡ length ws)

abbrev pub WhyNext : Job → State → Next → Type 0
WhyNext j s Rest = (s.phase ≡ Free) × (s.stack ≡ [])
WhyNext j s (Alter c) = WhyAlter j s c
WhyNext j s (Do a) = WhyDo j s a

module _ (j : Job) (s : State) where
  why_new : (i : ℕ) → TopNeeds j s i → WhyNext j s (next_unknown s i)
  why_new i n = go (has i (cells_of s.stack)) refl
    where
      go : (b : Bool) → has i (cells_of s.stack) ≡ b → WhyNext j s (cond b (Alter (Close i)) (Do (Action.Look i)))
      go true e = (n, e)
      go false e = (n, e)

  why_needed_pending : (x : Addr) → TopGives j s (Some (Needs x)) → (i : ℕ) → cell_number j.pending x ≡ Some i → (k : Option Shown) → known_at s i ≡ k → WhyNext j s (next_pending s i k)
  why_needed_pending x g i p (Some r) e = known x g i p r e
  why_needed_pending x g i p None e = why_new i (record { cell = x; asked = g; is_number = p; lacking = e })

  why_needed : (x : Addr) → TopGives j s (Some (Needs x)) → (o : Option ℕ) → cell_number j.pending x ≡ o → WhyNext j s (next_needed s o)
  why_needed x g None p = other x g p
  why_needed x g (Some i) p = why_needed_pending x g i p (known_at s i) refl

  why_answered : (o : Option Asked) → TopGives j s o → WhyNext j s (next_answered j s o)
  why_answered (Some (Val v)) g = g
  why_answered (Some (Needs x)) g = why_needed x g (cell_number j.pending x) refl
  why_answered None g = nothing g

  why_storing : (i c : ℕ) (r : Shown) → TopIsOwed s i c r → (h : Option Store) → s.held ≡ h → WhyNext j s (next_store i c r h)
  why_storing i c r o None e = (i, c, r, o, e)
  why_storing i c r o (Some h) e = go (ltb h.stored (record_words r)) refl h.tagged refl
    where
      go : (b : Bool) → ltb h.stored (record_words r) ≡ b → (d : Bool) → h.tagged ≡ d →
          WhyNext j s (cond b (Do (Action.StoreValue h.rec h.stored (value_of r h.stored))) (cond d (Do (Action.Publish i h.rec c)) (Do (Action.StoreTag h.rec (tag_of r)))))
      go true p d q = (h, r, record { cell = i; claimer = c; owed = o; held = e }, refl, refl, refl, p)
      go false p true q = (h, r, o, e, refl, p, q)
      go false p false q = (h, r, record { cell = i; claimer = c; owed = o; held = e }, refl, refl, p, q)

  why_top_known : (k : TopKnown s) → (o : Option ℕ) → k.top.entry.owed ≡ o → WhyNext j s (next_known s k.top.entry.cell k.result o)
  why_top_known k None e = (k, e)
  why_top_known k (Some c) e = why_storing k.top.entry.cell c k.result (record { entry = k.top.entry; rest = k.top.rest; is_free = k.top.is_free; on_top = k.top.on_top; cell = refl; is_known = k.is_known; owed = e }) s.held refl

  why_top : (t : Top s) → (k : Option Shown) → known_at s t.entry.cell ≡ k → WhyNext j s (next_top j s t.entry k)
  why_top t (Some r) e = why_top_known (record { top = t; result = r; is_known = e }) t.entry.owed refl
  why_top t None e = why_answered (ask_cell j.pending.book (values j.pending s.known) (cell_at j.pending t.entry.cell)) (record { top = t; unknown = e; gives = refl })

  why_free : s.phase ≡ Free → (fs : List Entry) → s.stack ≡ fs → WhyNext j s (next_free j s fs)
  why_free p [] e = (p, e)
  why_free p (f ∷ rest) e = why_top (record { entry = f; rest = rest; is_free = p; on_top = e }) (known_at s f.cell) refl

  why_in : (p : Phase) → s.phase ≡ p → WhyNext j s (next_in j s p)
  why_in Free e = why_free e s.stack refl
  why_in (Claiming i) e = e
  why_in (ReadingTag i r) e = (i, e)
  why_in (ReadingValue i r t ws) e = (i, t, ws, e, refl)

pub why : (j : Job) (s : State) → WhyNext j s (next j s)
unfolding next
why j s = why_in j s s.phase refl

pub why_is : (j : Job) (s : State) (n : Next) → next j s ≡ n → WhyNext j s n
why_is j s n e = subst (WhyNext j s) e (why j s)
