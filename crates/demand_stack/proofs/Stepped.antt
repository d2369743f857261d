-- The steps of an evaluation without a round.
use Rattle.std.proofs.Common.{◌≡◌, ℕ, ◌<◌, Bool, true, false, ◌||◌, List, [], ◌∷◌, length, get_or, eqb, is_some, refl, sym, ◌∙◌, subst, Option, Some, None, arith, eq-eqb}
use Rattle.cell_values.specs.declared.values.Shown.{Shown}
use Rattle.worker_machine.specs.declared.state.Entry.{Entry}
use Rattle.worker_machine.specs.Jobs.{shows}
use Rattle.worker_machine.specs.Evaluation.{Below, cells_of, has, learn_top, mark_cycle, part_to, pop}
use Rattle.worker_machine.specs.Invariant.{EntriesBelow}
use Rattle.worker_machine.specs.Machine.{unknown_in}
use Rattle.worker_machine.specs.States.{State, Free}
use Rattle.worker_machine.proofs.Bound.{fresh_le, fresh_lt, learns_stay, marks_stay, stays_known, stays_popped, stays_pushed}
use Rattle.worker_machine.proofs.Numbers.{KnownList}
use Rattle.worker_machine.proofs.Settle.{close_less, learn_less}
use Rattle.worker_machine.proofs.Why.{Top}
use Rattle.demand_stack.specs.Alone.{GoesOn, SameCells, is_met}
use Rattle.demand_stack.specs.StackSeen.{StackSeen, IsDemandStack, IsKnownTop, IsUnknownTop, pending_of, top_of, with_known, with_stack}
use Rattle.demand_stack.proofs.Driving.{no_top}

-- the cells of a stack are below the number of cells

entries_below : (n : ℕ) (fs : List Entry) → Below n (cells_of fs) → EntriesBelow n fs
entries_below n [] h = tt
entries_below n (f ∷ rest) h = (h.0, entries_below n rest h.1)

-- the stack as the state of a machine, and its top

abbrev state_of : StackSeen → State
state_of s = record { stack = s.stack; known = s.known; held = None; phase = Free }

top_in : (s : StackSeen) (f : Entry) → IsUnknownTop s f → Top (state_of s)
top_in s f t = record { entry = f; rest = t.rest; is_free = refl; on_top = t.on_top }

within : (s : StackSeen) → IsDemandStack s → EntriesBelow (length s.known) s.stack
within s h = subst (λ n. EntriesBelow n s.stack) (sym h.evaluation.knows.sized) (entries_below (length s.cells) s.stack h.evaluation.below)

-- more is known

known_on : (s : StackSeen) (k : KnownList) → ((i : ℕ) → is_some (get_or s.known i None) ≡ true → is_some (get_or k i None) ≡ true) → unknown_in k < unknown_in s.known → GoesOn s (with_known s k)
known_on s k more less =
    let met = stays_known (length s.cells) s.known k s.stack Free more in
    let fresh = fresh_le (is_met s) (is_met (with_known s k)) (length s.cells) met in
    record { same = record { shared = refl; cells = refl; first = refl }; met = met; fewer = omega arith }

pub learnt_on : (s : StackSeen) (f : Entry) (r : Shown) → IsDemandStack s → IsUnknownTop s f → GoesOn s (with_known s (learn_top s.stack r s.known))
unfolding top_in
learnt_on s f r h t = known_on s (learn_top s.stack r s.known) (λ i e. learns_stay s.stack r s.known i e) (learn_less (state_of s) (top_in s f t) r t.unknown (within s h))

pub closed_on : (s : StackSeen) (f : Entry) (i : ℕ) → IsDemandStack s → IsUnknownTop s f → GoesOn s (with_known s (mark_cycle (part_to i (cells_of s.stack)) s.known))
unfolding top_in
closed_on s f i h t =
    let part = part_to i (cells_of s.stack) in
    known_on s (mark_cycle part s.known) (λ n e. marks_stay (length part) part s.known n e) (close_less (state_of s) (top_in s f t) i t.unknown (within s h))

-- a cell is put on the stack, or taken off

pub pushed_on : (s : StackSeen) (i : ℕ) (o : Option ℕ) → i < length s.cells → get_or s.known i None ≡ None → has i (cells_of s.stack) ≡ false → GoesOn s (with_stack s (record { cell = i; owed = o } ∷ s.stack))
pushed_on s i o l unknown off =
    let f : Entry = record { cell = i; owed = o } in
    let met = stays_pushed (length s.cells) s.known s.stack Free i o (λ n e. absurd (cc)) in
    let before : is_met s i ≡ false = λ z. is_some (unknown z) || (off z || false) in
    let after : is_met (with_stack s (f ∷ s.stack)) i ≡ true = λ z. is_some (unknown z) || ((eq-eqb i i refl z || has i (cells_of s.stack)) || false) in
    let fresh = fresh_lt (is_met s) (is_met (with_stack s (f ∷ s.stack))) (length s.cells) i l met before after in
    record { same = record { shared = refl; cells = refl; first = refl }; met = met; fewer = omega arith }

popped_from : (s : StackSeen) (f : Entry) (rest : List Entry) (r : Shown) → get_or s.known f.cell None ≡ Some r → GoesOn (with_stack s (f ∷ rest)) (with_stack s rest)
popped_from s f rest r e =
    let met = stays_popped (length s.cells) s.known f rest Free r e in
    let fresh = fresh_le (is_met (with_stack s (f ∷ rest))) (is_met (with_stack s rest)) (length s.cells) met in
    record { same = record { shared = refl; cells = refl; first = refl }; met = met; fewer = omega arith }

pub popped_on : (s : StackSeen) (f : Entry) → IsKnownTop s f → GoesOn s (with_stack s (pop s.stack))
popped_on s f t = subst (λ fs. GoesOn (with_stack s fs) (with_stack s (pop fs))) (sym t.on_top) (popped_from s f t.rest t.result t.is_known)

-- one after the other

pub then_same : (s t u : StackSeen) → SameCells s t → SameCells t u → SameCells s u
then_same s t u a b = record { shared = b.shared ∙ a.shared; cells = b.cells ∙ a.cells; first = b.first ∙ a.first }

-- a cell that is met stays met
pub met_on : (s t : StackSeen) (i : ℕ) → GoesOn s t → i < length s.cells → is_met s i ≡ true → is_met t i ≡ true
met_on s t i g l h = g.met i l h

-- a cell that was just put on the stack is met
pub met_first : (s : StackSeen) (i : ℕ) (o : Option ℕ) → is_met (with_stack s (record { cell = i; owed = o } ∷ s.stack)) i ≡ true
met_first s i o = go (is_some (get_or s.known i None))
  where
    go : (t : Bool) → (t || ((eqb i i || has i (cells_of s.stack)) || false)) ≡ true
    go true = refl
    go false = (λ z. (eq-eqb i i refl z || has i (cells_of s.stack)) || false)

-- on the empty stack a cell that is met is known
pub known_over : (s : StackSeen) (i : ℕ) → top_of s ≡ None → is_met s i ≡ true → get_or s.known i None ≡ None → ⊥
known_over s i e h n =
    let empty : s.stack ≡ [] = no_top s e in
    let not_met : is_met s i ≡ false = λ z. is_some (n z) || (has i (cells_of (empty z)) || false) in
    let twice : true ≡ false = sym h ∙ not_met in
    cc

-- what is known is what the workbook shows
pub known_shows : (s t : StackSeen) (i : ℕ) (r : Shown) → SameCells s t → IsDemandStack t → Some r ≡ get_or t.known i None → r ≡ shows (pending_of s) i
known_shows s t i r same h e =
    h.evaluation.knows.right i r (sym e) ∙ (λ z. shows (record { book = (same.shared z).book; cells = same.cells z }) i)
