-- The changes of the stack, as its methods make them.
use Rattle.std.proofs.Common.{◌≡◌, ℕ, zero, suc, ◌<◌, ◌≤◌, Bool, true, false, cond, List, [], ◌∷◌, length, map, reverse, get_or, set, replicate, eqb, refl, sym, ap, ◌∙◌, subst, Option, Some, None, is_some, arith}
use Rattle.std.proofs.lemmas.List.{length-replicate, get_or_default, set-get_or}
use Rattle.cell_values.specs.declared.TheConstants.{MAX_BOOK_CELLS}
use Rattle.cell_values.specs.declared.address.Addr.{Addr}
use Rattle.cell_values.specs.declared.values.Shown.{Shown}
use Rattle.formula_trees.specs.Expr.{Expr}
use Rattle.demand_spec.specs.declared.Asked.{Asked}
use Rattle.demand_spec.specs.Book.{Book, formula_at, ask_cell}
use Rattle.demand_spec.specs.Laws.{Demands}
use Rattle.shared_expressions.specs.Trees.{Trees}
use Rattle.workbook_core.specs.Books.{SharedBook}
use Rattle.claim_core.specs.Pending.{IsPending}
use Rattle.formula_eval.specs.declared.work.Frame.{Frame}
use Rattle.formula_eval.specs.Stacks.{Stack, dropped}
use Rattle.formula_eval.specs.Laws.{StandsOn, StandsReady, DropsToBase}
use Rattle.worker_machine.specs.declared.state.Entry.{Entry}
use Rattle.worker_machine.specs.Jobs.{cell_at, shows}
use Rattle.worker_machine.specs.Evaluation.{AllRight, IsEvaluation, LinkTo, cells_of, has, learn_top, part_to, pop, values}
use Rattle.worker_machine.proofs.Numbers.{KnownList, has_not}
use Rattle.worker_machine.proofs.Evaluating.{few_numbers, start_evaluates}
use Rattle.demand_stack.specs.declared.notes.Note.{Note}
use Rattle.demand_stack.specs.StackSeen.{StackSeen, AreStored, IsDemandStack, IsUnknownTop, IsKnownTop, at_first, pending_of, with_known, with_stack}
use Rattle.demand_stack.specs.Open.{depths, AreOpen, IsReady, LiesOn, AnswersOn, blank, begun_of, is_need}
use Rattle.demand_stack.specs.Recall.{cells_in, known_of, look_over}
use Rattle.demand_stack.specs.Kept.{AreKnown, IsKept, lower, note_cycle}
use Rattle.demand_stack.proofs.Recalls.{known_at}
use Rattle.demand_stack.proofs.Noted.{known_stays}
use Rattle.demand_stack.proofs.Seeking.{known_here}
use Rattle.demand_stack.proofs.Keeping.{sized, top_noted, top_formula, may_ask, ask_kept, ask_answer, learnt_note, learn_top_kept, learn_kept, close_kept, pushed_note, push_kept, popped_note, pop_kept}
use Rattle.demand_stack.proofs.Downward.{length_stack}

-- a note as it was read
note_is : (ns : List Note) (i : ℕ) (n : Note) → i < length ns → n ≡ get_or ns i n → n ≡ get_or ns i blank
note_is ns i n l e = e ∙ get_or_default ns i n blank l

abbrev pub origin : Addr
origin = record { sheet = 0; row = 0; col = 0 }

-- what callers see of it
pub sees_of : (w : SharedBook) (cells : List Addr) (rs : List (Addr × Shown)) (first : ℕ) (stack : List Entry) (ns : List Note) (fs : Stack) (room ahead passed : ℕ) → IsKept w cells rs first (cells_of stack) ns fs room ahead passed
    → IsDemandStack (record { shared = w; cells = cells; first = first; stack = stack; known = known_of ns })
sees_of w cells rs first stack ns fs room ahead passed m = record {
  pending = m.pending;
  evaluation = m.evaluation;
  first = (let a = m.ahead_known.order in let b = m.ahead_known.within in let c = m.evaluation.knows.sized in omega arith);
}

module _ (w : SharedBook) (cells : List Addr) (rs : List (Addr × Shown)) (first : ℕ) (xs : List Entry) (ns : List Note) (fs : Stack) (room ahead passed : ℕ) (m : IsKept w cells rs first (cells_of (reverse xs)) ns fs room ahead passed) where
  -- notes of pending cells

  pub noted : (i : ℕ) → i < length cells → i < length ns
  noted i l = (let a = sized w cells rs first (cells_of (reverse xs)) ns fs room ahead passed m in omega arith)

  pub same_known : (i : ℕ) → i < length cells → (n : Note) → n ≡ get_or ns i n → (s b : Bool) → known_of (set ns i (record { shown = n.shown; on_stack = s; begun = b })) ≡ known_of ns
  same_known i l n q s b = known_stays ns i (record { shown = n.shown; on_stack = s; begun = b }) (ap (λ (z : Note). z.shown) (note_is ns i n (noted i l) q))

  -- the top of the stack

  module _ (i : ℕ) (rest : List ℕ) (e : cells_of (reverse xs) ≡ i ∷ rest) where
    at_top : IsKept w cells rs first (i ∷ rest) ns fs room ahead passed
    at_top = subst (λ z. IsKept w cells rs first z ns fs room ahead passed) e m

    back : (ns' : List Note) (fs' : Stack) → IsKept w cells rs first (i ∷ rest) ns' fs' room ahead passed → IsKept w cells rs first (cells_of (reverse xs)) ns' fs' room ahead passed
    back ns' fs' h = subst (λ z. IsKept w cells rs first z ns' fs' room ahead passed) (sym e) h

    read : (n : Note) → n ≡ get_or ns i n → n ≡ get_or ns i blank
    read n q = note_is ns i n (top_noted w cells rs first i rest ns fs room ahead passed at_top) q

    pub top_low : i < length cells
    top_low = at_top.evaluation.below.0

    pub formula_on_top : (t : Expr) × (formula_at w.book (get_or cells i origin) ≡ Some t)
    formula_on_top = top_formula w cells rs first i rest ns fs room ahead passed at_top

    pub ready_on_top : StandsReady → (n : Note) → n ≡ get_or ns i n → IsReady w (get_or cells i origin) n.begun fs
    ready_on_top ready n q = subst (λ (z : Note). IsReady w (get_or cells i origin) z.begun fs) (sym (read n q)) (may_ask w cells rs first i rest ns fs room ahead passed at_top ready)

    abbrev Answers : Note → Asked → List Frame → Type 0
    Answers n r fs' = (base : List Frame) → LiesOn w.pool w.book (look_over w cells (known_of ns)) (get_or cells i origin) n.begun fs.frames base → AnswersOn w.pool w.book (look_over w cells (known_of ns)) (get_or cells i origin) base r fs'

    answers_read : (n : Note) → n ≡ get_or ns i n → (r : Asked) (fs' : List Frame) → Answers n r fs' → Answers (get_or ns i blank) r fs'
    answers_read n q r fs' h = subst (λ (z : Note). Answers z r fs') (read n q) h

    pub asked_kept : (n : Note) → n ≡ get_or ns i n → (r : Asked) (b : Bool) (fs' : Stack) → b ≡ is_need r → get_or (known_of ns) i None ≡ None → fs'.room ≡ fs.room
        → ((base : List Frame) → LiesOn w.pool w.book (look_over w cells (known_of ns)) (get_or cells i origin) n.begun fs.frames base → AnswersOn w.pool w.book (look_over w cells (known_of ns)) (get_or cells i origin) base r fs'.frames)
        → IsKept w cells rs first (cells_of (reverse xs)) (set ns i (record { shown = n.shown; on_stack = n.on_stack; begun = b })) fs' room ahead passed
    asked_kept n q r b fs' eb u same h =
        let kept = ask_kept w cells rs first i rest ns fs room ahead passed at_top fs' r u same (answers_read n q r fs'.frames h) in
        let z = read n q in
        back (set ns i (record { shown = n.shown; on_stack = n.on_stack; begun = b })) fs'
        (subst (λ (x : Note). IsKept w cells rs first (i ∷ rest) (set ns i x) fs' room ahead passed) (sym (λ k. record { shown = (z k).shown; on_stack = (z k).on_stack; begun = eb k })) kept)

    pub asked_answer : (n : Note) → n ≡ get_or ns i n → (r : Asked) (fs' : List Frame)
        → ((base : List Frame) → LiesOn w.pool w.book (look_over w cells (known_of ns)) (get_or cells i origin) n.begun fs.frames base → AnswersOn w.pool w.book (look_over w cells (known_of ns)) (get_or cells i origin) base r fs')
        → ask_cell w.book (values (cells_in w cells) (known_of ns)) (get_or cells i origin) ≡ Some r
    asked_answer n q r fs' h = ask_answer w cells rs first i rest ns fs room ahead passed at_top fs' r (answers_read n q r fs' h)

    pub learnt_top_kept : StandsOn → DropsToBase → (n : Note) → n ≡ get_or ns i n → (r : Shown) (fs' : Stack) → r ≡ shows (cells_in w cells) i → ((c : ℕ) → r ≡ Shown.Cycle c → ⊥) → fs'.room ≡ fs.room → fs'.frames ≡ cond n.begun (dropped fs.frames) fs.frames
        → IsKept w cells rs first (cells_of (reverse xs)) (set ns i (record { shown = Some r; on_stack = n.on_stack; begun = false })) fs' room ahead passed
    learnt_top_kept on drops n q r fs' right alone same h =
        let z = read n q in
        let kept = learn_top_kept w cells rs first on drops i rest ns fs fs' room ahead passed r at_top right alone same (subst (λ (x : Note). fs'.frames ≡ cond x.begun (dropped fs.frames) fs.frames) z h) in
        back (set ns i (record { shown = Some r; on_stack = n.on_stack; begun = false })) fs' (subst (λ (x : Note). IsKept w cells rs first (i ∷ rest) (set ns i (learnt_note r x)) fs' room ahead passed) (sym z) kept)

    pub closed_kept : StandsOn → (c : ℕ) (fs' : Stack) (ns' : List Note) → Demands w.book (cell_at (cells_in w cells) i) (cell_at (cells_in w cells) c) → has c (cells_of (reverse xs)) ≡ true → fs'.room ≡ fs.room
        → ns' ≡ note_cycle (length (part_to c (cells_of (reverse xs)))) (part_to c (cells_of (reverse xs))) ns
        → ((p : Trees) (b : Book) (l : Addr → Asked) (f : ℕ → Addr) → AreOpen p b l (map f (begun_of ns (cells_of (reverse xs)))) fs.frames → AreOpen p b l (map f (begun_of ns (lower c (cells_of (reverse xs))))) fs'.frames)
        → IsKept w cells rs first (cells_of (reverse xs)) ns' fs' room ahead passed
    closed_kept on c fs' ns' demands there same marks h =
        let frames : (l : Addr → Asked) → AreOpen w.pool w.book l (map (cell_at (cells_in w cells)) (begun_of ns (i ∷ rest))) fs.frames → AreOpen w.pool w.book l (map (cell_at (cells_in w cells)) (begun_of ns (lower c (i ∷ rest)))) fs'.frames
        = subst (λ z. (l : Addr → Asked) → AreOpen w.pool w.book l (map (cell_at (cells_in w cells)) (begun_of ns z)) fs.frames → AreOpen w.pool w.book l (map (cell_at (cells_in w cells)) (begun_of ns (lower c z))) fs'.frames) e (λ l. h w.pool w.book l (cell_at (cells_in w cells))) in
        let kept = close_kept w cells rs first on i rest c ns fs fs' room ahead passed at_top demands (subst (λ z. has c z ≡ true) e there) same frames in
        subst (λ z. IsKept w cells rs first (cells_of (reverse xs)) z fs' room ahead passed) (sym marks)
        (subst (λ z. IsKept w cells rs first z (note_cycle (length (part_to c z)) (part_to c z) ns) fs' room ahead passed) (sym e) kept)

    pub popped_kept : (n : Note) → n ≡ get_or ns i n → (r : Shown) (ys : List Entry) (room' : ℕ) → get_or (known_of ns) i None ≡ Some r → (f : Entry) → reverse xs ≡ f ∷ reverse ys → room' ≡ room
        → IsKept w cells rs first (cells_of (reverse ys)) (set ns i (record { shown = n.shown; on_stack = false; begun = false })) fs room' ahead passed
    popped_kept n q r ys room' known f p g =
        let below : rest ≡ cells_of (reverse ys) = (let d : i ∷ rest ≡ f.cell ∷ cells_of (reverse ys) = sym e ∙ ap cells_of p in cc) in
        let kept = pop_kept w cells rs first i rest ns fs room ahead passed r at_top known in
        let one : IsKept w cells rs first rest (set ns i (popped_note n)) fs room ahead passed = subst (λ (x : Note). IsKept w cells rs first rest (set ns i (popped_note x)) fs room ahead passed) (sym (read n q)) kept in
        subst (λ z. IsKept w cells rs first (cells_of (reverse ys)) (set ns i (popped_note n)) fs z ahead passed) (sym g) (subst (λ z. IsKept w cells rs first z (set ns i (popped_note n)) fs room ahead passed) below one)

  -- a cell that is not on the stack
  pub learnt_kept : StandsOn → (i : ℕ) (n : Note) → n ≡ get_or ns i n → (r : Shown) → i < length cells → has i (cells_of (reverse xs)) ≡ false → r ≡ shows (cells_in w cells) i → ((c : ℕ) → r ≡ Shown.Cycle c → ⊥)
      → IsKept w cells rs first (cells_of (reverse xs)) (set ns i (record { shown = Some r; on_stack = n.on_stack; begun = false })) fs room ahead passed
  learnt_kept on i n q r low off right alone =
      subst (λ (x : Note). IsKept w cells rs first (cells_of (reverse xs)) (set ns i (learnt_note r x)) fs room ahead passed) (sym (note_is ns i n (noted i low) q))
      (learn_kept w cells rs first on (cells_of (reverse xs)) i ns fs room ahead passed r m low off right alone)

  -- a cell is put on the stack
  pub pushed_kept : (f : Entry) (n : Note) (ys : List Entry) (room' : ℕ) → n ≡ get_or ns f.cell n → f.cell < length cells → has f.cell (cells_of (reverse xs)) ≡ false → LinkTo (cells_in w cells) f.cell (cells_of (reverse xs)) → reverse ys ≡ f ∷ reverse xs → room' ≡ room
      → IsKept w cells rs first (cells_of (reverse ys)) (set ns f.cell (record { shown = n.shown; on_stack = true; begun = false })) fs room' ahead passed
  pushed_kept f n ys room' q low new link p g =
      let z = note_is ns f.cell n (noted f.cell low) q in
      let kept = push_kept w cells rs first (cells_of (reverse xs)) f.cell ns fs room ahead passed m low new link in
      let one : IsKept w cells rs first (f.cell ∷ cells_of (reverse xs)) (set ns f.cell (pushed_note n)) fs room ahead passed = subst (λ (x : Note). IsKept w cells rs first (f.cell ∷ cells_of (reverse xs)) (set ns f.cell (pushed_note x)) fs room ahead passed) (sym z) kept in
      subst (λ c. IsKept w cells rs first (cells_of (reverse ys)) (set ns f.cell (pushed_note n)) fs c ahead passed) (sym g) (subst (λ c. IsKept w cells rs first c (set ns f.cell (pushed_note n)) fs room ahead passed) (sym (ap cells_of p)) one)

  -- there is room for it
  pub room_for_one : (i n : ℕ) → i < length cells → has i (cells_of (reverse xs)) ≡ false → n ≡ length xs → n < room
  room_for_one i n low new e =
      let l = few_numbers (cells_in w cells) m.pending (i ∷ cells_of (reverse xs)) (low, m.evaluation.below) (has_not i (cells_of (reverse xs)) new, m.evaluation.differ) in
      let a = length_stack xs in
      let c = m.stack_fits in
      omega arith

  -- the stack is no higher than the cells are many
  pub few_on_stack : length xs ≤ MAX_BOOK_CELLS
  few_on_stack =
      let l = few_numbers (cells_in w cells) m.pending (cells_of (reverse xs)) m.evaluation.below m.evaluation.differ in
      let a = length_stack xs in
      let c = m.pending.not_too_many in
      omega arith

  -- the search has come further
  pub sought_kept : (a p : ℕ) → AreKnown (known_of ns) first a → AreKnown (known_of ns) 0 p → IsKept w cells rs first (cells_of (reverse xs)) ns fs room a p
  sought_kept a p h g = record {
    pending = m.pending;
    stored = m.stored;
    evaluation = m.evaluation;
    marked = m.marked;
    shut = m.shut;
    begun = m.begun;
    frames_fit = m.frames_fit;
    stack_fits = m.stack_fits;
    ahead_known = h;
    passed_known = g;
  }

-- the start
pub starts_kept : (w : SharedBook) (cells : List Addr) (rs : List (Addr × Shown)) (first : ℕ) (xs : List Entry) (ns : List Note) (fs : Stack) (room : ℕ) → IsPending w.book cells → AreStored (cells_in w cells) rs → first ≤ length cells
    → xs ≡ [] → ns ≡ replicate (length cells) blank → depths w.book cells ≤ fs.room → fs.frames ≡ [] → length cells ≤ room
    → IsKept w cells rs first (cells_of (reverse xs)) ns fs room first 0
starts_kept w cells rs first xs ns fs room pending stored low x n r f capacity =
    let k : known_of ns ≡ replicate (length cells) None = ap known_of n ∙ blanks (length cells) in
    let long : length (known_of ns) ≡ length cells = ap length k ∙ length-replicate (length cells) None in
    subst (λ z. IsKept w cells rs first (cells_of (reverse z)) ns fs room first 0) (sym x) (record {
      pending = pending;
      stored = stored;
      evaluation = subst (λ z. IsEvaluation (cells_in w cells) z []) (sym k) (start_evaluates (cells_in w cells));
      marked = λ i. subst (λ z. (get_or z i blank).on_stack ≡ false) (sym n) (unmarked (length cells) i);
      shut = λ i q e. subst (λ z. (get_or z i blank).begun ≡ false) (sym n) (unbegun (length cells) i);
      begun = f;
      frames_fit = r;
      stack_fits = capacity;
      ahead_known = known_here (known_of ns) first (omega arith);
      passed_known = known_here (known_of ns) 0 (omega arith);
    })
  where
    blanks : (n : ℕ) → known_of (replicate n blank) ≡ replicate n None
    blanks zero = refl
    blanks (suc n) = ap (λ z. None ∷ z) (blanks n)

    unmarked : (n i : ℕ) → (get_or (replicate n blank) i blank).on_stack ≡ false
    unmarked zero i = refl
    unmarked (suc n) zero = refl
    unmarked (suc n) (suc i) = unmarked n i

    unbegun : (n i : ℕ) → (get_or (replicate n blank) i blank).begun ≡ false
    unbegun zero i = refl
    unbegun (suc n) zero = refl
    unbegun (suc n) (suc i) = unbegun n i

pub starts_view : (w : SharedBook) (cells : List Addr) (first : ℕ) (xs : List Entry) (ns : List Note) → xs ≡ [] → ns ≡ replicate (length cells) blank
    → ◌≡◌ {A = StackSeen} (record { shared = w; cells = cells; first = first; stack = reverse xs; known = known_of ns }) (at_first w cells first)
starts_view w cells first xs ns x n =
    let k : known_of ns ≡ replicate (length cells) None = ap known_of n ∙ blanks (length cells) in
    λ i. record { shared = w; cells = cells; first = first; stack = reverse (x i); known = k i }
  where
    blanks : (n : ℕ) → known_of (replicate n blank) ≡ replicate n None
    blanks zero = refl
    blanks (suc n) = ap (λ z. None ∷ z) (blanks n)

-- how the stack is seen

abbrev view : SharedBook → List Addr → ℕ → List Entry → KnownList → StackSeen
view w cells first stack k = record { shared = w; cells = cells; first = first; stack = stack; known = k }

pub same_view : (v : StackSeen) (w : SharedBook) (cells : List Addr) (first : ℕ) (stack : List Entry) (k k' : KnownList) → view w cells first stack k ≡ v → k' ≡ k → view w cells first stack k' ≡ v
same_view v w cells first stack k k' e q = subst (λ z. view w cells first stack z ≡ v) (sym q) e

pub known_view : (g : List Entry → KnownList → KnownList) (v : StackSeen) (w : SharedBook) (cells : List Addr) (first : ℕ) (stack : List Entry) (k k' : KnownList) → view w cells first stack k ≡ v → k' ≡ g stack k → view w cells first stack k' ≡ with_known v (g v.stack v.known)
known_view g v w cells first stack k k' e q = subst (λ (z : StackSeen). view w cells first stack k' ≡ with_known z (g z.stack z.known)) e (λ z. record { shared = w; cells = cells; first = first; stack = stack; known = q z })

pub stack_view : (g : List Entry → List Entry) (v : StackSeen) (w : SharedBook) (cells : List Addr) (first : ℕ) (stack stack' : List Entry) (k k' : KnownList) → view w cells first stack k ≡ v → k' ≡ k → stack' ≡ g stack → view w cells first stack' k' ≡ with_stack v (g v.stack)
stack_view g v w cells first stack stack' k k' e q p = subst (λ (z : StackSeen). view w cells first stack' k' ≡ with_stack z (g z.stack)) e (λ z. record { shared = w; cells = cells; first = first; stack = p z; known = q z })

-- what was known before is learnt again
pub known_again : (v : StackSeen) (w : SharedBook) (cells : List Addr) (first : ℕ) (stack : List Entry) (ns : List Note) (i : ℕ) (r : Shown) → view w cells first stack (known_of ns) ≡ v → AllRight (cells_in w cells) (known_of ns) → is_some (get_or ns i blank).shown ≡ true → r ≡ shows (pending_of v) i → v ≡ with_known v (set v.known i (Some r))
known_again v w cells first stack ns i r q right k h = go (get_or ns i blank).shown refl k
  where
    go : (o : Option Shown) → (get_or ns i blank).shown ≡ o → is_some o ≡ true → v ≡ with_known v (set v.known i (Some r))
    go None e k = cc
    go (Some x) e k =
        let known : get_or (known_of ns) i None ≡ Some x = known_at ns i ∙ e in
        let same : x ≡ r = right i x known ∙ ap (λ (z : StackSeen). shows (pending_of z) i) q ∙ sym h in
        let here : get_or v.known i None ≡ Some r = ap (λ (z : StackSeen). get_or z.known i None) (sym q) ∙ known ∙ ap Some same in
        ap (with_known v) (sym (ap (set v.known i) (sym here) ∙ set-get_or v.known i None))

-- what the known or unknown top says of the first cell

pub unknown_top : (v : StackSeen) (f : Entry) (stack : List Entry) (k : KnownList) (w : SharedBook) (cells : List Addr) (first : ℕ) (i : ℕ) (rest : List ℕ) → view w cells first stack k ≡ v → IsUnknownTop v f → cells_of stack ≡ i ∷ rest → (f.cell ≡ i) × (get_or k i None ≡ None)
unknown_top v f stack k w cells first i rest q h e =
    let d : f.cell ∷ cells_of h.rest ≡ i ∷ rest = sym (ap cells_of h.on_top) ∙ sym (ap (λ (z : StackSeen). cells_of z.stack) q) ∙ e in
    let same : f.cell ≡ i = cc in
    (same, ap (λ (z : StackSeen). get_or z.known i None) q ∙ subst (λ z. get_or v.known z None ≡ None) same h.unknown)

pub known_top : (v : StackSeen) (f : Entry) (stack : List Entry) (k : KnownList) (w : SharedBook) (cells : List Addr) (first : ℕ) (i : ℕ) (rest : List ℕ) → view w cells first stack k ≡ v → (h : IsKnownTop v f) → cells_of stack ≡ i ∷ rest → get_or k i None ≡ Some h.result
known_top v f stack k w cells first i rest q h e =
    let d : f.cell ∷ cells_of h.rest ≡ i ∷ rest = sym (ap cells_of h.on_top) ∙ sym (ap (λ (z : StackSeen). cells_of z.stack) q) ∙ e in
    let same : f.cell ≡ i = cc in
    ap (λ (z : StackSeen). get_or z.known i None) q ∙ subst (λ z. get_or v.known z None ≡ Some h.result) same h.is_known

-- what is learnt on top is learnt of the first cell
pub learnt_on_top : (stack : List Entry) (k : KnownList) (i : ℕ) (rest : List ℕ) (r : Shown) → cells_of stack ≡ i ∷ rest → set k i (Some r) ≡ learn_top stack r k
learnt_on_top [] k i rest r e = cc
learnt_on_top (f ∷ fs) k i rest r e = (let same : f.cell ≡ i = cc in ap (λ z. set k z (Some r)) (sym same))

pub popped_is : (stack stack' : List Entry) (f : Entry) → stack ≡ f ∷ stack' → stack' ≡ pop stack
popped_is stack stack' f e = sym (ap pop e)

-- a part of the stack is no longer than it
pub part_short : (i : ℕ) (cs : List ℕ) → length (part_to i cs) ≤ length cs
part_short i [] = omega arith
part_short i (c ∷ cs) = go (eqb c i) (part_short i cs)
  where
    go : (t : Bool) → length (part_to i cs) ≤ length cs → length (cond t (c ∷ []) (c ∷ part_to i cs)) ≤ suc (length cs)
    go true l = omega arith
    go false l = omega arith
