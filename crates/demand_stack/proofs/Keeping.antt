-- What each change of the stack keeps.
use Rattle.std.proofs.Common.{◌≡◌, ◌≢◌, ℕ, ◌<◌, ◌≤◌, inl, inr, ⊎_elim, Bool, true, false, cond, ◌||◌, eqb, List, [], ◌∷◌, length, map, get_or, set, refl, sym, ap, ◌∙◌, subst, Option, Some, None, IsSome, arith}
use Rattle.std.proofs.Common.{eqb-true, eq-eqb}
use Rattle.std.proofs.lemmas.Bool.{cases_eq}
use Rattle.std.proofs.lemmas.List.{length-set, get_or-set_same, get_or-set_other}
use Rattle.cell_values.specs.declared.address.Addr.{Addr}
use Rattle.cell_values.specs.declared.values.Shown.{Shown}
use Rattle.formula_trees.specs.Expr.{Expr}
use Rattle.demand_spec.specs.declared.Asked.{Asked}
use Rattle.demand_spec.specs.declared.Asked.TheVariants.{Val, Needs}
use Rattle.demand_spec.specs.Plan.{run}
use Rattle.demand_spec.specs.Formula.{plan}
use Rattle.demand_spec.specs.Book.{Book, formula_at, ask_formula, ask_cell}
use Rattle.demand_spec.specs.Laws.{In, PartOf, Demands}
use Rattle.workbook_core.specs.Books.{SharedBook}
use Rattle.claim_core.specs.Pending.{IsPending}
use Rattle.formula_eval.specs.declared.work.Frame.{Frame}
use Rattle.formula_eval.specs.Stacks.{Stack, dropped}
use Rattle.formula_eval.specs.Laws.{StandsOn, StandsReady, DropsToBase}
use Rattle.worker_machine.specs.Jobs.{Pending, cell_at, cell_number, shows}
use Rattle.worker_machine.specs.Evaluation.{Among, Below, Differ, LinkTo, AllRight, IsEvaluation, has, known_value, mark_all, part_to, value_from, values}
use Rattle.worker_machine.proofs.Places.{cell_in_cells, formula_there}
use Rattle.worker_machine.proofs.Numbers.{KnownList, below_at, has_not, in_cells, cells_differ}
use Rattle.worker_machine.proofs.Evaluating.{tail_evaluates, learnt_evaluates, closed_evaluates, below_part}
use Rattle.demand_stack.specs.declared.notes.Note.{Note}
use Rattle.demand_stack.specs.Open.{depths, plan_of, AreOpen, IsReady, LiesOn, AnswersOn, blank, begun_of, is_need}
use Rattle.demand_stack.specs.Recall.{IsRecall, cells_in, known_of, look_over}
use Rattle.demand_stack.specs.Kept.{AreKnown, IsKept, lower, note_cycle}
use Rattle.demand_stack.proofs.Begins.{tree_is}
use Rattle.demand_stack.proofs.Recalls.{known_at}
use Rattle.demand_stack.proofs.Opened.{on_top, rests, evals_on, kept_part, top_ready, top_asked, top_dropped, few_depths}
use Rattle.demand_stack.proofs.Noted.{length-known, known_set, known_stays, all_set, begun_other, begun_here, begun_among, begun_differ, begun_below, known_cycle, cycle_keeps, begun_cycle}

-- more is known

abbrev pub Grows : KnownList → KnownList → Type 0
Grows k k' = (i : ℕ) (r : Shown) → get_or k i None ≡ Some r → get_or k' i None ≡ Some r

same_grows : (k k' : KnownList) → k' ≡ k → Grows k k'
same_grows k k' q i r e = subst (λ z. get_or z i None ≡ Some r) (sym q) e

-- right results that stay known stay the same
grows_right : (ps : Pending) (k k' : KnownList) → AllRight ps k → AllRight ps k' → ((n : ℕ) (q : Shown) → get_or k n None ≡ Some q → (r : Shown) × (get_or k' n None ≡ Some r)) → Grows k k'
grows_right ps k k' a b h n q e = (let r = h n q e in r.1 ∙ ap Some (b n r.0 r.1 ∙ sym (a n q e)))

values_grow : (ps : Pending) (k k' : KnownList) → Grows k k' → PartOf (values ps k) (values ps k')
values_grow ps k k' h a v = go (cell_number ps a)
  where
    by_known : (i : ℕ) (o : Option Shown) → get_or k i None ≡ o → known_value o ≡ Some v → known_value (get_or k' i None) ≡ Some v
    by_known i (Some r) e q = subst (λ z. known_value z ≡ Some v) (sym (h i r e)) q
    by_known i None e q = cc

    go : (o : Option ℕ) → value_from ps k a o ≡ Some v → value_from ps k' a o ≡ Some v
    go (Some i) q = by_known i (get_or k i None) refl q
    go None q = q

open_grow : StandsOn → (w : SharedBook) (cells : List Addr) (k k' : KnownList) (cs : List Addr) (fs : List Frame) → Grows k k' → AreOpen w.pool w.book (look_over w cells k) cs fs → AreOpen w.pool w.book (look_over w cells k') cs fs
open_grow on w cells k k' cs fs h e = evals_on on w.pool w.book (look_over w cells k) (look_over w cells k') cs fs (kept_part w.book (values (cells_in w cells) k) (values (cells_in w cells) k') (values_grow (cells_in w cells) k k' h)) e

known_on : (k k' : KnownList) (a b : ℕ) → length k' ≡ length k → Grows k k' → AreKnown k a b → AreKnown k' a b
known_on k k' a b e g h = record { order = h.order; within = subst (λ n. b ≤ n) (sym e) h.within; each = λ i l m. some i (get_or k i None) refl (h.each i l m) }
  where
    some : (i : ℕ) (o : Option Shown) → get_or k i None ≡ o → IsSome o → IsSome (get_or k' i None)
    some i (Some r) q s = subst IsSome (sym (g i r q)) refl
    some i None q s = cc

set_some : (k : KnownList) (i : ℕ) (r : Shown) → i < length k → (n : ℕ) (q : Shown) → get_or k n None ≡ Some q → (p : Shown) × (get_or (set k i (Some r)) n None ≡ Some p)
set_some k i r l n q e = ⊎_elim
    (λ (d : n ≡ i). (r, subst (λ z. get_or (set k i (Some r)) z None ≡ Some r) (sym d) (get_or-set_same k i (Some r) None l)))
    (λ (d : n ≢ i). (q, get_or-set_other k i n (Some r) None d ∙ e))
    (cases_eq n i)

marks_some : (m : ℕ) (xs : List ℕ) (k : KnownList) (n : ℕ) (q : Shown) → Below (length k) xs → get_or k n None ≡ Some q → (r : Shown) × (get_or (mark_all m xs k) n None ≡ Some r)
marks_some m [] k n q b e = (q, e)
marks_some m (i ∷ xs) k n q b e =
    let s = set_some k i (Shown.Cycle m) b.0 n q e in
    marks_some m xs (set k i (Some (Shown.Cycle m))) n s.0 (subst (λ z. Below z xs) (sym (length-set k i (Some (Shown.Cycle m)))) b.1) s.1

-- whether a cell is on a stack with one cell more

has_first : (i : ℕ) (cs : List ℕ) → has i (i ∷ cs) ≡ true
has_first i cs = ap (λ t. t || has i cs) (eq-eqb i i refl)

has_other : (i c : ℕ) (cs : List ℕ) → (c ≡ i → ⊥) → has c (i ∷ cs) ≡ has c cs
has_other i c cs d = go (eqb i c) refl
  where
    go : (t : Bool) → eqb i c ≡ t → (eqb i c || has c cs) ≡ has c cs
    go true e = absurd (d (sym (eqb-true i c e)))
    go false e = ap (λ t. t || has c cs) e

has_none : (i : ℕ) (cs : List ℕ) → (Among i cs → ⊥) → has i cs ≡ false
has_none i [] n = refl
has_none i (c ∷ cs) n = has_other c i cs (λ e. n (inl e)) ∙ has_none i cs (λ k. n (inr k))

-- the notes

abbrev Marked : List Note → List ℕ → Type 0
Marked ns cs = (i : ℕ) → (get_or ns i blank).on_stack ≡ has i cs

abbrev Shut : List Note → Type 0
Shut ns = (i : ℕ) (r : Shown) → (get_or ns i blank).shown ≡ Some r → (get_or ns i blank).begun ≡ false

pub mapped_top : (f : ℕ → Addr) (t : Bool) (i : ℕ) (cs : List ℕ) → map f (cond t (i ∷ cs) cs) ≡ on_top t (f i) (map f cs)
mapped_top f true i cs = refl
mapped_top f false i cs = refl

-- the evaluation of the top cell is dropped, where it stands open
pub abandoned : DropsToBase → (p : List Expr) (b : Book) (l : Addr → Asked) (a : Addr) (t : Bool) (cs : List Addr) (fs fs' : List Frame) → AreOpen p b l (on_top t a cs) fs → fs' ≡ cond t (dropped fs) fs → AreOpen p b l cs fs'
abandoned drops p b l a true cs fs fs' h e = subst (AreOpen p b l cs) (sym e) (top_dropped drops p b l a cs fs h)
abandoned drops p b l a false cs fs fs' h e = subst (AreOpen p b l cs) (sym e) h

-- notes of a cell that was asked, learnt, pushed, popped

abbrev pub asked_note : Asked → Note → Note
asked_note r n = record { shown = n.shown; on_stack = n.on_stack; begun = is_need r }

abbrev pub learnt_note : Shown → Note → Note
learnt_note r n = record { shown = Some r; on_stack = n.on_stack; begun = false }

abbrev pub pushed_note : Note → Note
pushed_note n = record { shown = n.shown; on_stack = true; begun = false }

abbrev pub popped_note : Note → Note
popped_note n = record { shown = n.shown; on_stack = false; begun = false }

module _ (w : SharedBook) (cells : List Addr) (rs : List (Addr × Shown)) (first : ℕ) where
  pub recall_of : (cs : List ℕ) (ns : List Note) (fs : Stack) (room ahead passed : ℕ) → IsKept w cells rs first cs ns fs room ahead passed → IsRecall w cells (known_of ns) rs
  recall_of cs ns fs room ahead passed m = record { pending = m.pending; right = m.evaluation.knows.right; stored = m.stored }

  pub sized : (cs : List ℕ) (ns : List Note) (fs : Stack) (room ahead passed : ℕ) → IsKept w cells rs first cs ns fs room ahead passed → length ns ≡ length cells
  sized cs ns fs room ahead passed m = (let a = m.evaluation.knows.sized in let b = length-known ns in omega arith)

  -- what a change has to show
  kept_by : (cs cs' : List ℕ) (ns ns' : List Note) (fs fs' : Stack) (room ahead passed : ℕ) → IsKept w cells rs first cs ns fs room ahead passed
      → Grows (known_of ns) (known_of ns')
      → IsEvaluation (cells_in w cells) (known_of ns') cs'
      → Marked ns' cs'
      → Shut ns'
      → AreOpen w.pool w.book (look_over w cells (known_of ns')) (map (cell_at (cells_in w cells)) (begun_of ns' cs')) fs'.frames
      → fs'.room ≡ fs.room
      → IsKept w cells rs first cs' ns' fs' room ahead passed
  kept_by cs cs' ns ns' fs fs' room ahead passed m grows evaluation marked shut begun same =
      let long : length (known_of ns') ≡ length (known_of ns) = evaluation.knows.sized ∙ sym m.evaluation.knows.sized in
      record {
        pending = m.pending;
        stored = m.stored;
        evaluation = evaluation;
        marked = marked;
        shut = shut;
        begun = begun;
        frames_fit = subst (λ z. depths w.book cells ≤ z) (sym same) m.frames_fit;
        stack_fits = m.stack_fits;
        ahead_known = known_on (known_of ns) (known_of ns') first ahead long grows m.ahead_known;
        passed_known = known_on (known_of ns) (known_of ns') 0 passed long grows m.passed_known;
      }

  -- the same where one note changes, but not what is known there
  noted_by : (cs cs' : List ℕ) (ns : List Note) (i : ℕ) (n : Note) (fs fs' : Stack) (room ahead passed : ℕ) → IsKept w cells rs first cs ns fs room ahead passed
      → n.shown ≡ (get_or ns i blank).shown
      → IsEvaluation (cells_in w cells) (known_of ns) cs'
      → Marked (set ns i n) cs'
      → Shut (set ns i n)
      → AreOpen w.pool w.book (look_over w cells (known_of ns)) (map (cell_at (cells_in w cells)) (begun_of (set ns i n) cs')) fs'.frames
      → fs'.room ≡ fs.room
      → IsKept w cells rs first cs' (set ns i n) fs' room ahead passed
  noted_by cs cs' ns i n fs fs' room ahead passed m e evaluation marked shut begun same =
      let k : known_of (set ns i n) ≡ known_of ns = known_stays ns i n e in
      kept_by cs cs' ns (set ns i n) fs fs' room ahead passed m
      (same_grows (known_of ns) (known_of (set ns i n)) k)
      (subst (λ z. IsEvaluation (cells_in w cells) z cs') (sym k) evaluation)
      marked shut
      (subst (λ z. AreOpen w.pool w.book (look_over w cells z) (map (cell_at (cells_in w cells)) (begun_of (set ns i n) cs')) fs'.frames) (sym k) begun)
      same

  -- the depths of the open cells and the top
  stack_depths : IsPending w.book cells → (ns : List ℕ) → Differ ns → Below (length cells) ns → depths w.book (map (cell_at (cells_in w cells)) ns) ≤ depths w.book cells
  stack_depths h ns d b = few_depths w.book (map (cell_at (cells_in w cells)) ns) cells (cells_differ (cells_in w cells) h ns b d)
      (λ c k. let r = in_cells (cells_in w cells) c ns k in subst (λ z. In z cells) (sym r.2) (cell_in_cells (cells_in w cells) r.0 (below_at (length cells) r.0 ns b r.1)))

  -- the top of the stack
  module _ (i : ℕ) (rest : List ℕ) (ns : List Note) (fs : Stack) (room ahead passed : ℕ) (m : IsKept w cells rs first (i ∷ rest) ns fs room ahead passed) where
    pub top_low : i < length cells
    top_low = m.evaluation.below.0

    pub top_noted : i < length ns
    top_noted = (let a = sized (i ∷ rest) ns fs room ahead passed m in let b = m.evaluation.below.0 in omega arith)

    top_apart : Among i rest → ⊥
    top_apart = m.evaluation.differ.0

    pub top_formula : (t : Expr) × (formula_at w.book (cell_at (cells_in w cells) i) ≡ Some t)
    top_formula = formula_there (cells_in w cells) m.pending i m.evaluation.below.0

    -- the open evaluations, with that of the top cell or without it
    open_top : AreOpen w.pool w.book (look_over w cells (known_of ns)) (on_top (get_or ns i blank).begun (cell_at (cells_in w cells) i) (map (cell_at (cells_in w cells)) (begun_of ns rest))) fs.frames
    open_top = subst (λ z. AreOpen w.pool w.book (look_over w cells (known_of ns)) z fs.frames) (mapped_top (cell_at (cells_in w cells)) (get_or ns i blank).begun i (begun_of ns rest)) m.begun

    -- the top cell may be asked
    pub may_ask : StandsReady → IsReady w (cell_at (cells_in w cells) i) (get_or ns i blank).begun fs
    may_ask ready =
        let few : depths w.book (map (cell_at (cells_in w cells)) (i ∷ begun_of ns rest)) ≤ depths w.book cells
        = stack_depths m.pending (i ∷ begun_of ns rest) ((λ k. m.evaluation.differ.0 (begun_among ns rest i k)), begun_differ ns rest m.evaluation.differ.1) (m.evaluation.below.0, begun_below (length cells) ns rest m.evaluation.below.1) in
        let fit = m.frames_fit in
        top_ready ready w (look_over w cells (known_of ns)) (cell_at (cells_in w cells) i) (get_or ns i blank).begun (map (cell_at (cells_in w cells)) (begun_of ns rest)) fs open_top (omega arith)

    -- what the top cell was answered
    abbrev TopAnswers : Asked → List Frame → Type 0
    TopAnswers r fs' = (base : List Frame) → LiesOn w.pool w.book (look_over w cells (known_of ns)) (cell_at (cells_in w cells) i) (get_or ns i blank).begun fs.frames base → AnswersOn w.pool w.book (look_over w cells (known_of ns)) (cell_at (cells_in w cells) i) base r fs'

    pub ask_kept : (fs' : Stack) (r : Asked) → get_or (known_of ns) i None ≡ None → fs'.room ≡ fs.room → TopAnswers r fs'.frames → IsKept w cells rs first (i ∷ rest) (set ns i (asked_note r (get_or ns i blank))) fs' room ahead passed
    ask_kept fs' r u same answers =
        let n : Note = asked_note r (get_or ns i blank) in
        let below = rests w.pool w.book (look_over w cells (known_of ns)) (cell_at (cells_in w cells) i) (get_or ns i blank).begun (map (cell_at (cells_in w cells)) (begun_of ns rest)) fs.frames open_top in
        let after = top_asked w.pool w.book (look_over w cells (known_of ns)) (cell_at (cells_in w cells) i) (map (cell_at (cells_in w cells)) (begun_of ns rest)) below.base r fs'.frames below.below (answers below.base below.lies) in
        let opened : map (cell_at (cells_in w cells)) (begun_of (set ns i n) (i ∷ rest)) ≡ on_top (is_need r) (cell_at (cells_in w cells) i) (map (cell_at (cells_in w cells)) (begun_of ns rest))
        = ap (map (cell_at (cells_in w cells))) (begun_here ns i n rest top_noted top_apart) ∙ mapped_top (cell_at (cells_in w cells)) (is_need r) i (begun_of ns rest) in
        let none : (get_or ns i blank).shown ≡ None = sym (known_at ns i) ∙ u in
        noted_by (i ∷ rest) (i ∷ rest) ns i n fs fs' room ahead passed m refl m.evaluation
        (all_set (λ c z. z.on_stack ≡ has c (i ∷ rest)) ns i n top_noted (m.marked i) (λ c d. m.marked c))
        (all_set (λ c z. (q : Shown) → z.shown ≡ Some q → z.begun ≡ false) ns i n top_noted (λ q e. let d : ◌≡◌ {A = Option Shown} None (Some q) = sym none ∙ e in cc) (λ c d. m.shut c))
        (subst (λ z. AreOpen w.pool w.book (look_over w cells (known_of ns)) z fs'.frames) (sym opened) after)
        same

    -- it is what its formula gives
    answered_run : (base : List Frame) (r : Asked) (fs' : List Frame) → AnswersOn w.pool w.book (look_over w cells (known_of ns)) (cell_at (cells_in w cells) i) base r fs' → run (look_over w cells (known_of ns)) (plan_of w.book (cell_at (cells_in w cells) i)) ≡ r
    answered_run base (Val v) fs' h = h.0
    answered_run base (Needs x) fs' h = h.0

    pub ask_answer : (fs' : List Frame) (r : Asked) → TopAnswers r fs' → ask_cell w.book (values (cells_in w cells) (known_of ns)) (cell_at (cells_in w cells) i) ≡ Some r
    unfolding ask_cell
    ask_answer fs' r answers =
        let a : Addr = cell_at (cells_in w cells) i in
        let below = rests w.pool w.book (look_over w cells (known_of ns)) (cell_at (cells_in w cells) i) (get_or ns i blank).begun (map (cell_at (cells_in w cells)) (begun_of ns rest)) fs.frames open_top in
        let one = answered_run below.base r fs' (answers below.base below.lies) in
        let two : run (look_over w cells (known_of ns)) (plan w.book.texts (cell_at (cells_in w cells) i) top_formula.0) ≡ r = sym (ap (λ z. run (look_over w cells (known_of ns)) (plan w.book.texts (cell_at (cells_in w cells) i) z)) (tree_is w.book (cell_at (cells_in w cells) i) top_formula.0 top_formula.1)) ∙ one in
        ap (ask_formula w.book (values (cells_in w cells) (known_of ns)) (cell_at (cells_in w cells) i)) top_formula.1 ∙ ap Some two

  -- a cell gets a result
  learnt_by : StandsOn → (cs : List ℕ) (i : ℕ) (ns : List Note) (fs fs' : Stack) (room ahead passed : ℕ) (r : Shown) → IsKept w cells rs first cs ns fs room ahead passed
      → i < length cells → r ≡ shows (cells_in w cells) i → ((n : ℕ) → r ≡ Shown.Cycle n → ⊥) → fs'.room ≡ fs.room
      → AreOpen w.pool w.book (look_over w cells (known_of ns)) (map (cell_at (cells_in w cells)) (begun_of (set ns i (learnt_note r (get_or ns i blank))) cs)) fs'.frames
      → IsKept w cells rs first cs (set ns i (learnt_note r (get_or ns i blank))) fs' room ahead passed
  learnt_by on cs i ns fs fs' room ahead passed r m low right alone same begun =
      let n : Note = learnt_note r (get_or ns i blank) in
      let noted : i < length ns = (let a = sized cs ns fs room ahead passed m in omega arith) in
      let l : i < length (known_of ns) = (let a = length-known ns in omega arith) in
      let k : known_of (set ns i n) ≡ set (known_of ns) i (Some r) = known_set ns i n in
      let learnt = learnt_evaluates (cells_in w cells) (known_of ns) cs i r m.evaluation low right alone in
      let grows : Grows (known_of ns) (set (known_of ns) i (Some r)) = grows_right (cells_in w cells) (known_of ns) (set (known_of ns) i (Some r)) m.evaluation.knows.right learnt.knows.right (set_some (known_of ns) i r l) in
      kept_by cs cs ns (set ns i n) fs fs' room ahead passed m
      (subst (Grows (known_of ns)) (sym k) grows)
      (subst (λ z. IsEvaluation (cells_in w cells) z cs) (sym k) learnt)
      (all_set (λ c z. z.on_stack ≡ has c cs) ns i n noted (m.marked i) (λ c d. m.marked c))
      (all_set (λ c z. (q : Shown) → z.shown ≡ Some q → z.begun ≡ false) ns i n noted (λ q e. refl) (λ c d. m.shut c))
      (subst (λ z. AreOpen w.pool w.book (look_over w cells z) (map (cell_at (cells_in w cells)) (begun_of (set ns i n) cs)) fs'.frames) (sym k) (open_grow on w cells (known_of ns) (set (known_of ns) i (Some r)) (map (cell_at (cells_in w cells)) (begun_of (set ns i n) cs)) fs'.frames grows begun))
      same

  -- the top cell
  pub learn_top_kept : StandsOn → DropsToBase → (i : ℕ) (rest : List ℕ) (ns : List Note) (fs fs' : Stack) (room ahead passed : ℕ) (r : Shown) → IsKept w cells rs first (i ∷ rest) ns fs room ahead passed
      → r ≡ shows (cells_in w cells) i → ((n : ℕ) → r ≡ Shown.Cycle n → ⊥) → fs'.room ≡ fs.room → fs'.frames ≡ cond (get_or ns i blank).begun (dropped fs.frames) fs.frames
      → IsKept w cells rs first (i ∷ rest) (set ns i (learnt_note r (get_or ns i blank))) fs' room ahead passed
  learn_top_kept on drops i rest ns fs fs' room ahead passed r m right alone same frames =
      let n : Note = learnt_note r (get_or ns i blank) in
      let below : AreOpen w.pool w.book (look_over w cells (known_of ns)) (map (cell_at (cells_in w cells)) (begun_of ns rest)) fs'.frames
      = abandoned drops w.pool w.book (look_over w cells (known_of ns)) (cell_at (cells_in w cells) i) (get_or ns i blank).begun (map (cell_at (cells_in w cells)) (begun_of ns rest)) fs.frames fs'.frames (open_top i rest ns fs room ahead passed m) frames in
      let opened : map (cell_at (cells_in w cells)) (begun_of (set ns i n) (i ∷ rest)) ≡ map (cell_at (cells_in w cells)) (begun_of ns rest)
      = ap (map (cell_at (cells_in w cells))) (begun_here ns i n rest (top_noted i rest ns fs room ahead passed m) (top_apart i rest ns fs room ahead passed m)) in
      learnt_by on (i ∷ rest) i ns fs fs' room ahead passed r m m.evaluation.below.0 right alone same
      (subst (λ z. AreOpen w.pool w.book (look_over w cells (known_of ns)) z fs'.frames) (sym opened) below)

  -- a cell that is not on the stack
  pub learn_kept : StandsOn → (cs : List ℕ) (i : ℕ) (ns : List Note) (fs : Stack) (room ahead passed : ℕ) (r : Shown) → IsKept w cells rs first cs ns fs room ahead passed
      → i < length cells → has i cs ≡ false → r ≡ shows (cells_in w cells) i → ((n : ℕ) → r ≡ Shown.Cycle n → ⊥)
      → IsKept w cells rs first cs (set ns i (learnt_note r (get_or ns i blank))) fs room ahead passed
  learn_kept on cs i ns fs room ahead passed r m low off right alone =
      let n : Note = learnt_note r (get_or ns i blank) in
      let opened : map (cell_at (cells_in w cells)) (begun_of (set ns i n) cs) ≡ map (cell_at (cells_in w cells)) (begun_of ns cs) = ap (map (cell_at (cells_in w cells))) (begun_other ns i n cs (has_not i cs off)) in
      learnt_by on cs i ns fs fs room ahead passed r m low right alone refl
      (subst (λ z. AreOpen w.pool w.book (look_over w cells (known_of ns)) z fs.frames) (sym opened) m.begun)

  -- the cycle that the top cell closes
  pub close_kept : StandsOn → (top : ℕ) (rest : List ℕ) (i : ℕ) (ns : List Note) (fs fs' : Stack) (room ahead passed : ℕ) → IsKept w cells rs first (top ∷ rest) ns fs room ahead passed
      → Demands w.book (cell_at (cells_in w cells) top) (cell_at (cells_in w cells) i) → has i (top ∷ rest) ≡ true → fs'.room ≡ fs.room
      → ((l : Addr → Asked) → AreOpen w.pool w.book l (map (cell_at (cells_in w cells)) (begun_of ns (top ∷ rest))) fs.frames → AreOpen w.pool w.book l (map (cell_at (cells_in w cells)) (begun_of ns (lower i (top ∷ rest)))) fs'.frames)
      → IsKept w cells rs first (top ∷ rest) (note_cycle (length (part_to i (top ∷ rest))) (part_to i (top ∷ rest)) ns) fs' room ahead passed
  close_kept on top rest i ns fs fs' room ahead passed m demands there same frames =
      let cs : List ℕ = top ∷ rest in
      let part : List ℕ = part_to i (top ∷ rest) in
      let count : ℕ = length (part_to i (top ∷ rest)) in
      let ns' : List Note = note_cycle count part ns in
      let size = sized cs ns fs room ahead passed m in
      let low : Below (length cells) part = below_part (length cells) i cs m.evaluation.below in
      let low_known : Below (length (known_of ns)) part = subst (λ z. Below z part) (sym m.evaluation.knows.sized) low in
      let low_notes : Below (length ns) part = subst (λ z. Below z part) (sym size) low in
      let stack_notes : Below (length ns) cs = subst (λ z. Below z cs) (sym size) m.evaluation.below in
      let k : known_of ns' ≡ mark_all count part (known_of ns) = known_cycle count part ns in
      let closed : IsEvaluation (cells_in w cells) (mark_all count part (known_of ns)) cs = closed_evaluates (cells_in w cells) m.pending (known_of ns) i top rest demands there m.evaluation in
      let grows : Grows (known_of ns) (mark_all count part (known_of ns)) = grows_right (cells_in w cells) (known_of ns) (mark_all count part (known_of ns)) m.evaluation.knows.right closed.knows.right (λ n q e. marks_some count part (known_of ns) n q low_known e) in
      let more = open_grow on w cells (known_of ns) (mark_all count part (known_of ns)) (map (cell_at (cells_in w cells)) (begun_of ns (lower i cs))) fs'.frames grows (frames (look_over w cells (known_of ns)) m.begun) in
      let opened : map (cell_at (cells_in w cells)) (begun_of ns' cs) ≡ map (cell_at (cells_in w cells)) (begun_of ns (lower i cs)) = ap (map (cell_at (cells_in w cells))) (begun_cycle count i cs ns m.evaluation.differ stack_notes there) in
      kept_by cs cs ns ns' fs fs' room ahead passed m
      (subst (Grows (known_of ns)) (sym k) grows)
      (subst (λ z. IsEvaluation (cells_in w cells) z cs) (sym k) closed)
      (cycle_keeps (λ c z. z.on_stack ≡ has c cs) count (λ c z h. h) part ns low_notes m.marked)
      (cycle_keeps (λ c z. (q : Shown) → z.shown ≡ Some q → z.begun ≡ false) count (λ c z h q e. refl) part ns low_notes m.shut)
      (subst (λ z. AreOpen w.pool w.book (look_over w cells z) (map (cell_at (cells_in w cells)) (begun_of ns' cs)) fs'.frames) (sym k) (subst (λ z. AreOpen w.pool w.book (look_over w cells (mark_all count part (known_of ns))) z fs'.frames) (sym opened) more))
      same

  -- a cell is put on the stack
  pub push_kept : (cs : List ℕ) (i : ℕ) (ns : List Note) (fs : Stack) (room ahead passed : ℕ) → IsKept w cells rs first cs ns fs room ahead passed → i < length cells → has i cs ≡ false → LinkTo (cells_in w cells) i cs
      → IsKept w cells rs first (i ∷ cs) (set ns i (pushed_note (get_or ns i blank))) fs room ahead passed
  push_kept cs i ns fs room ahead passed m low new link =
      let n : Note = pushed_note (get_or ns i blank) in
      let noted : i < length ns = (let a = sized cs ns fs room ahead passed m in omega arith) in
      let out : Among i cs → ⊥ = has_not i cs new in
      let opened : map (cell_at (cells_in w cells)) (begun_of (set ns i n) (i ∷ cs)) ≡ map (cell_at (cells_in w cells)) (begun_of ns cs) = ap (map (cell_at (cells_in w cells))) (begun_here ns i n cs noted out) in
      noted_by cs (i ∷ cs) ns i n fs fs room ahead passed m refl
      (record { knows = m.evaluation.knows; linked = link; differ = (out, m.evaluation.differ); below = (low, m.evaluation.below) })
      (all_set (λ c z. z.on_stack ≡ has c (i ∷ cs)) ns i n noted (sym (has_first i cs)) (λ c d. m.marked c ∙ sym (has_other i c cs d)))
      (all_set (λ c z. (q : Shown) → z.shown ≡ Some q → z.begun ≡ false) ns i n noted (λ q e. refl) (λ c d. m.shut c))
      (subst (λ z. AreOpen w.pool w.book (look_over w cells (known_of ns)) z fs.frames) (sym opened) m.begun)
      refl

  -- a cell that is known is taken off
  pub pop_kept : (i : ℕ) (rest : List ℕ) (ns : List Note) (fs : Stack) (room ahead passed : ℕ) (r : Shown) → IsKept w cells rs first (i ∷ rest) ns fs room ahead passed → get_or (known_of ns) i None ≡ Some r
      → IsKept w cells rs first rest (set ns i (popped_note (get_or ns i blank))) fs room ahead passed
  pop_kept i rest ns fs room ahead passed r m known =
      let n : Note = popped_note (get_or ns i blank) in
      let noted = top_noted i rest ns fs room ahead passed m in
      let apart = top_apart i rest ns fs room ahead passed m in
      let closed : (get_or ns i blank).begun ≡ false = m.shut i r (sym (known_at ns i) ∙ known) in
      let now : AreOpen w.pool w.book (look_over w cells (known_of ns)) (map (cell_at (cells_in w cells)) (begun_of ns rest)) fs.frames
      = subst (λ z. AreOpen w.pool w.book (look_over w cells (known_of ns)) (on_top z (cell_at (cells_in w cells) i) (map (cell_at (cells_in w cells)) (begun_of ns rest))) fs.frames) closed (open_top i rest ns fs room ahead passed m) in
      let opened : map (cell_at (cells_in w cells)) (begun_of (set ns i n) rest) ≡ map (cell_at (cells_in w cells)) (begun_of ns rest) = ap (map (cell_at (cells_in w cells))) (begun_other ns i n rest apart) in
      noted_by (i ∷ rest) rest ns i n fs fs room ahead passed m refl
      (tail_evaluates (cells_in w cells) (known_of ns) i rest m.evaluation)
      (all_set (λ c z. z.on_stack ≡ has c rest) ns i n noted (sym (has_none i rest apart)) (λ c d. m.marked c ∙ has_other i c rest d))
      (all_set (λ c z. (q : Shown) → z.shown ≡ Some q → z.begun ≡ false) ns i n noted (λ q e. refl) (λ c d. m.shut c))
      (subst (λ z. AreOpen w.pool w.book (look_over w cells (known_of ns)) z fs.frames) (sym opened) now)
      refl
