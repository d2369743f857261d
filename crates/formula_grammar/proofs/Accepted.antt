-- A run accepts what is read, and nothing else.
use Rattle.std.proofs.Common.{◌≡◌, ℕ, ◌+◌, ◌-◌, ◌≤◌, List, [], ◌∷◌, Bool, true, false, Ok, Err, Option, Some, None, nat_le, le-leb, refl, sym, ap, ◌∙◌, subst, arith, append-nil}
use Rattle.std.specs.List.{AllByRecursion}
use Rattle.cell_values.specs.declared.address.Addr.{Addr}
use Rattle.cell_values.specs.declared.TheConstants.{MAX_RANGE_CELLS}
use Rattle.formula_trees.specs.declared.TheConstants.{MAX_NODES, MAX_LEVELS}
use Rattle.formula_trees.specs.Expr.{Expr}
use Rattle.formula_tokens.specs.declared.token.Spot.{Spot}
use Rattle.formula_tokens.specs.declared.token.Token.{Token}
use Rattle.formula_grammar.specs.declared.faults.FaultKind.{FaultKind}
use Rattle.formula_grammar.specs.Syntax.{Mark, Expression, spelling, marks, meaning, Fits}
use Rattle.formula_grammar.specs.Fault.{own_fault, named_fault, Reads, total_nodes, tokens_of}
use Rattle.formula_grammar.specs.Steps.{State, operator, finished, Move, move, mark_at, is_bad, checked, step, accepted, run_on, run, at_end}
use Rattle.formula_grammar.proofs.Walk.{stuck, at, opens, go_on, walk, prefixed, walk-expression}
use Rattle.formula_grammar.proofs.Verdict.{start, listed, listed-prefixed, Passes, passes}

abbrev AreKnown : List Token → Type 0
AreKnown ts = AllByRecursion (λ t. own_fault t ≡ None) ts

abbrev AreInside : List Token → Type 0
AreInside ts = AllByRecursion (λ t. named_fault t ≡ None) ts

abbrev AreLow : List Mark → Type 0
AreLow ms = AllByRecursion (λ m. m.level ≤ MAX_LEVELS) ms

abbrev AreSmall : List Mark → Type 0
AreSmall ms = AllByRecursion (λ m. m.cells ≤ MAX_RANGE_CELLS) ms

-- what keeps within the limits behind n nodes
record Keeps (ts : List Token) (n : ℕ) (ms : List Mark) : Type 0 where
  known : AreKnown ts
  inside : AreInside ts
  low : AreLow ms
  few : n + total_nodes ms ≤ MAX_NODES
  small : AreSmall ms

-- what an accepted run has passed
passed : (ts : List Spot) (end n : ℕ) (s : State) → n ≤ MAX_NODES → run ts end n s ≡ accepted → Keeps (tokens_of ts) n (listed (walk true (tokens_of ts) s))
passed [] end n s h e = record { known = tt; inside = tt; low = tt; few = omega (arith, h); small = tt }
passed (t ∷ ts) end n s h e = by_step (λ s'. passed ts end (n + (mark_at s t.token).nodes) s') (step n s t.token) refl e
  where
    by_step : ((s' : State) → n + (mark_at s t.token).nodes ≤ MAX_NODES → run ts end (n + (mark_at s t.token).nodes) s' ≡ accepted → Keeps (tokens_of ts) (n + (mark_at s t.token).nodes) (listed (walk true (tokens_of ts) s')))
        → (m : Move) → step n s t.token ≡ m → run_on (run ts end (n + (mark_at s t.token).nodes)) t.place m ≡ accepted → Keeps (tokens_of (t ∷ ts)) n (listed (walk true (tokens_of (t ∷ ts)) s))
    by_step go (Ok s') m e =
        let p = passes n s t.token s' m in
        let few = p.few in
        let r = go s' (omega (arith, h, few)) e in
        subst (λ x. Keeps (tokens_of (t ∷ ts)) n (mark_at s t.token ∷ listed (go_on (walk true (tokens_of ts)) x))) (sym p.moved)
        (record { known = (p.known, r.known); inside = (p.inside, r.inside); low = (p.low, r.low); few = omega (arith, r.few); small = (p.small, r.small) })
    by_step go (Err j) m e = cc

pub step_passes : (n : ℕ) (s : State) (t : Token) (s' : State) → Passes n s t s' → step n s t ≡ Ok s'
step_passes n s t s' p =
    by_case (is_bad t) (own_fault t) (named_fault t) (nat_le (mark_at s t).level MAX_LEVELS) (nat_le (mark_at s t).nodes (MAX_NODES - n)) (nat_le (mark_at s t).cells MAX_RANGE_CELLS) (move true s t) p.known p.inside (le-leb _ _ p.low) (le-leb _ _ p.few) (le-leb _ _ p.small) p.moved
  where
    by_case : (bad : Bool) (o l : Option FaultKind) (low few small : Bool) (m : Move) → o ≡ None → l ≡ None → low ≡ true → few ≡ true → small ≡ true → m ≡ Ok s' → checked bad o l low few small m ≡ Ok s'
    by_case bad None None true true true (Ok a) u i h f k e = e
    by_case bad (Some o) l low few small m u i h f k e = cc
    by_case bad None (Some l) low few small m u i h f k e = cc
    by_case bad None None false few small m u i h f k e = cc
    by_case bad None None true false small m u i h f k e = cc
    by_case bad None None true true false m u i h f k e = cc
    by_case bad None None true true true (Err j) u i h f k e = cc

-- a walk within the limits to the end is accepted
goes : (ts : List Spot) (end n : ℕ) (s : State) (ms : List Mark) → walk true (tokens_of ts) s ≡ prefixed ms (at (operator [])) → Keeps (tokens_of ts) n ms → run ts end n s ≡ accepted
goes [] end n s [] e k =
    let h : s ≡ operator [] = cc in
    let f : n ≤ MAX_NODES = omega (arith, k.few) in
    let o : step n (operator []) Token.End ≡ Ok finished = step_passes n (operator []) Token.End finished (record { moved = refl; known = refl; inside = refl; low = omega arith; few = omega (arith, f); small = omega arith }) in
    ap (at_end end) (ap (λ x. step n x Token.End) h ∙ o)
goes [] end n s (m ∷ ms) e k = cc
goes (t ∷ ts) end n s [] e k = cc
goes (t ∷ ts) end n s (m ∷ ms) e k = by_move (λ s' w j. goes ts end (n + (mark_at s t.token).nodes) s' ms w j) (move true s t.token) refl e
  where
    not_stuck : (ms : List Mark) → opens (mark_at s t.token) stuck ≡ opens m (prefixed ms (at (operator []))) → ⊥
    not_stuck [] w = cc
    not_stuck (x ∷ ms) w = cc

    by_move : ((s' : State) → walk true (tokens_of ts) s' ≡ prefixed ms (at (operator [])) → Keeps (tokens_of ts) (n + (mark_at s t.token).nodes) ms → run ts end (n + (mark_at s t.token).nodes) s' ≡ accepted)
        → (v : Move) → move true s t.token ≡ v → opens (mark_at s t.token) (go_on (walk true (tokens_of ts)) v) ≡ opens m (prefixed ms (at (operator [])))
        → run_on (run ts end (n + (mark_at s t.token).nodes)) t.place (step n s t.token) ≡ accepted
    by_move go (Ok s') v w =
        let rest : walk true (tokens_of ts) s' ≡ prefixed ms (at (operator [])) = cc in
        let same : mark_at s t.token ≡ m = cc in
        let level = ap (λ x. x.level) same in
        let nodes = ap (λ x. x.nodes) same in
        let cells = ap (λ x. x.cells) same in
        let few = k.few in
        let p : Passes n s t.token s' = record { moved = v; known = k.known.0; inside = k.inside.0; low = omega (arith, level, k.low.0); few = omega (arith, nodes, few); small = omega (arith, cells, k.small.0) } in
        ap (run_on (run ts end (n + (mark_at s t.token).nodes)) t.place) (step_passes n s t.token s' p)
        ∙ go s' rest (record { known = k.known.1; inside = k.inside.1; low = k.low.1; few = omega (arith, nodes, few); small = k.small.1 })
    by_move go (Err j) v w = absurd (not_stuck ms w)

-- what is read is accepted
pub reads_accepted : (own : Addr) (ts : List Spot) (end : ℕ) (f : Expr) → Reads own (tokens_of ts) f → run ts end 0 start ≡ accepted
reads_accepted own ts end f r =
    let e = r.expression in
    let w = walk-expression true e [] 0 [] refl r.fits in
    goes ts end 0 start (marks e 0) (sym (ap (λ x. walk true x start) (append-nil (spelling e) ∙ r.spelled)) ∙ w) (record { known = r.known; inside = r.inside; low = r.low; few = omega (arith, r.few); small = r.small })

-- a formula whose run is accepted is read
pub accepted_reads : (own : Addr) (ts : List Spot) (end : ℕ) (e : Expression) → Fits true e → spelling e ≡ tokens_of ts → run ts end 0 start ≡ accepted → Reads own (tokens_of ts) (meaning own e)
accepted_reads own ts end e fits h a =
    let p = passed ts end 0 start (omega arith) a in
    let w = ap (λ x. walk true x start) (sym h ∙ sym (append-nil (spelling e))) ∙ walk-expression true e [] 0 [] refl fits in
    let l : listed (walk true (tokens_of ts) start) ≡ marks e 0 = ap listed w ∙ listed-prefixed (marks e 0) (at (operator [])) ∙ append-nil (marks e 0) in
    let few = subst (λ x. 0 + total_nodes x ≤ MAX_NODES) l p.few in
    record { expression = e; fits = fits; spelled = h; known = p.known; inside = p.inside; low = subst AreLow l p.low; few = omega (arith, few); small = subst AreSmall l p.small; means = refl }
