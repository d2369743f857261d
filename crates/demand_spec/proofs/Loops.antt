-- Stacks that close, and the loops of `need`.
use Rattle.std.proofs.Common.{◌≡◌, ℕ, zero, suc, ◌+◌, ◌-◌, ◌<◌, ◌≤◌, ◌⊎◌, inl, inr, ⊎_elim, List, [], ◌∷◌, ◌++◌, length, get_or, refl, sym, ap, ◌∙◌, subst, Option, Some, None, option_and_then, arith}
use Rattle.std.proofs.lemmas.List.{get_or_past}
use Rattle.cell_values.specs.declared.address.Addr.{Addr}
use Rattle.demand_spec.specs.declared.Asked.{Asked}
use Rattle.demand_spec.specs.declared.Asked.TheVariants.{Val, Needs}
use Rattle.formula_trees.specs.Expr.{Expr}
use Rattle.demand_spec.specs.Formula.{plan}
use Rattle.demand_spec.specs.Book.{Book, formula_at, look, ask, ask_formula, ask_cell, value_given, cell_needed, rounds, formulas, finished, need, follow}
use Rattle.demand_spec.specs.Laws.{In, Demands, Chain, NeedChain, Distinct, HasPeriod, IsLoop, StackCloses, Carried}
use Rattle.demand_spec.proofs.Plans.{run_passed}
use Rattle.demand_spec.proofs.Rounds.{look_values, look_lacks, look_needs, ask_needs, part_of_finished}

-- each of the cells needs, over a part of what is finished, another one of them
abbrev Closed : Book → List Addr → Type 0
Closed b cs = (c : Addr) → In c cs → (x : Addr) × Demands b c x × In x cs

-- asked over a round that knows none of them, a cell of a closed list gives no value
not_given : (b : Book) (cs : List Addr) (k : ℕ) → Closed b cs → ((x : Addr) → In x cs → rounds b k x ≡ None) → (c x : Addr) → Demands b c x → In x cs → (r : Asked) (t : Expr) → formula_at b c ≡ Some t → ask b (rounds b k) c t ≡ r → value_given (Some r) ≡ None
not_given b cs k closed before c x d at (Needs y) t f e = refl
not_given b cs k closed before c x d at (Val v) t f e =
    let same : d.tree ≡ t = (let p = d.is_formula in cc) in
    let needs : ask b d.over c t ≡ Needs x = subst (λ z. ask b d.over c z ≡ Needs x) same d.needs in
    let has = run_passed (look b d.over) (look b (rounds b k)) (look b (finished b)) x v (look_values b d.over (finished b) d.part) (look_values b (rounds b k) (finished b) (part_of_finished b k)) (λ a h. (look_lacks b d.over a x h).same) (plan b.texts c t) needs e in
    let next = closed x at in
    let none : look b (rounds b k) x ≡ Needs x = look_needs b (rounds b k) x next.1.tree next.1.is_formula (before x at) in
    let clash : ◌≡◌ {A = Asked} (Val has.0) (Needs x) = sym has.1 ∙ none in
    cc

untouched : (b : Book) (cs : List Addr) → Closed b cs → (k : ℕ) (c : Addr) → In c cs → rounds b k c ≡ None
unfolding ask_cell
untouched b cs closed zero c at = refl
untouched b cs closed (suc k) c at =
    let d = closed c at in
    subst (λ t. value_given (ask_formula b (rounds b k) c t) ≡ None) (sym d.1.is_formula) (not_given b cs k closed (untouched b cs closed k) c d.0 d.1 d.2 (ask b (rounds b k) c d.1.tree) d.1.tree d.1.is_formula refl)

untouched_finished : (b : Book) (cs : List Addr) → Closed b cs → (c : Addr) → In c cs → finished b c ≡ None
unfolding finished
untouched_finished b cs closed c at = untouched b cs closed (length (formulas b)) c at

-- what a cell demands is what it needs, where that is not finished
pub need_from_demand : (b : Book) (c x : Addr) → Demands b c x → finished b x ≡ None → need b c ≡ Some x
unfolding need ask_cell
need_from_demand b c x d n =
    subst (λ t. cell_needed (ask_formula b (finished b) c t) ≡ Some x) (sym d.is_formula)
    (ap (λ r. cell_needed (Some r)) (ask_needs b d.over (finished b) c d.tree d.part x d.needs n))

first_in : (cs : List Addr) (y : Addr) → In (get_or cs 0 y) cs ⊎ (get_or cs 0 y ≡ y)
first_in [] y = inr refl
first_in (c ∷ cs) y = inl (inl refl)

chain_closed : (b : Book) (cs : List Addr) (y : Addr) → Chain b cs y → (c : Addr) → In c cs → (x : Addr) × Demands b c x × (In x cs ⊎ (x ≡ y))
chain_closed b [] y h c k = absurd k
chain_closed b (s ∷ rest) y h c (inl e) = (get_or rest 0 y, subst (λ z. Demands b z (get_or rest 0 y)) (sym e) h.0, ⊎_elim (λ k. inl (inr k)) (λ k. inr k) (first_in rest y))
chain_closed b (s ∷ rest) y h c (inr k) =
    let later = chain_closed b rest y h.1 c k in
    (later.0, later.1, ⊎_elim (λ m. inl (inr m)) (λ m. inr m) later.2)

closed_from_chain : (b : Book) (s : Addr) (rest : List Addr) → Chain b (s ∷ rest) s → Closed b (s ∷ rest)
closed_from_chain b s rest h c k =
    let d = chain_closed b (s ∷ rest) s h c k in
    (d.0, d.1, ⊎_elim (λ (m : In d.0 (s ∷ rest)). m) (λ m. inl m) d.2)

need_chain : (b : Book) (cs : List Addr) (y : Addr) → Chain b cs y → ((c : Addr) → In c cs → finished b c ≡ None) → finished b y ≡ None → NeedChain b cs y
need_chain b [] y h outside end = tt
need_chain b (s ∷ rest) y h outside end = (
  need_from_demand b s (get_or rest 0 y) h.0 (⊎_elim (λ k. outside (get_or rest 0 y) (inr k)) (λ (e : get_or rest 0 y ≡ y). subst (λ z. finished b z ≡ None) (sym e) end) (first_in rest y)),
  need_chain b rest y h.1 (λ c k. outside c (inr k)) end,
)

chain_after : (b : Book) (below cs : List Addr) (y : Addr) → Chain b (below ++ cs) y → Chain b cs y
chain_after b [] cs y h = h
chain_after b (c ∷ below) cs y h = chain_after b below cs y h.1

distinct_after : (below cs : List Addr) → Distinct (below ++ cs) → Distinct cs
distinct_after [] cs h = h
distinct_after (c ∷ below) cs h = distinct_after below cs h.1

-- following

abbrev go_on : Book → Option Addr → Option Addr
go_on b o = option_and_then (need b) o

-- the steps behind the first one
pub follow_from : (b : Book) (c x : Addr) → need b c ≡ Some x → (j : ℕ) → follow b (suc j) c ≡ follow b j x
follow_from b c x e zero = e
follow_from b c x e (suc j) = ap (go_on b) (follow_from b c x e j)

-- following on from where `i` steps lead
pub follow_then : (b : Book) (i : ℕ) (c x : Addr) → follow b i c ≡ Some x → (j n : ℕ) → n ≡ j + i → follow b n c ≡ follow b j x
follow_then b i c x e zero n q = (let same : n ≡ i = omega arith in subst (λ z. follow b z c ≡ Some x) (sym same) e)
follow_then b i c x e (suc j) zero q = absurd (omega arith)
follow_then b i c x e (suc j) (suc n) q = ap (go_on b) (follow_then b i c x e j n (omega arith))

chain_step : (b : Book) (cs : List Addr) (y : Addr) → NeedChain b cs y → (j : ℕ) → j < length cs → need b (get_or cs j y) ≡ Some (get_or cs (suc j) y)
chain_step b [] y h j l = absurd (omega arith)
chain_step b (s ∷ rest) y h zero l = h.0
chain_step b (s ∷ rest) y h (suc j) l = chain_step b rest y h.1 j (omega arith)

-- along a chain of needs the j-th step is its j-th cell
pub chain_follow : (b : Book) (cs : List Addr) (y : Addr) → NeedChain b cs y → (j : ℕ) → j ≤ length cs → follow b j (get_or cs 0 y) ≡ Some (get_or cs j y)
chain_follow b cs y h zero l = refl
chain_follow b cs y h (suc j) l = ap (go_on b) (chain_follow b cs y h j (omega arith)) ∙ chain_step b cs y h j (omega arith)

in_get_or : (cs : List Addr) (j : ℕ) (y : Addr) → j < length cs → In (get_or cs j y) cs
in_get_or [] j y l = absurd (omega arith)
in_get_or (c ∷ cs) zero y l = inl refl
in_get_or (c ∷ cs) (suc j) y l = inr (in_get_or cs j y (omega arith))

pub index_of : (c : Addr) (cs : List Addr) (y : Addr) → In c cs → (i : ℕ) × (i < length cs) × (get_or cs i y ≡ c)
index_of c [] y k = absurd k
index_of c (x ∷ xs) y (inl e) = (0, omega arith, sym e)
index_of c (x ∷ xs) y (inr k) = (let i = index_of c xs y k in (suc i.0, omega (arith, i.1), i.2))

-- the period of a loop

period_first : (b : Book) (s : Addr) (rest : List Addr) → NeedChain b (s ∷ rest) s → Distinct (s ∷ rest) → HasPeriod b s (length (s ∷ rest))
period_first b s rest h apart = record {
  some = omega arith;
  back = chain_follow b (s ∷ rest) s h (length (s ∷ rest)) (omega arith) ∙ ap Some (get_or_past (s ∷ rest) (length (s ∷ rest)) s (omega arith));
  first = never;
}
  where
    never : (j : ℕ) → 0 < j → j < length (s ∷ rest) → follow b j s ≡ Some s → ⊥
    never zero l m e = absurd (omega arith)
    never (suc j) l m e =
        let at : In (get_or rest j s) rest = in_get_or rest j s (omega arith) in
        let here : follow b (suc j) s ≡ Some (get_or rest j s) = chain_follow b (s ∷ rest) s h (suc j) (omega arith) in
        let same : get_or rest j s ≡ s = cc in
        apart.0 (subst (λ z. In z rest) same at)

pub period_moves : (b : Book) (s c : Addr) (n i : ℕ) → HasPeriod b s n → i < n → follow b i s ≡ Some c → HasPeriod b c n
period_moves b s c n i p l e =
    let back : follow b n c ≡ Some c = sym (follow_then b i s c e n (n + i) refl) ∙ follow_then b n s s p.back i (n + i) (omega arith) ∙ e in
    record {
      some = p.some;
      back = back;
      first = λ j a m f.
          let home : follow b (n - i) c ≡ Some s = sym (follow_then b i s c e (n - i) n (omega arith)) ∙ p.back in
          let around : follow b (n - i + j) c ≡ Some s = follow_then b j c c f (n - i) (n - i + j) refl ∙ home in
          let twice : follow b (n + j) s ≡ Some s = follow_then b i s c e (n - i + j) (n + j) (omega arith) ∙ around in
          let once : follow b j s ≡ Some s = sym (follow_then b n s s p.back j (n + j) (omega arith)) ∙ twice in
          p.first j a m once;
    }

stack_closes_loop : (b : Book) (s : Addr) (rest : List Addr) → Distinct (s ∷ rest) → Chain b (s ∷ rest) s → IsLoop b s rest
stack_closes_loop b s rest apart h =
    let closed = closed_from_chain b s rest h in
    let outside : (c : Addr) → In c (s ∷ rest) → finished b c ≡ None = untouched_finished b (s ∷ rest) closed in
    let steps : NeedChain b (s ∷ rest) s = need_chain b (s ∷ rest) s h outside (outside s (inl refl)) in
    let period : HasPeriod b s (length (s ∷ rest)) = period_first b s rest steps apart in
    record {
      unfinished = λ c k. record { tree = (closed c k).1.tree; is_formula = (closed c k).1.is_formula; outside = outside c k };
      steps = steps;
      apart = apart;
      period = λ c k.
          let i = index_of c (s ∷ rest) s k in
          period_moves b s c (length (s ∷ rest)) i.0 period i.1 (chain_follow b (s ∷ rest) s steps i.0 (omega (arith, i.1)) ∙ ap Some i.2);
    }

pub stack_closes : StackCloses
stack_closes b below s rest apart h = stack_closes_loop b s rest (distinct_after below (s ∷ rest) apart) (chain_after b below (s ∷ rest) s h)

pub carried : Carried
carried b c x e l = (l.0, l.1, sym (follow_from b c x e l.0) ∙ ap (go_on b) l.2 ∙ e)
