-- What a cell shows rests on what it mentions.
use Rattle.std.proofs.Common.{◌≡◌, ℕ, zero, suc, ◌-◌, ◌<◌, true, false, ◌⊎◌, inl, inr, ⊎_elim, List, ◌∷◌, length, refl, sym, ap, ◌∙◌, subst, Option, Some, None, option_and_then, arith}
use Rattle.std.proofs.lemmas.Bool.{cases_Bool}
use Rattle.cell_values.specs.declared.address.Addr.{Addr}
use Rattle.cell_values.specs.declared.values.Value.{Value}
use Rattle.demand_spec.specs.declared.Asked.{Asked}
use Rattle.demand_spec.specs.declared.Asked.TheVariants.{Val, Needs}
use Rattle.formula_trees.specs.Expr.{Expr, Exprs, Number, Text, Truth, Ref, Range, RefError, Unary, Binary, Call, End, More}
use Rattle.demand_spec.specs.Like.{LikeCells, MirrorsOutside, LikeShown}
use Rattle.cell_values.specs.declared.values.Shown.{Shown}
use Rattle.demand_spec.specs.Formula.{plan}
use Rattle.formula_trees.specs.Mentions.{mentions}
use Rattle.formula_trees.specs.TextNumbers.{TextsBelow, AllTextsBelow}
use Rattle.demand_spec.specs.Book.{Book, Known, formula_at, own, look, ask, ask_formula, ask_cell, value_given, cell_needed, finished, need, follow, shown}
use Rattle.demand_spec.specs.Laws.{In, Unfinished, IsLoop, Mentions, NeedIsMentioned, NeedIsThere, IsClosed, Reached, start, step, Pending, Set, OfSet, SameOutside, TextsStay, PendingIsClosed, LoopInClosed, ShowsSame}
use Rattle.demand_spec.proofs.Rounds.{Lacks, look_lacks, finished_again}
use Rattle.demand_spec.proofs.Loops.{chain_follow, index_of, follow_then}
use Rattle.demand_spec.proofs.Like.{plan_like}
use Rattle.demand_spec.proofs.Same.{Meant, meant_respects, equal_respects, tree_self}
use Rattle.demand_spec.proofs.Mirror.{LikeAsked, run_like}
use Rattle.demand_spec.proofs.Untouched.{untouched_like}

-- each text number is meant

abbrev All : ℕ → Type 0
All i = Unit {0}

mutual
  texts_below_all : (t : Expr) → TextsBelow All t
  texts_below_all (Unary s a) = texts_below_all a
  texts_below_all (Binary o a b) = (texts_below_all a, texts_below_all b)
  texts_below_all (Call f args) = all_texts_below_all args
  texts_below_all (Number n) = tt
  texts_below_all (Text n) = tt
  texts_below_all (Truth n) = tt
  texts_below_all (Ref n) = tt
  texts_below_all (Range n m) = tt
  texts_below_all RefError = tt

  all_texts_below_all : (args : Exprs) → AllTextsBelow All args
  all_texts_below_all End = tt
  all_texts_below_all (More a rest) = (texts_below_all a, all_texts_below_all rest)

-- Law: what a cell needs

-- a formula that asks for a cell names it, and nothing is known of it yet
pub ask_in : (b : Book) (e : Known) (at : Addr) (t : Expr) (x : Addr) → ask b e at t ≡ Needs x → In x (mentions at t) × Lacks b e x x
ask_in b e at t x h =
    let p = subst (λ r. LikeAsked Lacking Equal r r) h (run_like Named Lacking Equal (look b e) (look b e) looks (plan b.texts at t) (plan b.texts at t) (plan_like Named Equal b.texts b.texts (equal_respects b.texts) at at t t (tree_self Named Equal All (λ i k. refl) at t (texts_below_all t) (λ y k. (refl, k))))) in
    (p.0, look_lacks b e x x p.1)
  where
    Equal : Value → Value → Type 0
    Equal v w = v ≡ w

    Named : Addr → Addr → Type 0
    Named a c = (a ≡ c) × In a (mentions at t)

    Lacking : Addr → Addr → Type 0
    Lacking a c = In a (mentions at t) × (look b e a ≡ Needs a)

    at_cell : (a : Addr) → In a (mentions at t) → (r : Asked) → look b e a ≡ r → LikeAsked Lacking Equal r r
    at_cell a k (Val v) q = refl
    at_cell a k (Needs y) q = (let same = (look_lacks b e a y q).same in (subst (λ z. In z (mentions at t)) same k, subst (λ z. look b e z ≡ Needs y) same q))

    looks : (a c : Addr) → Named a c → LikeAsked Lacking Equal (look b e a) (look b e c)
    looks a c k = subst (λ z. LikeAsked Lacking Equal (look b e a) (look b e z)) k.0 (at_cell a k.1 (look b e a) refl)

pub need_is_mentioned : NeedIsMentioned
unfolding need ask_cell
need_is_mentioned b c x h = go (formula_at b c) refl h
  where
    by_answer : (t : Expr) → formula_at b c ≡ Some t → (r : Asked) → ask b (finished b) c t ≡ r → cell_needed (Some r) ≡ Some x → Mentions b c x × Unfinished b x
    by_answer t q (Val v) p d = cc
    by_answer t q (Needs y) p d =
        let same : y ≡ x = cc in
        let m = ask_in b (finished b) c t x (subst (λ z. ask b (finished b) c t ≡ Needs z) same p) in
        (record { tree = t; is_formula = q; named = m.0 }, record { tree = m.1.tree; is_formula = m.1.is_formula; outside = m.1.unknown })

    go : (o : Option Expr) → formula_at b c ≡ o → cell_needed (ask_formula b (finished b) c o) ≡ Some x → Mentions b c x × Unfinished b x
    go (Some t) q d = by_answer t q (ask b (finished b) c t) refl d
    go None q d = cc

pub need_is_there : NeedIsThere
unfolding need ask_cell
need_is_there b c u = by_answer (ask b (finished b) c u.tree) refl
  where
    given : value_given (ask_formula b (finished b) c (Some u.tree)) ≡ None
    given = subst (λ o. value_given (ask_formula b (finished b) c o) ≡ None) u.is_formula (ap (λ (f : Known). f c) (finished_again b) ∙ u.outside)

    by_answer : (r : Asked) → ask b (finished b) c u.tree ≡ r → (x : Addr) × (need b c ≡ Some x)
    by_answer (Needs x) p = (x, subst (λ o. cell_needed (ask_formula b (finished b) c o) ≡ Some x) (sym u.is_formula) (ap (λ r. cell_needed (Some r)) p))
    by_answer (Val v) p = (let q = subst (λ r. value_given (Some r) ≡ None) p given in cc)

-- Law: closed sets

mentions_same : (A : Addr → Type 0) (b b' : Book) → SameOutside A b b' → (c a : Addr) → (A c → ⊥) → Mentions b' c a → Mentions b c a
mentions_same A b b' s c a n m = record { tree = m.tree; is_formula = s.formula c n ∙ m.is_formula; named = m.named }

pub pending_closed : (b b' : Book) (P A : Addr → Type 0) → ((c : Addr) → A c ⊎ (A c → ⊥)) → IsClosed b P → SameOutside A b b' → IsClosed b' (Pending b' P A)
pending_closed b b' P A decided closed s c a p m = ((m.tree, m.is_formula), ⊎_elim (λ (k : P a). by_place k (decided c)) (λ (r : Reached b' A a). inr (step a c r m)) p.1)
  where
    by_place : P a → A c ⊎ (A c → ⊥) → P c ⊎ Reached b' A c
    by_place k (inl h) = inr (start c h)
    by_place k (inr n) = inl (closed c a k (mentions_same A b b' s c a n m))

pub of_set_or_not : (A : Set) (c : Addr) → OfSet A c ⊎ (OfSet A c → ⊥)
of_set_or_not A c = ⊎_elim (λ (e : A c ≡ true). inl e) (λ (e : A c ≡ false). inr (λ q. cc)) (cases_Bool (A c))

pub pending_is_closed : PendingIsClosed
pending_is_closed b b' P A = pending_closed b b' (OfSet P) (OfSet A) (of_set_or_not A)

-- a cell from which `need` leads into a closed set is in it
pub closed_back : (b : Book) (P : Addr → Type 0) → IsClosed b P → (j : ℕ) (c x : Addr) → follow b j c ≡ Some x → P x → P c
closed_back b P closed zero c x e p = (let same : c ≡ x = cc in subst P (sym same) p)
closed_back b P closed (suc j) c x e p = go (closed_back b P closed j c) (follow b j c) refl e
  where
    go : ((y : Addr) → follow b j c ≡ Some y → P y → P c) → (o : Option Addr) → follow b j c ≡ o → option_and_then (need b) o ≡ Some x → P c
    go before (Some y) q d = before y q (closed y x p (need_is_mentioned b y x d).0)
    go before None q d = cc

-- a loop that meets a closed set lies in it whole
pub loop_closed : (b : Book) (P : Addr → Type 0) → IsClosed b P → (s : Addr) (rest : List Addr) → IsLoop b s rest → (d c : Addr) → In d (s ∷ rest) → In c (s ∷ rest) → P d → P c
loop_closed b P closed s rest loop d c in_d in_c p =
    let i = index_of d (s ∷ rest) s in_d in
    let k = index_of c (s ∷ rest) s in_c in
    let at_s : P s = closed_back b P closed i.0 s d (chain_follow b (s ∷ rest) s loop.steps i.0 (omega (arith, i.1)) ∙ ap Some i.2) p in
    let to_c : follow b k.0 s ≡ Some c = chain_follow b (s ∷ rest) s loop.steps k.0 (omega (arith, k.1)) ∙ ap Some k.2 in
    let home : follow b (length (s ∷ rest) - k.0) c ≡ Some s = sym (follow_then b k.0 s c to_c (length (s ∷ rest) - k.0) (length (s ∷ rest)) (omega (arith, k.1))) ∙ (loop.period s (inl refl)).back in
    closed_back b P closed (length (s ∷ rest) - k.0) c s home at_s

pub loop_in_closed : LoopInClosed
loop_in_closed b P = loop_closed b (OfSet P)

-- Law: what is not reached shows the same

module _ (b b' : Book) (meant : ℕ → Type 0) (A : Addr → Type 0) (s : SameOutside A b b') (ts : TextsStay meant b b') where
  abbrev Here : Addr → Addr → Type 0
  Here a x = a ≡ x

  -- outside the area a cell corresponds to itself
  self : (a : Addr) → (A a → ⊥) → LikeCells Here (Meant meant) a (formula_at b a) (own b a) a (formula_at b' a) (own b' a)
  self a n =
      subst (λ t. LikeCells Here (Meant meant) a (formula_at b a) (own b a) a t (own b' a)) (s.formula a n)
      (subst (λ v. LikeCells Here (Meant meant) a (formula_at b a) (own b a) a (formula_at b a) v) (s.value a n) (by_formula (formula_at b a) refl))
    where
      by_formula : (o : Option Expr) → formula_at b a ≡ o → LikeCells Here (Meant meant) a o (own b a) a o (own b a)
      by_formula (Some t) q = tree_self Here (Meant meant) meant (λ i k. (refl, k)) a t (ts.of_formulas a t q) (λ x k. refl)
      by_formula None q = (refl, ts.of_cells a)

  untouched : MirrorsOutside A Here (Meant meant) b b'
  untouched = record {
    respects = meant_respects meant b.texts b'.texts ts.agree;
    one = λ a x y h k. sym h ∙ k;
    back = λ a c x h k. h ∙ sym k;
    cells = λ a x h n. subst (λ z. LikeCells Here (Meant meant) a (formula_at b a) (own b a) z (formula_at b' z) (own b' z)) h (self a (λ k. n (subst A h k)));
  }

  shown_same : (c : Addr) → (Reached b' A c → ⊥) → shown b c ≡ shown b' c
  shown_same c free = go (shown b c) (shown b' c) (untouched_like Here (Meant meant) A b b' untouched c c refl free).0
    where
      go : (r q : Shown) → LikeShown (Meant meant) r q → r ≡ q
      go (Shown.Val v) (Shown.Val w) h = ap Shown.Val h.0
      go (Shown.Cycle n) (Shown.Cycle m) h = ap Shown.Cycle h
      go Shown.ToCycle Shown.ToCycle h = refl
      go r q h = absurd h

pub shows_same : ShowsSame
shows_same b b' n A s ts c free = (s.formula c (λ h. free (start c h)), shown_same b b' (λ i. i < n) (OfSet A) s ts c free)
