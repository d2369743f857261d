-- The values that looks and formulas give have text numbers of the texts.
use Rattle.std.proofs.Common.{◌≡◌, ◌<◌, ℕ, zero, suc, Bool, true, false, cond, length, Option, Some, None, Result, IfOk, List, [], ◌∷◌, refl, sym, ap, ◌∙◌, subst}
use Rattle.cell_values.specs.declared.address.Addr.{Addr}
use Rattle.cell_values.specs.declared.values.Value.{Value}
use Rattle.cell_values.specs.Addresses.{same_addr}
use Rattle.cell_values.specs.Texts.{Texts}
use Rattle.formula_trees.specs.Expr.{Expr}
use Rattle.cell_values.specs.Values.{IsValueOf}
use Rattle.demand_spec.specs.declared.Asked.{Asked}
use Rattle.demand_spec.specs.declared.Asked.TheVariants.{Val, Needs}
use Rattle.demand_spec.specs.Formula.{plan}
use Rattle.demand_spec.specs.Book.{Content, Known, formula_of, own_of, formula_at, own, look_at, look, ask, ask_formula, ask_cell, value_given, formulas, finished, rounds}
use Rattle.cell_values.specs.Order.{entry_at}
use Rattle.demand_spec.specs.TextNumbers.{TextBelow}
use Rattle.demand_spec.specs.Listed.{IsFormulaOf, IsContentOf, AreCellsOf, AreKnownOf}
use Rattle.demand_spec.specs.Asks.{any_value, value_or_end}
use Rattle.demand_spec.specs.Given.{IsAnswerOf}
use Rattle.demand_spec.specs.Results.{AreFoundOf}
use Rattle.demand_spec.specs.Stage.{Sight, IsSight, book_with, look_on, ask_on}
use Rattle.demand_spec.proofs.Like.{plan_like}
use Rattle.demand_spec.proofs.Same.{Meant, meant_respects, tree_self}
use Rattle.demand_spec.proofs.Mirror.{LikeAsked, run_like}

-- a cell's content, and a known value

pub content_text : (ts : Texts) (cs : List (Addr × Content)) (a : Addr) → AreCellsOf ts cs → (x : Content) → entry_at cs a ≡ Some x → IsContentOf ts x
content_text ts [] a h x e = cc
content_text ts (c ∷ cs) a h x e = go (same_addr a c.0) e (content_text ts cs a h.1 x)
  where
    go : (q : Bool) → cond q (Some c.1) (entry_at cs a) ≡ Some x → (entry_at cs a ≡ Some x → IsContentOf ts x) → IsContentOf ts x
    go true e k = (let same : c.1 ≡ x = cc in subst (IsContentOf ts) same h.0)
    go false e k = k e

look_below : (cells : List (Addr × Content)) (ts : Texts) (e : Known) → AreFoundOf ts cells → AreKnownOf ts e → (a : Addr) (v : Value) → look (book_with cells ts) e a ≡ Val v → IsValueOf ts v
unfolding formula_at own
look_below cells ts e h k a v q = by_cell (entry_at cells a) refl q
  where
    by_known : (t : Expr) (o : Option Value) → e a ≡ o → look_at (Some t) Value.Blank o a ≡ Val v → IsValueOf ts v
    by_known t (Some w) p q = (let same : w ≡ v = cc in subst (IsValueOf ts) same (k a w p))
    by_known t None p q = cc

    by_cell : (o : Option Content) → entry_at cells a ≡ o → look_at (formula_of o) (own_of o) (e a) a ≡ Val v → IsValueOf ts v
    by_cell None p q = (let same : Value.Blank ≡ v = cc in subst (IsValueOf ts) same tt)
    by_cell (Some (Content.Number n)) p q = (let same : Value.Number n ≡ v = cc in subst (IsValueOf ts) same tt)
    by_cell (Some (Content.Text t)) p q = (let same : Value.Text t ≡ v = cc in subst (IsValueOf ts) same (h a (Content.Text t) p))
    by_cell (Some (Content.Truth t)) p q = (let same : Value.Bool t ≡ v = cc in subst (IsValueOf ts) same tt)
    by_cell (Some (Content.Formula t)) p q = by_known t (e a) refl q

looked_text : (s : Sight) → IsSight s → (a : Addr) (v : Value) → look_on s a ≡ Val v → IsValueOf s.texts v
looked_text s h = look_below s.cells s.texts (entry_at s.known) (λ a. content_text s.texts s.cells a h.cells_of) h.known_of

-- where a value was found, it is one of these texts'
abbrev FoundOf : Texts → Result Value Asked → Type 0
FoundOf ts r = IfOk r (IsValueOf ts)

pub look_text : (s : Sight) → IsSight s → (a : Addr) (r : Result Value Asked) → r ≡ any_value (look_on s a) → IfOk r (IsValueOf s.texts)
look_text s h a r e = go (look_on s a) refl r e
  where
    go : (l : Asked) → look_on s a ≡ l → (r : Result Value Asked) → r ≡ any_value l → IfOk r (IsValueOf s.texts)
    go (Val v) p r q = subst (FoundOf s.texts) (sym q) (looked_text s h a v p)
    go (Needs x) p r q = subst (FoundOf s.texts) (sym q) tt

-- a formula's value

below : (ts : Texts) (v : Value) → IsValueOf ts v → TextBelow (λ i. i < length ts) v
below ts (Value.Text t) h = h
below ts (Value.Short t) h = h
below ts (Value.Number t) h = tt
below ts (Value.Bool t) h = tt
below ts Value.Blank h = tt
below ts (Value.Error t) h = tt

above : (ts : Texts) (v : Value) → TextBelow (λ i. i < length ts) v → IsValueOf ts v
above ts (Value.Text t) h = h
above ts (Value.Short t) h = h
above ts (Value.Number t) h = tt
above ts (Value.Bool t) h = tt
above ts Value.Blank h = tt
above ts (Value.Error t) h = tt

ask_below : (cells : List (Addr × Content)) (ts : Texts) (e : Known) → AreFoundOf ts cells → AreKnownOf ts e → (at : Addr) (t : Expr) → IsFormulaOf ts t → (v : Value) → ask (book_with cells ts) e at t ≡ Val v → IsValueOf ts v
ask_below cells ts e h m at t k v q = above ts v (subst (λ r. LikeAsked Any (Meant Below) r r) q (run_like Same Any (Meant Below) (look (book_with cells ts) e) (look (book_with cells ts) e) looks (plan ts at t) (plan ts at t) (plan_like Same (Meant Below) ts ts (meant_respects Below ts ts (λ i l. refl)) at at t t (tree_self Same (Meant Below) Below (λ i l. (refl, l)) at t k (λ x l. refl))))).1
  where
    Below : ℕ → Type 0
    Below i = i < length ts

    Same : Addr → Addr → Type 0
    Same a c = a ≡ c

    Any : Addr → Addr → Type 0
    Any a c = Unit {0}

    at_cell : (a : Addr) (r : Asked) → look (book_with cells ts) e a ≡ r → LikeAsked Any (Meant Below) r r
    at_cell a (Val w) p = (refl, below ts w (look_below cells ts e h m a w p))
    at_cell a (Needs x) p = tt

    looks : (a c : Addr) → a ≡ c → LikeAsked Any (Meant Below) (look (book_with cells ts) e a) (look (book_with cells ts) e c)
    looks a c p = subst (λ z. LikeAsked Any (Meant Below) (look (book_with cells ts) e a) (look (book_with cells ts) e z)) p (at_cell a (look (book_with cells ts) e a) refl)

asked_text : (s : Sight) → IsSight s → (at : Addr) (t : Expr) → IsFormulaOf s.texts t → (v : Value) → ask_on s at t ≡ Val v → IsValueOf s.texts v
asked_text s h = ask_below s.cells s.texts (entry_at s.known) (λ a. content_text s.texts s.cells a h.cells_of) h.known_of

pub value_text : (s : Sight) → IsSight s → (at : Addr) (t : Expr) → IsFormulaOf s.texts t → (r : Result Value Asked) → r ≡ value_or_end (ask_on s at t) → IfOk r (IsValueOf s.texts)
value_text s h at t k r e = go (ask_on s at t) refl r e
  where
    go : (l : Asked) → ask_on s at t ≡ l → (r : Result Value Asked) → r ≡ value_or_end l → IfOk r (IsValueOf s.texts)
    go (Val (Value.Error c)) p r q = subst (FoundOf s.texts) (sym q) tt
    go (Val v) p r q = subst (FoundOf s.texts) (sym q) (asked_text s h at t k v p)
    go (Needs x) p r q = subst (FoundOf s.texts) (sym q) tt

-- the values of every round

given_text : (cells : List (Addr × Content)) (ts : Texts) (e : Known) → AreFoundOf ts cells → AreKnownOf ts e → (a : Addr) (x : Option Content) → entry_at cells a ≡ x → (v : Value) → value_given (ask_formula (book_with cells ts) e a (formula_of x)) ≡ Some v → IsValueOf ts v
given_text cells ts e h k a None p v q = cc
given_text cells ts e h k a (Some (Content.Number n)) p v q = cc
given_text cells ts e h k a (Some (Content.Text n)) p v q = cc
given_text cells ts e h k a (Some (Content.Truth n)) p v q = cc
given_text cells ts e h k a (Some (Content.Formula t)) p v q = go (ask (book_with cells ts) e a t) refl q
  where
    go : (r : Asked) → ask (book_with cells ts) e a t ≡ r → value_given (Some r) ≡ Some v → IsValueOf ts v
    go (Val w) p2 q = (let same : w ≡ v = cc in ask_below cells ts e h k a t (h a (Content.Formula t) p) v (p2 ∙ ap Val same))
    go (Needs x) p2 q = cc

rounds_below : (cells : List (Addr × Content)) (ts : Texts) → AreFoundOf ts cells → (k : ℕ) → AreKnownOf ts (rounds (book_with cells ts) k)
unfolding ask_cell formula_at
rounds_below cells ts h zero = λ a v q. cc
rounds_below cells ts h (suc k) = λ a v q. given_text cells ts (rounds (book_with cells ts) k) h (rounds_below cells ts h k) a (entry_at cells a) refl v q

pub rounds_text : (cells : List (Addr × Content)) (ts : Texts) (k : ℕ) (e : Known) → AreCellsOf ts cells → e ≡ rounds (book_with cells ts) k → AreKnownOf ts e
rounds_text cells ts k e h p = subst (AreKnownOf ts) (sym p) (rounds_below cells ts (λ a. content_text ts cells a h) k)

pub finished_text : (cells : List (Addr × Content)) (ts : Texts) (e : Known) → AreCellsOf ts cells → e ≡ finished (book_with cells ts) → AreKnownOf ts e
unfolding finished
finished_text cells ts e h p = rounds_text cells ts (length (formulas (book_with cells ts))) e h p

-- the values of the last round, where each cell that is found has text numbers of the texts
pub finished_below : (cells : List (Addr × Content)) (ts : Texts) → AreFoundOf ts cells → AreKnownOf ts (finished (book_with cells ts))
unfolding finished
finished_below cells ts h = rounds_below cells ts h (length (formulas (book_with cells ts)))

pub answer_text : (s : Sight) → IsSight s → (at : Addr) (t : Expr) → IsFormulaOf s.texts t → (r : Asked) → r ≡ ask_on s at t → IsAnswerOf s.texts r
answer_text s h at t k (Val v) e = asked_text s h at t k v (sym e)
answer_text s h at t k (Needs x) e = tt
