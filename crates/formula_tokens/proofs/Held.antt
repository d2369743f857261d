-- Texts that hold the literals of a formula.
use Rattle.std.proofs.Common.{◌≡◌, ℕ, ◌+◌, ◌<◌, ◌≤◌, get_or, arith, Bool, true, false, cond, List, [], ◌∷◌, ◌++◌, length, map, drop, refl, ap, ap₂, sym, subst, ◌∙◌, Option, Some, None}
use Rattle.std.specs.Prelude.{IsSome, flat_map, nat_lt, unwrap_or}
use Rattle.std.specs.List.{AllByRecursion, position_from, position_or_len}
use Rattle.std.specs.Str.{bytes_eq}
use Rattle.std.proofs.lemmas.Iterator.Adapters.{position_from-zero}
use Rattle.std.proofs.lemmas.List.{take-append-drop}
use Rattle.std.proofs.lemmas.List.Sums.{fails_before_first}
use Rattle.std.proofs.lemmas.Slice.Eq.{bytes_eq-Decides}
use Rattle.std.proofs.lemmas.Bool.{true≢false, ltb-false}
use Rattle.cell_values.proofs.Numbering.{number_is_there, number_has_text}
use Rattle.cell_values.specs.Texts.{Texts}
use Rattle.cell_values.specs.Interned.{number_of, interned, with_number, AreDistinct, KeepsTexts}
use Rattle.formula_tokens.specs.declared.token.Literal.{Literal}
use Rattle.formula_tokens.specs.declared.token.Spot.{Spot}
use Rattle.formula_tokens.specs.declared.token.Token.{Token}
use Rattle.formula_tokens.specs.Laws.{InternedAreHeld, HeldStay, LongerHold, LongerAgree}
use Rattle.formula_tokens.specs.Lexemes.{Lexeme, Quoted, Other, Placed, lexemes}
use Rattle.formula_tokens.specs.Tokens.{spot_of, spots_of, literal_of, with_texts, with_literals, HoldsLiteral, HoldsLiterals}
use Rattle.formula_tokens.proofs.Reading.{interned_number, number_stays}

-- a text of the first texts has the same number among all
found_stays : (p : List ℕ → Bool) (ts more : Texts) (i n : ℕ) → position_from p i ts ≡ Some n → position_from p i (ts ++ more) ≡ Some n
found_stays p [] more i n h = cc
found_stays p (t ∷ ts) more i n h = by_first (p t) (found_stays p ts more (i + 1) n) h
  where
    by_first : (b : Bool) → (position_from p (i + 1) ts ≡ Some n → position_from p (i + 1) (ts ++ more) ≡ Some n) → cond b (Some i) (position_from p (i + 1) ts) ≡ Some n → cond b (Some i) (position_from p (i + 1) (ts ++ more)) ≡ Some n
    by_first true f h = h
    by_first false f h = f h

number_from : (ts : Texts) (text : List ℕ) → number_of ts text ≡ position_from (bytes_eq text) 0 ts
unfolding number_of
number_from ts text = position_from-zero (bytes_eq text) ts

same_number : (ts more : Texts) (text : List ℕ) (n : ℕ) → KeepsTexts ts more → number_of ts text ≡ Some n → number_of more text ≡ Some n
same_number ts more text n k h =
    let whole : ts ++ drop (length ts) more ≡ more = ap (λ (xs : Texts). xs ++ drop (length ts) more) (sym k) ∙ take-append-drop (length ts) more in
    number_from more text ∙ ap (position_from (bytes_eq text) 0) (sym whole) ∙ found_stays (bytes_eq text) ts (drop (length ts) more) 0 n (sym (number_from ts text) ∙ h)

some_is : (o : Option ℕ) → IsSome o → (n : ℕ) × (o ≡ Some n)
some_is (Some n) h = (n, refl)
some_is None h = cc

some_from : (o : Option ℕ) (n : ℕ) → o ≡ Some n → IsSome o
some_from o n e = subst IsSome (sym e) refl

-- one lexeme
hold_more : (ts more : Texts) (l : Lexeme) → KeepsTexts ts more → HoldsLiteral ts l → HoldsLiteral more l
hold_more ts more (Quoted text) k h = let n = some_is (number_of ts text) h in some_from (number_of more text) n.0 (same_number ts more text n.0 k n.1)
hold_more ts more (Other t) k h = tt

spot_same : (ts more : Texts) (p : Placed) → KeepsTexts ts more → HoldsLiteral ts p.1 → spot_of more p ≡ spot_of ts p
spot_same ts more (place, Quoted text) k h =
    let n = some_is (number_of ts text) h in
    ap (λ (o : Option ℕ). record { token = Token.Literal (Literal.Text (record { 0 = unwrap_or o 0 })); place = place }) (same_number ts more text n.0 k n.1 ∙ sym n.1)
spot_same ts more (place, Other t) k h = refl

-- all of them
all_more : (ts more : Texts) (ps : List Placed) → KeepsTexts ts more → AllByRecursion (λ p. HoldsLiteral ts p.1) ps → AllByRecursion (λ p. HoldsLiteral more p.1) ps
all_more ts more [] k h = tt
all_more ts more (p ∷ ps) k h = (hold_more ts more p.1 k h.0, all_more ts more ps k h.1)

spots_same : (ts more : Texts) (ps : List Placed) → KeepsTexts ts more → AllByRecursion (λ p. HoldsLiteral ts p.1) ps → map (spot_of more) ps ≡ map (spot_of ts) ps
spots_same ts more [] k h = refl
spots_same ts more (p ∷ ps) k h = ap₂ (λ (s : Spot) (ss : List Spot). s ∷ ss) (spot_same ts more p k h.0) (spots_same ts more ps k h.1)

pub longer_hold : LongerHold
unfolding HoldsLiterals
longer_hold names ts more text k h = all_more ts more (lexemes names text) k h

pub longer_agree : LongerAgree
unfolding HoldsLiterals spots_of
longer_agree names ts more text k h = spots_same ts more (lexemes names text) k h

-- interning texts that are there
nothing_new : (ts : Texts) (text : List ℕ) (n : ℕ) → number_of ts text ≡ Some n → (interned ts text).0 ≡ ts
nothing_new ts text n e = ap (λ (o : Option ℕ). (with_number ts text o).0) e

texts_stay : (ts : Texts) (ps : List Placed) → AllByRecursion (λ p. HoldsLiteral ts p.1) ps → with_texts ts (flat_map literal_of ps) ≡ ts
texts_stay ts [] h = refl
texts_stay ts ((place, Quoted text) ∷ ps) h =
    let n = some_is (number_of ts text) h.0 in
    ap (λ (us : Texts). with_texts us (flat_map literal_of ps)) (nothing_new ts text n.0 n.1) ∙ texts_stay ts ps h.1
texts_stay ts ((place, Other t) ∷ ps) h = texts_stay ts ps h.1

pub held_stay : HeldStay
unfolding HoldsLiterals with_literals
held_stay names ts text h = texts_stay ts (lexemes names text) h

-- interning texts
stays_through : (ts : Texts) (ps : List Placed) (text : List ℕ) (n : ℕ) → number_of ts text ≡ Some n → number_of (with_texts ts (flat_map literal_of ps)) text ≡ Some n
stays_through ts [] text n h = h
stays_through ts ((place, Quoted q) ∷ ps) text n h = stays_through (interned ts q).0 ps text n (number_stays ts (place, Quoted q) text n h)
stays_through ts ((place, Other t) ∷ ps) text n h = stays_through ts ps text n h

all_there : (ts : Texts) (ps : List Placed) → AllByRecursion (λ p. HoldsLiteral (with_texts ts (flat_map literal_of ps)) p.1) ps
all_there ts [] = tt
all_there ts ((place, Quoted q) ∷ ps) = (some_from _ (interned ts q).1.0 (stays_through (interned ts q).0 ps q (interned ts q).1.0 (interned_number ts q)), all_there (interned ts q).0 ps)
all_there ts ((place, Other t) ∷ ps) = (tt, all_there ts ps)

pub interned_are_held : InternedAreHeld
unfolding HoldsLiterals with_literals
interned_are_held names ts text = all_there ts (lexemes names text)

-- the number of a text that is there
absent : (ts : Texts) (k : ℕ) → number_of ts (get_or ts k []) ≡ None → k < length ts → ⊥
unfolding number_of
absent ts k h l =
    let text : List ℕ = get_or ts k [] in
    let first : ℕ = position_or_len (bytes_eq text) ts in
    let past : length ts ≤ first = ltb-false first (length ts) (past_end (nat_lt first (length ts)) first h) in
    let fails = fails_before_first (bytes_eq text) ts k [] (omega arith) in
    true≢false (sym ((bytes_eq-Decides text text).1 refl) ∙ fails)
  where
    past_end : (b : Bool) (n : ℕ) → cond b (Some n) None ≡ None → b ≡ false
    past_end true n h = cc
    past_end false n h = refl

pub numbered : (ts : Texts) → AreDistinct ts → (i : ℕ) → i < length ts → number_of ts (get_or ts i []) ≡ Some i
numbered ts d i h = by (number_of ts (get_or ts i [])) refl
  where
    by : (o : Option ℕ) → number_of ts (get_or ts i []) ≡ o → number_of ts (get_or ts i []) ≡ Some i
    by None e = absurd (absent ts i e h)
    by (Some n) e = e ∙ ap Some (d.one_number n i (number_is_there ts (get_or ts i []) n e) h (number_has_text ts (get_or ts i []) n e))
