-- Texts that are interned keep their numbers.
use Rattle.std.proofs.Common.{◌≡◌, ℕ, zero, suc, ◌+◌, ◌<◌, Bool, true, false, cond, List, [], ◌∷◌, ◌++◌, length, drop, get_or, Option, Some, None, refl, sym, ap, subst, ◌∙◌, arith, flat_map}
use Rattle.std.specs.List.{AllByRecursion, position_from}
use Rattle.std.specs.Prelude.{IsSome}
use Rattle.std.specs.Str.{bytes_eq}
use Rattle.std.proofs.lemmas.Iterator.Adapters.{position_from-zero}
use Rattle.std.proofs.lemmas.List.{take-append-drop, take_at}
use Rattle.cell_values.specs.Interned.{AreDistinct, KeepsTexts, interned, number_of, with_number}
use Rattle.cell_values.specs.Texts.{Texts}
use Rattle.cell_values.proofs.Numbering.{more_distinct}
use Rattle.sheet_csv.proofs.SheetFacts.{kept_more, kept_none}
use Rattle.formula_tokens.specs.Lexemes.{Other, Placed, Quoted, lexemes}
use Rattle.formula_tokens.specs.Tokens.{HoldsLiteral, HoldsLiterals, literal_of, with_literals, with_texts}
use Rattle.formula_tokens.proofs.Reading.{interned_number}

-- the numbers of the first texts stay

stays : (b : Bool) (i n : ℕ) (r s : Option ℕ) → (r ≡ Some n → s ≡ Some n) → cond b (Some i) r ≡ Some n → cond b (Some i) s ≡ Some n
stays true i n r s f h = h
stays false i n r s f h = f h

found_first : (p : List ℕ → Bool) (ts others : Texts) (i n : ℕ) → position_from p i ts ≡ Some n → position_from p i (ts ++ others) ≡ Some n
found_first p [] others i n h = cc
found_first p (t ∷ ts) others i n h = stays (p t) i n (position_from p (i + 1) ts) (position_from p (i + 1) (ts ++ others)) (found_first p ts others (i + 1) n) h

number_is : (ts : Texts) (q : List ℕ) → number_of ts q ≡ position_from (bytes_eq q) 0 ts
unfolding number_of
number_is ts q = position_from-zero (bytes_eq q) ts

pub number_kept : (us more : Texts) (q : List ℕ) (n : ℕ) → KeepsTexts us more → number_of us q ≡ Some n → number_of more q ≡ Some n
number_kept us more q n k h =
    let whole : us ++ drop (length us) more ≡ more = ap (λ (first : Texts). first ++ drop (length us) more) (sym k) ∙ take-append-drop (length us) more in
    ap (λ (all : Texts). number_of all q) (sym whole) ∙ number_is (us ++ drop (length us) more) q ∙ found_first (bytes_eq q) us (drop (length us) more) 0 n (sym (number_is us q) ∙ h)

-- more texts, each once
pub record Grows (us more : Texts) : Type 0 where
  pub keeps : KeepsTexts us more
  pub distinct : AreDistinct us → AreDistinct more

pub grows_none : (us : Texts) → Grows us us
grows_none us = record { keeps = kept_none us; distinct = λ d. d }

pub grows_then : (us vs more : Texts) → Grows us vs → Grows vs more → Grows us more
grows_then us vs more g h = record { keeps = kept_more us vs more g.keeps h.keeps; distinct = λ d. h.distinct (g.distinct d) }

grows_by : (us : Texts) (q : List ℕ) (o : Option ℕ) → number_of us q ≡ o → Grows us (with_number us q o).0
grows_by us q (Some n) e = grows_none us
grows_by us q None e = record { keeps = take_at us (q ∷ []) (length us) refl; distinct = λ d. more_distinct us q d e }

pub grows_interned : (us : Texts) (q : List ℕ) → Grows us (interned us q).0
grows_interned us q = grows_by us q (number_of us q) refl

pub grows_texts : (us others : Texts) → Grows us (with_texts us others)
grows_texts us [] = grows_none us
grows_texts us (q ∷ others) = grows_then us (interned us q).0 (with_texts (interned us q).0 others) (grows_interned us q) (grows_texts (interned us q).0 others)

pub grows_literals : (names : List (List ℕ)) (us : Texts) (text : List ℕ) → Grows us (with_literals names us text)
unfolding with_literals
grows_literals names us text = grows_texts us (flat_map literal_of (lexemes names text))

-- what was interned is there

some_number : (o : Option ℕ) (n : ℕ) → o ≡ Some n → IsSome o
some_number o n e = subst IsSome (sym e) refl

held_one : (us more others : Texts) (q : List ℕ) → KeepsTexts (with_texts (interned us q).0 others) more → IsSome (number_of more q)
held_one us more others q k =
    let now = (interned us q).0 in
    let keeps = kept_more now (with_texts now others) more (grows_texts now others).keeps k in
    some_number (number_of more q) (interned us q).1.0 (number_kept now more q (interned us q).1.0 keeps (interned_number us q))

held_all : (us more : Texts) (ps : List Placed) → KeepsTexts (with_texts us (flat_map literal_of ps)) more → AllByRecursion (λ p. HoldsLiteral more p.1) ps
held_all us more [] k = tt
held_all us more ((place, Quoted q) ∷ ps) k = (held_one us more (flat_map literal_of ps) q k, held_all (interned us q).0 more ps k)
held_all us more ((place, Other t) ∷ ps) k = (tt, held_all us more ps k)

pub holds_literals : (names : List (List ℕ)) (us more : Texts) (text : List ℕ) → KeepsTexts (with_literals names us text) more → HoldsLiterals names more text
unfolding with_literals HoldsLiterals
holds_literals names us more text k = held_all us more (lexemes names text) k

-- each of the others is there
pub texts_there : (us others : Texts) (i : ℕ) → i < length others → (n : ℕ) × (number_of (with_texts us others) (get_or others i []) ≡ Some n)
texts_there us [] i h = absurd (omega (arith, h))
texts_there us (q ∷ others) zero h =
    ((interned us q).1.0, number_kept (interned us q).0 (with_texts (interned us q).0 others) q (interned us q).1.0 (grows_texts (interned us q).0 others).keeps (interned_number us q))
texts_there us (q ∷ others) (suc j) h = texts_there (interned us q).0 others j (omega (arith, h))
