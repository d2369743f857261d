-- Pieces written one after the other.
use Rattle.std.proofs.Common.{◌≡◌, ℕ, zero, suc, ◌+◌, ◌<◌, ◌≤◌, List, [], ◌∷◌, ◌++◌, map, length, take, drop, get_or, arith, Option, Some, None, refl, sym, subst, ap, ◌∙◌}
use Rattle.std.specs.List.{concat}
use Rattle.std.proofs.lemmas.List.{append-nil, length-append, take_more, take-append-drop}
use Rattle.std.proofs.Math.Seq.{take-append-add, take-nil}
use Rattle.byte_streams.specs.Streams.{appended, AppendsPart}
use Rattle.cell_values.specs.Areas.{numbers_from}
use Rattle.cell_values.proofs.Walking.{length-numbers_from}
use Rattle.puncalc_program.specs.Writing.{Sunk, WritesAll, WritesPart}

pub append_assoc : {A : Type 0} (xs ys zs : List A) → (xs ++ ys) ++ zs ≡ xs ++ (ys ++ zs)
append_assoc [] ys zs = refl
append_assoc (x ∷ xs) ys zs = ap (λ r. x ∷ r) (append_assoc xs ys zs)

concat_append : (xs ys : List (List ℕ)) → concat (xs ++ ys) ≡ concat xs ++ concat ys
concat_append [] ys = refl
concat_append (x ∷ xs) ys = ap (λ r. x ++ r) (concat_append xs ys) ∙ sym (append_assoc x (concat xs) (concat ys))

appended_more : (before : Option (List ℕ)) (xs ys : List ℕ) → appended (appended before xs) ys ≡ appended before (xs ++ ys)
appended_more None xs ys = refl
appended_more (Some bs) xs ys = ap Some (append_assoc bs xs ys)

appended_none : (before : Option (List ℕ)) → appended before [] ≡ before
appended_none None = refl
appended_none (Some bs) = ap Some (append-nil bs)

-- nothing was written

pub none_written : (s : Sunk) → WritesAll [] s s
none_written s = record { written = sym (appended_none s.written); faults = refl; calls = omega arith }

pub no_part : (pieces : List (List ℕ)) (s : Sunk) → WritesPart pieces s s
no_part pieces s = record { count = 0; written = sym (appended_none s.written); calls = omega arith }

pub nothing_more : {A : Type 0} (xs : List A) → xs ++ [] ≡ xs
nothing_more xs = append-nil xs

-- one piece was written, or a part of it

pub one_written : (piece : List ℕ) (a b : Sunk) → b.written ≡ appended a.written piece → b.faults ≡ a.faults → b.calls ≤ a.calls + length piece → WritesAll (piece ∷ []) a b
one_written piece a b w f c = let same = append-nil piece in record {
  written = w ∙ ap (appended a.written) (sym same);
  faults = f;
  calls = (let l = ap length same in omega (arith, l, c));
}

pub one_part : (piece : List ℕ) (a b : Sunk) → AppendsPart piece a.written b.written → b.calls ≤ a.calls + length piece → WritesPart (piece ∷ []) a b
one_part piece a b (n, short, w) c = let same = append-nil piece in record {
  count = n;
  written = w ∙ ap (λ t. appended a.written (take n t)) (sym same);
  calls = (let l = ap length same in omega (arith, l, c));
}

-- one after the other

length_concat : (xs ys : List (List ℕ)) → length (concat (xs ++ ys)) ≡ length (concat xs) + length (concat ys)
length_concat xs ys = ap length (concat_append xs ys) ∙ length-append (concat xs) (concat ys)

pub then_all : (xs ys : List (List ℕ)) (a b c : Sunk) → WritesAll xs a b → WritesAll ys b c → WritesAll (xs ++ ys) a c
then_all xs ys a b c h k = record {
  written = k.written ∙ ap (λ o. appended o (concat ys)) h.written ∙ appended_more a.written (concat xs) (concat ys) ∙ ap (appended a.written) (sym (concat_append xs ys));
  faults = k.faults ∙ h.faults;
  calls = (let l = length_concat xs ys in let p = h.calls in let q = k.calls in omega (arith, l, p, q));
}

pub then_part : (xs ys : List (List ℕ)) (a b c : Sunk) → WritesAll xs a b → WritesPart ys b c → WritesPart (xs ++ ys) a c
then_part xs ys a b c h k = record {
  count = length (concat xs) + k.count;
  written =
      k.written ∙ ap (λ o. appended o (take k.count (concat ys))) h.written ∙ appended_more a.written (concat xs) (take k.count (concat ys))
      ∙ ap (appended a.written) (sym (take-append-add (concat xs) (concat ys) k.count) ∙ ap (take (length (concat xs) + k.count)) (sym (concat_append xs ys)));
  calls = (let l = length_concat xs ys in let p = h.calls in let q = k.calls in omega (arith, l, p, q));
}

-- a first part of a first part

front_taken : (n : ℕ) (xs ys : List ℕ) → (m : ℕ) × (take n xs ≡ take m (xs ++ ys))
front_taken n [] ys = (0, take-nil n)
front_taken zero (x ∷ xs) ys = (0, refl)
front_taken (suc n) (x ∷ xs) ys = let (m, e) = front_taken n xs ys in (suc m, ap (λ r. x ∷ r) e)

pub part_more : (xs ys : List (List ℕ)) (a b : Sunk) → WritesPart xs a b → WritesPart (xs ++ ys) a b
part_more xs ys a b h = let (m, e) = front_taken h.count (concat xs) (concat ys) in record {
  count = m;
  written = h.written ∙ ap (appended a.written) (e ∙ ap (take m) (sym (concat_append xs ys)));
  calls = (let l = length_concat xs ys in let p = h.calls in omega (arith, l, p));
}

pub all_part : (xs ys : List (List ℕ)) (a b : Sunk) → WritesAll xs a b → WritesPart (xs ++ ys) a b
all_part xs ys a b h = then_part xs ys a b b h (no_part ys b)

pub whole_part : (xs : List (List ℕ)) (a b : Sunk) → WritesAll xs a b → WritesPart xs a b
whole_part xs a b h = subst (λ ps. WritesPart ps a b) (append-nil xs) (all_part xs [] a b h)

-- a piece before others

pub first_part : (line bytes : List ℕ) (rows : List (List ℕ)) (a b : Sunk) → bytes ≡ line → WritesPart (bytes ∷ []) a b → WritesPart (line ∷ rows) a b
first_part line bytes rows a b e h = subst (λ p. WritesPart (p ∷ rows) a b) e (part_more (bytes ∷ []) rows a b h)

pub rest_part : (line bytes : List ℕ) (rows : List (List ℕ)) (a b c : Sunk) → bytes ≡ line → WritesAll (bytes ∷ []) a b → WritesPart rows b c → WritesPart (line ∷ rows) a c
rest_part line bytes rows a b c e h k = subst (λ p. WritesPart (p ∷ rows) a c) e (then_part (bytes ∷ []) rows a b c h k)

-- the pieces of a list's elements

map_append : {A B : Type 0} (f : A → B) (xs ys : List A) → map f (xs ++ ys) ≡ map f xs ++ map f ys
map_append f [] ys = refl
map_append f (x ∷ xs) ys = ap (λ r. f x ∷ r) (map_append f xs ys)

-- those of the first elements, and of one more
mapped_more : {A B : Type 0} (f : A → B) (xs : List A) (i : ℕ) (d : A) → i < length xs → map f (take (i + 1) xs) ≡ map f (take i xs) ++ f (get_or xs i d) ∷ []
mapped_more f xs i d h = ap (map f) (take_more xs i d h) ∙ map_append f (take i xs) (get_or xs i d ∷ [])

-- those of the first elements, and others
mapped_parts : {A B : Type 0} (f : A → B) (xs : List A) (i : ℕ) → map f (take i xs) ++ map f (drop i xs) ≡ map f xs
mapped_parts f xs i = sym (map_append f (take i xs) (drop i xs)) ∙ ap (map f) (take-append-drop i xs)

pub element_more : {A : Type 0} (f : A → List ℕ) (xs : List A) (i : ℕ) (d : A) (piece : List ℕ) (a b c : Sunk) → i < length xs → piece ≡ f (get_or xs i d) →
    WritesAll (map f (take i xs)) a b → WritesAll (piece ∷ []) b c → WritesAll (map f (take (i + 1) xs)) a c
element_more f xs i d piece a b c low e h k =
    subst (λ ps. WritesAll ps a c) (ap (λ p. map f (take i xs) ++ p ∷ []) e ∙ sym (mapped_more f xs i d low)) (then_all (map f (take i xs)) (piece ∷ []) a b c h k)

pub elements_part : {A : Type 0} (f : A → List ℕ) (xs : List A) (i : ℕ) (a b : Sunk) → WritesAll (map f (take i xs)) a b → WritesPart (map f xs) a b
elements_part f xs i a b h = subst (λ ps. WritesPart ps a b) (mapped_parts f xs i) (all_part (map f (take i xs)) (map f (drop i xs)) a b h)

pub element_part : {A : Type 0} (f : A → List ℕ) (xs : List A) (i : ℕ) (d : A) (piece : List ℕ) (a b c : Sunk) → i < length xs → piece ≡ f (get_or xs i d) →
    WritesAll (map f (take i xs)) a b → WritesPart (piece ∷ []) b c → WritesPart (map f xs) a c
element_part f xs i d piece a b c low e h k =
    subst (λ ps. WritesPart ps a c)
    (ap (λ p. (map f (take i xs) ++ p ∷ []) ++ map f (drop (i + 1) xs)) e ∙ ap (λ ps. ps ++ map f (drop (i + 1) xs)) (sym (mapped_more f xs i d low)) ∙ mapped_parts f xs (i + 1))
    (part_more (map f (take i xs) ++ piece ∷ []) (map f (drop (i + 1) xs)) a c (then_part (map f (take i xs)) (piece ∷ []) a b c h k))

pub elements_all : {A : Type 0} (f : A → List ℕ) (xs : List A) (i : ℕ) (a b : Sunk) → length xs ≤ i → WritesAll (map f (take i xs)) a b → WritesAll (map f xs) a b
elements_all f xs i a b h k = subst (λ ys. WritesAll (map f ys) a b) (take_whole xs i h) k
  where
    take_whole : {A : Type 0} (xs : List A) (i : ℕ) → length xs ≤ i → take i xs ≡ xs
    take_whole [] zero h = refl
    take_whole [] (suc i) h = refl
    take_whole (x ∷ xs) zero h = absurd (omega arith)
    take_whole (x ∷ xs) (suc i) h = ap (λ r. x ∷ r) (take_whole xs i (omega arith))

-- numbers in a row

pub number_at : (first n i : ℕ) → i < n → get_or (numbers_from first n) i 0 ≡ first + i
number_at first zero i h = absurd (omega arith)
number_at first (suc n) zero h = omega arith
number_at first (suc n) (suc i) h = number_at (suc first) n i (omega arith) ∙ omega arith

pub row_more : (f : ℕ → List ℕ) (n i : ℕ) (piece : List ℕ) (a b c : Sunk) → i < n → piece ≡ f (i + 1) →
    WritesAll (map f (take i (numbers_from 1 n))) a b → WritesAll (piece ∷ []) b c → WritesAll (map f (take (i + 1) (numbers_from 1 n))) a c
row_more f n i piece a b c low e h k =
    let l = length-numbers_from 1 n in
    let p : 1 + i ≡ i + 1 = omega arith in
    element_more f (numbers_from 1 n) i 0 piece a b c (omega arith) (e ∙ ap f (sym (number_at 1 n i low ∙ p))) h k

pub row_part : (f : ℕ → List ℕ) (n i : ℕ) (piece : List ℕ) (a b c : Sunk) → i < n → piece ≡ f (i + 1) →
    WritesAll (map f (take i (numbers_from 1 n))) a b → WritesPart (piece ∷ []) b c → WritesPart (map f (numbers_from 1 n)) a c
row_part f n i piece a b c low e h k =
    let l = length-numbers_from 1 n in
    let p : 1 + i ≡ i + 1 = omega arith in
    element_part f (numbers_from 1 n) i 0 piece a b c (omega arith) (e ∙ ap f (sym (number_at 1 n i low ∙ p))) h k

pub rows_all : (f : ℕ → List ℕ) (n i : ℕ) (a b : Sunk) → n ≤ i → WritesAll (map f (take i (numbers_from 1 n))) a b → WritesAll (map f (numbers_from 1 n)) a b
rows_all f n i a b h k = (let l = length-numbers_from 1 n in elements_all f (numbers_from 1 n) i a b (omega arith) k)

-- the texts of one cell more
pub texts_more : {A B : Type 0} (f : ℕ → B) (g : A → B) (xs : List A) (x : A) (n : ℕ) → map g xs ≡ map f (numbers_from 1 n) → g x ≡ f (n + 1) →
    map g (xs ++ x ∷ []) ≡ map f (numbers_from 1 (n + 1))
texts_more f g xs x n h e =
    let p : 1 + n ≡ n + 1 = omega arith in
    map_append g xs (x ∷ []) ∙ (λ i. h i ++ e i ∷ []) ∙ ap (λ m. map f (numbers_from 1 n) ++ f m ∷ []) (sym p)
    ∙ sym (map_append f (numbers_from 1 n) ((1 + n) ∷ [])) ∙ ap (map f) (sym (numbers_more 1 n))
  where
    numbers_more : (first n : ℕ) → numbers_from first (n + 1) ≡ numbers_from first n ++ (first + n) ∷ []
    numbers_more first zero = let e : first + 0 ≡ first = omega arith in ap (λ m. m ∷ []) (sym e)
    numbers_more first (suc n) =
        let e : suc n + 1 ≡ suc (n + 1) = omega arith in
        let p : suc first + n ≡ first + suc n = omega arith in
        ap (numbers_from first) e ∙ ap (λ r. first ∷ r) (numbers_more (suc first) n ∙ ap (λ m. numbers_from (suc first) n ++ m ∷ []) p)
