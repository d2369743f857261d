-- Counting the words by worker.
use Rattle.std.proofs.Common.{◌≡◌, ℕ, zero, suc, ◌+◌, ◌<◌, ◌≤◌, ◌≢◌, cond, List, [], ◌∷◌, ◌++◌, map, replicate, length, get_or, set, take, sum, sym, refl, ap, ◌∙◌, subst, arith, eq-eqb, ne_eqb}
use Rattle.std.proofs.lemmas.Bool.Decides.{nat_tests}
use Rattle.std.proofs.lemmas.List.{take_more, take_all, length-take}
use Rattle.std.proofs.lemmas.List.Sums.{sum_by-set}
use Rattle.std.proofs.Common.{Some}
use Rattle.std.specs.List.{slice_get}
use mathlib.Core.Option.{some}
use lib.ListN.{get_elem?}
use Rattle.cell_words.specs.declared.cell_word.CellWord.{CellWord}
use Rattle.cell_words.specs.declared.cell_word.CellWord.TheVariants.{Stale, Claimed, Done}
use Rattle.claim_core.specs.Rule.{total, is, is_done, claimer_is, publisher_is, Each}
use Rattle.claim_core.specs.Table.{count_from}
use Rattle.claim_core.proofs.Totals.{total-append}
use Rattle.parallel_evaluation.specs.Summaries.{counts}

is_same : (a : ℕ) → is a a ≡ 1
is_same a = ap (λ b. cond b 1 0) (eq-eqb a a refl)

is_other : (a b : ℕ) → a ≢ b → is a b ≡ 0
is_other a b n = ap (λ b. cond b 1 0) (ne_eqb a b n)

is_small : (a b : ℕ) → is a b ≤ 1
is_small a b = grind (arith, nat_tests)

module _ (f : ℕ → CellWord → ℕ) where
  abbrev pub row : ℕ → ℕ → List CellWord → List ℕ
  row n a ws = map (λ w. total (f w) ws) (count_from n a)

  pub none_yet : (n a : ℕ) → row n a [] ≡ replicate n 0
  none_yet zero a = refl
  none_yet (suc n) a = ap (λ xs. 0 ∷ xs) (none_yet n (a + 1))

  pub row_sized : (n a : ℕ) (ws : List CellWord) → length (row n a ws) ≡ n
  row_sized zero a ws = refl
  row_sized (suc n) a ws = ap suc (row_sized n (a + 1) ws)

  -- a word that names none of these workers
  others_stay : (n a : ℕ) (ws : List CellWord) (x : CellWord) → ((w : ℕ) → a ≤ w → f w x ≡ 0) → row n a (ws ++ x ∷ []) ≡ row n a ws
  others_stay zero a ws x h = refl
  others_stay (suc n) a ws x h = λ i. (let e : total (f a) (ws ++ x ∷ []) ≡ total (f a) ws = (let t = total-append (f a) ws (x ∷ []) in let z = h a (omega arith) in omega arith) in e i) ∷ others_stay n (a + 1) ws x (λ w l. h w (omega arith)) i

  -- one word more, which names the worker a + k
  one_more : (n a k : ℕ) (ws : List CellWord) (x : CellWord) → k < n → ((w : ℕ) → f w x ≡ is (a + k) w) → row n a (ws ++ x ∷ []) ≡ set (row n a ws) k (get_or (row n a ws) k 0 + 1)
  one_more zero a k ws x low h = absurd (omega arith)
  one_more (suc n) a zero ws x low h =
      let e : total (f a) (ws ++ x ∷ []) ≡ total (f a) ws + 1 = (let t = total-append (f a) ws (x ∷ []) in let z = h a in let y : is (a + 0) a ≡ 1 = ap (λ b. is b a) (let q : a + 0 ≡ a = omega arith in q) ∙ is_same a in omega arith) in
      λ i. e i ∷ others_stay n (a + 1) ws x (λ w l. h w ∙ is_other (a + 0) w (λ q. omega arith)) i
  one_more (suc n) a (suc k) ws x low h =
      let e : total (f a) (ws ++ x ∷ []) ≡ total (f a) ws = (let t = total-append (f a) ws (x ∷ []) in let z = h a in let y = is_other (a + suc k) a (λ q. omega arith) in omega arith) in
      λ i. e i ∷ one_more n (a + 1) k ws x (omega arith) (λ w. h w ∙ ap (λ b. is b w) (let q : a + suc k ≡ (a + 1) + k = omega arith in q)) i

  few : ((w : ℕ) (x : CellWord) → f w x ≤ 1) → (ws : List CellWord) (w : ℕ) → total (f w) ws ≤ length ws
  few h [] w = omega arith
  few h (x ∷ xs) w = let a = h w x in let b = few h xs w in omega arith

  pub row_few : ((w : ℕ) (x : CellWord) → f w x ≤ 1) → (n a k : ℕ) (ws : List CellWord) → get_or (row n a ws) k 0 ≤ length ws
  row_few h zero a k ws = omega arith
  row_few h (suc n) a zero ws = few h ws a
  row_few h (suc n) a (suc k) ws = row_few h n (a + 1) k ws

  sum_set : (xs : List ℕ) (k : ℕ) → k < length xs → sum (set xs k (get_or xs k 0 + 1)) ≡ sum xs + 1
  sum_set xs k low = let h = sum_by-set (λ n. n) xs k (get_or xs k 0 + 1) 0 low in
      let y : ℕ = sum (set xs k (get_or xs k 0 + 1)) in let z : ℕ = sum xs in let g : ℕ = get_or xs k 0 in let h' : y + g ≡ z + (g + 1) = h in let e : y ≡ z + 1 = omega arith in e

  -- what is counted so far
  pub record Counted (n : ℕ) (words : List CellWord) (i : ℕ) (xs : List ℕ) : Type 0 where
    pub counted : xs ≡ counts f n (take i words)
    pub added : sum xs ≡ i

  pub start : (n : ℕ) (words : List CellWord) (xs : List ℕ) → xs ≡ replicate n 0 → Counted n words 0 xs
  start n words xs e = record { counted = e ∙ sym (none_yet n 0); added = ap sum e ∙ zeros n } where
    zeros : (n : ℕ) → sum (replicate n 0) ≡ 0
    zeros zero = refl
    zeros (suc n) = zeros n

  pub sized : (n i : ℕ) (words : List CellWord) (xs : List ℕ) → Counted n words i xs → length xs ≡ n
  sized n i words xs c = ap length c.counted ∙ row_sized n 0 (take i words)

  pub next : (n i : ℕ) (words : List CellWord) (xs : List ℕ) (d : CellWord) (k : ℕ) → Counted n words i xs → i < length words → k < n → ((w : ℕ) → f w (get_or words i d) ≡ is k w)
      → Counted n words (i + 1) (set xs k (get_or xs k 0 + 1))
  next n i words xs d k c low under h = record {
    counted = ap (λ xs. set xs k (get_or xs k 0 + 1)) c.counted ∙ (sym (one_more n 0 k (take i words) (get_or words i d) under (λ w. h w ∙ ap (λ b. is b w) (let q : k ≡ 0 + k = omega arith in q))) ∙ ap (row n 0) (sym (take_more words i d low)));
    added = sum_set xs k (let s = sized n i words xs c in omega arith) ∙ ap (λ m. m + 1) c.added;
  }

pub claimer_small : (w : ℕ) (x : CellWord) → claimer_is w x ≤ 1
claimer_small w Stale = omega arith
claimer_small w (Claimed c) = is_small c w
claimer_small w (Done p c r) = is_small c w

pub publisher_small : (w : ℕ) (x : CellWord) → publisher_is w x ≤ 1
publisher_small w Stale = omega arith
publisher_small w (Claimed c) = omega arith
publisher_small w (Done p c r) = is_small p w

pub done_word : (x : CellWord) → is_done x ≡ 1 → ((p c r : ℕ) → x ≡ Done p c r → ⊥) → ⊥
done_word Stale e n = absurd (omega arith)
done_word (Claimed c) e n = absurd (omega arith)
done_word (Done p c r) e n = n p c r refl

-- what stands at a place, as both words for it say
at_place : {A : Type 0} (xs : List A) (i : ℕ) (x : A) → slice_get xs i ≡ Some x → get_elem? xs i ≡ some x
at_place [] i x e = absurd (cc)
at_place (y ∷ ys) zero x e = ap some (let same : y ≡ x = cc in same)
at_place (y ∷ ys) (suc i) x e = at_place ys i x e

-- the word that is read
pub read_of : {A : Type 0} (P : A → Type 0) (xs : List A) (i : ℕ) (x : A) → slice_get xs i ≡ Some x → Each xs P → P x
read_of P xs i x e h = h i x (at_place xs i x e)

pub row_room : (f : ℕ → CellWord → ℕ) → ((w : ℕ) (x : CellWord) → f w x ≤ 1) → (n i k : ℕ) (words : List CellWord) (xs : List ℕ) → Counted f n words i xs → get_or xs k 0 ≤ i
row_room f small n i k words xs c = subst (λ (ys : List ℕ). get_or ys k 0 ≤ i) (sym c.counted) (let a = row_few f small n 0 k (take i words) in let b = length-take i words in omega arith)

pub whole : (f : ℕ → CellWord → ℕ) (n : ℕ) (words : List CellWord) (xs : List ℕ) → Counted f n words (length words) xs → xs ≡ counts f n words
whole f n words xs c = c.counted ∙ ap (counts f n) (take_all (length words) words (omega arith))
