-- The rule holds of an opened round.
use Rattle.std.proofs.Common.{◌≡◌, ℕ, zero, suc, ◌+◌, ◌-◌, ◌*◌, ◌<◌, ◌≤◌, drop, List, [], ◌∷◌, ◌++◌, map, replicate, length, sym, refl, ap, ◌∙◌, subst, arith}
use Rattle.std.proofs.lemmas.Bool.Decides.{nat_tests}
use mathlib.Core.Option.{some-injective, some-ne-none}
use lib.ListN.{get_elem?, length-replicate, replicate-append-replicate}
use Rattle.atomic_table.specs.Table.{opening as opened}
use Rattle.cell_words.specs.declared.cell_word.CellWord.TheVariants.{Stale}
use Rattle.cell_words.specs.declared.TheConstants.{WORDS}
use Rattle.cell_values.specs.declared.TheConstants.{MAX_BOOK_CELLS}
use Rattle.cell_words.specs.Words.{word_of}
use Rattle.claim_core.specs.Words.{round_size}
use Rattle.claim_core.specs.declared.view.View.{View}
use Rattle.claim_core.specs.Rule.{total, Setup, is, below, is_done, names, claimer_is, publisher_is, or_none, Each, Spelt, WorkersBelow, Sound, HasTurn, Ruled}
use Rattle.claim_core.specs.Table.{Holds, opening, first_words, count_from}
use Rattle.claim_core.proofs.Totals.{each_one}

total_replicate : {A : Type 0} (f : A → ℕ) (n : ℕ) (x : A) → f x ≡ 0 → total f (replicate n x) ≡ 0
total_replicate f zero x e = refl
total_replicate f (suc n) x e = let h = total_replicate f n x e in omega arith

each_replicate : {A : Type 0} (P : A → Type 0) (n : ℕ) (x : A) → P x → Each (replicate n x) P
each_replicate P zero x p k y e = absurd (some-ne-none y (sym e))
each_replicate P (suc n) x p zero y e = subst P (some-injective x y e) p
each_replicate P (suc n) x p (suc k) y e = each_replicate P n x p k y e

map_replicate : (n : ℕ) → map word_of (replicate n Stale) ≡ replicate n 0
unfolding word_of
map_replicate zero = refl
map_replicate (suc n) = λ i. 0 ∷ map_replicate n i

none_or : {A : Type 0} (f : A → ℕ) (n i : ℕ) (x : A) → f x ≡ 0 → or_none f (get_elem? (replicate n x) i) ≡ 0
none_or f zero i x e = refl
none_or f (suc n) zero x e = e
none_or f (suc n) (suc i) x e = none_or f n i x e

length-count_from : (n a : ℕ) → length (count_from n a) ≡ n
length-count_from zero a = refl
length-count_from (suc n) a = ap suc (length-count_from n (a + 1))

below_one_more : (w a : ℕ) → below w (a + 1) ≡ below w a + is a w
below_one_more w a = grind (arith, nat_tests)

below_zero : (w : ℕ) → below w 0 ≡ 0
below_zero w = grind (arith, nat_tests)

counted_from : (w n a : ℕ) → total (λ x. is x w) (count_from n a) + below w a ≡ below w (a + n)
counted_from w zero a = let e : below w a ≡ below w (a + 0) = ap (below w) (let q : a ≡ a + 0 = omega arith in q) in omega arith
counted_from w (suc n) a = let h = counted_from w n (a + 1) in let b = below_one_more w a in let e : below w ((a + 1) + n) ≡ below w (a + suc n) = ap (below w) (let q : (a + 1) + n ≡ a + suc n = omega arith in q) in omega arith

pub opening_rule : (setup : Setup) → length setup.cells ≤ MAX_BOOK_CELLS → setup.workers ≤ 64 → Ruled setup (first_words setup) (opening setup ∷ [])
opening_rule setup small few =
    let m = length setup.cells in
    record {
      ruled_words = record {
        few_cells = small;
        few_workers = few;
        cells_sized = length-replicate m Stale;
        tags_sized = length-replicate (m + setup.workers) 0;
        values_sized = length-replicate ((m + setup.workers) * WORDS) 0;
        spelt = λ i c e. each_replicate (Spelt setup (first_words setup) i) m Stale tt i c e;
        workers_below = each_replicate (WorkersBelow setup.workers) m Stale tt;
      };
      counted = let a = total_replicate is_done m Stale refl in omega arith;
      placed = λ k. let a = total_replicate (names k) m Stale refl in let b = below_zero k in omega arith;
      written = each_one _ (opening setup) (λ n x e. absurd (some-ne-none x (sym e)));
      seen = each_one _ (opening setup) (λ n x e. absurd (some-ne-none x (sym e)));
      all_numbers = let a = length-count_from setup.workers 0 in omega arith;
      owned = λ w. let a = counted_from w setup.workers 0 in let b = below_zero w in let e : below w (0 + setup.workers) ≡ below w setup.workers = ap (below w) (let q : 0 + setup.workers ≡ setup.workers = omega arith in q) in omega arith;
      claimed = λ w i. sym (none_or (claimer_is w) m i Stale refl);
      published = λ w i. sym (none_or (publisher_is w) m i Stale refl);
      sound = each_one Sound (opening setup) record { few_held = omega arith; own_events = λ w i z. (refl, refl) };
      few_parts = omega arith;
      exact = each_one (λ (v : View). HasTurn v → v.words ≡ first_words setup) (opening setup) (λ t. refl);
    }

zeros : (m k j n : ℕ) → n ≡ 1 + (m + (k + j)) → replicate n 0 ≡ 0 ∷ (map word_of (replicate m Stale) ++ (replicate k 0 ++ replicate j 0))
zeros m k j n e = ap (λ j. replicate j 0) (let q : n ≡ suc (m + (k + j)) = omega arith in q) ∙ ap (λ xs. 0 ∷ xs) (sym (replicate-append-replicate m (k + j) 0) ∙ ap₂' (λ xs ys. xs ++ ys) (sym (map_replicate m)) (sym (replicate-append-replicate k j 0))) where
  ap₂' : (f : List ℕ → List ℕ → List ℕ) {a b : List ℕ} {x y : List ℕ} → a ≡ b → x ≡ y → f a x ≡ f b y
  ap₂' f p q i = f (p i) (q i)

pub opening_allowed : {S : Type 0} (setup : Setup) (ws : List ℕ) (n : ℕ) → length setup.cells ≤ MAX_BOOK_CELLS → setup.workers ≤ 64 → ws ≡ replicate n 0 → n ≡ round_size (length setup.cells) setup.workers
    → Holds setup (opened {S = S} ws [] (opening setup))
opening_allowed setup ws n small few zeroed size = record { read = first_words setup; laid = zeroed ∙ zeros (length setup.cells) (length setup.cells + setup.workers) ((length setup.cells + setup.workers) * WORDS) n size; ruled = opening_rule setup small few }

-- the numbers that are left after one more is given
pub numbers_left : (n w : ℕ) → w < n → drop 1 (count_from (n - w) w) ≡ count_from (n - (w + 1)) (w + 1)
numbers_left n w h = let e : n - w ≡ suc (n - (w + 1)) = omega arith in ap (λ k. drop 1 (count_from k w)) e

pub count_from-push : (n a : ℕ) → count_from n a ++ (a + n) ∷ [] ≡ count_from (n + 1) a
count_from-push zero a = ap (λ k. k ∷ []) (let e : a + 0 ≡ a = omega arith in e)
count_from-push (suc n) a = ap (λ xs. a ∷ xs) (ap (λ k. count_from n (a + 1) ++ k ∷ []) (let e : a + suc n ≡ (a + 1) + n = omega arith in e) ∙ count_from-push n (a + 1) ∙ ap (λ k. count_from k (a + 1)) (let e : n + 1 ≡ suc n = omega arith in e))
    ∙ ap (λ k. count_from k a) (let e : suc (suc n) ≡ suc n + 1 = omega arith in e)
