-- What a client's steps found, over plain views, and the book of its tests.
use Rattle.std.proofs.Common.{◌≡◌, ◌≢◌, ℕ, ◌+◌, ◌<◌, ◌≤◌, Bool, true, false, cond, eqb, ◌||◌, is_some, Option, Some, None, List, [], ◌∷◌, get_or, length, map, IsSome, pos, ⊎_elim, refl, sym, ap, ◌∙◌, subst, arith}
use Rattle.cell_values.specs.declared.address.Addr.{Addr}
use Rattle.cell_values.specs.declared.values.Shown.{Shown}
use Rattle.cell_values.specs.Addresses.{same_addr}
use Rattle.formula_trees.specs.Expr.{Expr, Number, Truth}
use Rattle.formula_trees.specs.Mentions.{mentions}
use Rattle.std.proofs.lemmas.Bool.{eqb-true, eqb-false, eq-eqb, ne_eqb}
use mathlib.Core.Logic.{inl, inr}
use Rattle.cell_values.specs.declared.values.Value.{Value}
use Rattle.demand_spec.specs.Book.{Content, Formula, formula_of, formula_at, shown, own, finished, formulas, ask_cell}
use Rattle.claim_core.specs.Pending.{IsPending}
use Rattle.demand_spec.specs.Laws.{In}
use Rattle.cell_words.specs.declared.cell_word.CellWord.{CellWord}
use Rattle.cell_words.specs.declared.cell_word.CellWord.TheVariants.{Stale, Claimed, Done}
use Rattle.cell_words.specs.Records.{tag_of, stored_words, record_words, value_of, values_of, IsShown, Spells}
use Rattle.cell_words.proofs.Counts.{values_sized}
use Rattle.claim_core.specs.declared.event.Event.TheVariants as ev
use Rattle.claim_core.specs.declared.event.Claim.TheVariants as claim
use Rattle.claim_core.specs.declared.event.Publish.{Publish}
use Rattle.claim_core.specs.declared.event.Publish.TheVariants as publish
use Rattle.claim_core.specs.declared.view.Held.{Held}
use Rattle.claim_core.specs.declared.view.View.{View}
use Rattle.claim_core.specs.HeldRecords.{stored_at, held_tag, held_value}
use Rattle.claim_core.specs.Rule.{Setup, address, shown_in, Seen, SeenDone, InRound, AnswerInRound}
use Rattle.claim_core.specs.Steps.{me, noted, changed, tagged, valued, HasSpelt}
use Rattle.claim_core.specs.TestClient.{IsClaimed, SawDone, first_cell, second_cell, two_cells}
use Rattle.claim_core.proofs.SeenEvents.{seen_by, seen_done_by}

module _ (i : ℕ) (v w : View) where
  pub won_by : (worker : ℕ) → v.numbers ≡ worker ∷ [] → w ≡ noted (ev.Claim i claim.Won) v → Seen w i (Claimed worker)
  won_by worker own is = seen_by (ev.Claim i claim.Won) v.held v w is i (Claimed worker) (refl, ap (λ (ws : List ℕ). Claimed (get_or ws 0 0)) own)

  pub found_by : (c : ℕ) → w ≡ noted (ev.Claim i (claim.Found (Claimed c))) v → Seen w i (Claimed c)
  found_by c is = seen_by (ev.Claim i (claim.Found (Claimed c))) v.held v w is i (Claimed c) (refl, refl)

  pub won : (me n : ℕ) → v.numbers ≡ me ∷ [] → me < n → w ≡ noted (ev.Claim i claim.Won) v → IsClaimed w i n me
  won me n own low is = (won_by me own is, low)

  pub looked : (c n : ℕ) → w ≡ noted (ev.Look i (Claimed c)) v → InRound v (Claimed c) → v.workers ≡ n → IsClaimed w i n c
  looked c n is low few = (seen_by (ev.Look i (Claimed c)) v.held v w is i (Claimed c) (refl, refl), subst (λ n. c < n) few low)

  pub found : (c n : ℕ) → w ≡ noted (ev.Claim i (claim.Found (Claimed c))) v → AnswerInRound v (claim.Found (Claimed c)) → v.workers ≡ n → IsClaimed w i n c
  found c n is low few = (found_by c is, subst (λ n. c < n) few low)

  pub done_by_look : (p c k : ℕ) → w ≡ noted (ev.Look i (Done p c k)) v → SeenDone w i k
  done_by_look p c k is = seen_done_by (ev.Look i (Done p c k)) v.held v w is i k (refl, refl)

  pub looked_done : (p c k : ℕ) → w ≡ noted (ev.Look i (Done p c k)) v → SawDone w i
  looked_done p c k is = (k, done_by_look p c k is)

  pub found_done : (d : CellWord) → w ≡ noted (ev.Claim i (claim.Found d)) v → AnswerInRound v (claim.Found d) → ((c : ℕ) → d ≡ Claimed c → ⊥) → SawDone w i
  found_done Stale is low n = absurd low
  found_done (Claimed c) is low n = absurd (n c refl)
  found_done (Done p c k) is low n = (k, seen_done_by (ev.Claim i (claim.Found (Done p c k))) v.held v w is i k (refl, refl))

  pub published : (a : Publish) (r : ℕ) (held : List Held) → w ≡ changed (ev.Publish i r a) held v → SawDone w i
  published publish.Won r held is = (r, seen_done_by (ev.Publish i r publish.Won) held v w is i r (refl, refl))
  published (publish.Lost p c k) r held is = (k, seen_done_by (ev.Publish i r (publish.Lost p c k)) held v w is i k (refl, refl))

tags_tagged : (x : ℕ) (hs : List Held) → map held_tag (map (tagged x) hs) ≡ map (λ _. Some x) (map (tagged x) hs)
tags_tagged x [] = refl
tags_tagged x (h ∷ hs) = λ i. Some x ∷ tags_tagged x hs i

-- the first n value words of what is held are those of this
abbrev pub StoresFirst : Shown → ℕ → View → Type 0
StoresFirst s n v = (j : ℕ) → j < n → map (held_value j) v.held ≡ map (λ _. Some (value_of s j)) v.held

pub stores_none : (s : Shown) (v : View) → StoresFirst s 0 v
stores_none s v j l = absurd (omega arith)

value_there : (k x : ℕ) (hs : List Held) → map (held_value k) (map (valued k x) hs) ≡ map (λ _. Some x) (map (valued k x) hs)
value_there k x [] = refl
value_there k x (h ∷ hs) = λ i. ap (λ b. cond b (Some x) (stored_at k h.values)) (eq-eqb k k refl) i ∷ value_there k x hs i

value_stays : (j k x y : ℕ) (hs : List Held) → k ≢ j → map (held_value j) hs ≡ map (λ _. Some y) hs → map (held_value j) (map (valued k x) hs) ≡ map (λ _. Some y) (map (valued k x) hs)
value_stays j k x y [] n e = refl
value_stays j k x y (h ∷ hs) n e =
    let first : held_value j h ≡ Some y = cc in
    let rest : map (held_value j) hs ≡ map (λ _. Some y) hs = cc in
    λ i. (ap (λ b. cond b (Some x) (stored_at j h.values)) (ne_eqb k j n) ∙ first) i ∷ value_stays j k x y hs n rest i

pub stores_more : (s : Shown) (k : ℕ) (v w : View) → w.held ≡ map (valued k (value_of s k)) v.held → StoresFirst s k v → StoresFirst s (k + 1) w
stores_more s k v w is h j l =
    subst (λ (hs : List Held). map (held_value j) hs ≡ map (λ _. Some (value_of s j)) hs) (sym is) (by_test (eqb k j) refl) where
      by_test : (b : Bool) → eqb k j ≡ b → map (held_value j) (map (valued k (value_of s k)) v.held) ≡ map (λ _. Some (value_of s j)) (map (valued k (value_of s k)) v.held)
      by_test true e = subst (λ j. map (held_value j) (map (valued k (value_of s k)) v.held) ≡ map (λ _. Some (value_of s j)) (map (valued k (value_of s k)) v.held)) (eqb-true k j e) (value_there k (value_of s k) v.held)
      by_test false e = let n = eqb-false k j e in value_stays j k (value_of s k) (value_of s j) v.held n (h j (omega arith))

value_tagged : (j x y : ℕ) (hs : List Held) → map (held_value j) hs ≡ map (λ _. Some y) hs → map (held_value j) (map (tagged x) hs) ≡ map (λ _. Some y) (map (tagged x) hs)
value_tagged j x y [] e = refl
value_tagged j x y (h ∷ hs) e =
    let first : held_value j h ≡ Some y = cc in
    let rest : map (held_value j) hs ≡ map (λ _. Some y) hs = cc in
    λ i. first i ∷ value_tagged j x y hs rest i

-- all value words, and then the tag
pub spelt_after : (s : Shown) (n : ℕ) (u w : View) → record_words s ≤ n → StoresFirst s n u → w.held ≡ map (tagged (tag_of s)) u.held → IsShown s → HasSpelt s w
spelt_after s n u w all first is fits = (
  fits,
  subst (λ (hs : List Held). map held_tag hs ≡ map (λ _. Some (tag_of s)) hs) (sym is) (tags_tagged (tag_of s) u.held),
  λ j l. subst (λ (hs : List Held). map (held_value j) hs ≡ map (λ _. Some (value_of s j)) hs) (sym is) (value_tagged j (tag_of s) (value_of s j) u.held (first j (omega arith))),
)

-- its value words, one by one
abbrev pub each_value : Shown → List ℕ
each_value s = value_of s 0 ∷ value_of s 1 ∷ value_of s 2 ∷ value_of s 3 ∷ value_of s 4 ∷ value_of s 5 ∷ value_of s 6 ∷ []

seven_long : (xs : List ℕ) → length xs ≡ 7 → get_or xs 0 0 ∷ get_or xs 1 0 ∷ get_or xs 2 0 ∷ get_or xs 3 0 ∷ get_or xs 4 0 ∷ get_or xs 5 0 ∷ get_or xs 6 0 ∷ [] ≡ xs
seven_long [] e = absurd (omega arith)
seven_long (a ∷ []) e = absurd (omega arith)
seven_long (a ∷ b ∷ []) e = absurd (omega arith)
seven_long (a ∷ b ∷ c ∷ []) e = absurd (omega arith)
seven_long (a ∷ b ∷ c ∷ d ∷ []) e = absurd (omega arith)
seven_long (a ∷ b ∷ c ∷ d ∷ f ∷ []) e = absurd (omega arith)
seven_long (a ∷ b ∷ c ∷ d ∷ f ∷ g ∷ []) e = absurd (omega arith)
seven_long (a ∷ b ∷ c ∷ d ∷ f ∷ g ∷ h ∷ []) e = refl
seven_long (a ∷ b ∷ c ∷ d ∷ f ∷ g ∷ h ∷ i ∷ xs) e = absurd (omega arith)

-- a tag and the value words that were loaded
pub loaded_spells : (s : Shown) (tag : ℕ) (words : List ℕ) → tag ≡ tag_of s → words ≡ each_value s → IsShown s → Spells tag words s
loaded_spells s tag words t w fits = record { tag_word = t; value_words = w ∙ seven_long (values_of s) (values_sized s); shown = fits }

-- what the book of the tests shows first has two value words
pub seven_few : record_words (Shown.Val (Value.Number (pos 7))) ≤ 2
unfolding stored_words
seven_few = omega arith

-- what the book of the tests holds, by whether an address is one of its two
abbrev one_of : Bool → Bool → Option Content
one_of x y = cond x (Some (Formula (Number (pos 7)))) (cond y (Some (Formula (Truth true))) None)

has_one : (x y : Bool) → (x || y) ≡ is_some (formula_of (one_of x y))
has_one true y = refl
has_one false true = refl
has_one false false = refl

pub two_there : (a : Addr) (x y : Bool) → x ≡ same_addr a first_cell → y ≡ same_addr a second_cell → (x || y) ≡ is_some (formula_at two_cells a)
unfolding formula_at
two_there a x y p q = has_one x y ∙ (λ i. is_some (formula_of (one_of (p i) (q i))))

names_nothing : (x y : Bool) (t : Expr) (c a : Addr) → formula_of (one_of x y) ≡ Some t → In a (mentions c t) → ⊥
names_nothing true y t c a e n = let same : t ≡ Number (pos 7) = cc in subst (λ t. In a (mentions c t)) same n
names_nothing false true t c a e n = let same : t ≡ Truth true = cc in subst (λ t. In a (mentions c t)) same n
names_nothing false false t c a e n = absurd (let z : ◌≡◌ {A = Option Expr} None (Some t) = e in cc)

seven_there : IsSome (formula_at two_cells first_cell)
unfolding formula_at
seven_there = refl

truth_there : IsSome (formula_at two_cells second_cell)
unfolding formula_at
truth_there = refl

pub two_pending : IsPending two_cells (first_cell ∷ second_cell ∷ [])
unfolding formula_at
two_pending = record {
  one_at_least = omega arith;
  not_too_many = omega arith;
  are_formulas = λ a h. ⊎_elim (λ (e : a ≡ first_cell). subst (λ a. IsSome (formula_at two_cells a)) (sym e) seven_there) (λ h. ⊎_elim (λ (e : a ≡ second_cell). subst (λ a. IsSome (formula_at two_cells a)) (sym e) truth_there) (λ z. absurd z) h) h;
  in_order = ((inr (refl, inl (omega arith)), tt), (tt, tt));
  closed = λ c a h m. absurd (names_nothing (same_addr c first_cell) (same_addr c second_cell) m.tree c a m.is_formula m.named);
}

pub shows_seven : shown two_cells first_cell ≡ Shown.Val (Value.Number (pos 7))
unfolding shown formula_at own finished formulas ask_cell
shows_seven = refl

pub shows_truth : shown two_cells second_cell ≡ Shown.Val (Value.Bool true)
unfolding shown formula_at own finished formulas ask_cell
shows_truth = refl

pub shows_both : (s : Setup) → s.book ≡ two_cells → s.cells ≡ first_cell ∷ second_cell ∷ [] → (Shown.Val (Value.Number (pos 7)) ≡ shown_in s 0) × (Shown.Val (Value.Bool true) ≡ shown_in s 1)
shows_both s b c = (
  sym shows_seven ∙ (λ i. shown (sym b i) (address (sym c i) 0)),
  sym shows_truth ∙ (λ i. shown (sym b i) (address (sym c i) 1)),
)
