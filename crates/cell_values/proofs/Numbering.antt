-- What interning a text does to the numbers of all texts.
use Rattle.std.proofs.Common.{map, not, nat_lt, position, ◌≡◌, ℕ, ◌+◌, ◌<◌, ◌≤◌, Bool, true, false, cond, ◌⊎◌, inl, inr, List, [], ◌∷◌, ◌++◌, length, get_or, refl, ap, sym, ◌∙◌, arith, Option, Some, None}
use Rattle.std.proofs.lemmas.List.{get_or_append_left, get_or_push, length_push, length-map}
use Rattle.std.proofs.lemmas.List.Quantifiers.{position-Some}
use Rattle.std.proofs.lemmas.Iterator.Adapters.{position_from-zero}
use Rattle.std.proofs.lemmas.Slice.Eq.{bytes_eq-Decides}
use Rattle.std.proofs.lemmas.Bool.{true≢false, ltb-false, cond-true, cond-false, false_from_ne_true, cases_lt}
use Rattle.std.proofs.lemmas.List.Sums.{fails_before_first}
use Rattle.std.specs.List.{position_from, position_or_len, prefix_len}
use Rattle.std.specs.Str.{bytes_eq}
use Rattle.std.proofs.Common.{Global, String, string_bytes}
use Rattle.std.proofs.lemmas.Map.Text.{btree_map_updates_text}
use Rattle.std.specs.BTreeMap.{BTreeMap, get_by_text, Updates}
use Rattle.std.specs.String.{string_cmp}
use Rattle.cell_values.specs.Texts.{Texts}
use Rattle.cell_values.specs.Interned.{number_of, AreDistinct}

-- `number_of` by recursion
number_from : Texts → List ℕ → ℕ → Option ℕ
number_from ts text i = position_from (bytes_eq text) i ts

number_of_is : (ts : Texts) (text : List ℕ) → number_of ts text ≡ position_from (bytes_eq text) 0 ts
unfolding number_of
number_of_is ts text = position_from-zero (bytes_eq text) ts

pub none_distinct : AreDistinct []
none_distinct = record { one_number = λ i j h k e. absurd (omega arith) }

pub none_numbered : (text : List ℕ) → number_of [] text ≡ None
none_numbered text = number_of_is [] text

same_bytes : (xs ys : List ℕ) → bytes_eq xs ys ≡ true → xs ≡ ys
same_bytes xs ys h = (bytes_eq-Decides xs ys).0 h

bytes_same : (xs : List ℕ) → bytes_eq xs xs ≡ true
bytes_same xs = (bytes_eq-Decides xs xs).1 refl

found : (ts : Texts) (text : List ℕ) (n : ℕ) → number_of ts text ≡ Some n → (n < length ts) × (get_or ts n [] ≡ text)
unfolding number_of
found ts text n h =
    let p = position-Some (bytes_eq text) ts n [] h in
    (p.0, sym (same_bytes text (get_or ts n []) p.1))

pub number_is_there : (ts : Texts) (text : List ℕ) (n : ℕ) → number_of ts text ≡ Some n → n < length ts
number_is_there ts text n h = (found ts text n h).0

pub number_has_text : (ts : Texts) (text : List ℕ) (n : ℕ) → number_of ts text ≡ Some n → get_or ts n [] ≡ text
number_has_text ts text n h = (found ts text n h).1

past_end : (b : Bool) (n : ℕ) → cond b (Some n) None ≡ None → b ≡ false
past_end true n h = cc
past_end false n h = refl

-- a text with no number is none of the texts
absent : (ts : Texts) (text : List ℕ) (k : ℕ) → number_of ts text ≡ None → k < length ts → get_or ts k [] ≡ text → ⊥
unfolding number_of
absent ts text k h l e =
    let first : ℕ = position_or_len (bytes_eq text) ts in
    let past : length ts ≤ first = ltb-false first (length ts) (past_end _ first h) in
    let fails = fails_before_first (bytes_eq text) ts k [] (omega arith) in
    true≢false (sym (bytes_same text) ∙ ap (bytes_eq text) (sym e) ∙ fails)

stays : (b : Bool) (i n : ℕ) (r s : Option ℕ) → (r ≡ Some n → s ≡ Some n) → cond b (Some i) r ≡ Some n → cond b (Some i) s ≡ Some n
stays true i n r s f h = h
stays false i n r s f h = f h

goes_on : (b : Bool) (i : ℕ) (r s v : Option ℕ) → (r ≡ None → s ≡ v) → cond b (Some i) r ≡ None → cond b (Some i) s ≡ v
goes_on true i r s v f h = cc
goes_on false i r s v f h = f h

push_stays : (p : List ℕ → Bool) (ts : Texts) (y : List ℕ) (i n : ℕ) → position_from p i ts ≡ Some n → position_from p i (ts ++ y ∷ []) ≡ Some n
push_stays p [] y i n h = cc
push_stays p (t ∷ ts) y i n h = stays (p t) i n _ _ (push_stays p ts y (i + 1) n) h

push_goes_on : (p : List ℕ → Bool) (ts : Texts) (y : List ℕ) (i : ℕ) → position_from p i ts ≡ None → position_from p i (ts ++ y ∷ []) ≡ cond (p y) (Some (i + length ts)) None
push_goes_on p [] y i h = ap (λ n. cond (p y) (Some n) None) (omega arith)
push_goes_on p (t ∷ ts) y i h = goes_on (p t) i _ _ _ (λ e. push_goes_on p ts y (i + 1) e ∙ ap (λ n. cond (p y) (Some n) None) (omega arith)) h

-- the numbers of all texts after a new one got the next number
number_pushed : (ts : Texts) (text : List ℕ) → number_of ts text ≡ None → (q : List ℕ) → (b : Bool) → bytes_eq text q ≡ b → (r : Option ℕ) → number_of ts q ≡ r → number_of (ts ++ text ∷ []) q ≡ cond b (Some (length ts)) r
number_pushed ts text new q true e r h =
    let same = same_bytes text q e in
    let none : number_of ts q ≡ None = ap (number_of ts) (sym same) ∙ new in
    number_of_is (ts ++ text ∷ []) q ∙ push_goes_on (bytes_eq q) ts text 0 (sym (number_of_is ts q) ∙ none)
    ∙ cond-true (bytes_eq q text) _ _ (ap (bytes_eq q) same ∙ bytes_same q) ∙ ap Some (omega arith)
number_pushed ts text new q false e (Some n) h = number_of_is (ts ++ text ∷ []) q ∙ push_stays (bytes_eq q) ts text 0 n (sym (number_of_is ts q) ∙ h)
number_pushed ts text new q false e None h =
    number_of_is (ts ++ text ∷ []) q ∙ push_goes_on (bytes_eq q) ts text 0 (sym (number_of_is ts q) ∙ h)
    ∙ cond-false (bytes_eq q text) _ _ (false_from_ne_true _ (λ t. true≢false (sym (bytes_same q) ∙ ap (λ xs. bytes_eq xs q) (same_bytes q text t) ∙ e)))

pub number_of_more : (ts : Texts) (text q : List ℕ) → number_of ts text ≡ None → number_of (ts ++ text ∷ []) q ≡ cond (bytes_eq text q) (Some (length ts)) (number_of ts q)
number_of_more ts text q new = number_pushed ts text new q (bytes_eq text q) refl (number_of ts q) refl

-- two places with one text, each among the old texts or behind them
one_place : (ts : Texts) (text : List ℕ) → AreDistinct ts → number_of ts text ≡ None → (i j : ℕ) → (i < length ts) ⊎ (length ts ≤ i) → (j < length ts) ⊎ (length ts ≤ j) → i ≤ length ts → j ≤ length ts → get_or (ts ++ text ∷ []) i [] ≡ get_or (ts ++ text ∷ []) j [] → i ≡ j
one_place ts text d new i j (inl a) (inl b) h k e = d.one_number i j a b (sym (get_or_append_left ts (text ∷ []) [] i a) ∙ e ∙ get_or_append_left ts (text ∷ []) [] j b)
one_place ts text d new i j (inl a) (inr b) h k e = absurd (absent ts text i new a (sym (get_or_append_left ts (text ∷ []) [] i a) ∙ e ∙ get_or_push ts text [] j (omega arith)))
one_place ts text d new i j (inr a) (inl b) h k e = absurd (absent ts text j new b (sym (get_or_append_left ts (text ∷ []) [] j b) ∙ sym e ∙ get_or_push ts text [] i (omega arith)))
one_place ts text d new i j (inr a) (inr b) h k e = omega arith

pub more_distinct : (ts : Texts) (text : List ℕ) → AreDistinct ts → number_of ts text ≡ None → AreDistinct (ts ++ text ∷ [])
more_distinct ts text d new = record {
  one_number = λ i j h k e. let more = length_push ts text in one_place ts text d new i j (cases_lt i (length ts)) (cases_lt j (length ts)) (omega arith) (omega arith) e;
}

-- a map that gives each text its number, with an entry for a new text
pub entry_added : (ts : Texts) (text : List ℕ) (m n : BTreeMap (String Global) ℕ) (key : String Global) (number : ℕ) → string_bytes key ≡ text → number ≡ length ts → number_of ts text ≡ None → ((q : List ℕ) → get_by_text m q ≡ number_of ts q) → Updates string_cmp m n key (Some number) → (q : List ℕ) → get_by_text n q ≡ number_of (ts ++ text ∷ []) q
entry_added ts text m n key number e l new numbered u q =
    btree_map_updates_text (string_bytes key) m n (Some number) u q
    ∙ ap (λ (bs : List ℕ). cond (bytes_eq bs q) (Some number) (get_by_text m q)) e
    ∙ ap (λ (k : ℕ). cond (bytes_eq text q) (Some k) (get_by_text m q)) l
    ∙ ap (λ (r : Option ℕ). cond (bytes_eq text q) (Some (length ts)) r) (numbered q)
    ∙ sym (number_of_more ts text q new)

passes_mapped : {X : Type 0} (p : List ℕ → Bool) (f : X → List ℕ) (xs : List X) → prefix_len p (map f xs) ≡ prefix_len (λ x. p (f x)) xs
passes_mapped p f [] = refl
passes_mapped p f (x ∷ xs) = ap (λ n. cond (p (f x)) (1 + n) 0) (passes_mapped p f xs)

-- the number of a text among texts that are read from a list
pub number_of_mapped : {X : Type 0} (f : X → List ℕ) (xs : List X) (text : List ℕ) → number_of (map f xs) text ≡ position (λ x. bytes_eq text (f x)) xs
unfolding number_of
number_of_mapped f xs text =
    ap (λ n. cond (nat_lt n (length (map f xs))) (Some n) None) (passes_mapped (λ t. not (bytes_eq text t)) f xs)
    ∙ ap (λ m. cond (nat_lt (position_or_len (λ x. bytes_eq text (f x)) xs) m) (Some (position_or_len (λ x. bytes_eq text (f x)) xs)) None) (length-map xs f)
