-- A record is read as what it spells, and only as that.
use Rattle.std.proofs.Common.{◌≡◌, ◌↔◌, ℕ, zero, suc, ◌<◌, ◌≤◌, ◌+◌, ◌-◌, ◌*◌, ◌/◌, ◌%◌, ◌^◌, Bool, true, false, cond, eqb, ltb, ℤ, pos, negsuc, List, [], ◌∷◌, ◌++◌, length, take, drop, replicate, get_or, Option, Some, None, IsTrue, sym, refl, ap, ◌∙◌, subst, arith}
use Rattle.std.proofs.Math.Facts.{to_z-of_z}
use Rattle.std.proofs.lemmas.Bool.{eqb-true, ltb-true, ltb-false, lt-ltb}
use Rattle.std.proofs.lemmas.Bool.Decides.{nat_tests}
use Rattle.std.proofs.lemmas.Int.{of_z-to_z}
use Rattle.std.proofs.lemmas.List.{take-append-drop, length-take-le, length-drop}
use Rattle.std.specs.Option.{option_map}
use mir.Syntax.{w128}
use mir.Val.{SFits, to_z, of_z, sel}
use lib.Signed.{mag}
use Rattle.cell_values.specs.declared.values.Code.{Code}
use Rattle.cell_values.specs.declared.values.Value.{Value}
use Rattle.cell_values.specs.declared.values.Shown.{Shown}
use Rattle.cell_values.specs.Numbers.{fits}
use Rattle.cell_words.specs.declared.TheConstants.{WORDS}
use Rattle.cell_values.specs.declared.short.ShortText.{ShortText}
use Rattle.cell_words.specs.TextWords.{packed, text_read}
use Rattle.cell_words.specs.Records.{tag_of, stored_words, tag_words, low_word, high_word, number_of, code_number, filled, values_of, are_zero, read_one, read_by, shown_read, IsShown, Spells}
use Rattle.cell_words.proofs.Packing.{are_words, read_has_words, words_read_back}

fits_bits : (n : ℤ) → IsTrue (fits n) → SFits w128 n
fits_bits (pos n) h = record { sfits = grind (arith, nat_tests) }
fits_bits (negsuc n) h = record { sfits = grind (arith, nat_tests) }

number_back : (n : ℤ) → IsTrue (fits n) → number_of (low_word n) (high_word n) ≡ n
number_back n h =
    let same : high_word n * 2 ^ 64 + low_word n ≡ of_z w128 n = omega arith in
    ap (to_z w128) same ∙ to_z-of_z (fits_bits n h)

zeros_are : (n : ℕ) → are_zero (replicate n 0) ≡ true
zeros_are zero = refl
zeros_are (suc n) = zeros_are n

over_zeros : (n : ℕ) (o : Option Shown) → cond (are_zero (replicate n 0)) o None ≡ o
over_zeros n o = ap (λ b. cond b o None) (zeros_are n)

-- all value words are read back
pub read_back : (s : Shown) → IsShown s → shown_read (tag_of s) (values_of s) ≡ Some s
unfolding tag_of stored_words tag_words shown_read packed
read_back (Shown.Val (Value.Number z)) h = over_zeros 5 _ ∙ ap (λ z. Some (Shown.Val (Value.Number z))) (number_back z h)
read_back (Shown.Val (Value.Text t)) h = over_zeros 6 _
read_back (Shown.Val (Value.Short t)) h = ap (option_map (λ (u : ShortText). Shown.Val (Value.Short u))) (words_read_back t h)
read_back (Shown.Val (Value.Bool true)) h = over_zeros 6 _
read_back (Shown.Val (Value.Bool false)) h = over_zeros 6 _
read_back (Shown.Val Value.Blank) h = over_zeros 6 _
read_back (Shown.Val (Value.Error Code.Div)) h = over_zeros 6 _
read_back (Shown.Val (Value.Error Code.Value)) h = over_zeros 6 _
read_back (Shown.Val (Value.Error Code.Ref)) h = over_zeros 6 _
read_back (Shown.Val (Value.Error Code.Num)) h = over_zeros 6 _
read_back (Shown.Val (Value.Error Code.Na)) h = over_zeros 6 _
read_back (Shown.Cycle m) h = over_zeros 6 _ ∙ ap (λ b. option_map (λ (k : ℕ). Shown.Cycle k) (cond b (Some m) None)) (lt-ltb m (2 ^ 32) h)
read_back Shown.ToCycle h = over_zeros 6 _

pub spelt_reads : (tag : ℕ) (words : List ℕ) (s : Shown) → Spells tag words s → shown_read tag words ≡ Some s
spelt_reads tag words s h = (λ i. shown_read (h.tag_word i) (h.value_words i)) ∙ read_back s h.shown

zeros : (words : List ℕ) → are_zero words ≡ true → words ≡ replicate (length words) 0
zeros [] h = refl
zeros (word ∷ words) h = let a : eqb word 0 ≡ true = grind arith in let b : are_zero words ≡ true = grind arith in
    λ i. eqb-true word 0 a i ∷ zeros words b i

-- what the tag does not use is 0, so the words are those that it uses, filled up
refilled : (n : ℕ) (words : List ℕ) → length words ≡ WORDS → n ≤ WORDS → are_zero (drop n words) ≡ true → words ≡ filled (take n words)
refilled n words sized few h =
    let used : length (take n words) ≡ n = length-take-le n words (omega arith) in
    let rest : length (drop n words) ≡ WORDS - length (take n words) = length-drop n words ∙ omega arith in
    sym (take-append-drop n words) ∙ ap (λ z. take n words ++ z) (zeros (drop n words) h ∙ ap (λ m. replicate m 0) rest)

first_word : (words : List ℕ) → 0 < length words → take 1 words ≡ get_or words 0 0 ∷ []
first_word [] l = absurd (omega arith)
first_word (w ∷ words) l = refl

first_two : (words : List ℕ) → 1 < length words → take 2 words ≡ get_or words 0 0 ∷ get_or words 1 0 ∷ []
first_two [] l = absurd (omega arith)
first_two (w ∷ []) l = absurd (omega arith)
first_two (w ∷ x ∷ words) l = refl

bits_fit : (z : ℤ) → mag z < 2 ^ 127 → IsTrue (fits z)
bits_fit (pos n) h = grind (arith, nat_tests)
bits_fit (negsuc n) h = grind (arith, nat_tests)

word_fits : (n : ℕ) → n < 2 ^ 128 → IsTrue (fits (to_z w128 n))
word_fits n l = by_test (ltb n (2 ^ 127)) refl where
  by_test : (b : Bool) → ltb n (2 ^ 127) ≡ b → IsTrue (fits (sel b (pos n) (negsuc (2 ^ 128 - suc n))))
  by_test true e = let under = ltb-true n (2 ^ 127) e in bits_fit (pos n) (omega arith)
  by_test false e = let over = ltb-false n (2 ^ 127) e in bits_fit (negsuc (2 ^ 128 - suc n)) (omega arith)

-- all that is read is spelt
module _ (tag : ℕ) (words : List ℕ) where
  abbrev Reads : Option Shown → Type 0
  Reads o = (s : Shown) → o ≡ Some s → Spells tag words s

  one : (a : Shown) → Spells tag words a → Reads (Some a)
  one a h s e = let same : a ≡ s = cc in subst (Spells tag words) same h

  nothing : Reads None
  nothing s e = absurd (cc)

  on : (b : Bool) (x y : Option Shown) → (b ≡ true → Reads x) → (b ≡ false → Reads y) → Reads (cond b x y)
  on true x y h k = h refl
  on false x y h k = k refl

  module _ (sized : length words ≡ WORDS) (rest : are_zero (drop (tag_words tag) words) ≡ true) where
    abbrev word : ℕ
    word = get_or words 0 0

    abbrev next : ℕ
    next = get_or words 1 0

    -- one stored word
    spells_one : (n : ℕ) (s : Shown) → tag ≡ n → tag_words n ≡ 1 → tag_of s ≡ n → stored_words s ≡ word ∷ [] → IsShown s → Spells tag words s
    unfolding stored_words
    spells_one n s t u is v h =
        let used : tag_words tag ≡ 1 = ap tag_words t ∙ u in
        let all = refilled 1 words sized (omega arith) (ap (λ m. are_zero (drop m words)) (sym used) ∙ rest) in
        record { tag_word = t ∙ sym is; value_words = all ∙ ap filled (first_word words (omega arith) ∙ sym v); shown = h }

    spells_number : tag ≡ 1 → word < 2 ^ 64 → next < 2 ^ 64 → Spells tag words (Shown.Val (Value.Number (number_of word next)))
    unfolding tag_of stored_words tag_words
    spells_number t low high =
        let bits : ℕ = next * 2 ^ 64 + word in
        let small : bits < 2 ^ 128 = omega arith in
        let back : of_z w128 (to_z w128 bits) ≡ bits = of_z-to_z w128 bits small in
        let used : tag_words tag ≡ 2 = ap tag_words t in
        let all = refilled 2 words sized (omega arith) (ap (λ m. are_zero (drop m words)) (sym used) ∙ rest) in
        let a : bits % 2 ^ 64 ≡ word = omega arith in
        let b : bits / 2 ^ 64 ≡ next = omega arith in
        let same : word ∷ next ∷ [] ≡ stored_words (Shown.Val (Value.Number (to_z w128 bits))) =
        (λ i. sym (ap (λ n. n % 2 ^ 64) back ∙ a) i ∷ sym (ap (λ n. n / 2 ^ 64) back ∙ b) i ∷ []) in
        record { tag_word = t; value_words = all ∙ ap filled (first_two words (omega arith) ∙ same); shown = word_fits bits small }

    spells_bool : (b : Bool) → tag ≡ 3 → word ≡ cond b 1 0 → Spells tag words (Shown.Val (Value.Bool b))
    unfolding tag_of stored_words tag_words
    spells_bool b t e = spells_one 3 (Shown.Val (Value.Bool b)) t refl refl (ap (λ n. n ∷ []) (sym e)) tt

    spells_error : (e : Code) → tag ≡ 5 → word ≡ code_number e → Spells tag words (Shown.Val (Value.Error e))
    unfolding tag_of stored_words tag_words
    spells_error e t w = spells_one 5 (Shown.Val (Value.Error e)) t refl refl (ap (λ n. n ∷ []) (sym w)) tt

    spells_text : tag ≡ 2 → word < 2 ^ 64 → Spells tag words (Shown.Val (Value.Text (record { 0 = word })))
    unfolding tag_of stored_words tag_words
    spells_text t low = spells_one 2 (Shown.Val (Value.Text (record { 0 = word }))) t refl refl refl low

    spells_blank : tag ≡ 4 → word ≡ 0 → Spells tag words (Shown.Val Value.Blank)
    unfolding tag_of stored_words tag_words
    spells_blank t w = spells_one 4 (Shown.Val Value.Blank) t refl refl (ap (λ n. n ∷ []) (sym w)) tt

    spells_cycle : tag ≡ 6 → word < 2 ^ 32 → Spells tag words (Shown.Cycle word)
    unfolding tag_of stored_words tag_words
    spells_cycle t w = spells_one 6 (Shown.Cycle word) t refl refl refl w

    spells_to_cycle : tag ≡ 7 → word ≡ 0 → Spells tag words Shown.ToCycle
    unfolding tag_of stored_words tag_words
    spells_to_cycle t w = spells_one 7 Shown.ToCycle t refl refl (ap (λ n. n ∷ []) (sym w)) tt

    spells_short : ((i : ℕ) → get_or words i 0 < 2 ^ 64) → tag ≡ 8 → (t : ShortText) → text_read words ≡ Some t → Spells tag words (Shown.Val (Value.Short t))
    unfolding tag_of stored_words packed
    spells_short small e t r = let p = read_has_words words t sized (are_words words small) r in record { tag_word = e; value_words = p.same; shown = p.short }

    when_some : (o : Option ShortText) → ((t : ShortText) → o ≡ Some t → Spells tag words (Shown.Val (Value.Short t))) → Reads (option_map (λ (t : ShortText). Shown.Val (Value.Short t)) o)
    when_some None h = nothing
    when_some (Some t) h = one _ (h t refl)

    on_mapped : {A : Type 0} (f : A → Shown) (b : Bool) (x y : Option A) → (b ≡ true → Reads (option_map f x)) → (b ≡ false → Reads (option_map f y)) → Reads (option_map f (cond b x y))
    on_mapped f true x y h k = h refl
    on_mapped f false x y h k = k refl

    by_one : word < 2 ^ 64 → Reads (read_one tag word)
    by_one low =
        let show_bool = λ (b : Bool). Shown.Val (Value.Bool b) in
        let show_error = λ (e : Code). Shown.Val (Value.Error e) in
        let show_cycle = λ (n : ℕ). Shown.Cycle n in
        on (eqb tag 2) _ _ (λ t. one _ (spells_text (eqb-true tag 2 t) low)) λ _.
        on (eqb tag 3) _ _ (λ t.
        on_mapped show_bool (eqb word 0) _ _ (λ e. one _ (spells_bool false (eqb-true tag 3 t) (eqb-true word 0 e))) λ _.
        on_mapped show_bool (eqb word 1) _ _ (λ e. one _ (spells_bool true (eqb-true tag 3 t) (eqb-true word 1 e))) (λ _. nothing)) λ _.
        on (eqb tag 4) _ _ (λ t. on (eqb word 0) _ _ (λ e. one _ (spells_blank (eqb-true tag 4 t) (eqb-true word 0 e))) (λ _. nothing)) λ _.
        on (eqb tag 5) _ _ (λ t.
        let code = λ (c : Code) (e : word ≡ code_number c). one _ (spells_error c (eqb-true tag 5 t) e) in
        on_mapped show_error (eqb word 1) _ _ (λ e. code Code.Div (eqb-true word 1 e)) λ _.
        on_mapped show_error (eqb word 2) _ _ (λ e. code Code.Value (eqb-true word 2 e)) λ _.
        on_mapped show_error (eqb word 3) _ _ (λ e. code Code.Ref (eqb-true word 3 e)) λ _.
        on_mapped show_error (eqb word 4) _ _ (λ e. code Code.Num (eqb-true word 4 e)) λ _.
        on_mapped show_error (eqb word 5) _ _ (λ e. code Code.Na (eqb-true word 5 e)) (λ _. nothing)) λ _.
        on (eqb tag 6) _ _ (λ t. on_mapped show_cycle (ltb word (2 ^ 32)) _ _ (λ l. one _ (spells_cycle (eqb-true tag 6 t) (ltb-true word (2 ^ 32) l))) (λ _. nothing)) λ _.
        on (eqb tag 7) _ _ (λ t. on (eqb word 0) _ _ (λ e. one _ (spells_to_cycle (eqb-true tag 7 t) (eqb-true word 0 e))) (λ _. nothing)) (λ _. nothing)

    by_read : ((i : ℕ) → get_or words i 0 < 2 ^ 64) → Reads (read_by tag words)
    by_read small =
        on (eqb tag 1) _ _ (λ t. one _ (spells_number (eqb-true tag 1 t) (small 0) (small 1))) λ _.
        on (eqb tag 8) _ _ (λ t. when_some (text_read words) (spells_short small (eqb-true tag 8 t))) λ _.
        by_one (small 0)

  reads_spelt : length words ≡ WORDS → ((i : ℕ) → get_or words i 0 < 2 ^ 64) → Reads (shown_read tag words)
  unfolding shown_read
  reads_spelt sized small = on (are_zero (drop (tag_words tag) words)) _ _ (λ rest. by_read sized rest small) (λ _. nothing)

  -- a reading is exact
  pub exact : (o : Option Shown) → o ≡ shown_read tag words → length words ≡ WORDS → ((i : ℕ) → get_or words i 0 < 2 ^ 64) → (s : Shown) → (o ≡ Some s) ↔ Spells tag words s
  exact o is sized small s = ((λ e. reads_spelt sized small s (sym is ∙ e)), (λ h. is ∙ spelt_reads tag words s h))
