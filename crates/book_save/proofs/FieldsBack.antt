-- What is saved in a field is read back from it.
use Rattle.std.proofs.Common.{◌≡◌, ◌≢◌, ℕ, suc, ◌<◌, ◌≤◌, ◌^◌, ℤ, pos, negsuc, neg_ℤ, Bool, true, false, cond, eqb, not, ◌&&◌, List, [], ◌∷◌, length, get_or, codes, Option, Some, None, refl, ap, sym, ◌∙◌, subst, arith}
use Rattle.std.specs.List.{position_or_len}
use Rattle.std.specs.Fmt.{decimal}
use Rattle.std.specs.Char.{is_ascii_digit}
use Rattle.std.specs.Str.{all_ascii_digits, bytes_eq}
use Rattle.std.specs.Str.Parse.{digits_value, starts_with_minus}
use Rattle.std.proofs.lemmas.Bool.{and_from, and_parts, cond-false, cond-true, lt-ltb, ltb-false, true≢false}
use Rattle.std.proofs.lemmas.Bool.Decides.{nat_tests}
use Rattle.std.proofs.lemmas.Fmt.{decimal_is_IsNumeral_wide}
use Rattle.std.proofs.lemmas.Int.{ints}
use Rattle.std.proofs.lemmas.List.Sums.{fails_before_first}
use Rattle.std.proofs.lemmas.Slice.Eq.{bytes_eq-Decides}
use Rattle.std.proofs.lemmas.Str.Parse.{IsNumeralModel, numerals_by_value, tells_all_ascii_digits}
use Rattle.cell_values.specs.declared.fields.Raw.{Raw}
use Rattle.cell_values.specs.declared.interned.TextId.{TextId}
use Rattle.cell_values.specs.Fields.{number_of_field, plain_raw, raw_of, signed_number, text_raw}
use Rattle.cell_values.specs.Interned.{AreDistinct, number_of, with_number}
use Rattle.cell_values.specs.Numbers.{fits}
use Rattle.cell_values.specs.ShownText.{bool_text, int_text}
use Rattle.cell_values.specs.Texts.{IsTextOf, Texts, text_at}
use Rattle.cell_values.proofs.Numbering.{none_numbered, number_has_text, number_is_there}
use Rattle.book_save.specs.Fields.{begins_with_mark, is_text, reads_as_text, saved_text}
use Rattle.book_save.specs.Laws.{TextReadsBack}

-- the field that is read as this
abbrev pub raw_field : Texts → Raw → List ℕ
raw_field ts Raw.Nothing = []
raw_field ts (Raw.Number n) = int_text n
raw_field ts (Raw.Text t) = saved_text (text_at ts t)
raw_field ts (Raw.Bool b) = bool_text b
raw_field ts (Raw.Formula text) = text

-- what a field can be read as, among these texts
abbrev pub IsSavable : Texts → Raw → Type 0
IsSavable ts Raw.Nothing = Unit {0}
IsSavable ts (Raw.Number n) = fits n ≡ true
IsSavable ts (Raw.Text t) = IsTextOf ts t
IsSavable ts (Raw.Bool b) = Unit {0}
IsSavable ts (Raw.Formula text) = get_or text 0 0 ≡ 61

-- Texts.

abbrev pub AsRead : Type 0
AsRead = Texts × Raw

longer : (c : ℕ) (rest : List ℕ) → bytes_eq rest (c ∷ rest) ≡ true → ⊥
longer c rest e = let same = (bytes_eq-Decides rest (c ∷ rest)).0 e in omega (arith, ap length same)

-- what stands behind a `'` is another text
not_behind : (c : ℕ) (rest : List ℕ) → is_text (c ∷ rest) (text_raw [] rest) ≡ true → ⊥
not_behind c rest e = longer c rest (rw (none_numbered rest) at e)

by_name : (t f : Bool) (ts : Texts) (text : List ℕ) → is_text text (cond {A = AsRead} t ([], Raw.Bool true) (cond f ([], Raw.Bool false) (text_raw [] text))) ≡ true → cond {A = AsRead} t (ts, Raw.Bool true) (cond f (ts, Raw.Bool false) (text_raw ts text)) ≡ text_raw ts text
by_name true f ts text e = cc
by_name false true ts text e = cc
by_name false false ts text e = refl

by_number : (o : Option ℤ) (ts : Texts) (text : List ℕ) → is_text text (plain_raw [] text o) ≡ true → plain_raw ts text o ≡ text_raw ts text
by_number (Some n) ts text e = cc
by_number None ts text e = by_name (bytes_eq text (codes "TRUE")) (bytes_eq text (codes "FALSE")) ts text e

by_sign : (formula quote : Bool) (ts : Texts) (c : ℕ) (rest : List ℕ) (o : Option ℤ) → is_text (c ∷ rest) (cond {A = AsRead} formula ([], Raw.Formula (c ∷ rest)) (cond quote (text_raw [] rest) (plain_raw [] (c ∷ rest) o))) ≡ true → cond {A = AsRead} formula (ts, Raw.Formula (c ∷ rest)) (cond quote (text_raw ts rest) (plain_raw ts (c ∷ rest) o)) ≡ text_raw ts (c ∷ rest)
by_sign true quote ts c rest o e = cc
by_sign false true ts c rest o e = absurd (not_behind c rest e)
by_sign false false ts c rest o e = by_number o ts (c ∷ rest) e

-- what is read as a text among no texts is read as it among any
read_as_text : (ts : Texts) (text : List ℕ) → reads_as_text text ≡ true → raw_of ts text ≡ text_raw ts text
read_as_text ts [] e = cc
read_as_text ts (c ∷ rest) e = by_sign (eqb c 61) (eqb c 39) ts c rest (number_of_field (c ∷ rest)) e

by_plain : (plain : Bool) (ts : Texts) (text : List ℕ) → (plain ≡ true → reads_as_text text ≡ true) → raw_of ts (cond plain text (39 ∷ text)) ≡ text_raw ts text
by_plain true ts text f = read_as_text ts text (f refl)
by_plain false ts text f = refl

pub text_reads_back : TextReadsBack
text_reads_back ts text = by_plain (reads_as_text text && not (begins_with_mark text)) ts text (λ e. (and_parts (reads_as_text text) (not (begins_with_mark text)) e).0)

past_end : (b : Bool) (n : ℕ) → cond b (Some n) None ≡ None → b ≡ false
past_end true n h = cc
past_end false n h = refl

-- a text with no number is none of the texts
absent : (ts : Texts) (text : List ℕ) (k : ℕ) → number_of ts text ≡ None → k < length ts → get_or ts k [] ≡ text → ⊥
unfolding number_of
absent ts text k h l e =
    let first : ℕ = position_or_len (bytes_eq text) ts in
    let past : length ts ≤ first = ltb-false first (length ts) (past_end _ first h) in
    let fails = fails_before_first (bytes_eq text) ts k [] (omega arith) in
    true≢false (sym ((bytes_eq-Decides text text).1 refl) ∙ ap (bytes_eq text) (sym e) ∙ fails)

by_place : (o : Option ℕ) (ts : Texts) (t : TextId) → number_of ts (text_at ts t) ≡ o → AreDistinct ts → IsTextOf ts t → with_number ts (text_at ts t) o ≡ (ts, t)
by_place (Some n) ts t e d h =
    let same = d.one_number n t.0 (number_is_there ts (text_at ts t) n e) h (number_has_text ts (text_at ts t) n e) in
    λ i. (ts, record { 0 = same i })
by_place None ts t e d h = absurd (absent ts (text_at ts t) t.0 e h refl)

-- a text that is there keeps its number
there_already : (ts : Texts) (t : TextId) → AreDistinct ts → IsTextOf ts t → text_raw ts (text_at ts t) ≡ (ts, Raw.Text t)
there_already ts t d h = ap (λ (p : Texts × TextId). (p.0, Raw.Text p.1)) (by_place (number_of ts (text_at ts t)) ts t refl d h)

-- Numbers.

own : IsNumeralModel (λ ds. all_ascii_digits ds ≡ true) (digits_value 10)
own = numerals_by_value _ tells_all_ascii_digits

small_plus : (n : ℕ) → fits (pos n) ≡ true → n < 10 ^ 64
small_plus n h = grind (arith, ints, nat_tests)

small_minus : (n : ℕ) → fits (negsuc n) ≡ true → suc n < 10 ^ 64
small_minus n h = grind (arith, ints, nat_tests)

signed_is : (sign : ℕ → ℤ) (digits : List ℕ) (n : ℕ) → 0 < length digits → all_ascii_digits digits ≡ true → digits_value 10 digits ≡ n → fits (sign n) ≡ true → signed_number sign digits ≡ Some (sign n)
signed_is sign digits n l d v f =
    cond-true _ _ None (and_from _ _ (and_from _ _ (lt-ltb 0 (length digits) l) d) (ap (λ k. fits (sign k)) v ∙ f))
    ∙ ap (λ k. Some (sign k)) v

-- the first of digits is a digit
record IsDigit (c : ℕ) : Type 0 where
  from : 48 ≤ c
  to : c ≤ 57

a_digit : (c : ℕ) → is_ascii_digit c ≡ true → IsDigit c
a_digit c h = record { from = grind (arith, nat_tests); to = grind (arith, nat_tests) }

first_digit : (digits : List ℕ) → 0 < length digits → all_ascii_digits digits ≡ true → IsDigit (get_or digits 0 0)
first_digit [] l d = absurd (omega arith)
first_digit (c ∷ rest) l d = a_digit c (and_parts (is_ascii_digit c) (all_ascii_digits rest) d).0

other_byte : (c d : ℕ) → c ≢ d → eqb c d ≡ false
other_byte c d h = grind (arith, nat_tests)

plus_field : (digits : List ℕ) (n : ℕ) → IsDigit (get_or digits 0 0) → signed_number pos digits ≡ Some (pos n) → number_of_field digits ≡ Some (pos n)
unfolding number_of_field
plus_field digits n first e = cond-false (starts_with_minus digits) _ _ (other_byte (get_or digits 0 0) 45 (λ same. absurd (omega (arith, first.from)))) ∙ e

minus_field : (digits : List ℕ) (n : ℕ) → signed_number (λ k. neg_ℤ (pos k)) digits ≡ Some (negsuc n) → number_of_field (45 ∷ digits) ≡ Some (negsuc n)
unfolding number_of_field
minus_field digits n e = e

number_read : (ts : Texts) (field : List ℕ) (z : ℤ) → get_or field 0 0 ≢ 61 → get_or field 0 0 ≢ 39 → 0 < length field → number_of_field field ≡ Some z → raw_of ts field ≡ (ts, Raw.Number z)
number_read ts [] z a b l e = absurd (omega arith)
number_read ts (c ∷ rest) z a b l e =
    cond-false (eqb c 61) _ _ (other_byte c 61 a) ∙ cond-false (eqb c 39) _ _ (other_byte c 39 b) ∙ ap (plain_raw ts (c ∷ rest)) e

-- the digits of a number below 10 ^ 64
record IsDecimal (n : ℕ) : Type 0 where
  some : 0 < length (decimal n)
  digits : all_ascii_digits (decimal n) ≡ true
  value : digits_value 10 (decimal n) ≡ n

decimal_is : (n : ℕ) → n < 10 ^ 64 → IsDecimal n
decimal_is n h = (let numeral = decimal_is_IsNumeral_wide n h in record { some = numeral.0.0; digits = own.from (decimal n) numeral.0.1; value = numeral.1 })

number_back : (ts : Texts) (z : ℤ) → fits z ≡ true → raw_of ts (int_text z) ≡ (ts, Raw.Number z)
number_back ts (pos n) f =
    let d = decimal_is n (small_plus n f) in
    let first = first_digit (decimal n) d.some d.digits in
    number_read ts (decimal n) (pos n) (λ e. absurd (omega (arith, first.to))) (λ e. absurd (omega (arith, first.from))) d.some
    (plus_field (decimal n) n first (signed_is pos (decimal n) n d.some d.digits d.value f))
number_back ts (negsuc n) f =
    let d = decimal_is (suc n) (small_minus n f) in
    number_read ts (45 ∷ decimal (suc n)) (negsuc n) (λ e. absurd (omega arith)) (λ e. absurd (omega arith)) (omega arith)
    (minus_field (decimal (suc n)) n (signed_is (λ k. neg_ℤ (pos k)) (decimal (suc n)) (suc n) d.some d.digits d.value f))

-- Truths and formulas.

bool_back : (ts : Texts) (b : Bool) → raw_of ts (bool_text b) ≡ (ts, Raw.Bool b)
unfolding number_of_field
bool_back ts true = refl
bool_back ts false = refl

formula_back : (ts : Texts) (text : List ℕ) → get_or text 0 0 ≡ 61 → raw_of ts text ≡ (ts, Raw.Formula text)
formula_back ts [] h = absurd (omega arith)
formula_back ts (c ∷ rest) h = subst (λ d. raw_of ts (d ∷ rest) ≡ (ts, Raw.Formula (d ∷ rest))) (sym h) refl

-- what a field is read as over any texts: its text is interned
abbrev pub read_over : Texts → Texts → Raw → AsRead
read_over ts us Raw.Nothing = (us, Raw.Nothing)
read_over ts us (Raw.Number n) = (us, Raw.Number n)
read_over ts us (Raw.Text t) = text_raw us (text_at ts t)
read_over ts us (Raw.Bool b) = (us, Raw.Bool b)
read_over ts us (Raw.Formula text) = (us, Raw.Formula text)

pub field_reads_over : (ts us : Texts) (raw : Raw) → IsSavable ts raw → raw_of us (raw_field ts raw) ≡ read_over ts us raw
field_reads_over ts us Raw.Nothing h = refl
field_reads_over ts us (Raw.Number z) h = number_back us z h
field_reads_over ts us (Raw.Text t) h = text_reads_back us (text_at ts t)
field_reads_over ts us (Raw.Bool b) h = bool_back us b
field_reads_over ts us (Raw.Formula text) h = formula_back us text h

-- over the same texts these stay as they are
pub read_again : (ts : Texts) (raw : Raw) → AreDistinct ts → IsSavable ts raw → read_over ts ts raw ≡ (ts, raw)
read_again ts Raw.Nothing d h = refl
read_again ts (Raw.Number z) d h = refl
read_again ts (Raw.Text t) d h = there_already ts t d h
read_again ts (Raw.Bool b) d h = refl
read_again ts (Raw.Formula text) d h = refl

-- The byte order mark.

low_mark : (c : ℕ) (rest : List ℕ) → c < 128 → begins_with_mark (c ∷ rest) ≡ false
low_mark c rest h = grind (arith, nat_tests)

low_start : (field : List ℕ) → get_or field 0 0 < 128 → begins_with_mark field ≡ false
low_start [] h = refl
low_start (c ∷ rest) h = low_mark c rest h

not_marked : (mark : Bool) → not mark ≡ true → mark ≡ false
not_marked true e = cc
not_marked false e = refl

record IsPlain (field : List ℕ) : Type 0 where
  no_mark : begins_with_mark field ≡ false
  some : 0 < length field

text_some : (text : List ℕ) → reads_as_text text ≡ true → 0 < length text
text_some [] e = cc
text_some (c ∷ rest) e = omega arith

text_plain : (plain : Bool) (text : List ℕ) → (plain ≡ true → reads_as_text text ≡ true) → (plain ≡ true → not (begins_with_mark text) ≡ true) → IsPlain (cond plain text (39 ∷ text))
text_plain true text f g = record { no_mark = not_marked (begins_with_mark text) (g refl); some = text_some text (f refl) }
text_plain false text f g = record { no_mark = low_mark 39 text (omega arith); some = omega arith }

number_plain : (z : ℤ) → fits z ≡ true → IsPlain (int_text z)
number_plain (pos n) f =
    let d = decimal_is n (small_plus n f) in
    let first = first_digit (decimal n) d.some d.digits in
    record { no_mark = low_start (decimal n) (omega (arith, first.to)); some = d.some }
number_plain (negsuc n) f = record { no_mark = low_mark 45 (decimal (suc n)) (omega arith); some = omega arith }

bool_plain : (b : Bool) → IsPlain (bool_text b)
bool_plain true = record { no_mark = refl; some = omega arith }
bool_plain false = record { no_mark = refl; some = omega arith }

formula_plain : (text : List ℕ) → get_or text 0 0 ≡ 61 → IsPlain text
formula_plain [] h = absurd (omega arith)
formula_plain (c ∷ rest) h = record { no_mark = low_mark c rest (omega arith); some = omega arith }

both : (field : List ℕ) (P : Type 0) → IsPlain field → (begins_with_mark field ≡ false) × (P → 0 < length field)
both field P h = (h.no_mark, λ p. h.some)

-- a saved field is not taken for the byte order mark, and is empty only where there is nothing
pub field_is_plain : (ts : Texts) (raw : Raw) → IsSavable ts raw → (begins_with_mark (raw_field ts raw) ≡ false) × (raw ≢ Raw.Nothing → 0 < length (raw_field ts raw))
field_is_plain ts Raw.Nothing h = (refl, λ n. absurd (n refl))
field_is_plain ts (Raw.Number z) h = both (int_text z) _ (number_plain z h)
field_is_plain ts (Raw.Text t) h =
    let text = text_at ts t in
    let parts = and_parts (reads_as_text text) (not (begins_with_mark text)) in
    both (saved_text text) _ (text_plain (reads_as_text text && not (begins_with_mark text)) text (λ e. (parts e).0) (λ e. (parts e).1))
field_is_plain ts (Raw.Bool b) h = both (bool_text b) _ (bool_plain b)
field_is_plain ts (Raw.Formula text) h = both text _ (formula_plain text h)
