-- Runs of bytes of a kind.
use Rattle.std.proofs.Common.{◌≡◌, ◌≢◌, ℕ, suc, zero, ◌<◌, ◌≤◌, Bool, true, false, cond, eqb, List, [], ◌∷◌, length, get_or, take, drop, refl, ap, sym, ◌∙◌, arith, add-one}
use Rattle.std.proofs.lemmas.List.Sums.{prefix_len-le-length, prefix_len_passes}
use Rattle.std.proofs.lemmas.Str.{IsCharBoundary-start, IsCharBoundary-after_ascii, IsUtf8-drop}
use Rattle.std.proofs.lemmas.Bool.{eqb-true, ne_eqb, cond-false, false_from_ne_true}
use Rattle.std.proofs.lemmas.Bool.Decides.{nat_tests}
use Rattle.std.specs.Str.{IsUtf8, IsCharBoundary}
use Rattle.std.specs.List.{prefix_len}
use Rattle.std.specs.Char.{is_ascii_digit, is_ascii_alphabetic}
use Rattle.formula_tokens.specs.Words.{begins_word, is_word_byte, leading, behind, begins_with, without_dollar, corner_from, corner_of}
use Rattle.formula_tokens.specs.Lexemes.{is_blank, sign_cut, first_lexeme}

-- a text may be cut behind a run of ASCII bytes
run_ends : (p : ℕ → Bool) → ((b : ℕ) → p b ≡ true → b < 128) → (bs : List ℕ) → IsUtf8 bs → (n : ℕ) → n ≡ prefix_len p bs → IsCharBoundary bs n
run_ends p ascii bs u zero e = IsCharBoundary-start bs u
run_ends p ascii bs u (suc m) e =
    let le = prefix_len-le-length p bs in
    let pass = ascii (get_or bs m 0) (prefix_len_passes p bs m 0 (omega arith)) in
    rw add-one at (IsCharBoundary-after_ascii bs m u (omega arith) pass)

digit_ascii : (b : ℕ) → is_ascii_digit b ≡ true → b < 128
digit_ascii b h = grind (arith, nat_tests)

letter_ascii : (b : ℕ) → is_ascii_alphabetic b ≡ true → b < 128
letter_ascii b h = grind (arith, nat_tests)

word_ascii : (b : ℕ) → is_word_byte b ≡ true → b < 128
word_ascii b h = grind (arith, nat_tests)

pub digits_end : (bs : List ℕ) → IsUtf8 bs → (n : ℕ) → n ≡ prefix_len is_ascii_digit bs → IsCharBoundary bs n
digits_end = run_ends is_ascii_digit digit_ascii

pub letters_end : (bs : List ℕ) → IsUtf8 bs → (n : ℕ) → n ≡ prefix_len is_ascii_alphabetic bs → IsCharBoundary bs n
letters_end = run_ends is_ascii_alphabetic letter_ascii

pub word_ends : (bs : List ℕ) → IsUtf8 bs → (n : ℕ) → n ≡ prefix_len is_word_byte bs → IsCharBoundary bs n
word_ends = run_ends is_word_byte word_ascii

pub blanks_within : (bs : List ℕ) → prefix_len is_blank bs ≤ length bs
blanks_within bs = prefix_len-le-length is_blank bs

-- the text behind a `$`
pub bare_utf8 : (bs : List ℕ) → IsUtf8 bs → IsUtf8 (without_dollar bs)
bare_utf8 [] u = u
bare_utf8 (b ∷ rest) u = cases (eqb b 36) refl
  where
    cases : (t : Bool) → eqb b 36 ≡ t → IsUtf8 (cond t rest (b ∷ rest))
    cases true e = let is = eqb-true b 36 e in IsUtf8-drop (b ∷ rest) 1 u (IsCharBoundary-after_ascii (b ∷ rest) 0 u (omega arith) (omega arith))
    cases false e = u

pub no_dollar : (bs : List ℕ) → ((rest : List ℕ) → bs ≢ 36 ∷ rest) → begins_with 36 bs ≡ false
no_dollar [] h = refl
no_dollar (b ∷ rest) h = false_from_ne_true (eqb b 36) (λ t. h rest (ap (λ c. c ∷ rest) (eqb-true b 36 t)))

pub stays_bare : (bs : List ℕ) → begins_with 36 bs ≡ false → without_dollar bs ≡ bs
stays_bare bs h = cond-false (begins_with 36 bs) _ bs h

-- the parts of a word make the cell that it names
pub corner_whole : (word bare letters row : List ℕ) (absolute : Bool) (n : ℕ) → absolute ≡ begins_with 36 word → bare ≡ without_dollar word → n ≡ prefix_len is_ascii_alphabetic bare → letters ≡ take n bare → row ≡ drop n bare → corner_from absolute letters row ≡ corner_of word
unfolding corner_of
corner_whole word bare letters row absolute n a b c d e =
    let front : letters ≡ leading is_ascii_alphabetic (without_dollar word) = d ∙ ap (λ k. take k bare) c ∙ ap (λ bs. leading is_ascii_alphabetic bs) b in
    let back : row ≡ behind is_ascii_alphabetic (without_dollar word) = e ∙ ap (λ k. drop k bare) c ∙ ap (λ bs. behind is_ascii_alphabetic bs) b in
    ap (λ x. corner_from x letters row) a ∙ ap (λ x. corner_from (begins_with 36 word) x row) front
    ∙ ap (λ x. corner_from (begins_with 36 word) (leading is_ascii_alphabetic (without_dollar word)) x) back

-- what begins with no digit, no word and no quote is a sign
pub sign_first : (names : List (List ℕ)) (prefixed : Bool) (text bytes : List ℕ) → bytes ≡ text → 0 < length text → is_ascii_digit (get_or bytes 0 0) ≡ false → begins_word (get_or bytes 0 0) ≡ false → get_or text 0 0 ≢ 34 → get_or bytes 0 0 ≢ 39 → first_lexeme names prefixed text ≡ sign_cut text
sign_first names prefixed [] bytes e h d w t q = absurd (omega arith)
sign_first names prefixed (b ∷ rest) bytes e h d w t q =
    let first : get_or bytes 0 0 ≡ b = ap (λ bs. get_or bs 0 0) e in
    cond-false (is_ascii_digit b) _ _ (ap is_ascii_digit (sym first) ∙ d) ∙ cond-false (begins_word b) _ _ (ap begins_word (sym first) ∙ w)
    ∙ cond-false (eqb b 34) _ _ (ne_eqb b 34 t) ∙ cond-false (eqb b 39) _ _ (ne_eqb b 39 (λ k. q (first ∙ k)))
