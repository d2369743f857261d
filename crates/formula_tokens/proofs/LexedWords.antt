-- How numbers and words are read as lexemes.
use Rattle.std.proofs.Common.{◌≡◌, ℕ, ◌+◌, ◌<◌, Bool, true, false, not, eqb, List, [], ◌∷◌, ◌++◌, length, drop, refl, ap, sym, ◌∙◌, arith, Some}
use Rattle.std.specs.Prelude.{◌&&◌, ◌||◌, ◌==◌, pos}
use Rattle.std.specs.List.{prefix_len, list_all}
use Rattle.std.specs.Char.{is_ascii_digit}
use Rattle.std.specs.Str.{all_ascii_digits}
use Rattle.std.specs.Str.Parse.{digits_value}
use Rattle.std.proofs.lemmas.Bool.{cond-true, cond-false, and_parts, and_from, ne_eqb}
use Rattle.std.proofs.lemmas.Bool.Decides.{nat_tests}
use Rattle.std.proofs.lemmas.List.{take_at, drop_at}
use Rattle.cell_values.specs.Numbers.{fits}
use Rattle.formula_trees.specs.declared.tree.Fun.{Fun}
use Rattle.formula_tokens.specs.declared.token.Literal.{Literal}
use Rattle.formula_tokens.specs.declared.token.Token.{Token}
use Rattle.formula_tokens.specs.Words.{begins_word, is_word_byte, leading, behind, begins_with, corner_of, function_name, function_named}
use Rattle.formula_tokens.specs.Lexemes.{Other, cut, is_blank, is_bad, is_prefix, number_token, apart, has_no_dollar, plain_word, word_cut, first_lexeme}
use Rattle.formula_tokens.specs.Spelling.{is_word}
use Rattle.formula_tokens.proofs.Lexed.{lexemes_in, one_lexeme}

-- a byte that may follow an operand: `)`, `,`, `:`, or one of an operator
abbrev pub is_closing : ℕ → Bool
is_closing b = b == 41 || b == 44 || b == 58 || b == 43 || b == 45 || b == 42 || b == 47 || b == 38 || b == 61 || b == 60 || b == 62

abbrev pub closes : List ℕ → Bool
closes [] = true
closes (b ∷ rest) = is_closing b

-- neither `=` nor `>`
abbrev pub opens : List ℕ → Bool
opens [] = false
opens (b ∷ rest) = not (b == 61) && not (b == 62)

-- runs of bytes of a kind
pub run_len : (p : ℕ → Bool) (xs rest : List ℕ) → list_all p xs ≡ true → prefix_len p rest ≡ 0 → prefix_len p (xs ++ rest) ≡ length xs
run_len p [] rest h e = e
run_len p (x ∷ xs) rest h e =
    let parts = and_parts (p x) (list_all p xs) h in
    cond-true (p x) (1 + prefix_len p (xs ++ rest)) 0 parts.0 ∙ ap (λ n. 1 + n) (run_len p xs rest parts.1 e) ∙ omega arith

pub run_leads : (p : ℕ → Bool) (xs rest : List ℕ) → list_all p xs ≡ true → prefix_len p rest ≡ 0 → leading p (xs ++ rest) ≡ xs
run_leads p xs rest h e = take_at xs rest (prefix_len p (xs ++ rest)) (sym (run_len p xs rest h e))

pub run_behind : (p : ℕ → Bool) (xs rest : List ℕ) → list_all p xs ≡ true → prefix_len p rest ≡ 0 → behind p (xs ++ rest) ≡ rest
run_behind p xs rest h e = drop_at xs rest (prefix_len p (xs ++ rest)) (sym (run_len p xs rest h e))

-- what closes is of no kind that goes on
closing_digit : (b : ℕ) → is_closing b ≡ true → is_ascii_digit b ≡ false
closing_digit b h = grind (arith, nat_tests)

closing_word : (b : ℕ) → is_closing b ≡ true → is_word_byte b ≡ false
closing_word b h = grind (arith, nat_tests)

closing_blank : (b : ℕ) → is_closing b ≡ true → is_blank b ≡ false
closing_blank b h = grind (arith, nat_tests)

closing_other : (b c : ℕ) → is_closing b ≡ true → is_closing c ≡ false → eqb b c ≡ false
closing_other b c h k = ne_eqb b c (λ e. differ (sym (ap is_closing e) ∙ h) k)
  where
    differ : is_closing c ≡ true → is_closing c ≡ false → ⊥
    differ x y = cc

no_run : (p : ℕ → Bool) → ((b : ℕ) → is_closing b ≡ true → p b ≡ false) → (rest : List ℕ) → closes rest ≡ true → prefix_len p rest ≡ 0
no_run p other [] h = refl
no_run p other (b ∷ rest) h = cond-false (p b) (1 + prefix_len p rest) 0 (other b h)

pub closes_digits : (rest : List ℕ) → closes rest ≡ true → prefix_len is_ascii_digit rest ≡ 0
closes_digits = no_run is_ascii_digit closing_digit

pub closes_words : (rest : List ℕ) → closes rest ≡ true → prefix_len is_word_byte rest ≡ 0
closes_words = no_run is_word_byte closing_word

pub closes_blanks : (rest : List ℕ) → closes rest ≡ true → prefix_len is_blank rest ≡ 0
closes_blanks = no_run is_blank closing_blank

pub begins_not : (c : ℕ) (rest : List ℕ) → closes rest ≡ true → is_closing c ≡ false → begins_with c rest ≡ false
begins_not c [] h k = refl
begins_not c (b ∷ rest) h k = closing_other b c h k

-- numbers
pub digit_solid : (b : ℕ) → is_ascii_digit b ≡ true → is_blank b ≡ false
digit_solid b h = grind (arith, nat_tests)

digits_list : (ds : List ℕ) → all_ascii_digits ds ≡ true → list_all is_ascii_digit ds ≡ true
digits_list [] h = refl
digits_list (d ∷ ds) h = let parts = and_parts (is_ascii_digit d) (all_ascii_digits ds) h in and_from _ _ parts.0 (digits_list ds parts.1)

pub fitting : (ds : List ℕ) → fits (pos (digits_value 10 ds)) ≡ true → number_token ds ≡ Token.Literal (Literal.Number (pos (digits_value 10 ds)))
fitting ds h = ap Token.Literal (cond-true (fits (pos (digits_value 10 ds))) (Literal.Number (pos (digits_value 10 ds))) Literal.HugeNumber h)

pub number_lexeme : (names : List (List ℕ)) (prefixed : Bool) (ds rest : List ℕ) → all_ascii_digits ds ≡ true → 0 < length ds → prefix_len is_ascii_digit rest ≡ 0
    → lexemes_in names 0 prefixed (ds ++ rest) ≡ Other (number_token ds) ∷ lexemes_in names 0 false rest
number_lexeme names prefixed [] rest h some none = absurd (omega arith)
number_lexeme names prefixed (d ∷ ds) rest h some none =
    let all = digits_list (d ∷ ds) h in
    let first = (and_parts (is_ascii_digit d) (all_ascii_digits ds) h).0 in
    one_lexeme names prefixed d ds rest (Other (number_token (d ∷ ds))) (digit_solid d first)
    (cond-true (is_ascii_digit d) _ _ first
    ∙ ap (λ n. cut n (Other (number_token (leading is_ascii_digit (d ∷ (ds ++ rest)))))) (run_len is_ascii_digit (d ∷ ds) rest all none)
    ∙ ap (λ bs. cut (length (d ∷ ds)) (Other (number_token bs))) (run_leads is_ascii_digit (d ∷ ds) rest all none))
    refl

-- words
word_no_digit : (b : ℕ) → begins_word b ≡ true → is_ascii_digit b ≡ false
word_no_digit b h = grind (arith, nat_tests)

pub word_solid : (b : ℕ) → begins_word b ≡ true → is_blank b ≡ false
word_solid b h = grind (arith, nat_tests)

pub word_first : (names : List (List ℕ)) (prefixed : Bool) (b : ℕ) (front rest : List ℕ) → begins_word b ≡ true → list_all is_word_byte (b ∷ front) ≡ true → prefix_len is_word_byte rest ≡ 0
    → first_lexeme names prefixed (b ∷ (front ++ rest)) ≡ word_cut names prefixed (b ∷ front) rest
word_first names prefixed b front rest begins all none =
    cond-false (is_ascii_digit b) _ _ (word_no_digit b begins) ∙ cond-true (begins_word b) _ _ begins
    ∙ ap (λ w. word_cut names prefixed w (behind is_word_byte (b ∷ (front ++ rest)))) (run_leads is_word_byte (b ∷ front) rest all none)
    ∙ ap (λ bs. word_cut names prefixed (b ∷ front) bs) (run_behind is_word_byte (b ∷ front) rest all none)

and_false : (a b : Bool) → b ≡ false → (a && b) ≡ false
and_false true b h = h
and_false false b h = refl

-- a word that is no function's name
pub plain_lexeme : (names : List (List ℕ)) (prefixed : Bool) (w rest : List ℕ) (t : Token) → is_word w ≡ true → prefix_len is_word_byte rest ≡ 0 → begins_with 33 rest ≡ false → begins_with 40 (behind is_blank rest) ≡ false → plain_word prefixed w (corner_of w) ≡ t → is_bad (Other t) ≡ false → is_prefix (Other t) ≡ false
    → lexemes_in names 0 prefixed (w ++ rest) ≡ Other t ∷ lexemes_in names 0 false rest
plain_lexeme names prefixed [] rest t h none bang call e good other = cc
plain_lexeme names prefixed (b ∷ front) rest t h none bang call e good other =
    let parts = and_parts (begins_word b) (list_all is_word_byte (b ∷ front)) h in
    let w : List ℕ = b ∷ front in
    let no_bang = and_false (has_no_dollar w) (begins_with 33 rest) bang in
    one_lexeme names prefixed b front rest (Other t) (word_solid b parts.0)
    (word_first names prefixed b front rest parts.0 parts.1 none
    ∙ cond-false (has_no_dollar w && begins_with 33 rest) _ _ no_bang
    ∙ ap (λ x. cut (length w) (Other x)) (cond-false (begins_with 40 (behind is_blank rest)) _ _ call ∙ e))
    good ∙ ap (λ p. Other t ∷ lexemes_in names 0 p rest) other

-- a word where the next token opens a parenthesis
pub call_lexeme : (names : List (List ℕ)) (prefixed : Bool) (w rest : List ℕ) (t : Token) → is_word w ≡ true → prefix_len is_word_byte rest ≡ 0 → begins_with 33 rest ≡ false → begins_with 40 (behind is_blank rest) ≡ true → apart prefixed (Token.Function (function_named w)) ≡ t → is_bad (Other t) ≡ false → is_prefix (Other t) ≡ false
    → lexemes_in names 0 prefixed (w ++ rest) ≡ Other t ∷ lexemes_in names 0 false rest
call_lexeme names prefixed [] rest t h none bang call e good other = cc
call_lexeme names prefixed (b ∷ front) rest t h none bang call e good other =
    let parts = and_parts (begins_word b) (list_all is_word_byte (b ∷ front)) h in
    let w : List ℕ = b ∷ front in
    let no_bang = and_false (has_no_dollar w) (begins_with 33 rest) bang in
    one_lexeme names prefixed b front rest (Other t) (word_solid b parts.0)
    (word_first names prefixed b front rest parts.0 parts.1 none
    ∙ cond-false (has_no_dollar w && begins_with 33 rest) _ _ no_bang
    ∙ ap (λ x. cut (length w) (Other x)) (cond-true (begins_with 40 (behind is_blank rest)) _ _ call ∙ e))
    good ∙ ap (λ p. Other t ∷ lexemes_in names 0 p rest) other

-- what closes an operand goes on with no word, and opens no call
pub closes_call : (rest : List ℕ) → closes rest ≡ true → begins_with 40 (behind is_blank rest) ≡ false
closes_call rest c = ap (λ n. begins_with 40 (drop n rest)) (closes_blanks rest c) ∙ begins_not 40 rest c refl

pub function_lexeme : (names : List (List ℕ)) (f : Fun) (rest : List ℕ) → lexemes_in names 0 false (function_name f ++ 40 ∷ rest) ≡ Other (Token.Function (Some f)) ∷ lexemes_in names 0 false (40 ∷ rest)
unfolding function_named
function_lexeme names Fun.If rest = call_lexeme names false (function_name Fun.If) (40 ∷ rest) (Token.Function (Some Fun.If)) refl refl refl refl refl refl refl
function_lexeme names Fun.And rest = call_lexeme names false (function_name Fun.And) (40 ∷ rest) (Token.Function (Some Fun.And)) refl refl refl refl refl refl refl
function_lexeme names Fun.Or rest = call_lexeme names false (function_name Fun.Or) (40 ∷ rest) (Token.Function (Some Fun.Or)) refl refl refl refl refl refl refl
function_lexeme names Fun.Not rest = call_lexeme names false (function_name Fun.Not) (40 ∷ rest) (Token.Function (Some Fun.Not)) refl refl refl refl refl refl refl
function_lexeme names Fun.Choose rest = call_lexeme names false (function_name Fun.Choose) (40 ∷ rest) (Token.Function (Some Fun.Choose)) refl refl refl refl refl refl refl
function_lexeme names Fun.IfError rest = call_lexeme names false (function_name Fun.IfError) (40 ∷ rest) (Token.Function (Some Fun.IfError)) refl refl refl refl refl refl refl
function_lexeme names Fun.IsError rest = call_lexeme names false (function_name Fun.IsError) (40 ∷ rest) (Token.Function (Some Fun.IsError)) refl refl refl refl refl refl refl
function_lexeme names Fun.Sum rest = call_lexeme names false (function_name Fun.Sum) (40 ∷ rest) (Token.Function (Some Fun.Sum)) refl refl refl refl refl refl refl
function_lexeme names Fun.Min rest = call_lexeme names false (function_name Fun.Min) (40 ∷ rest) (Token.Function (Some Fun.Min)) refl refl refl refl refl refl refl
function_lexeme names Fun.Max rest = call_lexeme names false (function_name Fun.Max) (40 ∷ rest) (Token.Function (Some Fun.Max)) refl refl refl refl refl refl refl
function_lexeme names Fun.Count rest = call_lexeme names false (function_name Fun.Count) (40 ∷ rest) (Token.Function (Some Fun.Count)) refl refl refl refl refl refl refl
function_lexeme names Fun.Abs rest = call_lexeme names false (function_name Fun.Abs) (40 ∷ rest) (Token.Function (Some Fun.Abs)) refl refl refl refl refl refl refl
function_lexeme names Fun.Mod rest = call_lexeme names false (function_name Fun.Mod) (40 ∷ rest) (Token.Function (Some Fun.Mod)) refl refl refl refl refl refl refl
function_lexeme names Fun.Quotient rest = call_lexeme names false (function_name Fun.Quotient) (40 ∷ rest) (Token.Function (Some Fun.Quotient)) refl refl refl refl refl refl refl
function_lexeme names Fun.Index rest = call_lexeme names false (function_name Fun.Index) (40 ∷ rest) (Token.Function (Some Fun.Index)) refl refl refl refl refl refl refl
function_lexeme names Fun.Match rest = call_lexeme names false (function_name Fun.Match) (40 ∷ rest) (Token.Function (Some Fun.Match)) refl refl refl refl refl refl refl
function_lexeme names Fun.VLookup rest = call_lexeme names false (function_name Fun.VLookup) (40 ∷ rest) (Token.Function (Some Fun.VLookup)) refl refl refl refl refl refl refl
function_lexeme names Fun.HLookup rest = call_lexeme names false (function_name Fun.HLookup) (40 ∷ rest) (Token.Function (Some Fun.HLookup)) refl refl refl refl refl refl refl
function_lexeme names Fun.Left rest = call_lexeme names false (function_name Fun.Left) (40 ∷ rest) (Token.Function (Some Fun.Left)) refl refl refl refl refl refl refl
function_lexeme names Fun.Right rest = call_lexeme names false (function_name Fun.Right) (40 ∷ rest) (Token.Function (Some Fun.Right)) refl refl refl refl refl refl refl
function_lexeme names Fun.Mid rest = call_lexeme names false (function_name Fun.Mid) (40 ∷ rest) (Token.Function (Some Fun.Mid)) refl refl refl refl refl refl refl
function_lexeme names Fun.Len rest = call_lexeme names false (function_name Fun.Len) (40 ∷ rest) (Token.Function (Some Fun.Len)) refl refl refl refl refl refl refl
