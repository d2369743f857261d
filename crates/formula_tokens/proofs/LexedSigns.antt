-- How signs, texts, truth values and sheet prefixes are read as lexemes.
use Rattle.std.proofs.Common.{◌≡◌, ℕ, ◌+◌, Bool, true, false, cond, not, eqb, List, [], ◌∷◌, ◌++◌, length, refl, ap, sym, ◌∙◌, arith, Option, Some}
use Rattle.std.specs.Prelude.{◌&&◌, ◌||◌, ◌==◌, nat_eq, nat_lt, nat_le, option_map, codes}
use Rattle.std.specs.List.{list_all, starts_with}
use Rattle.std.specs.Char.{is_ascii_alphabetic, is_ascii_alphanumeric}
use Rattle.std.proofs.lemmas.Bool.{cond-true, cond-false, and_parts, and_from, eqb-true}
use Rattle.std.proofs.lemmas.Bool.Decides.{nat_tests}
use Rattle.std.proofs.lemmas.List.{append_assoc, length-append}
use Rattle.cell_values.specs.Interned.{number_of}
use Rattle.cell_values.specs.Names.{is_name_byte, is_good_name, is_plain_name, prefix_text}
use Rattle.cell_values.specs.ShownText.{bool_text}
use Rattle.formula_trees.specs.declared.tree.Op.{Op}
use Rattle.formula_tokens.specs.declared.token.Literal.{Literal}
use Rattle.formula_tokens.specs.declared.token.Token.{Token}
use Rattle.formula_tokens.specs.Words.{begins_word, is_word_byte, leading, begins_with, corner_of, truth_of}
use Rattle.formula_tokens.specs.Lexemes.{Quoted, Other, cut, bad, has_no_dollar, quoted_prefix, with_byte, literal_from, literal_cut, first_lexeme}
use Rattle.formula_tokens.specs.Spelling.{doubled, quoted, op_text, is_word, no_quote, ends_operator, ends_before}
use Rattle.formula_tokens.proofs.Lexed.{lexemes_in, one_lexeme}
use Rattle.formula_tokens.proofs.LexedWords.{closes, opens, begins_not, closes_words, closes_call, word_solid, run_leads, run_behind, plain_lexeme, word_first}

not_sign : (b c : ℕ) → not (eqb b c) ≡ true → eqb c b ≡ false
not_sign b c h = grind (arith, nat_tests)

pub op_lexeme : (names : List (List ℕ)) (prefixed : Bool) (o : Op) (rest : List ℕ) → ends_before (ends_operator o) rest ≡ true → lexemes_in names 0 prefixed (op_text o ++ rest) ≡ Other (Token.Operator o) ∷ lexemes_in names 0 false rest
op_lexeme names prefixed Op.Add rest h = refl
op_lexeme names prefixed Op.Sub rest h = refl
op_lexeme names prefixed Op.Mul rest h = refl
op_lexeme names prefixed Op.Div rest h = refl
op_lexeme names prefixed Op.Join rest h = refl
op_lexeme names prefixed Op.Eq rest h = refl
op_lexeme names prefixed Op.Ne rest h = refl
op_lexeme names prefixed Op.Le rest h = refl
op_lexeme names prefixed Op.Ge rest h = refl
op_lexeme names prefixed Op.Lt [] h = refl
op_lexeme names prefixed Op.Lt (b ∷ rest) h =
    let e = and_parts (not (eqb b 61)) (not (eqb b 62)) h in
    let x = not_sign b 61 e.0 in
    let y = not_sign b 62 e.1 in
    one_lexeme names prefixed 60 [] (b ∷ rest) (Other (Token.Operator Op.Lt)) refl (rw (x, y) refl) refl
op_lexeme names prefixed Op.Gt [] h = refl
op_lexeme names prefixed Op.Gt (b ∷ rest) h =
    let x = not_sign b 61 h in
    one_lexeme names prefixed 62 [] (b ∷ rest) (Other (Token.Operator Op.Gt)) refl (rw x refl) refl

pub truth_lexeme : (names : List (List ℕ)) (b : Bool) (rest : List ℕ) → closes rest ≡ true → lexemes_in names 0 false (bool_text b ++ rest) ≡ Other (Token.Literal (Literal.Truth b)) ∷ lexemes_in names 0 false rest
unfolding corner_of truth_of
truth_lexeme names true rest h = plain_lexeme names false (bool_text true) rest (Token.Literal (Literal.Truth true)) refl (closes_words rest h) (begins_not 33 rest h refl) (closes_call rest h) refl refl refl
truth_lexeme names false rest h = plain_lexeme names false (bool_text false) rest (Token.Literal (Literal.Truth false)) refl (closes_words rest h) (begins_not 33 rest h refl) (closes_call rest h) refl refl refl

-- a text literal
plain_byte : (b : ℕ) (rest : List ℕ) → eqb b 34 ≡ false → literal_from (b ∷ rest) ≡ option_map (with_byte b 1) (literal_from rest)
plain_byte b [] h = cond-false (eqb b 34) _ _ h
plain_byte b (c ∷ rest) h = cond-false (eqb b 34) _ _ h

quote_ends : (rest : List ℕ) → begins_with 34 rest ≡ false → literal_from (34 ∷ rest) ≡ Some ([], 1)
quote_ends [] h = refl
quote_ends (c ∷ rest) h = cond-false (eqb c 34) _ _ h

undoubled : (text rest : List ℕ) → begins_with 34 rest ≡ false → literal_from (doubled text ++ 34 ∷ rest) ≡ Some (text, length (doubled text) + 1)
undoubled [] rest h = quote_ends rest h
undoubled (b ∷ text) rest h = by (eqb b 34) refl (undoubled text rest h)
  where
    by : (c : Bool) → eqb b 34 ≡ c → literal_from (doubled text ++ 34 ∷ rest) ≡ Some (text, length (doubled text) + 1) → literal_from ((cond c (34 ∷ 34 ∷ []) (b ∷ []) ++ doubled text) ++ 34 ∷ rest) ≡ Some (b ∷ text, length (cond c (34 ∷ 34 ∷ []) (b ∷ []) ++ doubled text) + 1)
    by true e k = ap (option_map (with_byte 34 2)) k ∙ ap (λ c. Some (c ∷ text, 2 + (length (doubled text) + 1))) (sym (eqb-true b 34 e)) ∙ ap (λ n. Some (b ∷ text, n)) (omega arith)
    by false e k = plain_byte b (doubled text ++ 34 ∷ rest) e ∙ ap (option_map (with_byte b 1)) k ∙ ap (λ n. Some (b ∷ text, n)) (omega arith)

pub quoted_lexeme : (names : List (List ℕ)) (prefixed : Bool) (text rest : List ℕ) → begins_with 34 rest ≡ false → lexemes_in names 0 prefixed (quoted text ++ rest) ≡ Quoted text ∷ lexemes_in names 0 false rest
quoted_lexeme names prefixed text rest h =
    one_lexeme names prefixed 34 (doubled text ++ 34 ∷ []) rest (Quoted text) refl
    (ap literal_cut (ap literal_from (append_assoc (doubled text) (34 ∷ []) rest) ∙ undoubled text rest h) ∙ ap (λ n. cut n (Quoted text)) size) refl
  where
    size : 1 + (length (doubled text) + 1) ≡ length (34 ∷ (doubled text ++ 34 ∷ []))
    size = let l = length-append (doubled text) (34 ∷ []) in omega arith

-- a sheet prefix
weaker : (p q : ℕ → Bool) → ((b : ℕ) → p b ≡ true → q b ≡ true) → (xs : List ℕ) → list_all p xs ≡ true → list_all q xs ≡ true
weaker p q f [] h = refl
weaker p q f (x ∷ xs) h = let parts = and_parts (p x) (list_all p xs) h in and_from (q x) (list_all q xs) (f x parts.0) (weaker p q f xs parts.1)

abbrev is_plain_byte : ℕ → Bool
is_plain_byte d = is_ascii_alphanumeric d || d == 95

plain_word_byte : (b : ℕ) → is_plain_byte b ≡ true → is_word_byte b ≡ true
plain_word_byte b h = grind (arith, nat_tests)

plain_no_dollar : (b : ℕ) → is_plain_byte b ≡ true → not (b == 36) ≡ true
plain_no_dollar b h = grind (arith, nat_tests)

plain_begins : (b : ℕ) → (is_ascii_alphabetic b || b == 95) ≡ true → (begins_word b ≡ true) × (is_plain_byte b ≡ true)
plain_begins b h = (grind (arith, nat_tests), grind (arith, nat_tests))

-- a sheet's name that is a word, and `!`
pub word_prefix_lexeme : (names : List (List ℕ)) (prefixed : Bool) (name rest : List ℕ) (o : Option ℕ) → is_word name ≡ true → has_no_dollar name ≡ true → number_of names name ≡ o → lexemes_in names 0 prefixed ((name ++ codes "!") ++ rest) ≡ Other (Token.Prefix o) ∷ lexemes_in names 0 true rest
word_prefix_lexeme names prefixed [] rest o h d e = cc
word_prefix_lexeme names prefixed (b ∷ front) rest o h d e =
    let parts = and_parts (begins_word b) (list_all is_word_byte (b ∷ front)) h in
    let size : length (b ∷ front) + 1 ≡ length (b ∷ (front ++ 33 ∷ [])) = size_is in
    one_lexeme names prefixed b (front ++ 33 ∷ []) rest (Other (Token.Prefix o)) (word_solid b parts.0)
    (ap (λ xs. first_lexeme names prefixed (b ∷ xs)) (append_assoc front (33 ∷ []) rest)
    ∙ word_first names prefixed b front (33 ∷ rest) parts.0 parts.1 refl
    ∙ cond-true (has_no_dollar (b ∷ front) && begins_with 33 (33 ∷ rest)) _ _ (and_from (has_no_dollar (b ∷ front)) true d refl)
    ∙ ap (λ n. cut n (Other (Token.Prefix (number_of names (b ∷ front))))) size ∙ ap (λ p. cut (length (b ∷ (front ++ 33 ∷ []))) (Other (Token.Prefix p))) e)
    refl
  where
    size_is : length (b ∷ front) + 1 ≡ length (b ∷ (front ++ 33 ∷ []))
    size_is = let l = length-append front (33 ∷ []) in omega arith

plain_is_word : (name : List ℕ) → is_plain_name name ≡ true → (is_word name ≡ true) × (has_no_dollar name ≡ true)
unfolding is_plain_name
plain_is_word [] h = cc
plain_is_word (b ∷ front) h =
    let parts = and_parts (is_ascii_alphabetic b || b == 95) (list_all is_plain_byte front) h in
    let begins = plain_begins b parts.0 in
    let all : list_all is_plain_byte (b ∷ front) ≡ true = and_from (is_plain_byte b) (list_all is_plain_byte front) begins.1 parts.1 in (
      and_from (begins_word b) (list_all is_word_byte (b ∷ front)) begins.0 (weaker is_plain_byte is_word_byte plain_word_byte (b ∷ front) all),
      weaker is_plain_byte (λ c. not (c == 36)) plain_no_dollar (b ∷ front) all,
    )

pub quoted_prefix_lexeme : (names : List (List ℕ)) (prefixed : Bool) (name rest : List ℕ) (o : Option ℕ) → list_all no_quote name ≡ true → number_of names name ≡ o → lexemes_in names 0 prefixed ((codes "'" ++ (name ++ codes "'!")) ++ rest) ≡ Other (Token.Prefix o) ∷ lexemes_in names 0 true rest
quoted_prefix_lexeme names prefixed name rest o h e =
    let text : List ℕ = name ++ 39 ∷ 33 ∷ rest in
    one_lexeme names prefixed 39 (name ++ 39 ∷ 33 ∷ []) rest (Other (Token.Prefix o)) refl
    (ap (quoted_prefix names) (append_assoc name (39 ∷ 33 ∷ []) rest)
    ∙ ap (λ bs. cond (starts_with nat_eq bs (codes "'!")) (cut (length (leading no_quote text) + 3) (Other (Token.Prefix (number_of names (leading no_quote text))))) bad) (run_behind no_quote name (39 ∷ 33 ∷ rest) h refl)
    ∙ ap (λ bs. cut (length bs + 3) (Other (Token.Prefix (number_of names bs)))) (run_leads no_quote name (39 ∷ 33 ∷ rest) h refl)
    ∙ ap (λ n. cut n (Other (Token.Prefix (number_of names name)))) size ∙ ap (λ p. cut (length (39 ∷ (name ++ 39 ∷ 33 ∷ []))) (Other (Token.Prefix p))) e)
    refl
  where
    size : length name + 3 ≡ length (39 ∷ (name ++ 39 ∷ 33 ∷ []))
    size = let l = length-append name (39 ∷ 33 ∷ []) in omega arith

name_no_quote : (b : ℕ) → is_name_byte b ≡ true → no_quote b ≡ true
name_no_quote b h = (and_parts (no_quote b) (not (b == 33)) (and_parts (no_quote b && not (b == 33)) _ h).0).0

good_no_quote : (name : List ℕ) → is_good_name name ≡ true → list_all no_quote name ≡ true
unfolding is_good_name
good_no_quote name h = weaker is_name_byte no_quote name_no_quote name (and_parts (nat_lt 0 (length name) && nat_le (length name) 64) (list_all is_name_byte name) h).1

pub prefix_lexeme : (names : List (List ℕ)) (name rest : List ℕ) (o : Option ℕ) → is_good_name name ≡ true → number_of names name ≡ o → lexemes_in names 0 false (prefix_text name ++ rest) ≡ Other (Token.Prefix o) ∷ lexemes_in names 0 true rest
prefix_lexeme names name rest o good e = by (is_plain_name name) refl
  where
    by : (p : Bool) → is_plain_name name ≡ p → lexemes_in names 0 false (cond p (name ++ codes "!") (codes "'" ++ (name ++ codes "'!")) ++ rest) ≡ Other (Token.Prefix o) ∷ lexemes_in names 0 true rest
    by true h = let w = plain_is_word name h in word_prefix_lexeme names false name rest o w.0 w.1 e
    by false h = quoted_prefix_lexeme names false name rest o (good_no_quote name good) e

letter_opens : (b : ℕ) (rest : List ℕ) → (is_ascii_alphabetic b || b == 95) ≡ true → opens (b ∷ rest) ≡ true
letter_opens b rest h = grind (arith, nat_tests)

plain_opens : (name rest : List ℕ) → is_plain_name name ≡ true → opens ((name ++ codes "!") ++ rest) ≡ true
unfolding is_plain_name
plain_opens [] rest h = cc
plain_opens (b ∷ front) rest h = letter_opens b ((front ++ codes "!") ++ rest) (and_parts (is_ascii_alphabetic b || b == 95) (list_all is_plain_byte front) h).0

pub prefix_opens : (name rest : List ℕ) → opens (prefix_text name ++ rest) ≡ true
prefix_opens name rest = by (is_plain_name name) refl
  where
    by : (p : Bool) → is_plain_name name ≡ p → opens (cond p (name ++ codes "!") (codes "'" ++ (name ++ codes "'!")) ++ rest) ≡ true
    by true h = plain_opens name rest h
    by false h = refl
