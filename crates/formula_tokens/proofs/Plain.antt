-- No token of a text's first lexeme but a quoted one is a text literal.
use Rattle.std.proofs.Common.{◌≡◌, ℕ, Bool, true, false, cond, List, [], ◌∷◌, refl, Option, Some, None}
use Rattle.cell_values.specs.Texts.{Texts}
use Rattle.formula_tokens.specs.declared.token.Corner.{Corner}
use Rattle.formula_tokens.specs.declared.token.Literal.{Literal}
use Rattle.formula_tokens.specs.declared.token.Token.{Token}
use Rattle.std.specs.Prelude.{◌==◌}
use Rattle.std.specs.Char.{is_ascii_digit}
use Rattle.formula_tokens.specs.Words.{begins_word, is_word_byte, leading, behind, truth_of}
use Rattle.formula_tokens.specs.Lexemes.{Lexeme, Quoted, Other, Cut, sign_of, sign_at, sign_cut, number_token, literal_from, literal_cut, other_word, plain_word, word_cut, quoted_prefix, first_lexeme}
use Rattle.formula_tokens.specs.Tokens.{TextIsOf}

abbrev holds_number : Literal → Bool
holds_number (Literal.Text i) = true
holds_number _ = false

abbrev is_text : Token → Bool
is_text (Token.Literal l) = holds_number l
is_text _ = false

abbrev holds_text : Lexeme → Bool
holds_text (Quoted text) = false
holds_text (Other t) = is_text t

abbrev cut_text : Cut → Bool
cut_text c = holds_text c.lexeme

literal_if : (b : Bool) (x y : Literal) → holds_number (cond b x y) ≡ cond b (holds_number x) (holds_number y)
literal_if true x y = refl
literal_if false x y = refl

token_if : (b : Bool) (x y : Token) → is_text (cond b x y) ≡ cond b (is_text x) (is_text y)
token_if true x y = refl
token_if false x y = refl

cut_if : (b : Bool) (x y : Cut) → holds_text (cond b x y).lexeme ≡ cond b (cut_text x) (cut_text y)
cut_if true x y = refl
cut_if false x y = refl

never_if : (b : Bool) → cond b false false ≡ false
never_if true = refl
never_if false = refl

no_sign : (b : ℕ) → is_text (sign_of b) ≡ false
no_sign b = simp (token_if, never_if)

no_sign_at : (text : List ℕ) → is_text (sign_at text) ≡ false
no_sign_at [] = refl
no_sign_at (b ∷ rest) = no_sign b

no_literal : (o : Option (List ℕ × ℕ)) → cut_text (literal_cut o) ≡ false
no_literal None = refl
no_literal (Some p) = refl

no_other : (prefixed : Bool) (o : Option Bool) → is_text (other_word prefixed o) ≡ false
no_other prefixed None = simp (token_if, never_if)
no_other prefixed (Some b) = simp (token_if, never_if)

no_corner : (prefixed : Bool) (word : List ℕ) (o : Option Corner) → is_text (plain_word prefixed word o) ≡ false
no_corner prefixed word None = no_other prefixed (truth_of word)
no_corner prefixed word (Some c) = simp (token_if, never_if)

no_number : (digits : List ℕ) → is_text (number_token digits) ≡ false
no_number digits = simp (literal_if, never_if)

no_word : (names : List (List ℕ)) (prefixed : Bool) (word rest : List ℕ) → cut_text (word_cut names prefixed word rest) ≡ false
no_word names prefixed word rest = simp (cut_if, token_if, no_corner, never_if)

no_signs : (text : List ℕ) → cut_text (sign_cut text) ≡ false
no_signs text = simp (cut_if, no_sign_at, never_if)

no_quoted : (names : List (List ℕ)) (text : List ℕ) → cut_text (quoted_prefix names text) ≡ false
no_quoted names text = simp (cut_if, never_if)

neither : (b : Bool) (x y : Cut) → cut_text x ≡ false → cut_text y ≡ false → cut_text (cond b x y) ≡ false
neither true x y h k = h
neither false x y h k = k

no_first : (names : List (List ℕ)) (prefixed : Bool) (text : List ℕ) → cut_text (first_lexeme names prefixed text) ≡ false
no_first names prefixed [] = refl
no_first names prefixed (b ∷ rest) =
    neither (is_ascii_digit b) _ _ (no_number (leading is_ascii_digit (b ∷ rest)))
    (neither (begins_word b) _ _ (no_word names prefixed (leading is_word_byte (b ∷ rest)) (behind is_word_byte (b ∷ rest)))
    (neither (b == 34) _ _ (no_literal (literal_from rest)) (neither (b == 39) _ _ (no_quoted names rest) (no_signs (b ∷ rest)))))

-- a token that is read from the text itself holds no text's number
abbrev pub IsPlain : Texts → Lexeme → Type 0
IsPlain ts (Quoted text) = Unit {0}
IsPlain ts (Other t) = TextIsOf ts t

plain_token : (ts : Texts) (t : Token) → is_text t ≡ false → TextIsOf ts t
plain_token ts (Token.Literal (Literal.Text i)) h = cc
plain_token ts (Token.Literal (Literal.Number n)) h = tt
plain_token ts (Token.Literal Literal.HugeNumber) h = tt
plain_token ts (Token.Literal (Literal.Truth b)) h = tt
plain_token ts (Token.Literal Literal.RefError) h = tt
plain_token ts (Token.Reference w) h = tt
plain_token ts (Token.SheetReference w) h = tt
plain_token ts (Token.Prefix s) h = tt
plain_token ts (Token.Function f) h = tt
plain_token ts Token.LeftParen h = tt
plain_token ts Token.RightParen h = tt
plain_token ts Token.Comma h = tt
plain_token ts Token.Colon h = tt
plain_token ts (Token.Operator o) h = tt
plain_token ts Token.Misplaced h = tt
plain_token ts Token.BadCharacter h = tt
plain_token ts Token.End h = tt

plain_lexeme : (ts : Texts) (l : Lexeme) → holds_text l ≡ false → IsPlain ts l
plain_lexeme ts (Quoted text) h = tt
plain_lexeme ts (Other t) h = plain_token ts t h

pub plain_first : (ts : Texts) (names : List (List ℕ)) (prefixed : Bool) (text : List ℕ) → IsPlain ts (first_lexeme names prefixed text).lexeme
plain_first ts names prefixed text = plain_lexeme ts (first_lexeme names prefixed text).lexeme (no_first names prefixed text)
