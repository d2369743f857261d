-- How a text falls into lexemes: the longest first, from left to right.
use Rattle.std.specs.Prelude.{ℕ, zero, suc, ◌+◌, ◌-◌, pos, Bool, true, false, not, ◌&&◌, ◌||◌, ◌==◌, nat_eq, if◌then◌else◌, List, [], ◌∷◌, length, drop, Option, Some, None, option_map, codes}
use Rattle.std.specs.List.{prefix_len, list_all, starts_with}
use Rattle.std.specs.Char.{is_ascii_digit}
use Rattle.std.specs.Str.Parse.{digits_value}
use Rattle.cell_values.specs.Interned.{number_of}
use Rattle.cell_values.specs.Numbers.{fits}
use Rattle.formula_trees.specs.declared.tree.Op.{Op}
use Rattle.formula_tokens.specs.declared.token.Corner.{Corner}
use Rattle.formula_tokens.specs.declared.token.Literal.{Literal}
use Rattle.formula_tokens.specs.declared.token.Token.{Token}
use Rattle.formula_tokens.specs.declared.token.Word.{Word}
use Rattle.formula_tokens.specs.Words.{begins_word, is_word_byte, leading, behind, begins_with, corner_of, truth_of, function_named}

-- a text literal with its bytes, or any other token
pub data Lexeme : Type 0 where
  Quoted : List ℕ → Lexeme
  Other : Token → Lexeme

-- the lexeme that a text begins with, and how many bytes stand behind its first one
pub record Cut : Type 0 where
  pub lexeme : Lexeme
  pub more : ℕ

-- a lexeme of so many bytes
abbrev pub cut : ℕ → Lexeme → Cut
cut size l = record { lexeme = l; more = size - 1 }

abbrev pub bad : Cut
bad = cut 1 (Other Token.BadCharacter)

-- space, tab, LF and CR
abbrev pub is_blank : ℕ → Bool
is_blank b = b == 32 || b == 9 || b == 10 || b == 13

-- the number that digits write
abbrev pub number_token : List ℕ → Token
number_token digits = let n = pos (digits_value 10 digits) in
    Token.Literal (if fits n then Literal.Number n else Literal.HugeNumber)

-- a reference, at once behind a sheet prefix or not
abbrev pub reference : Bool → Word → Token
reference prefixed w = if prefixed then Token.SheetReference w else Token.Reference w

-- a token that cannot stand at once behind a sheet prefix
abbrev pub apart : Bool → Token → Token
apart prefixed t = if prefixed then Token.Misplaced else t

abbrev pub other_word : Bool → Option Bool → Token
other_word prefixed (Some b) = apart prefixed (Token.Literal (Literal.Truth b))
other_word prefixed None = reference prefixed Word.Unknown

abbrev pub plain_word : Bool → List ℕ → Option Corner → Token
plain_word prefixed word (Some c) = reference prefixed (Word.Cell c)
plain_word prefixed word None = other_word prefixed (truth_of word)

abbrev pub has_no_dollar : List ℕ → Bool
has_no_dollar word = list_all (λ b. not (b == 36)) word

-- what a word is: a sheet prefix where it has no `$` and `!` follows at once, a function's name where the next
-- token is `(`, a reference, `TRUE` or `FALSE`, or an unknown name
abbrev pub word_cut : List (List ℕ) → Bool → List ℕ → List ℕ → Cut
word_cut names prefixed word rest =
    if has_no_dollar word && begins_with 33 rest then cut (length word + 1) (Other (Token.Prefix (number_of names word)))
    else cut (length word) (Other (if begins_with 40 (behind is_blank rest)
    then apart prefixed (Token.Function (function_named word)) else plain_word prefixed word (corner_of word)))

-- a sheet's name in single quotes, from behind the first one, and `!` at once behind it
abbrev pub quoted_prefix : List (List ℕ) → List ℕ → Cut
quoted_prefix names text = let name = leading (λ b. not (b == 39)) text in
    if starts_with nat_eq (behind (λ b. not (b == 39)) text) (codes "'!")
    then cut (length name + 3) (Other (Token.Prefix (number_of names name))) else bad

-- one more byte of a text literal, written in so many bytes
abbrev pub with_byte : ℕ → ℕ → List ℕ × ℕ → List ℕ × ℕ
with_byte b size p = (b ∷ p.0, size + p.1)

-- a text literal from behind its first quote, where a doubled quote is one: its bytes, and how many bytes write
-- them with the last quote; none where no quote closes it
abbrev pub literal_from : List ℕ → Option (List ℕ × ℕ)
literal_from [] = None
literal_from (b ∷ []) = if b == 34 then Some ([], 1) else None
literal_from (b ∷ c ∷ rest) =
    if b == 34 then (if c == 34 then option_map (with_byte 34 2) (literal_from rest) else Some ([], 1))
    else option_map (with_byte b 1) (literal_from (c ∷ rest))

abbrev pub literal_cut : Option (List ℕ × ℕ) → Cut
literal_cut (Some p) = cut (1 + p.1) (Quoted p.0)
literal_cut None = bad

-- a sign that stands alone
abbrev pub sign_of : ℕ → Token
sign_of b = if b == 40 then Token.LeftParen else (if b == 41 then Token.RightParen
    else (if b == 44 then Token.Comma else (if b == 58 then Token.Colon
    else (if b == 43 then Token.Operator Op.Add else (if b == 45 then Token.Operator Op.Sub
    else (if b == 42 then Token.Operator Op.Mul else (if b == 47 then Token.Operator Op.Div else (if b == 38 then Token.Operator Op.Join
    else (if b == 61 then Token.Operator Op.Eq else (if b == 60 then Token.Operator Op.Lt
    else (if b == 62 then Token.Operator Op.Gt else Token.BadCharacter)))))))))))

abbrev pub sign_at : List ℕ → Token
sign_at [] = Token.BadCharacter
sign_at (b ∷ rest) = sign_of b

-- the longest sign
abbrev pub sign_cut : List ℕ → Cut
sign_cut text =
    if starts_with nat_eq text (codes "<>") then cut 2 (Other (Token.Operator Op.Ne))
    else (if starts_with nat_eq text (codes "<=") then cut 2 (Other (Token.Operator Op.Le))
    else (if starts_with nat_eq text (codes ">=") then cut 2 (Other (Token.Operator Op.Ge))
    else (if starts_with nat_eq text (codes "#REF!") then cut 5 (Other (Token.Literal Literal.RefError))
    else cut 1 (Other (sign_at text)))))

-- the lexeme that a text begins with
abbrev pub first_lexeme : List (List ℕ) → Bool → List ℕ → Cut
first_lexeme names prefixed [] = bad
first_lexeme names prefixed (b ∷ rest) = let text = b ∷ rest in
    if is_ascii_digit b then cut (prefix_len is_ascii_digit text) (Other (number_token (leading is_ascii_digit text)))
    else (if begins_word b then word_cut names prefixed (leading is_word_byte text) (behind is_word_byte text)
    else (if b == 34 then literal_cut (literal_from rest)
    else (if b == 39 then quoted_prefix names rest
    else sign_cut text)))

abbrev pub is_bad : Lexeme → Bool
is_bad (Other Token.BadCharacter) = true
is_bad _ = false

abbrev pub is_prefix : Lexeme → Bool
is_prefix (Other (Token.Prefix s)) = true
is_prefix _ = false

-- a lexeme and the place of its first byte
abbrev pub Placed : Type 0
Placed = ℕ × Lexeme

-- the lexemes of a text that begins at a place, where the first bytes belong to the lexeme before it, and that
-- lexeme is a sheet prefix or not; blanks are passed over, and nothing is read behind a bad character
abbrev pub lexemes_at : List (List ℕ) → ℕ → ℕ → Bool → List ℕ → List Placed
lexemes_at names place inside prefixed [] = []
lexemes_at names place (suc inside) prefixed (b ∷ rest) = lexemes_at names (suc place) inside prefixed rest
lexemes_at names place zero prefixed (b ∷ rest) = if is_blank b then lexemes_at names (suc place) 0 false rest
    else (let c = first_lexeme names prefixed (b ∷ rest) in
    (place, c.lexeme) ∷ (if is_bad c.lexeme then [] else lexemes_at names (suc place) c.more (is_prefix c.lexeme) rest))

-- the lexemes of a formula, from behind its `=`
unfoldable pub lexemes : List (List ℕ) → List ℕ → List Placed
lexemes names text = lexemes_at names 1 0 false (drop 1 text)
