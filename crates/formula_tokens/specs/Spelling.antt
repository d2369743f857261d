-- How tokens are written, and lists of them as texts.
use Rattle.std.specs.Prelude.{◌≡◌, ◌⊎◌, ℕ, Bool, true, false, not, ◌&&◌, ◌==◌, nat_lt, if◌then◌else◌, IsTrue, List, [], ◌∷◌, ◌++◌, length, flat_map, codes}
use Rattle.std.specs.List.{list_all}
use Rattle.std.specs.Char.{is_ascii_digit}
use Rattle.std.specs.Str.{all_ascii_digits}
use Rattle.cell_values.specs.Interned.{number_of}
use Rattle.formula_trees.specs.declared.tree.Op.{Op}
use Rattle.formula_tokens.specs.declared.token.Literal.{Literal}
use Rattle.formula_tokens.specs.declared.token.Token.{Token}
use Rattle.formula_tokens.specs.Lexemes.{Lexeme, Quoted, Other, is_blank, is_prefix, has_no_dollar, number_token, apart, plain_word}
use Rattle.formula_tokens.specs.Words.{begins_word, is_word_byte, begins_with, corner_of, function_named}

-- a text with each double quote doubled
abbrev pub doubled : List ℕ → List ℕ
doubled text = flat_map (λ b. if b == 34 then 34 ∷ 34 ∷ [] else b ∷ []) text

-- a text between double quotes
abbrev pub quoted : List ℕ → List ℕ
quoted text = 34 ∷ (doubled text ++ 34 ∷ [])

abbrev pub op_text : Op → List ℕ
op_text Op.Add = codes "+"
op_text Op.Sub = codes "-"
op_text Op.Mul = codes "*"
op_text Op.Div = codes "/"
op_text Op.Join = codes "&"
op_text Op.Eq = codes "="
op_text Op.Ne = codes "<>"
op_text Op.Lt = codes "<"
op_text Op.Le = codes "<="
op_text Op.Gt = codes ">"
op_text Op.Ge = codes ">="

-- a word begins as one and has no other byte
abbrev pub is_word : List ℕ → Bool
is_word [] = false
is_word (b ∷ front) = begins_word b && list_all is_word_byte (b ∷ front)

-- one digit or more
abbrev pub is_number : List ℕ → Bool
is_number bytes = nat_lt 0 (length bytes) && all_ascii_digits bytes

-- the token that a word is, in either case: at once behind a sheet prefix or not, and before a `(` or not
abbrev pub word_token : Bool → Bool → List ℕ → Token
word_token prefixed true word = apart prefixed (Token.Function (function_named word))
word_token prefixed false word = plain_word prefixed word (corner_of word)

abbrev pub no_quote : ℕ → Bool
no_quote b = not (b == 39)

-- a sheet's name and `!`: the name as it is, if it is a word without `$`, or in quotes
abbrev pub WritesPrefix : List ℕ → List ℕ → Type 0
WritesPrefix name bytes =
    (IsTrue (is_word name) × IsTrue (has_no_dollar name) × (bytes ≡ name ++ codes "!"))
    ⊎ (IsTrue (list_all no_quote name) × (bytes ≡ codes "'" ++ (name ++ codes "'!")))

-- these bytes write the lexeme, at once behind a sheet prefix or not, and before a `(` or not
abbrev pub Writes : List (List ℕ) → Bool → Bool → Lexeme → List ℕ → Type 0
Writes names prefixed calls (Quoted text) bytes = bytes ≡ quoted text
Writes names prefixed calls (Other (Token.Literal (Literal.Number n))) bytes = IsTrue (is_number bytes) × (number_token bytes ≡ Token.Literal (Literal.Number n))
Writes names prefixed calls (Other (Token.Literal Literal.HugeNumber)) bytes = IsTrue (is_number bytes) × (number_token bytes ≡ Token.Literal Literal.HugeNumber)
Writes names prefixed calls (Other (Token.Literal (Literal.Text t))) bytes = ⊥
Writes names prefixed calls (Other (Token.Literal (Literal.Truth v))) bytes = IsTrue (is_word bytes) × (word_token prefixed calls bytes ≡ Token.Literal (Literal.Truth v))
Writes names prefixed calls (Other (Token.Literal Literal.RefError)) bytes = bytes ≡ codes "#REF!"
Writes names prefixed calls (Other (Token.Reference w)) bytes = IsTrue (is_word bytes) × (word_token prefixed calls bytes ≡ Token.Reference w)
Writes names prefixed calls (Other (Token.SheetReference w)) bytes = IsTrue (is_word bytes) × (word_token prefixed calls bytes ≡ Token.SheetReference w)
Writes names prefixed calls (Other (Token.Prefix s)) bytes = (name : List ℕ) × (number_of names name ≡ s) × WritesPrefix name bytes
Writes names prefixed calls (Other (Token.Function f)) bytes = IsTrue (is_word bytes) × (word_token prefixed calls bytes ≡ Token.Function f)
Writes names prefixed calls (Other Token.LeftParen) bytes = bytes ≡ codes "("
Writes names prefixed calls (Other Token.RightParen) bytes = bytes ≡ codes ")"
Writes names prefixed calls (Other Token.Comma) bytes = bytes ≡ codes ","
Writes names prefixed calls (Other Token.Colon) bytes = bytes ≡ codes ":"
Writes names prefixed calls (Other (Token.Operator o)) bytes = bytes ≡ op_text o
Writes names prefixed calls (Other Token.Misplaced) bytes = IsTrue (is_word bytes) × (word_token prefixed calls bytes ≡ Token.Misplaced)
Writes names prefixed calls (Other Token.BadCharacter) bytes = ⊥
Writes names prefixed calls (Other Token.End) bytes = ⊥

-- a byte that goes on with no word, and makes no sheet prefix of it
abbrev pub ends_word : ℕ → Bool
ends_word b = not (is_word_byte b) && not (b == 33)

-- a byte that makes no longer operator of one
abbrev pub ends_operator : Op → ℕ → Bool
ends_operator Op.Lt b = not (b == 61) && not (b == 62)
ends_operator Op.Gt b = not (b == 61)
ends_operator Op.Add b = true
ends_operator Op.Sub b = true
ends_operator Op.Mul b = true
ends_operator Op.Div b = true
ends_operator Op.Join b = true
ends_operator Op.Eq b = true
ends_operator Op.Ne b = true
ends_operator Op.Le b = true
ends_operator Op.Ge b = true

-- the byte may stand at once behind the lexeme; a blank always may
abbrev pub may_follow : Lexeme → ℕ → Bool
may_follow (Quoted text) b = not (b == 34)
may_follow (Other (Token.Literal (Literal.Number n))) b = not (is_ascii_digit b)
may_follow (Other (Token.Literal Literal.HugeNumber)) b = not (is_ascii_digit b)
may_follow (Other (Token.Literal (Literal.Text t))) b = true
may_follow (Other (Token.Literal (Literal.Truth v))) b = ends_word b
may_follow (Other (Token.Literal Literal.RefError)) b = true
may_follow (Other (Token.Reference w)) b = ends_word b
may_follow (Other (Token.SheetReference w)) b = ends_word b
may_follow (Other (Token.Prefix s)) b = true
may_follow (Other (Token.Function f)) b = ends_word b
may_follow (Other Token.LeftParen) b = true
may_follow (Other Token.RightParen) b = true
may_follow (Other Token.Comma) b = true
may_follow (Other Token.Colon) b = true
may_follow (Other (Token.Operator o)) b = ends_operator o b
may_follow (Other Token.Misplaced) b = ends_word b
may_follow (Other Token.BadCharacter) b = true
may_follow (Other Token.End) b = true

-- what follows begins so, or is nothing
abbrev pub ends_before : (ℕ → Bool) → List ℕ → Bool
ends_before p [] = true
ends_before p (b ∷ rest) = p b

-- a lexeme, the bytes that write it, and the blanks before them
pub record Piece : Type 0 where
  pub blanks : List ℕ
  pub bytes : List ℕ
  pub lexeme : Lexeme

-- the text of pieces
abbrev pub pieces_text : List Piece → List ℕ
pieces_text [] = []
pieces_text (p ∷ ps) = p.blanks ++ (p.bytes ++ pieces_text ps)

-- the next piece is `(`
abbrev pub opens_call : List Piece → Bool
opens_call [] = false
opens_call (p ∷ ps) = begins_with 40 p.bytes

-- behind these blanks a piece stands at once behind a sheet prefix: there are none
abbrev pub touches : Bool → List ℕ → Bool
touches prefixed [] = prefixed
touches prefixed (b ∷ blanks) = false

-- each piece is written as its lexeme may be, and a blank stands where the next byte would go on with it
abbrev pub AreWritten : List (List ℕ) → Bool → List Piece → Type 0
AreWritten names prefixed [] = Unit {0}
AreWritten names prefixed (p ∷ ps) =
    IsTrue (list_all is_blank p.blanks)
    × Writes names (touches prefixed p.blanks) (opens_call ps) p.lexeme p.bytes
    × IsTrue (ends_before (may_follow p.lexeme) (pieces_text ps))
    × AreWritten names (is_prefix p.lexeme) ps
