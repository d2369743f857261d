-- What holds of the tokens of all texts.
use Rattle.std.specs.Prelude.{◌≡◌, ℕ, Bool, true, false, List, ◌++◌, map, codes}
use Rattle.cell_values.specs.Texts.{Texts}
use Rattle.cell_values.specs.Interned.{KeepsTexts}
use Rattle.formula_tokens.specs.Lexemes.{Lexeme, is_blank}
use Rattle.formula_tokens.specs.Spelling.{Piece, pieces_text, AreWritten, may_follow, word_token}
use Rattle.formula_tokens.specs.Tokens.{token_of, spots_of, with_literals, HoldsLiterals}
use Rattle.formula_tokens.specs.Words.{upper}

-- the texts that are there once a formula's literals are interned hold them
abbrev pub InternedAreHeld : Type 0
InternedAreHeld = (names : List (List ℕ)) (ts : Texts) (text : List ℕ) → HoldsLiterals names (with_literals names ts text) text

-- texts that hold a formula's literals already stay as they are
abbrev pub HeldStay : Type 0
HeldStay = (names : List (List ℕ)) (ts : Texts) (text : List ℕ) → HoldsLiterals names ts text → with_literals names ts text ≡ ts

-- texts that begin with those which hold a formula's literals hold them too, and give it the same tokens
abbrev pub LongerHold : Type 0
LongerHold = (names : List (List ℕ)) (ts more : Texts) (text : List ℕ) → KeepsTexts ts more → HoldsLiterals names ts text → HoldsLiterals names more text

abbrev pub LongerAgree : Type 0
LongerAgree = (names : List (List ℕ)) (ts more : Texts) (text : List ℕ) → KeepsTexts ts more → HoldsLiterals names ts text → spots_of names more text ≡ spots_of names ts text

-- tokens that are written one after the other, with blanks where they are needed, are read as they are
abbrev pub WrittenAreRead : Type 0
WrittenAreRead = (names : List (List ℕ)) (ts : Texts) (ps : List Piece) → AreWritten names false ps → map (λ s. s.token) (spots_of names ts (codes "=" ++ pieces_text ps)) ≡ map (λ p. token_of ts p.lexeme) ps

-- a blank is enough behind each
abbrev pub BlanksMayFollow : Type 0
BlanksMayFollow = (l : Lexeme) (b : ℕ) → is_blank b ≡ true → may_follow l b ≡ true

-- a word in capitals is the same token
abbrev pub CapitalsAgree : Type 0
CapitalsAgree = (prefixed calls : Bool) (word : List ℕ) → word_token prefixed calls (upper word) ≡ word_token prefixed calls word
