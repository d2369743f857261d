-- The tokens of a formula with their places, and the texts of its literals.
use Rattle.std.specs.Prelude.{ℕ, IsSome, List, [], ◌∷◌, map, flat_map, fold, unwrap_or}
use Rattle.std.specs.List.{AllByRecursion}
use Rattle.cell_values.specs.Texts.{Texts, IsTextOf}
use Rattle.cell_values.specs.Interned.{number_of, interned}
use Rattle.formula_tokens.specs.declared.token.Literal.{Literal}
use Rattle.formula_tokens.specs.declared.token.Spot.{Spot}
use Rattle.formula_tokens.specs.declared.token.Token.{Token}
use Rattle.formula_tokens.specs.Lexemes.{Lexeme, Quoted, Other, Placed, lexemes}

-- a text literal is the number of its text
abbrev pub token_of : Texts → Lexeme → Token
token_of ts (Quoted text) = Token.Literal (Literal.Text (record { 0 = unwrap_or (number_of ts text) 0 }))
token_of ts (Other t) = t

abbrev pub spot_of : Texts → Placed → Spot
spot_of ts p = record { token = token_of ts p.1; place = p.0 }

-- the tokens of a formula with their places, where these texts hold its literals
unfoldable pub spots_of : List (List ℕ) → Texts → List ℕ → List Spot
spots_of names ts text = map (spot_of ts) (lexemes names text)

abbrev pub literal_of : Placed → List (List ℕ)
literal_of (place, Quoted text) = text ∷ []
literal_of (place, Other t) = []

-- the texts with others, interned from left to right
abbrev pub with_texts : Texts → List (List ℕ) → Texts
with_texts ts others = fold (λ known text. (interned known text).0) ts others

-- the texts with those of a formula's literals
unfoldable pub with_literals : List (List ℕ) → Texts → List ℕ → Texts
with_literals names ts text = with_texts ts (flat_map literal_of (lexemes names text))

-- a literal's number is one of these texts
abbrev pub TextIsOf : Texts → Token → Type 0
TextIsOf ts (Token.Literal (Literal.Text t)) = IsTextOf ts t
TextIsOf ts _ = Unit {0}

abbrev pub TextsAreOf : Texts → List Spot → Type 0
TextsAreOf ts spots = AllByRecursion (λ s. TextIsOf ts s.token) spots

-- these texts hold the text of a literal
abbrev pub HoldsLiteral : Texts → Lexeme → Type 0
HoldsLiteral ts (Quoted text) = IsSome (number_of ts text)
HoldsLiteral ts (Other t) = Unit {0}

-- these texts hold the literals of a formula
unfoldable pub HoldsLiterals : List (List ℕ) → Texts → List ℕ → Type 0
HoldsLiterals names ts text = AllByRecursion (λ p. HoldsLiteral ts p.1) (lexemes names text)
