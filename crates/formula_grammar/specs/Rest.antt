-- What is left to read.
use Rattle.std.specs.Prelude.{ℕ, ◌+◌, List, [], ◌∷◌, drop, Bool, true, false, cond, Option, None}
use Rattle.formula_trees.specs.declared.tree.Sign.{Sign}
use Rattle.formula_trees.specs.Sound.{op_level}
use Rattle.formula_tokens.specs.declared.token.Spot.{Spot}
use Rattle.formula_tokens.specs.declared.token.Token.{Token}
use Rattle.formula_grammar.specs.declared.faults.FaultKind.{FaultKind}
use Rattle.formula_grammar.specs.Fault.{tokens_of}
use Rattle.formula_grammar.specs.Steps.{State, Outcome, run, sign_of, is_bad}

-- the tokens with their places, the end of the text, and how many nodes there were
pub record Rest : Type 0 where
  pub spots : List Spot
  pub end : ℕ
  pub nodes : ℕ

abbrev pub next_of : List Spot → Token
next_of [] = Token.End
next_of (t ∷ ts) = t.token

abbrev pub place_of : List Spot → ℕ → ℕ
place_of [] end = end
place_of (t ∷ ts) end = t.place

abbrev pub next_token : Rest → Token
next_token r = next_of r.spots

abbrev pub next_place : Rest → ℕ
next_place r = place_of r.spots r.end

abbrev pub tokens_left : Rest → List Token
tokens_left r = tokens_of r.spots

-- the rest behind the next token, which makes so many nodes
abbrev pub behind_next : Rest → ℕ → Rest
behind_next r k = record { spots = drop 1 r.spots; end = r.end; nodes = r.nodes + k }

abbrev pub run_rest : Rest → State → Outcome
run_rest r s = run r.spots r.end r.nodes s

-- what is wrong with a token that cannot stand where it is
abbrev pub misfit : Token → FaultKind
misfit t = cond (is_bad t) FaultKind.BadCharacter FaultKind.Misplaced

-- the level of the operator that a token is, or 0
abbrev pub token_level : Token → ℕ
token_level (Token.Operator op) = op_level op
token_level t = 0

-- the sign that a token is where an operand has to come
abbrev pub sign_token : Token → Option Sign
sign_token (Token.Operator op) = sign_of op
sign_token t = None

-- a reference may begin with the token
abbrev pub begins_target : Token → Bool
begins_target (Token.Reference w) = true
begins_target (Token.Prefix s) = true
begins_target t = false

abbrev pub begins_colon : List Token → Bool
begins_colon [] = false
begins_colon (Token.Colon ∷ ts) = true
begins_colon (t ∷ ts) = false

abbrev pub sheet_range_ahead : List Token → Bool
sheet_range_ahead [] = false
sheet_range_ahead (Token.SheetReference w ∷ ts) = begins_colon ts
sheet_range_ahead (t ∷ ts) = false

-- the tokens begin with a reference and a colon
abbrev pub range_ahead : List Token → Bool
range_ahead [] = false
range_ahead (Token.Reference w ∷ ts) = begins_colon ts
range_ahead (Token.Prefix s ∷ ts) = sheet_range_ahead ts
range_ahead (t ∷ ts) = false
