-- Which tree the tokens of a formula have, and which fault.
use Rattle.std.specs.Prelude.{◌≡◌, ℕ, suc, ◌+◌, ◌<◌, ◌≤◌, ◌⊎◌, pos, int_le, nat_le, ◌&&◌, if◌then◌else◌, List, [], ◌∷◌, ◌++◌, length, Bool, true, false, take, map, get_or, Option, Some, None}
use Rattle.std.specs.List.{AllByRecursion}
use Rattle.cell_values.specs.declared.address.Addr.{Addr}
use Rattle.cell_values.specs.declared.TheConstants.{LAST_COLUMN, LAST_ROW, MAX_RANGE_CELLS}
use Rattle.cell_values.specs.Numbers.{fits}
use Rattle.formula_trees.specs.declared.tree.Fun.{Fun}
use Rattle.formula_trees.specs.Expr.{Expr}
use Rattle.formula_tokens.specs.declared.token.Corner.{Corner}
use Rattle.formula_tokens.specs.declared.token.Literal.{Literal}
use Rattle.formula_tokens.specs.declared.token.Spot.{Spot}
use Rattle.formula_tokens.specs.declared.token.Token.{Token}
use Rattle.formula_tokens.specs.declared.token.Word.{Word}
use Rattle.formula_trees.specs.declared.TheConstants.{MAX_NODES, MAX_LEVELS}
use Rattle.formula_grammar.specs.declared.faults.FaultKind.{FaultKind}
use Rattle.formula_grammar.specs.FaultKinds.{number_of}
use Rattle.formula_grammar.specs.Syntax.{Expression, Mark, quiet, spelling, marks, Fits, meaning}

-- a corner inside the sheet
abbrev pub is_inside : Corner → Bool
is_inside c = (nat_le 1 c.col.number && nat_le c.col.number LAST_COLUMN) && (nat_le 1 c.row.number && nat_le c.row.number LAST_ROW)

abbrev pub word_fault : Word → Option FaultKind
word_fault (Word.Cell c) = None
word_fault Word.Unknown = Some FaultKind.UnknownName

-- a number from 0 to the greatest
abbrev pub literal_fault : Literal → Option FaultKind
literal_fault (Literal.Number n) = if int_le (pos 0) n && fits n then None else Some FaultKind.HugeNumber
literal_fault Literal.HugeNumber = Some FaultKind.HugeNumber
literal_fault _ = None

abbrev pub function_fault : Option Fun → Option FaultKind
function_fault (Some f) = None
function_fault None = Some FaultKind.UnknownName

-- what is wrong with a token by itself: it is a character that begins none, an unknown word or function, or a number
-- that is too large
abbrev pub own_fault : Token → Option FaultKind
own_fault Token.BadCharacter = Some FaultKind.BadCharacter
own_fault (Token.Reference w) = word_fault w
own_fault (Token.SheetReference w) = word_fault w
own_fault (Token.Function f) = function_fault f
own_fault (Token.Literal l) = literal_fault l
own_fault _ = None

abbrev pub corner_fault : Word → Option FaultKind
corner_fault (Word.Cell c) = if is_inside c then None else Some FaultKind.OutsideSheet
corner_fault Word.Unknown = None

abbrev pub prefix_fault : Option ℕ → Option FaultKind
prefix_fault (Some s) = None
prefix_fault None = Some FaultKind.UnknownSheet

-- what is wrong with what a token names: a prefix that names no sheet, or a reference outside the sheet
abbrev pub named_fault : Token → Option FaultKind
named_fault (Token.Prefix s) = prefix_fault s
named_fault (Token.Reference w) = corner_fault w
named_fault (Token.SheetReference w) = corner_fault w
named_fault _ = None

-- how many nodes tokens make
abbrev pub total_nodes : List Mark → ℕ
total_nodes [] = 0
total_nodes (m ∷ ms) = m.nodes + total_nodes ms

-- the marks of a formula's tokens and its end
abbrev pub formula_marks : Expression → List Mark
formula_marks e = marks e 0 ++ quiet ∷ []

-- the tokens are a formula's, without a fault of their own and within the limits, with its meaning at the cell
pub record Reads (at : Addr) (tokens : List Token) (tree : Expr) : Type 0 where
  pub expression : Expression
  pub fits : Fits true expression
  pub spelled : spelling expression ≡ tokens
  pub known : AllByRecursion (λ t. own_fault t ≡ None) tokens
  pub inside : AllByRecursion (λ t. named_fault t ≡ None) tokens
  pub low : AllByRecursion (λ m. m.level ≤ MAX_LEVELS) (marks expression 0)
  pub few : total_nodes (marks expression 0) ≤ MAX_NODES
  pub small : AllByRecursion (λ m. m.cells ≤ MAX_RANGE_CELLS) (marks expression 0)
  pub means : meaning at expression ≡ tree

-- a formula, limits and faults of tokens left aside, begins with these tokens, of which the last may be the end;
-- where `strict` is false, the counts of arguments are left aside too
pub record Stands (strict : Bool) (front : List Token) : Type 0 where
  pub expression : Expression
  pub rest : List Token
  pub fits : Fits strict expression
  pub spelled : spelling expression ++ Token.End ∷ [] ≡ front ++ rest

-- the marks of these tokens, and of the token behind them
abbrev pub marks_to : List Token → Expression → List Mark
marks_to before e = take (suc (length before)) (formula_marks e)

abbrev pub mark_of : List Token → Expression → Mark
mark_of before e = get_or (formula_marks e) (length before) quiet

-- a fault is that of a token, behind those before it: its own or of what it names, by the token alone; it cannot stand
-- there, or cannot for the counts of arguments alone; it opens a level, makes a node or a range that is one too many
abbrev pub Applies : List Token → Token → FaultKind → Type 0
Applies before t k =
    (own_fault t ≡ Some k)
    ⊎ ((k ≡ FaultKind.Misplaced) × (Stands false (before ++ t ∷ []) → ⊥))
    ⊎ ((k ≡ FaultKind.ArgumentCount) × (Stands true (before ++ t ∷ []) → ⊥) × Stands false (before ++ t ∷ []))
    ⊎ ((k ≡ FaultKind.TooDeep) × (h : Stands true (before ++ t ∷ [])) × (MAX_LEVELS < (mark_of before h.expression).level))
    ⊎ ((k ≡ FaultKind.TooLong) × (h : Stands true (before ++ t ∷ [])) × (MAX_NODES < total_nodes (marks_to before h.expression)))
    ⊎ ((k ≡ FaultKind.LargeRange) × (h : Stands true (before ++ t ∷ [])) × (MAX_RANGE_CELLS < (mark_of before h.expression).cells))
    ⊎ (named_fault t ≡ Some k)

-- none of the tokens has a fault
abbrev pub IsFaultless : List Token → Type 0
IsFaultless ts = (before : List Token) (t : Token) (after : List Token) → ts ≡ before ++ t ∷ after → (k : FaultKind) → Applies before t k → ⊥

abbrev pub tokens_of : List Spot → List Token
tokens_of spots = map (λ s. s.token) spots

-- the first token of the text and its end that has a fault, its place, and its fault with the least number
pub record FirstFault (spots : List Spot) (end place : ℕ) (k : FaultKind) : Type 0 where
  pub before : List Spot
  pub token : Spot
  pub after : List Spot
  pub text : spots ++ record { token = Token.End; place = end } ∷ [] ≡ before ++ token ∷ after
  pub at_place : token.place ≡ place
  pub applies : Applies (tokens_of before) token.token k
  pub first_line : (m : FaultKind) → number_of m < number_of k → Applies (tokens_of before) token.token m → ⊥
  pub earlier : IsFaultless (tokens_of before)
