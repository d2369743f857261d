-- What has been read so far, as a state that each token moves.
use Rattle.std.specs.Prelude.{Option, Some, None, ◌-◌, ℕ, suc, ◌+◌, List, [], ◌∷◌, Bool, true, false, Result, Ok, Err, nat_le}
use Rattle.formula_trees.specs.declared.tree.Fun.{Fun}
use Rattle.formula_trees.specs.declared.tree.Op.{Op}
use Rattle.formula_trees.specs.declared.tree.Sign.{Sign}
use Rattle.formula_trees.specs.declared.functions.Kind.{Kind}
use Rattle.formula_trees.specs.declared.functions.Kind.TheVariants.{Plain, Place, Many, Exact}
use Rattle.formula_tokens.specs.declared.token.Spot.{Spot}
use Rattle.formula_tokens.specs.declared.token.Token.{Token}
use Rattle.formula_tokens.specs.declared.token.Word.{Word}
use Rattle.cell_values.specs.declared.TheConstants.{MAX_RANGE_CELLS}
use Rattle.formula_trees.specs.declared.TheConstants.{MAX_NODES, MAX_LEVELS}
use Rattle.formula_grammar.specs.declared.faults.FaultKind.{FaultKind}
use Rattle.formula_grammar.specs.Syntax.{Mark, quiet, node, opening, signing, sized, cells_between, kind_at, are_enough, may_go_on, is_ref_error, is_exact}
use Rattle.formula_grammar.specs.Fault.{own_fault, named_fault}

-- what is open: a parenthesis, or a function's behind so many arguments; and how many signs stand before it
pub data Frame : Type 0 where
  in_group : ℕ → Frame
  in_call : Option Fun → ℕ → ℕ → Frame

pub data State : Type 0 where
  -- an operand has to come, behind so many signs
  operand : ℕ → List Frame → State
  -- behind an operand
  operator : List Frame → State
  -- behind a function's name
  named : Option Fun → ℕ → List Frame → State
  -- behind its parenthesis
  opened : Option Fun → ℕ → List Frame → State
  -- an argument of a kind has to come
  argument : Kind → List Frame → State
  -- behind a sheet prefix that an argument of a kind begins with, or that stands in an expression
  sheet : Kind → List Frame → State
  -- behind a reference that an argument of a kind begins with
  corner : Kind → Word → List Frame → State
  -- behind a range's colon
  colon : Word → List Frame → State
  -- behind a range
  ended : List Frame → State
  -- behind the end of the text
  finished : State

abbrev pub Move : Type 0
Move = Result State FaultKind

-- a count of arguments that is wrong is a fault, where counts matter
abbrev pub if_counted : Bool → Bool → State → Move
if_counted false b s = Ok s
if_counted true true s = Ok s
if_counted true false s = Err FaultKind.ArgumentCount

-- the sign that an operator is
abbrev pub sign_of : Op → Option Sign
sign_of Op.Add = Some Sign.Plus
sign_of Op.Sub = Some Sign.Minus
sign_of Op.Mul = None
sign_of Op.Div = None
sign_of Op.Join = None
sign_of Op.Eq = None
sign_of Op.Ne = None
sign_of Op.Lt = None
sign_of Op.Le = None
sign_of Op.Gt = None
sign_of Op.Ge = None

abbrev pub on_sign : Option Sign → ℕ → List Frame → Move
on_sign (Some sign) s fs = Ok (operand (suc s) fs)
on_sign None s fs = Err FaultKind.Misplaced

abbrev pub on_operand : ℕ → List Frame → Token → Move
on_operand s fs (Token.Literal l) = Ok (operator fs)
on_operand s fs (Token.Reference w) = Ok (operator fs)
on_operand s fs (Token.Prefix x) = Ok (sheet Plain fs)
on_operand s fs (Token.Function f) = Ok (named f s fs)
on_operand s fs Token.LeftParen = Ok (operand 0 (in_group s ∷ fs))
on_operand s fs (Token.Operator op) = on_sign (sign_of op) s fs
on_operand s fs t = Err FaultKind.Misplaced

abbrev pub on_right : Bool → List Frame → Move
on_right strict [] = Err FaultKind.Misplaced
on_right strict (in_group s ∷ fs) = Ok (operator fs)
on_right strict (in_call f n s ∷ fs) = if_counted strict (are_enough f (suc n)) (operator fs)

abbrev pub on_comma : Bool → List Frame → Move
on_comma strict [] = Err FaultKind.Misplaced
on_comma strict (in_group s ∷ fs) = Err FaultKind.Misplaced
on_comma strict (in_call f n s ∷ fs) = if_counted strict (may_go_on f (suc n)) (argument (kind_at f (suc n)) (in_call f (suc n) s ∷ fs))

abbrev pub on_end : List Frame → Move
on_end [] = Ok finished
on_end (f ∷ fs) = Err FaultKind.Misplaced

-- behind what may only be closed
abbrev pub on_close : Bool → List Frame → Token → Move
on_close strict fs Token.RightParen = on_right strict fs
on_close strict fs Token.Comma = on_comma strict fs
on_close strict fs Token.End = on_end fs
on_close strict fs t = Err FaultKind.Misplaced

-- behind an operand an operator may come, or what closes
abbrev pub on_operator : Bool → List Frame → Token → Move
on_operator strict fs (Token.Operator op) = Ok (operand 0 fs)
on_operator strict fs t = on_close strict fs t

-- a literal that has to be an argument by itself
abbrev pub on_lone : Bool → List Frame → Move
on_lone true fs = Ok (ended fs)
on_lone false fs = Err FaultKind.Misplaced

abbrev pub on_argument : Kind → List Frame → Token → Move
on_argument Plain fs t = on_operand 0 fs t
on_argument Many fs (Token.Reference w) = Ok (corner Many w fs)
on_argument Many fs (Token.Prefix x) = Ok (sheet Many fs)
on_argument Many fs t = on_operand 0 fs t
on_argument Place fs (Token.Reference w) = Ok (corner Place w fs)
on_argument Place fs (Token.Prefix x) = Ok (sheet Place fs)
on_argument Place fs (Token.Literal l) = on_lone (is_ref_error l) fs
on_argument Place fs t = Err FaultKind.Misplaced
on_argument Exact fs (Token.Literal l) = on_lone (is_exact l) fs
on_argument Exact fs t = Err FaultKind.Misplaced

-- behind a reference: a range may begin with it where an argument of these kinds does
abbrev pub landed : Kind → Word → List Frame → State
landed Plain w fs = operator fs
landed Exact w fs = operator fs
landed Many w fs = corner Many w fs
landed Place w fs = corner Place w fs

abbrev pub on_sheet_word : Kind → List Frame → Token → Move
on_sheet_word k fs (Token.SheetReference w) = Ok (landed k w fs)
on_sheet_word k fs t = Err FaultKind.Misplaced

abbrev pub on_no_range : Bool → Kind → List Frame → Token → Move
on_no_range strict Place fs t = on_close strict fs t
on_no_range strict Many fs t = on_operator strict fs t
on_no_range strict Plain fs t = on_operator strict fs t
on_no_range strict Exact fs t = on_operator strict fs t

abbrev pub on_corner : Bool → Kind → Word → List Frame → Token → Move
on_corner strict k w fs Token.Colon = Ok (colon w fs)
on_corner strict k w fs t = on_no_range strict k fs t

abbrev pub on_named : Option Fun → ℕ → List Frame → Token → Move
on_named f s fs Token.LeftParen = Ok (opened f s fs)
on_named f s fs t = Err FaultKind.Misplaced

abbrev pub on_opened : Bool → Option Fun → ℕ → List Frame → Token → Move
on_opened strict f s fs Token.RightParen = if_counted strict (are_enough f 0) (operator fs)
on_opened strict f s fs t = on_argument (kind_at f 0) (in_call f 0 s ∷ fs) t

abbrev pub on_colon : List Frame → Token → Move
on_colon fs (Token.Reference w) = Ok (ended fs)
on_colon fs t = Err FaultKind.Misplaced

-- what a token makes of a state, by the grammar alone
abbrev pub move : Bool → State → Token → Move
move strict (operand s fs) t = on_operand s fs t
move strict (operator fs) t = on_operator strict fs t
move strict (named f s fs) t = on_named f s fs t
move strict (opened f s fs) t = on_opened strict f s fs t
move strict (argument k fs) t = on_argument k fs t
move strict (sheet k fs) t = on_sheet_word k fs t
move strict (corner k w fs) t = on_corner strict k w fs t
move strict (colon w fs) t = on_colon fs t
move strict (ended fs) t = on_close strict fs t
move strict finished t = Err FaultKind.Misplaced

-- how many levels are open
abbrev pub open_levels : List Frame → ℕ
open_levels [] = 0
open_levels (in_group s ∷ fs) = suc (s + open_levels fs)
open_levels (in_call f n s ∷ fs) = suc (s + open_levels fs)

abbrev pub parenthesis_mark : ℕ → List Frame → Token → Mark
parenthesis_mark s fs Token.LeftParen = opening (suc (s + open_levels fs))
parenthesis_mark s fs t = quiet

abbrev pub operand_mark : ℕ → List Frame → Token → Mark
operand_mark s fs (Token.Literal l) = node
operand_mark s fs (Token.Reference w) = node
operand_mark s fs (Token.Function f) = node
operand_mark s fs Token.LeftParen = opening (suc (s + open_levels fs))
operand_mark s fs (Token.Operator op) = signing (suc (s + open_levels fs))
operand_mark s fs t = quiet

abbrev pub operator_mark : Token → Mark
operator_mark (Token.Operator op) = node
operator_mark t = quiet

abbrev pub sheet_mark : Token → Mark
sheet_mark (Token.SheetReference w) = node
sheet_mark t = quiet

abbrev pub second_mark : Word → Token → Mark
second_mark w (Token.Reference v) = sized (cells_between w v)
second_mark w t = quiet

-- what a token does in a state
abbrev pub mark_at : State → Token → Mark
mark_at (operand s fs) t = operand_mark s fs t
mark_at (operator fs) t = operator_mark t
mark_at (named f s fs) t = parenthesis_mark s fs t
mark_at (opened f s fs) t = operand_mark 0 (in_call f 0 s ∷ fs) t
mark_at (argument k fs) t = operand_mark 0 fs t
mark_at (sheet k fs) t = sheet_mark t
mark_at (corner k w fs) t = operator_mark t
mark_at (colon w fs) t = second_mark w t
mark_at (ended fs) t = quiet
mark_at finished t = quiet

-- the character begins no token
abbrev pub is_bad : Token → Bool
is_bad Token.BadCharacter = true
is_bad t = false

-- a token that stands where it may: the fault of its own, if it has one; else whether it opens a level that is
-- too high, makes a node too many or a range that is too large; else the fault of what it names
abbrev pub within : Option FaultKind → Option FaultKind → Bool → Bool → Bool → State → Move
within None None true true true s = Ok s
within (Some e) l low few small s = Err e
within None l false few small s = Err FaultKind.TooDeep
within None l true false small s = Err FaultKind.TooLong
within None l true true false s = Err FaultKind.LargeRange
within None (Some l) true true true s = Err l

abbrev pub refused : Bool → FaultKind → Move
refused true k = Err FaultKind.BadCharacter
refused false k = Err k

abbrev pub checked : Bool → Option FaultKind → Option FaultKind → Bool → Bool → Bool → Move → Move
checked bad e l low few small (Ok s) = within e l low few small s
checked bad e l low few small (Err k) = refused bad k

-- what a token makes of a state behind n nodes
abbrev pub step : ℕ → State → Token → Move
step n s t = checked (is_bad t) (own_fault t) (named_fault t) (nat_le (mark_at s t).level MAX_LEVELS) (nat_le (mark_at s t).nodes (MAX_NODES - n)) (nat_le (mark_at s t).cells MAX_RANGE_CELLS) (move true s t)

-- the end of a run: all is read, or a fault and its place
pub data Outcome : Type 0 where
  accepted : Outcome
  fault : ℕ → FaultKind → Outcome

abbrev pub at_end : ℕ → Move → Outcome
at_end end (Ok s) = accepted
at_end end (Err k) = fault end k

abbrev pub run_on : (State → Outcome) → ℕ → Move → Outcome
run_on go place (Ok s) = go s
run_on go place (Err k) = fault place k

-- a run over tokens with their places, whose text ends at a place, behind n nodes
abbrev pub run : List Spot → ℕ → ℕ → State → Outcome
run [] end n s = at_end end (step n s Token.End)
run (t ∷ ts) end n s = run_on (run ts end (n + (mark_at s t.token).nodes)) t.place (step n s t.token)
