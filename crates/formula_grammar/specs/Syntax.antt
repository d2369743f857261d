-- The grammar of formulas: concrete syntax, the tokens that spell it, which of it may stand, and what it means.
use Rattle.std.specs.Prelude.{◌≡◌, ℕ, zero, suc, ◌-◌, ◌*◌, min, max, pos, negsuc, ◌-ℤ◌, if◌then◌else◌, List, [], ◌∷◌, ◌++◌, Bool, true, false, not, IsTrue, Option, Some, None}
use Rattle.cell_values.specs.declared.address.Addr.{Addr}
use Rattle.formula_trees.specs.declared.tree.Fun.{Fun}
use Rattle.formula_trees.specs.declared.tree.Op.{Op}
use Rattle.formula_trees.specs.declared.tree.Part.{Part}
use Rattle.formula_trees.specs.declared.tree.Reference.{Reference}
use Rattle.formula_trees.specs.declared.tree.Sign.{Sign}
use Rattle.formula_trees.specs.Expr.{Expr, Exprs, Number, Text, Truth, Ref, Range, RefError, Unary, Binary, Call, End, More}
use Rattle.formula_trees.specs.declared.functions.Kind.{Kind}
use Rattle.formula_trees.specs.declared.functions.Kind.TheVariants.{Plain, Place, Many, Exact}
use Rattle.formula_trees.specs.Functions.{kind_of, enough, takes_more}
use Rattle.formula_trees.specs.declared.levels.TheConstants.{COMPARISON_LEVEL, JOIN_LEVEL, SUM_LEVEL, TERM_LEVEL}
use Rattle.formula_trees.specs.Sound.{op_level}
use Rattle.formula_tokens.specs.declared.token.Coordinate.{Coordinate}
use Rattle.formula_tokens.specs.declared.token.Literal.{Literal}
use Rattle.formula_tokens.specs.declared.token.Token.{Token}
use Rattle.formula_tokens.specs.declared.token.Word.{Word}

-- what a reference is written as: a word alone, or behind a sheet prefix
pub data Target : Type 0 where
  here : Word → Target
  on_sheet : Option ℕ → Word → Target

-- a formula as it is written; operators of one level are taken from the left
mutual
  pub data Expression : Type 0 where
    only_joins : Joins → Expression
    compare : Expression → Op → Joins → Expression

  pub data Joins : Type 0 where
    only_sum : Sums → Joins
    join : Joins → Op → Sums → Joins

  pub data Sums : Type 0 where
    only_term : Term → Sums
    add : Sums → Op → Term → Sums

  pub data Term : Type 0 where
    only_signed : Signed → Term
    multiply : Term → Op → Signed → Term

  pub data Signed : Type 0 where
    plain : Primary → Signed
    signed : Sign → Signed → Signed

  pub data Primary : Type 0 where
    literal : Literal → Primary
    reference : Target → Primary
    group : Expression → Primary
    call_none : Option Fun → Primary
    call : Option Fun → Arguments → Primary

  pub data Arguments : Type 0 where
    last : Argument → Arguments
    more : Argument → Arguments → Arguments

  -- an expression; a lone reference; a range; a literal that is no expression where it stands
  pub data Argument : Type 0 where
    value : Expression → Argument
    cell : Target → Argument
    area : Target → Word → Argument
    lone : Literal → Argument

-- an operator that a sign is written as
abbrev pub sign_op : Sign → Op
sign_op Sign.Minus = Op.Sub
sign_op Sign.Plus = Op.Add

abbrev pub target_spelling : Target → List Token
target_spelling (here w) = Token.Reference w ∷ []
target_spelling (on_sheet s w) = Token.Prefix s ∷ Token.SheetReference w ∷ []

-- the tokens
abbrev mutual
  pub spelling : Expression → List Token
  spelling (only_joins j) = joins_spelling j
  spelling (compare e op j) = spelling e ++ Token.Operator op ∷ joins_spelling j

  pub joins_spelling : Joins → List Token
  joins_spelling (only_sum s) = sums_spelling s
  joins_spelling (join j op s) = joins_spelling j ++ Token.Operator op ∷ sums_spelling s

  pub sums_spelling : Sums → List Token
  sums_spelling (only_term t) = term_spelling t
  sums_spelling (add s op t) = sums_spelling s ++ Token.Operator op ∷ term_spelling t

  pub term_spelling : Term → List Token
  term_spelling (only_signed s) = signed_spelling s
  term_spelling (multiply t op s) = term_spelling t ++ Token.Operator op ∷ signed_spelling s

  pub signed_spelling : Signed → List Token
  signed_spelling (plain p) = primary_spelling p
  signed_spelling (signed sign s) = Token.Operator (sign_op sign) ∷ signed_spelling s

  pub primary_spelling : Primary → List Token
  primary_spelling (literal l) = Token.Literal l ∷ []
  primary_spelling (reference x) = target_spelling x
  primary_spelling (group e) = Token.LeftParen ∷ (spelling e ++ Token.RightParen ∷ [])
  primary_spelling (call_none f) = Token.Function f ∷ Token.LeftParen ∷ Token.RightParen ∷ []
  primary_spelling (call f xs) = Token.Function f ∷ Token.LeftParen ∷ (arguments_spelling xs ++ Token.RightParen ∷ [])

  pub arguments_spelling : Arguments → List Token
  arguments_spelling (last a) = argument_spelling a
  arguments_spelling (more a xs) = argument_spelling a ++ Token.Comma ∷ arguments_spelling xs

  pub argument_spelling : Argument → List Token
  argument_spelling (value e) = spelling e
  argument_spelling (cell x) = target_spelling x
  argument_spelling (area x w) = target_spelling x ++ Token.Colon ∷ Token.Reference w ∷ []
  argument_spelling (lone l) = Token.Literal l ∷ []

-- the arguments of an unknown function may be anything that a function's may
abbrev pub kind_at : Option Fun → ℕ → Kind
kind_at (Some f) n = kind_of f n
kind_at None n = Many

abbrev pub are_enough : Option Fun → ℕ → Bool
are_enough (Some f) n = enough f n
are_enough None n = true

abbrev pub may_go_on : Option Fun → ℕ → Bool
may_go_on (Some f) n = takes_more f n
may_go_on None n = true

-- a number of value 0, or FALSE
abbrev pub is_exact : Literal → Bool
is_exact (Literal.Number (pos zero)) = true
is_exact (Literal.Number (pos (suc n))) = false
is_exact (Literal.Number (negsuc n)) = false
is_exact (Literal.Truth b) = not b
is_exact _ = false

abbrev pub is_ref_error : Literal → Bool
is_ref_error Literal.RefError = true
is_ref_error _ = false

-- a literal that a kind's argument may be where no expression may stand
abbrev pub is_alone : Kind → Literal → Bool
is_alone Plain l = false
is_alone Many l = false
is_alone Place l = is_ref_error l
is_alone Exact l = is_exact l

-- what may be a kind's argument
abbrev pub IsOfKind : Kind → Argument → Type 0
IsOfKind Plain (value e) = Unit {0}
IsOfKind Plain (cell x) = ⊥
IsOfKind Plain (area x w) = ⊥
IsOfKind Many (value e) = Unit {0}
IsOfKind Many (cell x) = ⊥
IsOfKind Many (area x w) = Unit {0}
IsOfKind Place (value e) = ⊥
IsOfKind Place (cell x) = Unit {0}
IsOfKind Place (area x w) = Unit {0}
IsOfKind Exact (value e) = ⊥
IsOfKind Exact (cell x) = ⊥
IsOfKind Exact (area x w) = ⊥
IsOfKind k (lone l) = IsTrue (is_alone k l)

-- whether the counts of arguments matter
abbrev pub counted : Bool → Bool → Type 0
counted false b = Unit {0}
counted true b = IsTrue b

-- operators stand at their level, and calls have the arguments of the table
abbrev mutual
  pub Fits : Bool → Expression → Type 0
  Fits strict (only_joins j) = JoinsFit strict j
  Fits strict (compare e op j) = Fits strict e × (op_level op ≡ COMPARISON_LEVEL) × JoinsFit strict j

  pub JoinsFit : Bool → Joins → Type 0
  JoinsFit strict (only_sum s) = SumsFit strict s
  JoinsFit strict (join j op s) = JoinsFit strict j × (op_level op ≡ JOIN_LEVEL) × SumsFit strict s

  pub SumsFit : Bool → Sums → Type 0
  SumsFit strict (only_term t) = TermFits strict t
  SumsFit strict (add s op t) = SumsFit strict s × (op_level op ≡ SUM_LEVEL) × TermFits strict t

  pub TermFits : Bool → Term → Type 0
  TermFits strict (only_signed s) = SignedFits strict s
  TermFits strict (multiply t op s) = TermFits strict t × (op_level op ≡ TERM_LEVEL) × SignedFits strict s

  pub SignedFits : Bool → Signed → Type 0
  SignedFits strict (plain p) = PrimaryFits strict p
  SignedFits strict (signed sign s) = SignedFits strict s

  pub PrimaryFits : Bool → Primary → Type 0
  PrimaryFits strict (literal l) = Unit {0}
  PrimaryFits strict (reference x) = Unit {0}
  PrimaryFits strict (group e) = Fits strict e
  PrimaryFits strict (call_none f) = counted strict (are_enough f 0)
  PrimaryFits strict (call f xs) = ArgumentsFit strict f 0 xs

  -- the arguments behind the first `n`
  pub ArgumentsFit : Bool → Option Fun → ℕ → Arguments → Type 0
  ArgumentsFit strict f n (last a) = IsOfKind (kind_at f n) a × ArgumentFits strict a × counted strict (are_enough f (suc n))
  ArgumentsFit strict f n (more a xs) = IsOfKind (kind_at f n) a × ArgumentFits strict a × counted strict (may_go_on f (suc n)) × ArgumentsFit strict f (suc n) xs

  pub ArgumentFits : Bool → Argument → Type 0
  ArgumentFits strict (value e) = Fits strict e
  ArgumentFits strict (cell x) = Unit {0}
  ArgumentFits strict (area x w) = Unit {0}
  ArgumentFits strict (lone l) = Unit {0}

-- how many numbers there are from one to the other
abbrev pub length_between : ℕ → ℕ → ℕ
length_between a b = suc (max a b) - min a b

-- how many cells the range between two corners has
abbrev pub cells_between : Word → Word → ℕ
cells_between (Word.Cell c) (Word.Cell d) = length_between c.row.number d.row.number * length_between c.col.number d.col.number
cells_between _ _ = 0

abbrev pub target_word : Target → Word
target_word (here w) = w
target_word (on_sheet s w) = w

abbrev pub target_sheet : Target → Option ℕ
target_sheet (here w) = None
target_sheet (on_sheet s w) = s

-- what a token does: the level that it opens (0 for none), the nodes that it makes, and the cells of the range
-- whose second corner it is
pub record Mark : Type 0 where
  pub level : ℕ
  pub nodes : ℕ
  pub cells : ℕ

abbrev pub quiet : Mark
quiet = record { level = 0; nodes = 0; cells = 0 }

abbrev pub node : Mark
node = record { level = 0; nodes = 1; cells = 0 }

abbrev pub opening : ℕ → Mark
opening d = record { level = d; nodes = 0; cells = 0 }

abbrev pub signing : ℕ → Mark
signing d = record { level = d; nodes = 1; cells = 0 }

abbrev pub sized : ℕ → Mark
sized n = record { level = 0; nodes = 0; cells = n }

abbrev pub target_marks : Target → List Mark
target_marks (here w) = node ∷ []
target_marks (on_sheet s w) = quiet ∷ node ∷ []

-- the tokens' marks, where d levels are open
abbrev mutual
  pub marks : Expression → ℕ → List Mark
  marks (only_joins j) d = joins_marks j d
  marks (compare e op j) d = marks e d ++ node ∷ joins_marks j d

  pub joins_marks : Joins → ℕ → List Mark
  joins_marks (only_sum s) d = sums_marks s d
  joins_marks (join j op s) d = joins_marks j d ++ node ∷ sums_marks s d

  pub sums_marks : Sums → ℕ → List Mark
  sums_marks (only_term t) d = term_marks t d
  sums_marks (add s op t) d = sums_marks s d ++ node ∷ term_marks t d

  pub term_marks : Term → ℕ → List Mark
  term_marks (only_signed s) d = signed_marks s d
  term_marks (multiply t op s) d = term_marks t d ++ node ∷ signed_marks s d

  pub signed_marks : Signed → ℕ → List Mark
  signed_marks (plain p) d = primary_marks p d
  signed_marks (signed sign s) d = signing (suc d) ∷ signed_marks s (suc d)

  pub primary_marks : Primary → ℕ → List Mark
  primary_marks (literal l) d = node ∷ []
  primary_marks (reference x) d = target_marks x
  primary_marks (group e) d = opening (suc d) ∷ (marks e (suc d) ++ quiet ∷ [])
  primary_marks (call_none f) d = node ∷ opening (suc d) ∷ quiet ∷ []
  primary_marks (call f xs) d = node ∷ opening (suc d) ∷ (arguments_marks xs (suc d) ++ quiet ∷ [])

  pub arguments_marks : Arguments → ℕ → List Mark
  arguments_marks (last a) d = argument_marks a d
  arguments_marks (more a xs) d = argument_marks a d ++ quiet ∷ arguments_marks xs d

  pub argument_marks : Argument → ℕ → List Mark
  argument_marks (value e) d = marks e d
  argument_marks (cell x) d = target_marks x
  argument_marks (area x w) d = target_marks x ++ quiet ∷ sized (cells_between (target_word x) w) ∷ []
  argument_marks (lone l) d = node ∷ []

-- a number that is too large means nothing; what stands here for it is never read
abbrev pub literal_meaning : Literal → Expr
literal_meaning (Literal.Number n) = Number n
literal_meaning Literal.HugeNumber = RefError
literal_meaning (Literal.Text t) = Text t
literal_meaning (Literal.Truth b) = Truth b
literal_meaning Literal.RefError = RefError

-- a column or a row: absolute, or as an offset from the formula's own
abbrev pub part : ℕ → Coordinate → Part
part own c = if c.absolute then Part.At c.number else Part.By (pos c.number -ℤ pos own)

-- an unknown word means nothing; what stands here for it is never read
abbrev pub column_at : Addr → Word → Part
column_at at (Word.Cell c) = part at.col c.col
column_at at Word.Unknown = Part.At 0

abbrev pub row_at : Addr → Word → Part
row_at at (Word.Cell c) = part at.row c.row
row_at at Word.Unknown = Part.At 0

abbrev pub reference_at : Addr → Option ℕ → Word → Reference
reference_at at s w = record { sheet = s; col = column_at at w; row = row_at at w }

abbrev pub target_meaning : Addr → Target → Reference
target_meaning at x = reference_at at (target_sheet x) (target_word x)

-- a call of an unknown function means nothing; what stands here for it is never read
abbrev pub call_meaning : Option Fun → Exprs → Expr
call_meaning (Some f) args = Call f args
call_meaning None args = RefError

-- the tree, at the formula's cell
abbrev mutual
  pub meaning : Addr → Expression → Expr
  meaning at (only_joins j) = joins_meaning at j
  meaning at (compare e op j) = Binary op (meaning at e) (joins_meaning at j)

  pub joins_meaning : Addr → Joins → Expr
  joins_meaning at (only_sum s) = sums_meaning at s
  joins_meaning at (join j op s) = Binary op (joins_meaning at j) (sums_meaning at s)

  pub sums_meaning : Addr → Sums → Expr
  sums_meaning at (only_term t) = term_meaning at t
  sums_meaning at (add s op t) = Binary op (sums_meaning at s) (term_meaning at t)

  pub term_meaning : Addr → Term → Expr
  term_meaning at (only_signed s) = signed_meaning at s
  term_meaning at (multiply t op s) = Binary op (term_meaning at t) (signed_meaning at s)

  pub signed_meaning : Addr → Signed → Expr
  signed_meaning at (plain p) = primary_meaning at p
  signed_meaning at (signed sign s) = Unary sign (signed_meaning at s)

  pub primary_meaning : Addr → Primary → Expr
  primary_meaning at (literal l) = literal_meaning l
  primary_meaning at (reference x) = Ref (target_meaning at x)
  primary_meaning at (group e) = meaning at e
  primary_meaning at (call_none f) = call_meaning f End
  primary_meaning at (call f xs) = call_meaning f (arguments_meaning at xs)

  pub arguments_meaning : Addr → Arguments → Exprs
  arguments_meaning at (last a) = More (argument_meaning at a) End
  arguments_meaning at (more a xs) = More (argument_meaning at a) (arguments_meaning at xs)

  -- both corners of a range are on the sheet of the first one
  pub argument_meaning : Addr → Argument → Expr
  argument_meaning at (value e) = meaning at e
  argument_meaning at (cell x) = Ref (target_meaning at x)
  argument_meaning at (area x w) = Range (target_meaning at x) (reference_at at (target_sheet x) w)
  argument_meaning at (lone l) = literal_meaning l
