-- What the readers of a formula's parts ensure.
use Rattle.std.specs.Prelude.{◌≡◌, ℕ, suc, ◌+◌, ◌≤◌, List, ◌∷◌, ◌++◌, true, false, Option, Some, None, Ok, Err}
use Rattle.cell_values.specs.declared.address.Addr.{Addr}
use Rattle.cell_values.specs.declared.TheConstants.{MAX_RANGE_CELLS}
use Rattle.formula_trees.specs.declared.tree.Fun.{Fun}
use Rattle.formula_trees.specs.Expr.{Expr, Exprs, Range}
use Rattle.formula_trees.specs.declared.functions.Kind.{Kind}
use Rattle.formula_trees.specs.declared.TheConstants.{MAX_LEVELS}
use Rattle.formula_tokens.specs.declared.token.Literal.{Literal}
use Rattle.formula_tokens.specs.declared.token.Token.{Token}
use Rattle.formula_tokens.specs.declared.token.Word.{Word}
use Rattle.formula_grammar.specs.declared.faults.FaultKind.{FaultKind}
use Rattle.formula_grammar.specs.declared.faults.FormulaFault.{FormulaFault}
use Rattle.formula_grammar.specs.declared.faults.FormulaFault.TheVariants.{Bad, OutOfMemory}
use Rattle.formula_grammar.specs.Fault.{corner_fault}
use Rattle.formula_grammar.specs.Rest.{Rest, next_token, tokens_left, run_rest, begins_target}
use Rattle.formula_grammar.specs.Syntax.{node, quiet, kind_at, Target, here, on_sheet, Expression, Joins, Sums, Term, Signed, Primary, Arguments, Argument, target_spelling, spelling, joins_spelling, sums_spelling, term_spelling, signed_spelling, primary_spelling, arguments_spelling, argument_spelling, Fits, JoinsFit, SumsFit, TermFits, SignedFits, PrimaryFits, ArgumentsFit, ArgumentFits, IsOfKind, is_alone, literal_meaning, reference_at, meaning, joins_meaning, sums_meaning, term_meaning, signed_meaning, primary_meaning, arguments_meaning, argument_meaning}
use Rattle.formula_grammar.specs.Steps.{Frame, in_call, State, operand, operator, argument, sheet, corner, colon, ended, landed, move, mark_at, open_levels, Outcome, fault}

-- the run ends in the fault, unless memory ran out
abbrev pub Fails : FormulaFault → Outcome → Type 0
Fails (Bad place k) o = o ≡ fault place k
Fails OutOfMemory o = Unit {0}

-- wherever the next token may stand and makes a node, the run fails
abbrev pub FailsNode : Rest → FormulaFault → Type 0
FailsNode old e = (s s' : State) → move true s (next_token old) ≡ Ok s' → (mark_at s (next_token old)).level ≤ MAX_LEVELS → (mark_at s (next_token old)).nodes ≡ 1 → (mark_at s (next_token old)).cells ≤ MAX_RANGE_CELLS → Fails e (run_rest old s)

-- wherever so many levels are open, a run over an operand goes on behind it, or fails
abbrev pub RunsOperand : ℕ → Rest → Rest → Type 0
RunsOperand depth old new = (fs : List Frame) → open_levels fs ≡ depth → run_rest old (operand 0 fs) ≡ run_rest new (operator fs)

abbrev pub FailsOperand : ℕ → Rest → FormulaFault → Type 0
FailsOperand depth old e = (fs : List Frame) → open_levels fs ≡ depth → Fails e (run_rest old (operand 0 fs))

abbrev pub RunsSigned : ℕ → Rest → Rest → Type 0
RunsSigned depth old new = (s : ℕ) (fs : List Frame) → s + open_levels fs ≡ depth → run_rest old (operand s fs) ≡ run_rest new (operator fs)

abbrev pub FailsSigned : ℕ → Rest → FormulaFault → Type 0
FailsSigned depth old e = (s : ℕ) (fs : List Frame) → s + open_levels fs ≡ depth → Fails e (run_rest old (operand s fs))

abbrev pub RunsArguments : Fun → ℕ → ℕ → Rest → Rest → Type 0
RunsArguments f n depth old new = (s : ℕ) (fs : List Frame) → suc (s + open_levels fs) ≡ depth → run_rest old (argument (kind_at (Some f) n) (in_call (Some f) n s ∷ fs)) ≡ run_rest new (operator fs)

abbrev pub FailsArguments : Fun → ℕ → ℕ → Rest → FormulaFault → Type 0
FailsArguments f n depth old e = (s : ℕ) (fs : List Frame) → suc (s + open_levels fs) ≡ depth → Fails e (run_rest old (argument (kind_at (Some f) n) (in_call (Some f) n s ∷ fs)))

abbrev pub RunsArgument : Kind → ℕ → Rest → Rest → Type 0
RunsArgument k depth old new = (fs : List Frame) → open_levels fs ≡ depth → run_rest old (argument k fs) ≡ run_rest new (ended fs)

abbrev pub FailsArgument : Kind → ℕ → Rest → FormulaFault → Type 0
FailsArgument k depth old e = (fs : List Frame) → open_levels fs ≡ depth → Fails e (run_rest old (argument k fs))

-- what stands between the old and the new rest is such a part, and the tree is its meaning
pub record ReadsExpression (own : Addr) (depth : ℕ) (old new : Rest) (tree : Expr) : Type 0 where
  pub part : Expression
  pub fits : Fits true part
  pub spelled : tokens_left old ≡ spelling part ++ tokens_left new
  pub means : tree ≡ meaning own part
  pub runs : RunsOperand depth old new

pub record ReadsJoins (own : Addr) (depth : ℕ) (old new : Rest) (tree : Expr) : Type 0 where
  pub part : Joins
  pub fits : JoinsFit true part
  pub spelled : tokens_left old ≡ joins_spelling part ++ tokens_left new
  pub means : tree ≡ joins_meaning own part
  pub runs : RunsOperand depth old new

pub record ReadsSums (own : Addr) (depth : ℕ) (old new : Rest) (tree : Expr) : Type 0 where
  pub part : Sums
  pub fits : SumsFit true part
  pub spelled : tokens_left old ≡ sums_spelling part ++ tokens_left new
  pub means : tree ≡ sums_meaning own part
  pub runs : RunsOperand depth old new

pub record ReadsTerm (own : Addr) (depth : ℕ) (old new : Rest) (tree : Expr) : Type 0 where
  pub part : Term
  pub fits : TermFits true part
  pub spelled : tokens_left old ≡ term_spelling part ++ tokens_left new
  pub means : tree ≡ term_meaning own part
  pub runs : RunsOperand depth old new

pub record ReadsSigned (own : Addr) (depth : ℕ) (old new : Rest) (tree : Expr) : Type 0 where
  pub part : Signed
  pub fits : SignedFits true part
  pub spelled : tokens_left old ≡ signed_spelling part ++ tokens_left new
  pub means : tree ≡ signed_meaning own part
  pub runs : RunsSigned depth old new

pub record ReadsPrimary (own : Addr) (depth : ℕ) (old new : Rest) (tree : Expr) : Type 0 where
  pub part : Primary
  pub fits : PrimaryFits true part
  pub spelled : tokens_left old ≡ primary_spelling part ++ tokens_left new
  pub means : tree ≡ primary_meaning own part
  pub runs : RunsSigned depth old new

-- arguments and the parenthesis behind them
pub record ReadsArguments (own : Addr) (f : Fun) (n depth : ℕ) (old new : Rest) (trees : Exprs) : Type 0 where
  pub part : Arguments
  pub fits : ArgumentsFit true (Some f) n part
  pub spelled : tokens_left old ≡ arguments_spelling part ++ Token.RightParen ∷ tokens_left new
  pub means : trees ≡ arguments_meaning own part
  pub runs : RunsArguments f n depth old new

pub record ReadsArgument (own : Addr) (k : Kind) (depth : ℕ) (old new : Rest) (tree : Expr) : Type 0 where
  pub part : Argument
  pub fits : ArgumentFits true part
  pub kind : IsOfKind k part
  pub spelled : tokens_left old ≡ argument_spelling part ++ tokens_left new
  pub means : tree ≡ argument_meaning own part
  pub runs : RunsArgument k depth old new

-- the same of an argument that opens no level
pub record ReadsAlone (own : Addr) (k : Kind) (old new : Rest) (tree : Expr) : Type 0 where
  pub part : Argument
  pub fits : ArgumentFits true part
  pub kind : IsOfKind k part
  pub spelled : tokens_left old ≡ argument_spelling part ++ tokens_left new
  pub means : tree ≡ argument_meaning own part
  pub runs : (fs : List Frame) → run_rest old (argument k fs) ≡ run_rest new (ended fs)

abbrev pub FailsAlone : Kind → Rest → FormulaFault → Type 0
FailsAlone k old e = (fs : List Frame) → Fails e (run_rest old (argument k fs))

-- a reference as it is written, of which the sheet is known
abbrev pub target_of : Option ℕ → Word → Target
target_of None w = here w
target_of (Some s) w = on_sheet (Some s) w

-- in a state a reference may come, and an argument of this kind may begin with it
pub record Awaits (k : Kind) (fs : List Frame) (s : State) (next : Token) : Type 0 where
  pub word : (w : Word) → move true s (Token.Reference w) ≡ Ok (landed k w fs)
  pub word_mark : (w : Word) → mark_at s (Token.Reference w) ≡ node
  pub prefix : (x : Option ℕ) → move true s (Token.Prefix x) ≡ Ok (sheet k fs)
  pub prefix_mark : (x : Option ℕ) → mark_at s (Token.Prefix x) ≡ quiet
  pub other : begins_target next ≡ false → move true s next ≡ Err FaultKind.Misplaced

-- what stands between the old and the new rest is a reference
pub record ReadsTarget (old new : Rest) (s : Option ℕ) (w : Word) : Type 0 where
  pub spelled : tokens_left old ≡ target_spelling (target_of s w) ++ tokens_left new
  pub inside : corner_fault w ≡ None
  pub runs : (k : Kind) (fs : List Frame) (from : State) → Awaits k fs from (next_token old) → run_rest old from ≡ run_rest new (landed k w fs)

abbrev pub FailsTarget : Rest → FormulaFault → Type 0
FailsTarget old e = (k : Kind) (fs : List Frame) (from : State) → Awaits k fs from (next_token old) → Fails e (run_rest old from)

-- a colon and a second corner
pub record ReadsSecond (own : Addr) (s : Option ℕ) (first : Word) (old new : Rest) (tree : Expr) : Type 0 where
  pub second : Word
  pub spelled : tokens_left old ≡ Token.Colon ∷ Token.Reference second ∷ tokens_left new
  pub means : tree ≡ Range (reference_at own s first) (reference_at own s second)
  pub runs : (k : Kind) (fs : List Frame) → run_rest old (corner k first fs) ≡ run_rest new (ended fs)

abbrev pub FailsSecond : Word → Rest → FormulaFault → Type 0
FailsSecond first old e = (k : Kind) (fs : List Frame) → Fails e (run_rest old (corner k first fs))

-- what stands between the old and the new rest is the word behind a sheet prefix
pub record ReadsSheetWord (old new : Rest) (w : Word) : Type 0 where
  pub spelled : tokens_left old ≡ Token.SheetReference w ∷ tokens_left new
  pub inside : corner_fault w ≡ None
  pub runs : (k : Kind) (fs : List Frame) → run_rest old (sheet k fs) ≡ run_rest new (landed k w fs)

abbrev pub FailsSheetWord : Rest → FormulaFault → Type 0
FailsSheetWord old e = (k : Kind) (fs : List Frame) → Fails e (run_rest old (sheet k fs))

-- what stands between the old and the new rest is a range's second corner
pub record ReadsSecondWord (first : Word) (old new : Rest) (w : Word) : Type 0 where
  pub spelled : tokens_left old ≡ Token.Reference w ∷ tokens_left new
  pub inside : corner_fault w ≡ None
  pub runs : (fs : List Frame) → run_rest old (colon first fs) ≡ run_rest new (ended fs)

abbrev pub FailsSecondWord : Word → Rest → FormulaFault → Type 0
FailsSecondWord first old e = (fs : List Frame) → Fails e (run_rest old (colon first fs))

-- what stands between the old and the new rest is a literal that is an argument by itself
pub record ReadsLone (k : Kind) (l : Literal) (old new : Rest) (tree : Expr) : Type 0 where
  pub alone : is_alone k l ≡ true
  pub spelled : tokens_left old ≡ Token.Literal l ∷ tokens_left new
  pub means : tree ≡ literal_meaning l
  pub runs : (fs : List Frame) → run_rest old (argument k fs) ≡ run_rest new (ended fs)
