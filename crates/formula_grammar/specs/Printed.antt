-- The text of a formula, without blanks and with the fewest parentheses.
use Rattle.std.specs.Prelude.{ℕ, suc, nat_lt, if◌then◌else◌, Option, Some, None, List, [], ◌++◌, slice_index_or, codes}
use Rattle.std.specs.Fmt.{decimal}
use Rattle.cell_values.specs.declared.address.Addr.{Addr}
use Rattle.cell_values.specs.CellText.{column_letters}
use Rattle.cell_values.specs.Names.{prefix_text}
use Rattle.cell_values.specs.ShownText.{int_text, bool_text}
use Rattle.cell_values.specs.Texts.{Texts, text_at}
use Rattle.formula_trees.specs.declared.tree.Part.{Part}
use Rattle.formula_trees.specs.declared.tree.Reference.{Reference}
use Rattle.formula_trees.specs.declared.tree.Sign.{Sign}
use Rattle.formula_trees.specs.Expr.{Expr, Exprs, Number, Text, Truth, Ref, Range, RefError, Unary, Binary, Call, End, More}
use Rattle.formula_trees.specs.References.{resolve}
use Rattle.formula_trees.specs.declared.levels.TheConstants.{SIGN_LEVEL}
use Rattle.formula_trees.specs.Sound.{level_of, op_level}
use Rattle.formula_tokens.specs.Spelling.{quoted, op_text}
use Rattle.formula_tokens.specs.Words.{function_name}

abbrev pub sign_text : Sign → List ℕ
sign_text Sign.Minus = codes "-"
sign_text Sign.Plus = codes "+"

-- a `$` before an absolute part
abbrev pub dollar : Part → List ℕ
dollar (Part.At n) = codes "$"
dollar (Part.By d) = []

-- the cell as a reference names it; one outside the sheet is `#REF!`
abbrev pub cell_or_error : Reference → Option Addr → List ℕ
cell_or_error r (Some a) = dollar r.col ++ (column_letters a.col ++ (dollar r.row ++ decimal a.row))
cell_or_error r None = codes "#REF!"

abbrev pub corner_text : Addr → Reference → List ℕ
corner_text at r = cell_or_error r (resolve at r)

-- the prefix of the sheet that a reference names
abbrev pub prefix_of : List (List ℕ) → Option ℕ → List ℕ
prefix_of names (Some s) = prefix_text (slice_index_or names s [])
prefix_of names None = []

abbrev pub reference_text : List (List ℕ) → Addr → Reference → List ℕ
reference_text names at r = prefix_of names r.sheet ++ corner_text at r

-- in parentheses where the root's level is lower than asked for
abbrev pub enclosed : ℕ → Expr → List ℕ → List ℕ
enclosed least e text = if nat_lt (level_of e) least then codes "(" ++ (text ++ codes ")") else text

abbrev mutual
  pub text_of : List (List ℕ) → Texts → Addr → Expr → List ℕ
  text_of names ts at (Number n) = int_text n
  text_of names ts at (Text t) = quoted (text_at ts t)
  text_of names ts at (Truth b) = bool_text b
  text_of names ts at (Ref r) = reference_text names at r
  text_of names ts at (Range r s) = reference_text names at r ++ (codes ":" ++ corner_text at s)
  text_of names ts at RefError = codes "#REF!"
  text_of names ts at (Unary s a) = sign_text s ++ enclosed SIGN_LEVEL a (text_of names ts at a)
  text_of names ts at (Binary o a b) = enclosed (op_level o) a (text_of names ts at a) ++ (op_text o ++ enclosed (suc (op_level o)) b (text_of names ts at b))
  text_of names ts at (Call f args) = function_name f ++ (codes "(" ++ (arguments_text names ts at args ++ codes ")"))

  -- the arguments with commas between them
  pub arguments_text : List (List ℕ) → Texts → Addr → Exprs → List ℕ
  arguments_text names ts at End = []
  arguments_text names ts at (More a rest) = text_of names ts at a ++ further_text names ts at rest

  pub further_text : List (List ℕ) → Texts → Addr → Exprs → List ℕ
  further_text names ts at End = []
  further_text names ts at (More a rest) = codes "," ++ (text_of names ts at a ++ further_text names ts at rest)

-- the formula's text
abbrev pub printed : List (List ℕ) → Texts → Addr → Expr → List ℕ
printed names ts at e = codes "=" ++ text_of names ts at e

-- where a formula is printed: the names of the sheets, the texts, and the formula's cell
pub record Page : Type 0 where
  pub names : List (List ℕ)
  pub texts : Texts
  pub at : Addr
