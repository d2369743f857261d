-- What a node over its children spells: a list of numbers by which it is looked up.
use Rattle.std.specs.Prelude.{ℕ, suc, ◌/◌, ◌%◌, ℤ, pos, Bool, true, false, Option, Some, None, List, [], ◌∷◌, ◌++◌, map}
use Rattle.formula_trees.specs.declared.tree.Part.{Part}
use Rattle.formula_trees.specs.declared.tree.Reference.{Reference}
use Rattle.formula_trees.specs.declared.tree.Sign.{Sign}
use Rattle.formula_trees.specs.declared.tree.Op.{Op}
use Rattle.formula_trees.specs.declared.tree.Fun.{Fun}
use Rattle.shared_expressions.specs.declared.nodes.Node.{Node}

abbrev pub sheet_number : Option ℕ → ℤ
sheet_number None = pos 0
sheet_number (Some s) = pos (suc s)

abbrev pub part_kind : Part → ℤ
part_kind (Part.At n) = pos 0
part_kind (Part.By d) = pos 1

abbrev pub part_number : Part → ℤ
part_number (Part.At n) = pos n
part_number (Part.By d) = d

abbrev pub spelled : Reference → List ℤ
spelled r = sheet_number r.sheet ∷ part_kind r.col ∷ part_number r.col ∷ part_kind r.row ∷ part_number r.row ∷ []

abbrev pub truth_number : Bool → ℤ
truth_number false = pos 0
truth_number true = pos 1

abbrev pub sign_number : Sign → ℤ
sign_number Sign.Minus = pos 0
sign_number Sign.Plus = pos 1

abbrev pub op_number : Op → ℤ
op_number Op.Add = pos 0
op_number Op.Sub = pos 1
op_number Op.Mul = pos 2
op_number Op.Div = pos 3
op_number Op.Eq = pos 4
op_number Op.Ne = pos 5
op_number Op.Lt = pos 6
op_number Op.Le = pos 7
op_number Op.Gt = pos 8
op_number Op.Ge = pos 9
op_number Op.Join = pos 10

abbrev pub fun_number : Fun → ℤ
fun_number Fun.If = pos 0
fun_number Fun.And = pos 1
fun_number Fun.Or = pos 2
fun_number Fun.Not = pos 3
fun_number Fun.Choose = pos 4
fun_number Fun.IfError = pos 5
fun_number Fun.IsError = pos 6
fun_number Fun.Sum = pos 7
fun_number Fun.Min = pos 8
fun_number Fun.Max = pos 9
fun_number Fun.Count = pos 10
fun_number Fun.Abs = pos 11
fun_number Fun.Mod = pos 12
fun_number Fun.Quotient = pos 13
fun_number Fun.Index = pos 14
fun_number Fun.Match = pos 15
fun_number Fun.VLookup = pos 16
fun_number Fun.HLookup = pos 17
fun_number Fun.Left = pos 18
fun_number Fun.Right = pos 19
fun_number Fun.Mid = pos 20
fun_number Fun.Len = pos 21

-- a number for the kind of node, and the numbers of what it holds
abbrev pub node_key : Node → List ℤ
node_key (Node.Number n) = pos 0 ∷ n ∷ []
node_key (Node.Text t) = pos 1 ∷ pos (t.0 / 4294967296) ∷ pos (t.0 % 4294967296) ∷ []
node_key (Node.Bool b) = pos 2 ∷ truth_number b ∷ []
node_key (Node.Ref r) = pos 3 ∷ spelled r
node_key (Node.Range r s) = pos 4 ∷ (spelled r ++ spelled s)
node_key Node.RefError = pos 5 ∷ []
node_key (Node.Unary s) = pos 6 ∷ sign_number s ∷ []
node_key (Node.Binary o) = pos 7 ∷ op_number o ∷ []
node_key (Node.Call f) = pos 8 ∷ fun_number f ∷ []

-- the same, and then the numbers of its children
abbrev pub key_of : Node → List ℕ → List ℤ
key_of n xs = node_key n ++ map pos xs
