-- The evaluations that stand open along a stack of cells.
use Rattle.std.specs.Prelude.{◌≡◌, ℕ, ◌+◌, ◌≤◌, Bool, true, false, cond, Option, Some, None, List, [], ◌∷◌, length, get_or}
use Rattle.cell_values.specs.declared.address.Addr.{Addr}
use Rattle.formula_trees.specs.Expr.{Expr}
use Rattle.demand_spec.specs.declared.Asked.{Asked}
use Rattle.demand_spec.specs.declared.Asked.TheVariants.{Val, Needs}
use Rattle.demand_spec.specs.Plan.{Plan}
use Rattle.demand_spec.specs.Formula.{plan}
use Rattle.demand_spec.specs.Book.{Book, formula_at}
use Rattle.shared_expressions.specs.Trees.{Trees, depth}
use Rattle.workbook_core.specs.Books.{SharedBook}
use Rattle.formula_eval.specs.declared.work.Frame.{Frame}
use Rattle.formula_eval.specs.Stacks.{Stack, IsShut}
use Rattle.formula_eval.specs.Evaluations.{Stands, Answered, HasOpen}
use Rattle.demand_stack.specs.declared.notes.Note.{Note}

-- the formula, `#REF!` where there is none
abbrev pub tree_or : Option Expr → Expr
tree_or (Some t) = t
tree_or None = Expr.RefError

-- the formula of a cell
unfoldable pub tree_of : Book → Addr → Expr
tree_of b a = tree_or (formula_at b a)

-- how deep it is
abbrev pub depth_of : Book → Addr → ℕ
depth_of b a = depth (tree_of b a)

-- the plan of its evaluation
abbrev pub plan_of : Book → Addr → Plan
plan_of b a = plan b.texts a (tree_of b a)

-- the depths of the formulas of these cells, in all
abbrev pub depths : Book → List Addr → ℕ
depths b [] = 0
depths b (a ∷ cs) = depth_of b a + depths b cs

-- the evaluation of a cell stands open above the frames `base`
pub record IsOpen (p : Trees) (b : Book) (l : Addr → Asked) (a : Addr) (base fs : List Frame) : Type 0 where
  pub needs : Addr
  pub stands : Stands p b.texts l (length base + depth_of b a) a (plan_of b a) needs fs base

-- exactly the evaluations of these cells stand open, that of the first one above the others
abbrev pub AreOpen : Trees → Book → (Addr → Asked) → List Addr → List Frame → Type 0
AreOpen p b l [] fs = fs ≡ []
AreOpen p b l (a ∷ cs) fs = (base : List Frame) × IsOpen p b l a base fs × AreOpen p b l cs base

-- what is noted of a cell that was not met
abbrev pub blank : Note
blank = record { shown = None; on_stack = false; begun = false }

-- the cells among these whose evaluations stand open
abbrev pub begun_of : List Note → List ℕ → List ℕ
begun_of ns [] = []
begun_of ns (i ∷ rest) = cond (get_or ns i blank).begun (i ∷ begun_of ns rest) (begun_of ns rest)

-- the evaluation of a cell can go on where it stands open, and else be begun
abbrev pub IsReady : SharedBook → Addr → Bool → Stack → Type 0
IsReady w a true s = HasOpen w.pool w.book.texts s.room s.frames
IsReady w a false s = IsShut s.frames × (length s.frames + depth_of w.book a ≤ s.room)

-- what lies below the evaluation of a cell, where it stands open, and else all frames
abbrev pub LiesOn : Trees → Book → (Addr → Asked) → Addr → Bool → List Frame → List Frame → Type 0
LiesOn p b l a true fs base = IsOpen p b l a base fs
LiesOn p b l a false fs base = fs ≡ base

-- this is what a cell's formula gives, and where it needs a cell its evaluation stands open above `base`
abbrev pub AnswersOn : Trees → Book → (Addr → Asked) → Addr → List Frame → Asked → List Frame → Type 0
AnswersOn p b l a base r fs = Answered p b.texts l (length base + depth_of b a) a (plan_of b a) base r fs

-- whether a formula stops at a cell
abbrev pub is_need : Asked → Bool
is_need (Val v) = false
is_need (Needs x) = true
