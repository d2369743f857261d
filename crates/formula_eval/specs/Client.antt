-- A book that is told the values of its formula cells one at a time, and an evaluation over it.
use Rattle.std.specs.Prelude.{ℕ, List, []}
use Rattle.cell_values.specs.declared.address.Addr.{Addr}
use Rattle.cell_values.specs.declared.values.Value.{Value}
use Rattle.cell_values.specs.Texts.{Texts}
use Rattle.demand_spec.specs.declared.Asked.{Asked}
use Rattle.demand_spec.specs.Book.{Book, Content, look}
use Rattle.demand_spec.specs.Formula.{plan}
use Rattle.cell_values.specs.Order.{entry_at}
use Rattle.demand_spec.specs.Listed.{AreCellsOf, AreKnownOf}
use Rattle.shared_expressions.specs.declared.nodes.ExprId.{ExprId}
use Rattle.shared_expressions.specs.Trees.{Trees, tree_at, depth}
use Rattle.formula_eval.specs.declared.work.Frame.{Frame}
use Rattle.formula_eval.specs.Evaluations.{Answered}

-- the cells, the texts, the values that were told, and the looks so far
pub record Sight : Type 0 where
  pub cells : List (Addr × Content)
  pub texts : Texts
  pub told : List (Addr × Value)
  pub looks : ℕ

-- all text numbers are the texts'
pub record IsSight (s : Sight) : Type 0 where
  pub cells_of : AreCellsOf s.texts s.cells
  pub told_of : AreKnownOf s.texts (entry_at s.told)

abbrev pub book_of : Sight → Book
book_of s = record { cells = s.cells; texts = s.texts }

abbrev pub look_on : Sight → Addr → Asked
look_on s = look (book_of s) (entry_at s.told)

-- an expression at a cell has this answer; where it lacks a cell, it alone stands open
abbrev pub Goes : Trees → Texts → Sight → ExprId → Addr → Asked → List Frame → Type 0
Goes p ts s id at r fs = Answered p ts (look_on s) (depth (tree_at p id)) at (plan ts at (tree_at p id)) [] r fs
