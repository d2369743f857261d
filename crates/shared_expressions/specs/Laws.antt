-- What laws say of expressions.
use Rattle.std.specs.Prelude.{◌≡◌, ◌≤◌, flat_map}
use Rattle.cell_values.specs.declared.address.Addr.{Addr}
use Rattle.cell_values.specs.Areas.{walk}
use Rattle.formula_trees.specs.Expr.{Expr}
use Rattle.formula_trees.specs.Mentions.{mentions, areas}
use Rattle.formula_trees.specs.Sound.{nodes}
use Rattle.shared_expressions.specs.Trees.{depth}

-- the cells that a formula mentions are those of its areas, in order
abbrev pub MentionsAreAreas : Type 0
MentionsAreAreas = (at : Addr) (e : Expr) → mentions at e ≡ flat_map walk (areas at e)

-- a tree is no deeper than it has nodes
abbrev pub DepthWithinNodes : Type 0
DepthWithinNodes = (e : Expr) → depth e ≤ nodes e
