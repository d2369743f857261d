-- A formula copied to another cell.
use Rattle.std.specs.Prelude.{Option, Some, None, ◌*◌, nat_le, if◌then◌else◌}
use Rattle.cell_values.specs.declared.address.Addr.{Addr}
use Rattle.cell_values.specs.declared.address.Area.{Area}
use Rattle.cell_values.specs.declared.TheConstants.{MAX_RANGE_CELLS}
use Rattle.cell_values.specs.Areas.{height, width}
use Rattle.formula_trees.specs.declared.tree.Reference.{Reference}
use Rattle.formula_trees.specs.Expr.{Expr, Ref, Range, RefError}
use Rattle.formula_trees.specs.Mapped.{mapped}
use Rattle.formula_trees.specs.References.{resolve, area_of}

abbrev pub kept_cell : Expr → Option Addr → Expr
kept_cell e (Some a) = e
kept_cell e None = RefError

abbrev pub kept_area : Expr → Option Area → Expr
kept_area e (Some r) = if nat_le (height r * width r) MAX_RANGE_CELLS then e else RefError
kept_area e None = RefError

-- a reference, `#REF!` where at `to` it leaves the sheet
abbrev pub copied_cell : Addr → Reference → Expr
copied_cell to r = kept_cell (Ref r) (resolve to r)

-- a range, `#REF!` where at `to` it leaves the sheet or has more than 65,536 cells
abbrev pub copied_range : Addr → Reference → Reference → Expr
copied_range to r s = kept_area (Range r s) (area_of to r s)

-- the same offsets, absolute parts and texts, with `#REF!` for what at `to` is none
abbrev pub shifted : Addr → Expr → Expr
shifted to e = mapped (copied_cell to) (copied_range to) (λ t. t) e
