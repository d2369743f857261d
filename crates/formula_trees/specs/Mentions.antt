-- What a formula names, from left to right.
use Rattle.std.specs.Prelude.{Option, Some, None, option_to_list, List, [], ◌++◌}
use Rattle.cell_values.specs.declared.address.Addr.{Addr}
use Rattle.cell_values.specs.declared.address.Area.{Area}
use Rattle.cell_values.specs.Areas.{walk, IsArea}
use Rattle.formula_trees.specs.declared.place.Place.{Place}
use Rattle.formula_trees.specs.declared.place.Place.TheVariants.{Nowhere, Bad, Cells}
use Rattle.formula_trees.specs.Expr.{Expr, Exprs, Ref, Range, RefError, Unary, Binary, Call, End, More}
use Rattle.formula_trees.specs.References.{resolve, area_of}

-- the cells of an area, or outside the sheet
abbrev pub place_from : Option Area → Place
place_from (Some r) = Cells r
place_from None = Bad

-- where an argument stands; one that is just a reference counts as the range of that cell
abbrev pub place_of : Addr → Expr → Place
place_of at (Ref r) = place_from (area_of at r r)
place_of at (Range r s) = place_from (area_of at r s)
place_of at RefError = Bad
place_of at _ = Nowhere

-- what it has is an area of a sheet
abbrev pub HasArea : Place → Type 0
HasArea (Cells r) = IsArea r
HasArea Nowhere = Unit {0}
HasArea Bad = Unit {0}

abbrev pub cells_of : Place → List Addr
cells_of (Cells r) = walk r
cells_of Nowhere = []
cells_of Bad = []

-- the addresses that the references and ranges name, each range in the order of its walk
abbrev mutual
  pub mentions : Addr → Expr → List Addr
  mentions at (Ref r) = option_to_list (resolve at r)
  mentions at (Range r s) = cells_of (place_of at (Range r s))
  mentions at (Unary s a) = mentions at a
  mentions at (Binary o a b) = mentions at a ++ mentions at b
  mentions at (Call f args) = mentions_all at args
  mentions at _ = []

  pub mentions_all : Addr → Exprs → List Addr
  mentions_all at End = []
  mentions_all at (More a rest) = mentions at a ++ mentions_all at rest

-- the references and ranges as areas; one that lies outside the sheet names none
abbrev mutual
  pub areas : Addr → Expr → List Area
  areas at (Ref r) = option_to_list (area_of at r r)
  areas at (Range r s) = option_to_list (area_of at r s)
  areas at (Unary s a) = areas at a
  areas at (Binary o a b) = areas at a ++ areas at b
  areas at (Call f args) = areas_all at args
  areas at _ = []

  pub areas_all : Addr → Exprs → List Area
  areas_all at End = []
  areas_all at (More a rest) = areas at a ++ areas_all at rest
