-- The support of a book: the formula cells in order, each with the areas that its formula names.
use Rattle.std.specs.Prelude.{◌≡◌, Bool, true, false, ◌&&◌, List, [], ◌∷◌, Option, Some, None, IsSome, IsSomeAnd, option_map, IfSome, All}
use Rattle.std.specs.List.{list_any, filter}
use Rattle.std.specs.Global.{Vec}
use Rattle.cell_values.specs.declared.address.Addr.{Addr}
use Rattle.cell_values.specs.declared.address.Area.{Area}
use Rattle.cell_values.specs.Areas.{is_inside, IsArea}
use Rattle.cell_values.specs.Order.{InOrder, addresses, entry_at}
use Rattle.formula_trees.specs.Mentions.{areas}
use Rattle.demand_spec.specs.Book.{Book, formula_at}
use Rattle.support_graph.specs.declared.block.Block.{Block}
use Rattle.support_graph.specs.declared.block.Corners.{Corners}
use Rattle.support_graph.specs.declared.block.Key.{Key}
use Rattle.support_graph.specs.declared.block.Reader.{Reader}
use Rattle.support_graph.specs.Blocks.{is_block_of, is_block_in, corners, area_between, same_corners, has_key, has_reader, has_area}

-- cells, each with its areas
abbrev pub CellAreas : Type 0
CellAreas = List (Addr × List Area)

-- one of the areas holds the address
abbrev pub hold : List Area → Addr → Bool
hold areas a = list_any (λ r. is_inside r a) areas

-- the cells with an area that holds the address, in order
abbrev pub dependents_of : CellAreas → Addr → List Addr
dependents_of s a = addresses (filter (λ e. hold e.1 a) s)

abbrev pub IsCell : CellAreas → Addr → Type 0
IsCell s c = IsSome (entry_at s c)

-- the cell has an area that holds `a`
abbrev pub Reads : CellAreas → Addr → Addr → Type 0
Reads s c a = IsSomeAnd (entry_at s c) (λ areas. hold areas a ≡ true)

-- the book has a formula exactly where the support has a cell, and there the areas are those of the formula
abbrev pub IsSupportOf : Book → CellAreas → Type 0
IsSupportOf b s = (c : Addr) → entry_at s c ≡ option_map (areas c) (formula_at b c)

-- one of the areas of a cell is cut into blocks of which this is one
abbrev pub is_read : Option (List Area) → Block → Bool
is_read (Some areas) k = is_block_in areas k
is_read None k = false

-- one of the areas has these corners
abbrev pub is_area_in : List Area → Corners → Bool
is_area_in areas a = list_any (λ r. same_corners (corners r) a) areas

-- one of the areas of a cell has
abbrev pub is_area_of : Option (List Area) → Corners → Bool
is_area_of (Some areas) a = is_area_in areas a
is_area_of None a = false

-- the entries of a map, each vector as a list
abbrev pub listed : List (Addr × Vec Area) → CellAreas
listed [] = []
listed (e ∷ rest) = (e.0, e.1.items) ∷ listed rest

-- the keys are exactly the blocks that the areas of the readers are cut into, once for all readers of an area
abbrev pub AreCut : List Key → List Reader → Type 0
AreCut keys readers = (k : Key) → has_key keys k ≡ (has_area readers k.area && is_block_of (area_between k.area) k.block)

-- cells in order with areas of sheets, readers that are exactly the cells with each of their areas, and the blocks of these areas
pub record IsIndexed (s : CellAreas) (keys : List Key) (readers : List Reader) : Type 0 where
  pub in_order : InOrder (addresses s)
  pub areas : (c : Addr) → IfSome (entry_at s c) (All IsArea)
  pub reads : (x : Reader) → has_reader readers x ≡ is_area_of (entry_at s x.cell) x.area
  pub cut : AreCut keys readers
