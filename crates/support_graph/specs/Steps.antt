-- What the steps of an index and of a search do.
use Rattle.std.specs.Prelude.{◌≡◌, ℕ, ◌+◌, ◌<◌, ◌≤◌, Bool, true, false, not, ◌&&◌, ◌||◌, ◌==◌, nat_lt, nat_le, ◌⊎◌, List, [], ◌∷◌, ◌++◌, length, Option, Some, None, is_some, IsSomeAnd}
use Rattle.std.specs.List.{list_any, filter}
use Rattle.cell_values.specs.declared.address.Addr.{Addr}
use Rattle.cell_values.specs.declared.address.Area.{Area}
use Rattle.cell_values.specs.Addresses.{same_addr, IsBefore}
use Rattle.cell_values.specs.Areas.{is_inside}
use Rattle.demand_spec.specs.Laws.{In}
use Rattle.support_graph.specs.declared.block.Block.{Block}
use Rattle.support_graph.specs.declared.block.Corners.{Corners}
use Rattle.support_graph.specs.declared.block.Key.{Key}
use Rattle.support_graph.specs.declared.block.Reader.{Reader}
use Rattle.support_graph.specs.declared.search.Search.{Search}
use Rattle.support_graph.specs.Blocks.{halves, is_end, is_cut, is_block_of, same_block, area_between, same_corners, same_key, has_key, has_reader, reads_block}
use Rattle.cell_values.specs.Order.{entry_at}
use Rattle.support_graph.specs.Support.{CellAreas, is_read, is_area_in, IsCell, Reads}
use Rattle.support_graph.specs.Pending.{Reached}

-- what passes the test was put in, or taken out, if all went well, and nothing else was touched
pub record Changes {K : Type 0} (has : List K → K → Bool) (test : K → Bool) (present ok : Bool) (old new : List K) : Type 0 where
  pub others : (k : K) → test k ≡ false → has new k ≡ has old k
  pub done : ok ≡ true → (k : K) → test k ≡ true → has new k ≡ present

-- of keys
abbrev pub Sets : (Key → Bool) → Bool → Bool → List Key → List Key → Type 0
Sets = Changes has_key

-- of readers
abbrev pub SetsReaders : (Reader → Bool) → Bool → Bool → List Reader → List Reader → Type 0
SetsReaders = Changes has_reader

-- the key of an area at a block of a level, if there is one
abbrev pub is_end_key : Corners → Block → Option ℕ → Key → Bool
is_end_key a b None k = false
is_end_key a b (Some n) k = same_key (record { block = record b { number = n }; area = a }) k

-- the keys of an area at the ends of the blocks of a level from that of `b` up to and without `high`
abbrev pub is_level_key : Corners → Block → ℕ → Key → Bool
is_level_key a b high k = same_corners a k.area && ((b.sheet == k.block.sheet) && ((b.col == k.block.col) && ((b.level == k.block.level) && is_end b.number high k.block.number)))

-- the keys of an area at its blocks in one column, below a level
abbrev pub is_column_key : Corners → ℕ → ℕ → Key → Bool
is_column_key a col levels k = same_corners a k.area && ((a.first.sheet == k.block.sheet) && ((col == k.block.col) && (nat_lt k.block.level levels && is_cut a.first.row a.last.row k.block.level k.block.number)))

-- the keys of an area at its blocks
abbrev pub is_area_key : Corners → Key → Bool
is_area_key a k = same_corners a k.area && is_block_of (area_between a) k.block

-- the cell as a reader of each of these areas
abbrev pub is_cell_reader : Addr → List Area → Reader → Bool
is_cell_reader c areas x = same_addr c x.cell && is_area_in areas x.area

-- no area ends behind the last column
abbrev pub EndInSheet : List Key → Type 0
EndInSheet keys = (k : Key) → has_key keys k ≡ true → k.area.last.col ≤ 256

-- how many of the cells are not seen yet, and how many are still to be visited
abbrev pub unseen : List Addr → Search → ℕ
unseen cells s = length (filter (λ c. not (list_any (same_addr c) s.seen.keys)) cells) + length s.todo.items

-- the cell was seen, or was pending before the search
abbrev pub IsMet : Search → Addr → Type 0
IsMet s c = In c s.seen.keys ⊎ In c s.pending.now

-- the cells of which `P` holds were seen but for those that were pending before, and the new ones are to be visited
pub record Visits (P : Addr → Type 0) (old new : Search) : Type 0 where
  pub pending : new.pending.now ≡ old.pending.now
  pub stays : (c : Addr) → In c old.seen.keys → In c new.seen.keys
  pub found : (c : Addr) → P c → IsMet new c
  pub only : (c : Addr) → In c new.seen.keys → In c old.seen.keys ⊎ P c
  pub queued : (c : Addr) → In c new.seen.keys → In c old.seen.keys ⊎ In c new.todo.items
  pub kept : (c : Addr) → In c old.todo.items → In c new.todo.items
  pub known : (c : Addr) → In c new.todo.items → In c old.todo.items ⊎ In c new.seen.keys
  pub ends : (cells : List Addr) → ((c : Addr) → P c → In c cells) → unseen cells new ≤ unseen cells old

-- the first cell was put behind the list, or the second one was: unless it is the first, which is to come
abbrev pub TookOne : Bool → Addr → Addr → List Addr → List Addr → Type 0
TookOne true a b old new = IsBefore a b × (new ≡ old ++ a ∷ [])
TookOne false a b old new = (IsBefore b a × (new ≡ old ++ b ∷ [])) ⊎ ((a ≡ b) × (new ≡ old))

-- the cell reads an area that was cut into a block of the level, from that of `b` up to the one with the number `last`
pub record InBlocks (keys : List Key) (readers : List Reader) (b : Block) (last : ℕ) (c : Addr) : Type 0 where
  pub number : ℕ
  pub from : b.number ≤ number
  pub to : number ≤ last
  pub there : reads_block keys readers (record b { number = number }) c ≡ true

abbrev pub block_at : ℕ → ℕ → ℕ → ℕ → Block
block_at sheet col level number = record { sheet = sheet; col = col; level = level; number = number }

-- the same at a level below `levels`, and the blocks are those of the rows from `top` to `bottom` of a column
pub record InColumn (keys : List Key) (readers : List Reader) (sheet col top bottom levels : ℕ) (c : Addr) : Type 0 where
  pub level : ℕ
  pub below : level < levels
  pub there : InBlocks keys readers (block_at sheet col level (halves level top)) (halves level bottom) c

-- the cells that read an area at one of these blocks were met
abbrev pub AreSeen : List Key → List Reader → List Block → Search → Type 0
AreSeen keys readers blocks search = (b : Block) (c : Addr) → list_any (same_block b) blocks ≡ true → reads_block keys readers b c ≡ true → IsMet search c

-- the same, of the cells whose areas were cut into these blocks
abbrev pub AreRead : CellAreas → List Block → Search → Type 0
AreRead s blocks search = (b : Block) (c : Addr) → list_any (same_block b) blocks ≡ true → is_read (entry_at s c) b ≡ true → IsMet search c

-- the area has some of the rows of the column
abbrev pub meets : ℕ → ℕ → ℕ → ℕ → Area → Bool
meets sheet col top bottom r = (r.sheet == sheet) && (nat_le r.top bottom && nat_le top r.bottom) && (nat_le r.left col && nat_le col r.right)

-- one of the areas of the cell has some
abbrev pub ReadsRows : CellAreas → ℕ → ℕ → ℕ → ℕ → Addr → Type 0
ReadsRows s sheet col top bottom c = IsSomeAnd (entry_at s c) (λ areas. list_any (meets sheet col top bottom) areas ≡ true)

-- the cell has an area that holds a cell of another area, in a column before `end`
pub record ReadsArea (s : CellAreas) (area : Area) (end : ℕ) (c : Addr) : Type 0 where
  pub at : Addr
  pub before : at.col < end
  pub inside : is_inside area at ≡ true
  pub reads : Reads s c at

-- a search over the support from the cells that pass a test on: what is seen is reached, and what reads a cell that is
-- seen is met or still to be visited
pub record IsSearch (s : CellAreas) (from : Addr → Bool) (search : Search) : Type 0 where
  pub reached : (c : Addr) → In c search.seen.keys → IsCell s c × Reached s from c
  pub cells : (c : Addr) → IsCell s c → from c ≡ true → IsMet search c
  pub readers : (a c : Addr) → from a ≡ true → Reads s c a → IsMet search c
  pub closed : (a c : Addr) → In a search.seen.keys → Reads s c a → IsMet search c ⊎ In a search.todo.items
  pub todo : (a : Addr) → In a search.todo.items → In a search.seen.keys

-- what a search over the support from the cells that pass a test on finds, where these cells were pending before
pub record IsFrontier (s : CellAreas) (pending : List Addr) (from : Addr → Bool) (found : List Addr) : Type 0 where
  pub reached : (c : Addr) → In c found → IsCell s c × Reached s from c
  pub cells : (c : Addr) → IsCell s c → from c ≡ true → In c found ⊎ In c pending
  pub readers : (a c : Addr) → from a ≡ true → Reads s c a → In c found ⊎ In c pending
  pub closed : (a c : Addr) → In a found → Reads s c a → In c found ⊎ In c pending

-- the cell lies outside the area, or is one of the support
abbrev pub stays : CellAreas → Area → Addr → Bool
stays s area c = not (is_inside area c) || is_some (entry_at s c)
