-- The blocks that areas are cut into.
use Rattle.std.specs.Prelude.{ℕ, zero, suc, ◌+◌, ◌/◌, ◌%◌, Bool, ◌&&◌, ◌||◌, ◌==◌, nat_lt, nat_le, List}
use Rattle.std.specs.List.{list_any}
use Rattle.cell_values.specs.declared.address.Addr.{Addr}
use Rattle.cell_values.specs.declared.address.Area.{Area}
use Rattle.cell_values.specs.Addresses.{same_addr}
use Rattle.support_graph.specs.declared.block.Block.{Block}
use Rattle.support_graph.specs.declared.block.Corners.{Corners}
use Rattle.support_graph.specs.declared.block.Key.{Key}
use Rattle.support_graph.specs.declared.block.Reader.{Reader}

-- the block of a level that a row lies in
abbrev pub halves : ℕ → ℕ → ℕ
halves zero n = n
halves (suc level) n = halves level n / 2

-- the first block of a level that begins at a row or behind it
abbrev pub up_halves : ℕ → ℕ → ℕ
up_halves zero n = n
up_halves (suc level) n = suc (up_halves level n) / 2

-- the block is the lowest or the highest of some blocks of a level, and no half of a larger one that lies among them
abbrev pub is_end : ℕ → ℕ → ℕ → Bool
is_end low high number = nat_lt low high && ((low % 2 == 1 && number == low) || (high % 2 == 1 && suc number == high))

-- the rows from `top` to `bottom` are cut into blocks of which this is one
abbrev pub is_cut : ℕ → ℕ → ℕ → ℕ → Bool
is_cut top bottom level number = is_end (up_halves level top) (halves level (suc bottom)) number

-- the area is cut into blocks of which this is one
abbrev pub is_block_of : Area → Block → Bool
is_block_of r k = (r.sheet == k.sheet) && (nat_le r.left k.col && nat_le k.col r.right) && (nat_lt k.level 16 && is_cut r.top r.bottom k.level k.number)

-- one of the areas is
abbrev pub is_block_in : List Area → Block → Bool
is_block_in areas k = list_any (λ r. is_block_of r k) areas

abbrev pub same_block : Block → Block → Bool
same_block a b = (a.sheet == b.sheet) && ((a.col == b.col) && ((a.level == b.level) && (a.number == b.number)))

-- the corners of an area
abbrev pub corners : Area → Corners
corners r = record { first = record { sheet = r.sheet; row = r.top; col = r.left }; last = record { sheet = r.sheet; row = r.bottom; col = r.right } }

-- the area with these corners
abbrev pub area_between : Corners → Area
area_between a = record { sheet = a.first.sheet; top = a.first.row; left = a.first.col; bottom = a.last.row; right = a.last.col }

abbrev pub same_corners : Corners → Corners → Bool
same_corners a b = same_addr a.first b.first && same_addr a.last b.last

abbrev pub same_key : Key → Key → Bool
same_key a b = same_block a.block b.block && same_corners a.area b.area

abbrev pub same_reader : Reader → Reader → Bool
same_reader a b = same_corners a.area b.area && same_addr a.cell b.cell

-- the keys have this one
abbrev pub has_key : List Key → Key → Bool
has_key keys k = list_any (same_key k) keys

-- the readers have this one
abbrev pub has_reader : List Reader → Reader → Bool
has_reader readers x = list_any (same_reader x) readers

-- one of the readers reads the area
abbrev pub has_area : List Reader → Corners → Bool
has_area readers a = list_any (λ x. same_corners a x.area) readers

-- the cell reads an area that was cut into the block
abbrev pub reads_block : List Key → List Reader → Block → Addr → Bool
reads_block keys readers b c = list_any (λ k. same_block b k.block && has_reader readers (record { area = k.area; cell = c })) keys

-- no cell stands before this one
abbrev pub zero_addr : Addr
zero_addr = record { sheet = 0; row = 0; col = 0 }

-- no key of the block stands before this one
abbrev pub key_before : Block → Key
key_before b = record { block = b; area = record { first = zero_addr; last = zero_addr } }

-- no reader of the area stands before this one
abbrev pub reader_before : Corners → Reader
reader_before a = record { area = a; cell = zero_addr }

-- no corners stand between these and those of the area
abbrev pub next_corners : Corners → Corners
next_corners a = record a { last = record a.last { col = a.last.col + 1 } }
