-- What the entries of a pool stand for.
use Rattle.std.specs.Prelude.{◌≡◌, ℕ, suc, ◌<◌, ◌≤◌, ◌+◌, ℤ, max, Option, Some, Result, Ok, Err, List, flat_map, slice_get, [], ◌∷◌, ◌++◌, length, take, drop, slice_index_or}
use Rattle.std.specs.Ordering.{int_cmp}
use Rattle.std.specs.Cmp.Lexicographic.{slice_cmp}
use Rattle.std.specs.BTreeMap.{get_by}
use Rattle.cell_values.specs.declared.address.Addr.{Addr}
use Rattle.cell_values.specs.declared.address.Area.{Area}
use Rattle.formula_trees.specs.Mentions.{areas}
use Rattle.formula_trees.specs.Expr.{Expr, Exprs, End, More}
use Rattle.shared_expressions.specs.declared.nodes.Node.{Node}
use Rattle.shared_expressions.specs.declared.store.Entry.{Entry}
use Rattle.shared_expressions.specs.declared.store.Store.{Store}
use Rattle.shared_expressions.specs.Trees.{Trees, expr_at, depth, KeepsTrees, StandsFor, IsThere}
use Rattle.shared_expressions.specs.Keys.{key_of}

-- the expressions with these numbers
abbrev pub row : Trees → List ℕ → Exprs
row p [] = End
row p (c ∷ cs) = More (expr_at p c) (row p cs)

-- a node without children
abbrev pub leaf : Node → Expr
leaf (Node.Number n) = Expr.Number n
leaf (Node.Text t) = Expr.Text t
leaf (Node.Bool b) = Expr.Truth b
leaf (Node.Ref r) = Expr.Ref r
leaf (Node.Range r s) = Expr.Range r s
leaf _ = Expr.RefError

-- a node over its children
abbrev pub seen : Trees → Node → List ℕ → Expr
seen p (Node.Unary s) xs = Expr.Unary s (expr_at p (slice_index_or xs 0 0))
seen p (Node.Binary o) xs = Expr.Binary o (expr_at p (slice_index_or xs 0 0)) (expr_at p (slice_index_or xs 1 0))
seen p (Node.Call f) xs = Expr.Call f (row p xs)
seen p n xs = leaf n

-- an entry's children
abbrev pub parts : List ℕ → Entry → List ℕ
parts cs e = take e.count (drop e.first cs)

-- further entries over the expressions so far
abbrev pub grown : List ℕ → Trees → List Entry → Trees
grown cs p [] = p
grown cs p (e ∷ es) = grown cs (p ++ seen p e.node (parts cs e) ∷ []) es

abbrev pub no_entry : Entry
no_entry = record { node = Node.RefError; first = 0; count = 0; depth = 1 }

-- where there is no entry
abbrev pub entry_at : List Entry → ℕ → Entry
entry_at es i = slice_index_or es i no_entry

-- the expressions of a store
abbrev pub trees : Store → Trees
trees s = grown s.children.items [] s.entries.items

-- as many children as the node has
abbrev pub HasCount : Node → ℕ → Type 0
HasCount (Node.Unary s) n = n ≡ 1
HasCount (Node.Binary o) n = n ≡ 2
HasCount (Node.Call f) n = Unit {0}
HasCount _ n = n ≡ 0

abbrev pub AllBelow : ℕ → List ℕ → Type 0
AllBelow i [] = Unit {0}
AllBelow i (x ∷ xs) = (x < i) × AllBelow i xs

-- an entry's children lie below it
pub record IsEntry (cs : List ℕ) (i : ℕ) (e : Entry) : Type 0 where
  pub within : e.first + e.count ≤ length cs
  pub counted : HasCount e.node e.count
  pub children : AllBelow i (parts cs e)
  pub shallow : e.depth ≤ suc i

-- equal expressions have one number
abbrev pub IsOneToOne : Trees → Type 0
IsOneToOne p = (i j : ℕ) → i < length p → j < length p → expr_at p i ≡ expr_at p j → i ≡ j

pub record IsPool (cs : List ℕ) (es : List Entry) : Type 0 where
  pub entries : (i : ℕ) → IsEntry cs i (entry_at es i)
  pub single : IsOneToOne (grown cs [] es)
  pub depths : (i : ℕ) → (entry_at es i).depth ≡ depth (expr_at (grown cs [] es) i)

-- the key of an entry
abbrev pub key_at : List ℕ → List Entry → ℕ → List ℤ
key_at cs es i = key_of (entry_at es i).node (parts cs (entry_at es i))

-- the number that the index has for a key
abbrev pub number_of : Store → List ℤ → Option ℕ
number_of s q = get_by (λ k. slice_cmp int_cmp q k.items) s.index

-- the index has each entry under its key, and nothing else
pub record IsIndexed (cs : List ℕ) (es : List Entry) (number : List ℤ → Option ℕ) : Type 0 where
  pub pool : IsPool cs es
  pub there : (i : ℕ) → i < length es → number (key_at cs es i) ≡ Some i
  pub found : (q : List ℤ) (i : ℕ) → number q ≡ Some i → (i < length es) × (key_at cs es i ≡ q)

abbrev pub IsStore : Store → Type 0
IsStore s = IsIndexed s.children.items s.entries.items (number_of s)

-- the depth of the deepest of some entries
abbrev pub deepest : List Entry → List ℕ → ℕ
deepest es [] = 0
deepest es (x ∷ xs) = max (entry_at es x).depth (deepest es xs)

-- arguments, and then others
abbrev pub joined : Exprs → Exprs → Exprs
joined End ys = ys
joined (More x xs) ys = More x (joined xs ys)

-- the number is an entry's, it stands for the expression, and no other one does
pub record Stands (s : Store) (i : ℕ) (e : Expr) : Type 0 where
  pub entry : i < length s.entries.items
  pub number : StandsFor (trees s) (record { 0 = i }) e

-- the same numbers for the same expressions, and maybe more
pub record Grows (s t : Store) : Type 0 where
  pub longer : length s.entries.items ≤ length t.entries.items
  pub trees : KeepsTrees (trees s) (trees t)

-- the areas of some expressions, one after the other
abbrev pub areas_below : Addr → Trees → List ℕ → List Area
areas_below at p xs = flat_map (λ x. areas at (expr_at p x)) xs

-- the area with a number, or how far the number lies behind the areas
abbrev pub Picks : List Area → ℕ → Result Area ℕ → Type 0
Picks xs k (Ok a) = slice_get xs k ≡ Some a
Picks xs k (Err further) = k ≡ length xs + further

-- all of these arguments are among the expressions
abbrev pub AllThere : Trees → Exprs → Type 0
AllThere p End = Unit {0}
AllThere p (More a rest) = IsThere p a × AllThere p rest
