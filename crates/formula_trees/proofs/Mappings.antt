-- A formula whose references, ranges and texts are replaced is sound, and has texts and sheets, where the replacements do.
use Rattle.std.proofs.Common.{◌≡◌, ℕ, suc, ◌+◌, ◌≤◌, max, cond, refl, ap, sym, subst}
use Rattle.std.specs.Prelude.{nat_lt, IsSome}
use Rattle.cell_values.specs.declared.address.Addr.{Addr}
use Rattle.cell_values.specs.declared.interned.TextId.{TextId}
use Rattle.formula_trees.specs.declared.functions.Kind.{Kind}
use Rattle.formula_trees.specs.declared.functions.Kind.TheVariants.{Plain, Place, Many, Exact}
use Rattle.formula_trees.specs.declared.tree.Fun.{Fun}
use Rattle.formula_trees.specs.declared.tree.Reference.{Reference}
use Rattle.formula_trees.specs.declared.TheConstants.{MAX_NODES, MAX_LEVELS}
use Rattle.formula_trees.specs.declared.levels.TheConstants.{SIGN_LEVEL, OPERAND_LEVEL}
use Rattle.formula_trees.specs.Expr.{Expr, Exprs, Number, Text, Truth, Ref, Range, RefError, Unary, Binary, Call, End, More}
use Rattle.formula_trees.specs.References.{resolve}
use Rattle.formula_trees.specs.Functions.{kind_of}
use Rattle.formula_trees.specs.Sound.{IsSound, IsExpression, HasArguments, IsRange, IsPlace, RangeOr, OfKind, nodes, nodes_of, levels, levels_of, level_of, op_level, in_parentheses}
use Rattle.formula_trees.specs.Mapped.{mapped, all_mapped}
use Rattle.formula_trees.specs.SheetNumbers.{SheetBelow, SheetsBelow, AllSheetsBelow}
use Rattle.formula_trees.specs.TextNumbers.{TextsBelow, AllTextsBelow}

-- a tree that is one node, opens no level and needs no parentheses
pub record IsLeaf (e : Expr) : Type 0 where
  pub one : nodes e ≡ 1
  pub flat : levels e ≡ 0
  pub operand : level_of e ≡ OPERAND_LEVEL

-- a reference of the sheet, or `#REF!`
abbrev pub IsCell : Addr → Expr → Type 0
IsCell to (Ref r) = IsSome (resolve to r)
IsCell to RefError = Unit {0}
IsCell to _ = ⊥

-- a range of the sheet, or `#REF!`
abbrev pub IsCells : Addr → Expr → Type 0
IsCells to (Range r s) = IsRange to r s
IsCells to RefError = Unit {0}
IsCells to _ = ⊥

pub leaf_ref : (r : Reference) → IsLeaf (Ref r)
leaf_ref r = record { one = refl; flat = refl; operand = refl }

pub leaf_range : (r s : Reference) → IsLeaf (Range r s)
leaf_range r s = record { one = refl; flat = refl; operand = refl }

pub leaf_error : IsLeaf RefError
leaf_error = record { one = refl; flat = refl; operand = refl }

-- what replaces a reference may stand wherever one may
cell_stands : (to : Addr) (e : Expr) → IsCell to e → IsExpression to e × IsPlace to e × RangeOr to e (IsExpression to e)
cell_stands to (Ref r) h = (h, h, h)
cell_stands to RefError h = (tt, tt, tt)
cell_stands to (Number n) h = absurd h
cell_stands to (Text t) h = absurd h
cell_stands to (Truth b) h = absurd h
cell_stands to (Range r s) h = absurd h
cell_stands to (Unary s a) h = absurd h
cell_stands to (Binary o a b) h = absurd h
cell_stands to (Call f args) h = absurd h

-- what replaces a range may stand wherever one may
cells_stand : (to : Addr) (e : Expr) → IsCells to e → IsPlace to e × RangeOr to e (IsExpression to e)
cells_stand to (Range r s) h = (h, h)
cells_stand to RefError h = (tt, tt)
cells_stand to (Number n) h = absurd h
cells_stand to (Text t) h = absurd h
cells_stand to (Truth b) h = absurd h
cells_stand to (Ref r) h = absurd h
cells_stand to (Unary s a) h = absurd h
cells_stand to (Binary o a b) h = absurd h
cells_stand to (Call f args) h = absurd h

-- replacements for the cell `to` of what stands at the cell `from`
pub record Repoints (from to : Addr) (cell : Reference → Expr) (range : Reference → Reference → Expr) : Type 0 where
  pub cell_leaf : (r : Reference) → IsLeaf (cell r)
  pub range_leaf : (r s : Reference) → IsLeaf (range r s)
  pub cell_there : (r : Reference) → IsSome (resolve from r) → IsCell to (cell r)
  pub range_there : (r s : Reference) → IsRange from r s → IsCells to (range r s)

module _ (from to : Addr) (cell : Reference → Expr) (range : Reference → Reference → Expr) (text : TextId → TextId) (replaces : Repoints from to cell range) where
  abbrev new : Expr → Expr
  new e = mapped cell range text e

  abbrev all_new : Exprs → Exprs
  all_new args = all_mapped cell range text args

  level_same : (e : Expr) → level_of (new e) ≡ level_of e
  level_same (Number n) = refl
  level_same (Text t) = refl
  level_same (Truth b) = refl
  level_same (Ref r) = (replaces.cell_leaf r).operand
  level_same (Range r s) = (replaces.range_leaf r s).operand
  level_same RefError = refl
  level_same (Unary s a) = refl
  level_same (Binary o a b) = refl
  level_same (Call f args) = refl

  mutual
    nodes_same : (e : Expr) → nodes (new e) ≡ nodes e
    nodes_same (Number n) = refl
    nodes_same (Text t) = refl
    nodes_same (Truth b) = refl
    nodes_same (Ref r) = (replaces.cell_leaf r).one
    nodes_same (Range r s) = (replaces.range_leaf r s).one
    nodes_same RefError = refl
    nodes_same (Unary s a) = ap suc (nodes_same a)
    nodes_same (Binary o a b) = λ i. suc (nodes_same a i + nodes_same b i)
    nodes_same (Call f args) = ap suc (all_nodes_same args)

    all_nodes_same : (args : Exprs) → nodes_of (all_new args) ≡ nodes_of args
    all_nodes_same End = refl
    all_nodes_same (More a rest) = λ i. nodes_same a i + all_nodes_same rest i

  around_same : (least : ℕ) (a : Expr) → levels (new a) ≡ levels a → in_parentheses least (new a) (levels (new a)) ≡ in_parentheses least a (levels a)
  around_same least a p = λ i. cond (nat_lt (level_same a i) least) (suc (p i)) (p i)

  mutual
    levels_same : (e : Expr) → levels (new e) ≡ levels e
    levels_same (Number n) = refl
    levels_same (Text t) = refl
    levels_same (Truth b) = refl
    levels_same (Ref r) = (replaces.cell_leaf r).flat
    levels_same (Range r s) = (replaces.range_leaf r s).flat
    levels_same RefError = refl
    levels_same (Unary s a) = ap suc (around_same SIGN_LEVEL a (levels_same a))
    levels_same (Binary o a b) = λ i. max (around_same (op_level o) a (levels_same a) i) (around_same (suc (op_level o)) b (levels_same b) i)
    levels_same (Call f args) = ap suc (all_levels_same args)

    all_levels_same : (args : Exprs) → levels_of (all_new args) ≡ levels_of args
    all_levels_same End = refl
    all_levels_same (More a rest) = λ i. max (levels_same a i) (all_levels_same rest i)

  argument_stands : (k : Kind) (e : Expr) → (IsExpression from e → IsExpression to (new e)) → OfKind from k e (IsExpression from e) → OfKind to k (new e) (IsExpression to (new e))
  argument_stands Plain e keeps h = keeps h
  argument_stands Place (Ref r) keeps h = (cell_stands to (cell r) (replaces.cell_there r h)).1
  argument_stands Place (Range r s) keeps h = (cells_stand to (range r s) (replaces.range_there r s h)).0
  argument_stands Place RefError keeps h = tt
  argument_stands Place (Number n) keeps h = absurd h
  argument_stands Place (Text t) keeps h = absurd h
  argument_stands Place (Truth b) keeps h = absurd h
  argument_stands Place (Unary s a) keeps h = absurd h
  argument_stands Place (Binary o a b) keeps h = absurd h
  argument_stands Place (Call f args) keeps h = absurd h
  argument_stands Many (Number n) keeps h = keeps h
  argument_stands Many (Text t) keeps h = tt
  argument_stands Many (Truth b) keeps h = tt
  argument_stands Many (Ref r) keeps h = (cell_stands to (cell r) (replaces.cell_there r h)).2
  argument_stands Many (Range r s) keeps h = (cells_stand to (range r s) (replaces.range_there r s h)).1
  argument_stands Many RefError keeps h = tt
  argument_stands Many (Unary s a) keeps h = keeps h
  argument_stands Many (Binary o a b) keeps h = keeps h
  argument_stands Many (Call f args) keeps h = keeps h
  argument_stands Exact (Number n) keeps h = h
  argument_stands Exact (Truth b) keeps h = h
  argument_stands Exact (Text t) keeps h = absurd h
  argument_stands Exact (Ref r) keeps h = absurd h
  argument_stands Exact (Range r s) keeps h = absurd h
  argument_stands Exact RefError keeps h = absurd h
  argument_stands Exact (Unary s a) keeps h = absurd h
  argument_stands Exact (Binary o a b) keeps h = absurd h
  argument_stands Exact (Call f args) keeps h = absurd h

  mutual
    stands : (e : Expr) → IsExpression from e → IsExpression to (new e)
    stands (Number n) h = h
    stands (Text t) h = tt
    stands (Truth b) h = tt
    stands (Ref r) h = (cell_stands to (cell r) (replaces.cell_there r h)).0
    stands (Range r s) h = absurd h
    stands RefError h = tt
    stands (Unary s a) h = stands a h
    stands (Binary o a b) h = (stands a h.0, stands b h.1)
    stands (Call f args) h = arguments_stand f 0 args h

    arguments_stand : (f : Fun) (n : ℕ) (args : Exprs) → HasArguments from f n args → HasArguments to f n (all_new args)
    arguments_stand f n End h = h
    arguments_stand f n (More a rest) h = (h.0, argument_stands (kind_of f n) a (stands a) h.1, arguments_stand f (suc n) rest h.2)

  -- a sound formula stays one
  pub sound_mapped : (e : Expr) → IsSound from e → IsSound to (new e)
  sound_mapped e h = record {
    shape = stands e h.shape;
    small = subst (λ n. n ≤ MAX_NODES) (sym (nodes_same e)) h.small;
    flat = subst (λ n. n ≤ MAX_LEVELS) (sym (levels_same e)) h.flat;
  }

-- each text of the new formula is what replaces one of the old
mutual
  pub texts_mapped : (meant kept : ℕ → Type 0) (cell : Reference → Expr) (range : Reference → Reference → Expr) (text : TextId → TextId) → ((t : TextId) → meant t.0 → kept (text t).0) → ((r : Reference) → TextsBelow kept (cell r)) → ((r s : Reference) → TextsBelow kept (range r s))
      → (e : Expr) → TextsBelow meant e → TextsBelow kept (mapped cell range text e)
  texts_mapped meant kept cell range text one c r (Number n) h = tt
  texts_mapped meant kept cell range text one c r (Text t) h = one t h
  texts_mapped meant kept cell range text one c r (Truth b) h = tt
  texts_mapped meant kept cell range text one c r (Ref x) h = c x
  texts_mapped meant kept cell range text one c r (Range x y) h = r x y
  texts_mapped meant kept cell range text one c r RefError h = tt
  texts_mapped meant kept cell range text one c r (Unary s a) h = texts_mapped meant kept cell range text one c r a h
  texts_mapped meant kept cell range text one c r (Binary o a b) h = (texts_mapped meant kept cell range text one c r a h.0, texts_mapped meant kept cell range text one c r b h.1)
  texts_mapped meant kept cell range text one c r (Call f args) h = all_texts_mapped meant kept cell range text one c r args h

  all_texts_mapped : (meant kept : ℕ → Type 0) (cell : Reference → Expr) (range : Reference → Reference → Expr) (text : TextId → TextId) → ((t : TextId) → meant t.0 → kept (text t).0) → ((r : Reference) → TextsBelow kept (cell r)) → ((r s : Reference) → TextsBelow kept (range r s))
      → (args : Exprs) → AllTextsBelow meant args → AllTextsBelow kept (all_mapped cell range text args)
  all_texts_mapped meant kept cell range text one c r End h = tt
  all_texts_mapped meant kept cell range text one c r (More a rest) h = (texts_mapped meant kept cell range text one c r a h.0, all_texts_mapped meant kept cell range text one c r rest h.1)

-- each sheet that the new formula names is one that a replacement names
mutual
  pub sheets_mapped : (n m : ℕ) (cell : Reference → Expr) (range : Reference → Reference → Expr) (text : TextId → TextId) → ((r : Reference) → SheetBelow n r.sheet → SheetsBelow m (cell r)) → ((r s : Reference) → SheetBelow n r.sheet → SheetsBelow m (range r s))
      → (e : Expr) → SheetsBelow n e → SheetsBelow m (mapped cell range text e)
  sheets_mapped n m cell range text c r (Number k) h = tt
  sheets_mapped n m cell range text c r (Text t) h = tt
  sheets_mapped n m cell range text c r (Truth b) h = tt
  sheets_mapped n m cell range text c r (Ref x) h = c x h
  sheets_mapped n m cell range text c r (Range x y) h = r x y h
  sheets_mapped n m cell range text c r RefError h = tt
  sheets_mapped n m cell range text c r (Unary s a) h = sheets_mapped n m cell range text c r a h
  sheets_mapped n m cell range text c r (Binary o a b) h = (sheets_mapped n m cell range text c r a h.0, sheets_mapped n m cell range text c r b h.1)
  sheets_mapped n m cell range text c r (Call f args) h = all_sheets_mapped n m cell range text c r args h

  all_sheets_mapped : (n m : ℕ) (cell : Reference → Expr) (range : Reference → Reference → Expr) (text : TextId → TextId) → ((r : Reference) → SheetBelow n r.sheet → SheetsBelow m (cell r)) → ((r s : Reference) → SheetBelow n r.sheet → SheetsBelow m (range r s))
      → (args : Exprs) → AllSheetsBelow n args → AllSheetsBelow m (all_mapped cell range text args)
  all_sheets_mapped n m cell range text c r End h = tt
  all_sheets_mapped n m cell range text c r (More a rest) h = (sheets_mapped n m cell range text c r a h.0, all_sheets_mapped n m cell range text c r rest h.1)
