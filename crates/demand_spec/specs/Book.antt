-- A book, and what its cells show by rounds over the whole book.
use Rattle.std.specs.Option.{option_or}
use Rattle.std.specs.Prelude.{ℕ, zero, suc, ℤ, Bool, false, cond, Option, Some, None, option_and_then, List, [], ◌∷◌, length}
use Rattle.cell_values.specs.declared.address.Addr.{Addr}
use Rattle.cell_values.specs.declared.values.Value.{Value}
use Rattle.cell_values.specs.declared.interned.TextId.{TextId}
use Rattle.formula_trees.specs.Expr.{Expr}
use Rattle.demand_spec.specs.declared.Asked.{Asked}
use Rattle.demand_spec.specs.declared.Asked.TheVariants.{Val, Needs}
use Rattle.cell_values.specs.declared.values.Shown.{Shown}
use Rattle.demand_spec.specs.Plan.{run}
use Rattle.cell_values.specs.Texts.{Texts}
use Rattle.cell_values.specs.Addresses.{same_addr}
use Rattle.cell_values.specs.Order.{entry_at}
use Rattle.demand_spec.specs.Formula.{plan}

-- what a cell holds
pub data Content : Type 0 where
  Number : ℤ → Content
  Text : TextId → Content
  Truth : Bool → Content
  Formula : Expr → Content

-- the cells in order, each address once, and the texts
pub record Book : Type 0 where
  pub cells : List (Addr × Content)
  pub texts : Texts

abbrev pub formula_of : Option Content → Option Expr
formula_of (Some (Number n)) = None
formula_of (Some (Text t)) = None
formula_of (Some (Truth b)) = None
formula_of (Some (Formula t)) = Some t
formula_of None = None

-- the value of a cell without a formula
abbrev pub own_of : Option Content → Value
own_of (Some (Number n)) = Value.Number n
own_of (Some (Text t)) = Value.Text t
own_of (Some (Truth b)) = Value.Bool b
own_of (Some (Formula t)) = Value.Blank
own_of None = Value.Blank

unfoldable pub formula_at : Book → Addr → Option Expr
formula_at b a = formula_of (entry_at b.cells a)

unfoldable pub own : Book → Addr → Value
own b a = own_of (entry_at b.cells a)

-- the values that are known
abbrev pub Known : Type 0
Known = Addr → Option Value

-- a cell's value, as far as it is known
abbrev pub look_at : Option Expr → Value → Option Value → Addr → Asked
look_at None v known a = Val v
look_at (Some t) v (Some w) a = Val w
look_at (Some t) v None a = Needs a

abbrev pub look : Book → Known → Addr → Asked
look b e a = look_at (formula_at b a) (own b a) (e a) a

abbrev pub ask : Book → Known → Addr → Expr → Asked
ask b e at t = run (look b e) (plan b.texts at t)

-- what the formula of a cell gives, none at a cell without one
abbrev pub ask_formula : Book → Known → Addr → Option Expr → Option Asked
ask_formula b e at (Some t) = Some (ask b e at t)
ask_formula b e at None = None

unfoldable pub ask_cell : Book → Known → Addr → Option Asked
ask_cell b e c = ask_formula b e c (formula_at b c)

abbrev pub value_given : Option Asked → Option Value
value_given (Some (Val v)) = Some v
value_given _ = None

abbrev pub cell_needed : Option Asked → Option Addr
cell_needed (Some (Needs x)) = Some x
cell_needed _ = None

-- one round over the whole book
abbrev pub round : Book → Known → Known
round b e = λ c. value_given (ask_cell b e c)

abbrev pub rounds : Book → ℕ → Known
rounds b zero = λ c. None
rounds b (suc k) = round b (rounds b k)

abbrev pub with_formula : Addr → Content → List Addr → List Addr
with_formula a (Number n) rest = rest
with_formula a (Text t) rest = rest
with_formula a (Truth b) rest = rest
with_formula a (Formula t) rest = a ∷ rest

abbrev pub formulas_in : List (Addr × Content) → List Addr
formulas_in [] = []
formulas_in (c ∷ rest) = with_formula c.0 c.1 (formulas_in rest)

unfoldable pub formulas : Book → List Addr
formulas b = formulas_in b.cells

unfoldable pub finished : Book → Known
finished b = rounds b (length (formulas b))

-- the first cell that a formula cell still needs, none at a finished cell
unfoldable pub need : Book → Addr → Option Addr
need b c = cell_needed (ask_cell b (finished b) c)

-- `need`, applied `j` times
abbrev pub follow : Book → ℕ → Addr → Option Addr
follow b zero c = Some c
follow b (suc j) c = option_and_then (need b) (follow b j c)

abbrev pub is_at : Addr → Option Addr → Bool
is_at a (Some x) = same_addr a x
is_at a None = false

-- the least of 1 to `n` steps of `need` that come back to `c`
abbrev pub period : Book → ℕ → Addr → Option ℕ
period b zero c = None
period b (suc n) c = option_or (period b n c) (cond (is_at c (follow b (suc n) c)) (Some (suc n)) None)

-- the mark of a cell that gets no value: on a loop with its length, else on the way into one
abbrev pub mark_from : Option ℕ → Shown
mark_from (Some n) = Shown.Cycle n
mark_from None = Shown.ToCycle

abbrev pub shown_from : Option Expr → Value → Option Value → Option ℕ → Shown
shown_from None v f p = Shown.Val v
shown_from (Some t) v (Some w) p = Shown.Val w
shown_from (Some t) v None p = mark_from p

unfoldable pub shown : Book → Addr → Shown
shown b c = shown_from (formula_at b c) (own b c) (finished b c) (period b (length (formulas b)) c)
