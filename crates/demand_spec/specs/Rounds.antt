-- Rounds over a list of cells, one after the other.
use Rattle.std.specs.Prelude.{Bool, false, not, cond, ◌||◌, Option, Some, None, is_some, List, [], ◌∷◌}
use Rattle.cell_values.specs.declared.address.Addr.{Addr}
use Rattle.cell_values.specs.declared.values.Value.{Value}
use Rattle.cell_values.specs.Addresses.{same_addr}
use Rattle.demand_spec.specs.Book.{Book, Content, Known, formula_of, ask_formula, value_given}

-- a value on for a cell
abbrev pub put : Addr → Value → Known → Known
put a v e = λ x. cond (same_addr a x) (Some v) (e x)

-- a value on, where there is one
abbrev pub put_given : Addr → Option Value → Known → Known
put_given a (Some v) e = put a v e
put_given a None e = e

-- the value that a cell's formula gives, none without a formula or a value
abbrev pub given_at : Book → Known → Addr → Content → Option Value
given_at b e a x = value_given (ask_formula b e a (formula_of (Some x)))

-- the values that the cells give, each asked over `e`, put into `f`
abbrev pub round_from : Book → Known → Known → List (Addr × Content) → Known
round_from b e f [] = f
round_from b e f (c ∷ rest) = round_from b e (put_given c.0 (given_at b e c.0 c.1) f) rest

-- a value where none was known
abbrev pub is_new : Option Value → Option Value → Bool
is_new None known = false
is_new (Some v) known = not (is_some known)

-- a cell gives a value where none was known
abbrev pub adds : Book → Known → List (Addr × Content) → Bool
adds b e [] = false
adds b e (c ∷ rest) = is_new (given_at b e c.0 c.1) (e c.0) || adds b e rest
