use Rattle.cell_values.specs.declared.address.Addr.{Addr}
use Rattle.cell_values.specs.declared.values.Value.{Value}
use Rattle.demand_spec.specs.declared.Asked.{Asked}
use Rattle.demand_spec.specs.declared.Asked.TheVariants.{Val, Needs}

-- What a formula does: it gives a value, or it demands a cell and goes on with the cell's value.
pub data Plan : Type 0 where
  Give : Value → Plan
  Demand : Addr → (Value → Plan) → Plan

-- `p`, and then what `f` makes of its value
abbrev pub and_then : Plan → (Value → Plan) → Plan
and_then (Give v) f = f v
and_then (Demand a k) f = Demand a (λ v. and_then (k v) f)

-- the value goes on, a need ends all
abbrev pub after : Asked → (Value → Asked) → Asked
after (Val v) f = f v
after (Needs x) f = Needs x

-- the plan, where `look` says what each cell gives
abbrev pub run : (Addr → Asked) → Plan → Asked
run look (Give v) = Val v
run look (Demand a k) = after (look a) (λ v. run look (k v))
