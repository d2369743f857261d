-- The workers of a round.
use Rattle.std.specs.Prelude.{◌≡◌, ℕ, true, None, List, [], ◌∷◌, ◌++◌}
use mathlib.Core.Option.{some}
use lib.ListN.{get_elem?}
use Rattle.cell_values.specs.declared.address.Addr.{Addr}
use Rattle.demand_spec.specs.Book.{Book}
use Rattle.claim_core.specs.Pending.{IsPending}
use Rattle.claim_core.specs.Passes.{RoundSeen, PassSeen, SeesAllDone}
use Rattle.speculative_eval.specs.Workers.{WorkerSeen, BelongsTo, begun}
use Rattle.speculative_eval.specs.Hinted.{hints_with}
use Rattle.speculative_eval.specs.Steps.{HasAll}

-- the cells are pending ones of the book, if there are any
abbrev pub ArePending : Book → List Addr → Type 0
ArePending b [] = Unit {0}
ArePending b (c ∷ cells) = IsPending b (c ∷ cells)

-- a worker that has done nothing, for a pass of the round; it gets no hints
abbrev pub begun_in : RoundSeen → PassSeen → WorkerSeen
begun_in r p = begun r p (hints_with 0 None true)

-- a worker of the round that has finished: it knows every cell, and has seen every cell done
pub record HasEnded (r : RoundSeen) (w : WorkerSeen) : Type 0 where
  pub belongs : BelongsTo r w
  pub all : HasAll w

-- the first of these passes has seen every cell done
abbrev pub FirstSeesAll : ℕ → List PassSeen → Type 0
FirstSeesAll m ps = (p : PassSeen) × (get_elem? ps 0 ≡ some p) × SeesAllDone m p.view

-- the list begins with the other one
abbrev pub BeginsWith : {A : Type 0} → List A → List A → Type 0
BeginsWith {A} xs ys = (rest : List A) × (xs ≡ ys ++ rest)
