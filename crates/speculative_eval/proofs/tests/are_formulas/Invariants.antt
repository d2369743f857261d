use Rattle.std.proofs.Common.{ℕ, ◌<◌, IsSome, get_or}
use Rattle.demand_spec.specs.Book.{formula_at}
use Rattle.demand_stack.proofs.Steps.{origin}
use Rattle.speculative_eval.proofs.tests.are_formulas.Given as goal

abbrev pub invariant-loop-i : goal.invariant-loop-i
invariant-loop-i l = (k : ℕ) → k < l.i → IsSome (formula_at l.book.book (get_or l.cells k origin))
