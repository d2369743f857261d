use Rattle.std.proofs.Common.{IsSome, arith}
use Rattle.demand_spec.specs.Book.{formula_at}
use Rattle.demand_stack.proofs.Steps.{origin}
use Rattle.demand_stack.proofs.Driving.{all_in}
use Rattle.speculative_eval.proofs.tests.are_formulas.Goals as goal

pub returns : goal.returns
returns c e = all_in (λ a. IsSome (formula_at c.args.book.now.book a)) c.args.cells.now origin (λ k l. c.loop-i.invariant k (let z = c.loop-i-test.false in omega arith))
