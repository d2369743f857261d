use Rattle.std.proofs.Common.{None, [], sym, subst}
use Rattle.cycle_finder.specs.Search.{IsFound}
use Rattle.cycle_finder.proofs.Found.{nothing_found}
use Rattle.cycle_finder.proofs.finder.Found.new.Goals as goal

pub returns : goal.returns
returns c = λ b. subst (λ z. IsFound b None z c.new-2.result.keys) (sym c.new.ensures.items) (subst (λ z. IsFound b None [] z) (sym c.new-2.ensures.empty) (nothing_found b))
