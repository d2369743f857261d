use Rattle.builtin_functions.proofs.OrderLaws.{comparisons_turn}
use Rattle.builtin_functions.proofs.laws.law_order_turns.Goals as goal

pub returns : goal.returns
returns c = comparisons_turn
