use Rattle.demand_spec.proofs.OneList.{one_map, one_list}
use Rattle.demand_spec.proofs.law_one_list.Goals as goal

pub returns-clause-cells : goal.returns-clause-cells
returns-clause-cells c = λ xs ys o p h. one_map xs ys o p h

pub returns-clause-addresses : goal.returns-clause-addresses
returns-clause-addresses c = one_list
