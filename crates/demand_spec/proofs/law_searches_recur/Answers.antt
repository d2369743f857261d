use Rattle.demand_spec.proofs.Asks.{ask_index, ask_match, ask_v_lookup, ask_h_lookup}
use Rattle.demand_spec.proofs.law_searches_recur.Goals as goal

pub returns-clause-index : goal.returns-clause-index
returns-clause-index c = ask_index

pub returns-clause-position : goal.returns-clause-position
returns-clause-position c = ask_match

pub returns-clause-down : goal.returns-clause-down
returns-clause-down c = ask_v_lookup

pub returns-clause-along : goal.returns-clause-along
returns-clause-along c = ask_h_lookup
