use Rattle.demand_spec.proofs.Cycles.{values_show, cycles_show, loop_shows, others_lead}
use Rattle.demand_spec.proofs.law_marks.Goals as goal

pub returns-clause-values : goal.returns-clause-values
returns-clause-values c = values_show

pub returns-clause-cycles : goal.returns-clause-cycles
returns-clause-cycles c = cycles_show

pub returns-clause-members : goal.returns-clause-members
returns-clause-members c = loop_shows

pub returns-clause-others : goal.returns-clause-others
returns-clause-others c = others_lead
