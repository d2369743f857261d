use Rattle.cycle_finder.proofs.Listing.{are_whole_loops, members_show, each_in_one, are_in_order}
use Rattle.cycle_finder.proofs.law_loops.Goals as goal

pub returns-clause-whole : goal.returns-clause-whole
returns-clause-whole c = are_whole_loops

pub returns-clause-members : goal.returns-clause-members
returns-clause-members c = members_show

pub returns-clause-each : goal.returns-clause-each
returns-clause-each c = each_in_one

pub returns-clause-order : goal.returns-clause-order
returns-clause-order c = are_in_order
