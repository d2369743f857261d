use Rattle.demand_stack.proofs.Searching.{number_found, number_missed}
use Rattle.demand_stack.proofs.recalled.number_in.Goals as goal

pub returns-in-Ok : goal.returns-in-Ok
returns-in-Ok c = number_found c.args.cells.now c.args.at c.in-Ok.number c.requires c.in-Ok.ensures.bound c.in-Ok.ensures.ok

pub returns-in-Err : goal.returns-in-Err
returns-in-Err c = number_missed c.args.cells.now c.args.at c.in-Err.field-0 c.requires c.in-Err.ensures.position
