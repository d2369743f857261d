use Rattle.edit_script.proofs.Cuts.{cr_cut}
use Rattle.edit_script.proofs.pieces.without_cr.Goals as goal

pub returns-in-Some : goal.returns-in-Some
returns-in-Some c = cr_cut c.args.line.now c.in-Some.front.now c.in-Some.ensures.cases
