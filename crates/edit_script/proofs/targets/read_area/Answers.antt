use Rattle.edit_script.proofs.Marks.{one_of_sheets}
use Rattle.edit_script.proofs.targets.read_area.Goals as goal

pub returns-in_ok-read_cell-in-None-clause-within : goal.returns-in_ok-read_cell-in-None-clause-within
returns-in_ok-read_cell-in-None-clause-within c = one_of_sheets c.args.sheets.now c.in_ok-read_cell-in-None.field-0 c.of.result c.in_ok-read_cell-in-None.ensures.within c.of.ensures.within c.of.ensures.same
