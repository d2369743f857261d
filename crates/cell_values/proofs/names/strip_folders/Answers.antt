use Rattle.cell_values.proofs.FileNames.{behind_last_slash}
use Rattle.cell_values.proofs.names.strip_folders.Goals as goal

pub returns-in-Some : goal.returns-in-Some
returns-in-Some c = behind_last_slash c.args.path.now c.in-Some.field-0-0.now c.in-Some.name.now c.in-Some.ensures.cases
