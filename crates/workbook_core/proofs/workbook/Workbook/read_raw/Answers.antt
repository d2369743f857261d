use Rattle.std.proofs.Common.{◌≡◌}
use Rattle.std.proofs.lemmas.Result.{IfOk-weaker}
use Rattle.cell_values.specs.Fields.{raw_of}
use Rattle.workbook_core.specs.Edits.{IsField}
use Rattle.workbook_core.proofs.Fields.{read_is_field}
use Rattle.workbook_core.proofs.Growth.{kept_grows, same_trees}
use Rattle.workbook_core.proofs.workbook.Workbook.read_raw.Goals as goal

pub invariant_of-self : goal.invariant_of-self
invariant_of-self c = kept_grows c.self.inside.cells c.self.inside.texts c.read.new.texts c.self.inside.sheets c.self.inside.pool c.self.inside.pool c.read.ensures.kept (same_trees c.self.inside.pool) c.self.invariant

pub returns-clause-field : goal.returns-clause-field
returns-clause-field c = IfOk-weaker c.read.result (λ raw. (c.read.new.texts, raw) ≡ raw_of c.self.inside.texts c.args.field.now) IsField (λ raw e. read_is_field c.self.inside.texts c.read.new.texts c.args.field.now raw e) c.read.ensures.ok
