use Rattle.demand_spec.proofs.Applied.{edit_applies, applied_only, too_large_by_length}
use Rattle.demand_spec.proofs.law_edits_apply.Goals as goal

pub returns-clause-applies : goal.returns-clause-applies
returns-clause-applies c = edit_applies

pub returns-clause-alone : goal.returns-clause-alone
returns-clause-alone c = applied_only

pub returns-clause-too_large : goal.returns-clause-too_large
returns-clause-too_large c = too_large_by_length
