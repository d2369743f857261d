use Rattle.std.proofs.Common.{drop}
use Rattle.sheet_loading.proofs.Checked.{ReadOn}
use Rattle.sheet_loading.proofs.fields.check_formulas.Given as goal

abbrev pub invariant-loop-at : goal.invariant-loop-at
invariant-loop-at l = ReadOn l.names l.initial.texts l.fields l.texts (drop l.at-index l.fields)
