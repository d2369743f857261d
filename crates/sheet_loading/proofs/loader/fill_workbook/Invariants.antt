use Rattle.std.proofs.Common.{drop}
use Rattle.sheet_loading.proofs.Filling.{Fills}
use Rattle.sheet_loading.proofs.loader.fill_workbook.Given as goal

abbrev pub invariant-loop-at : goal.invariant-loop-at
invariant-loop-at l = Fills l.fn.names l.fn.texts l.fields (drop l.at-index l.fields) l.workbook
