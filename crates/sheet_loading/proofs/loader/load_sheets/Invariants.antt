use Rattle.std.proofs.Common.{drop, map}
use Rattle.sheet_loading.proofs.Sequence.{Loads}
use Rattle.sheet_loading.proofs.loader.load_sheets.Given as goal

abbrev pub invariant-loop-bytes : goal.invariant-loop-bytes
invariant-loop-bytes l = Loads l.fn.names (map (λ sheet. sheet.items) l.sheets) (drop l.bytes-index (map (λ sheet. sheet.items) l.sheets)) l.loader
