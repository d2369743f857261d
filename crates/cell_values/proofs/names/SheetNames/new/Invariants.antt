use Rattle.std.proofs.Common.{map, string_bytes}
use Rattle.cell_values.specs.Names.{sheet_name}
use Rattle.cell_values.proofs.NamesSoFar.{NamesSoFar}
use Rattle.cell_values.proofs.names.SheetNames.new.Given as goal

abbrev pub invariant-loop-file : goal.invariant-loop-file
invariant-loop-file l = NamesSoFar (map (λ file. sheet_name (string_bytes file)) l.files) (map string_bytes l.names.items) l.file-index
