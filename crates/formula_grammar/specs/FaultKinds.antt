-- The numbers by which faults are told, in the order in which they are looked for.
use Rattle.std.specs.Prelude.{ℕ}
use Rattle.formula_grammar.specs.declared.faults.FaultKind.{FaultKind}

abbrev pub number_of : FaultKind → ℕ
number_of FaultKind.BadCharacter = 1
number_of FaultKind.Misplaced = 2
number_of FaultKind.UnknownName = 3
number_of FaultKind.HugeNumber = 4
number_of FaultKind.ArgumentCount = 5
number_of FaultKind.TooDeep = 6
number_of FaultKind.TooLong = 7
number_of FaultKind.LargeRange = 8
number_of FaultKind.UnknownSheet = 9
number_of FaultKind.OutsideSheet = 10
