use Rattle.std.proofs.Common.{true, take}
use Rattle.support_graph.specs.Support.{AreCut}
use Rattle.support_graph.specs.Steps.{SetsReaders, is_cell_reader}
use Rattle.support_graph.proofs.index.put_some.Given as goal

abbrev pub invariant-loop-area : goal.invariant-loop-area
invariant-loop-area l = record {
  readers : SetsReaders (is_cell_reader l.cell (take l.area-index l.areas)) true true l.initial.index.readers.keys l.index.readers.keys;
  cut : AreCut l.index.blocks.keys l.index.readers.keys;
}
