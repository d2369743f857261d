use Rattle.std.proofs.Common.{◌≡◌, ◌*◌, length, take, drop}
use Rattle.cell_words.specs.TextWords.{unpacked}
use Rattle.cell_words.proofs.text_words.bytes_of.Given as goal

abbrev pub invariant-loop-k : goal.invariant-loop-k
invariant-loop-k l = record { sized : length l.bytes ≡ 48; front : take (8 * l.k) l.bytes ≡ unpacked (take l.k (drop 1 l.words)) }
