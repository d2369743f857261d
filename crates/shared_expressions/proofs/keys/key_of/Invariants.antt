use Rattle.std.proofs.Common.{◌≡◌, pos, ◌++◌, map, drop}
use Rattle.shared_expressions.specs.Keys.{key_of}
use Rattle.shared_expressions.proofs.keys.key_of.Given as goal

abbrev pub invariant-loop-part : goal.invariant-loop-part
invariant-loop-part l = l.key.items ++ map pos (drop l.part-index l.parts) ≡ key_of l.fn.node l.parts
