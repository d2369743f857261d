use Rattle.std.proofs.Common.{◌≡◌, max, drop}
use Rattle.shared_expressions.specs.Stored.{deepest}
use Rattle.shared_expressions.proofs.store.deepest.Given as goal

abbrev pub invariant-loop-part : goal.invariant-loop-part
invariant-loop-part l = max l.most (deepest l.entries (drop l.part-index l.parts)) ≡ deepest l.entries l.parts
