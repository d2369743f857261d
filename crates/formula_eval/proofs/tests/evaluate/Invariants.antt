use Rattle.std.proofs.Common.{◌≡◌}
use Rattle.formula_eval.specs.Client.{Goes}
use Rattle.formula_eval.proofs.tests.evaluate.Given as goal

abbrev pub invariant-loop-word : goal.invariant-loop-word
invariant-loop-word g l = record {
  goes : Goes l.pool l.texts l.sheet l.id l.at l.answer l.frames.frames;
  room : l.frames.room ≡ l.initial.frames.room;
  texts : l.sheet.texts ≡ l.texts;
}
