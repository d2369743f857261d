use Rattle.computed_text.proofs.tests.holds.Goals as goal

pub answer-requires-clause-first : goal.answer-requires-clause-first
answer-requires-clause-first c = c.argument-first.ensures c.intern.new.self

pub answer-requires-then-branch-clause-first : goal.answer-requires-then-branch-clause-first
answer-requires-then-branch-clause-first c = c.argument-first.ensures c.intern.new.self
