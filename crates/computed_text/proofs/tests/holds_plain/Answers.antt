use Rattle.computed_text.proofs.tests.holds_plain.Goals as goal

pub answer-given-requires-clause-text : goal.answer-given-requires-clause-text
answer-given-requires-clause-text c = c.plain.ensures c.new-texts.result

pub answer-given-requires-clause-first : goal.answer-given-requires-clause-first
answer-given-requires-clause-first c = c.plain-2.ensures c.new-texts.result
