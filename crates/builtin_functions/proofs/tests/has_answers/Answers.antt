use Rattle.builtin_functions.proofs.tests.has_answers.Goals as goal

-- src/tests.rt:81:28
pub binary-requires-clause-left : goal.binary-requires-clause-left
binary-requires-clause-left g c = c.value-a.ensures c.args.texts.now c.requires.left

-- src/tests.rt:81:28
pub binary-requires-clause-right : goal.binary-requires-clause-right
binary-requires-clause-right g c = c.value-b.ensures c.args.texts.now c.requires.right
