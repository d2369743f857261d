use Rattle.speculative_eval.proofs.machine.store_step.Goals as goal

pub returns-clause-fits : goal.returns-clause-fits
returns-clause-fits c = c.record_tag-word.ensures.shown c.requires.0 c.requires.1
