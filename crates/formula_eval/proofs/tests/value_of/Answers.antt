use Rattle.formula_eval.proofs.tests.value_of.Goals as goal

pub returns-in-1-eq8 : goal.returns-in-1-eq8
returns-in-1-eq8 g c ts text = c.short_value.ensures ts
