use Rattle.formula_tokens.proofs.Held.{interned_are_held, held_stay}
use Rattle.formula_tokens.proofs.laws.law_literals_interned.Goals as goal

pub returns-clause-there : goal.returns-clause-there
returns-clause-there c = interned_are_held

pub returns-clause-stay : goal.returns-clause-stay
returns-clause-stay c = held_stay
