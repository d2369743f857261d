use Rattle.std.proofs.Common.{refl}
use Rattle.demand_spec.proofs.Asks.{ask_fold_more}
use Rattle.demand_spec.proofs.law_folds_recur.Goals as goal

pub returns-clause-more : goal.returns-clause-more
returns-clause-more c = ask_fold_more

pub returns-clause-end : goal.returns-clause-end
returns-clause-end c = λ b e at args. (refl, refl, refl, refl, λ k t. refl)
