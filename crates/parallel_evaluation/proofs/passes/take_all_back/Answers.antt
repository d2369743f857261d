use Rattle.std.proofs.Common.{subst, IfSome}
use Rattle.std.proofs.lemmas.List.Elements.{All-pop}
use Rattle.parallel_evaluation.specs.Workers.{HasEnded}
use Rattle.parallel_evaluation.proofs.passes.take_all_back.Goals as goal

pub take_back-requires-clause-first : goal.take_back-requires-clause-first
take_back-requires-clause-first g c κs within =
    let cut = All-pop (HasEnded c.args.round.now) c.args.workers.items c.pop.new.self.items c.pop.result c.pop.ensures.items c.requires.workers.0 in
    subst (λ o. IfSome o (HasEnded c.args.round.now)) c.in-Some.is cut.1

pub take_back-requires-clause-rest : goal.take_back-requires-clause-rest
take_back-requires-clause-rest g c κs within =
    let cut = All-pop (HasEnded c.args.round.now) c.args.workers.items c.pop.new.self.items c.pop.result c.pop.ensures.items c.requires.workers.0 in
    λ k d h. (cut.0 k d h).belongs
