use Rattle.std.proofs.Common.{rules, sym, subst, ◌∙◌, ap, ◌++◌, ◌∷◌, [], append_assoc}
use Rattle.std.specs.List.{All}
use Rattle.std.proofs.lemmas.List.Elements.{All-push, All-pop}
use Rattle.claim_core.specs.Passes.{Belongs}
use Rattle.speculative_eval.specs.Workers.{BelongsTo}
use Rattle.parallel_evaluation.proofs.passes.take_passes.Goals as goal

pub loop-worker-preserved : goal.loop-worker-preserved
loop-worker-preserved g c =
    let round = c.args.round.now in
    let inv = c.loop-worker.invariant in
    let cut = All-pop (BelongsTo round) c.loop-worker.workers.items c.pop.new.self.items c.pop.result c.pop.ensures.items inv.workers in
    let here : BelongsTo round c.in-Some.worker = search rules in
    let pushed = c.push_reserved.ensures.items in record {
      workers = cut.0;
      passes = subst (All (Belongs round)) (sym pushed) (All-push (Belongs round) c.loop-worker.passes.items c.into_pass.result inv.passes (subst (Belongs round) (sym c.into_pass.ensures.pass) here.0));
      count = search rules;
      room = search rules;
      first = (inv.first.0 ++ c.into_pass.result ∷ [], pushed ∙ (ap (λ xs. xs ++ c.into_pass.result ∷ []) inv.first.1 ∙ append_assoc c.args.passes.now.items inv.first.0 (c.into_pass.result ∷ [])));
    }
