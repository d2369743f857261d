use Rattle.std.proofs.Common.{rules, ◌≡◌, ◌∙◌, ◌++◌, map, reverse, vec_len, subst, arith}
use Rattle.std.proofs.lemmas.List.{reverse-reverse}
use Rattle.std.specs.List.{zip}
use Rattle.std.specs.Prelude.{IfSome}
use Rattle.std.proofs.lemmas.List.Elements.{All-pop}
use Rattle.claim_core.specs.Passes.{IsIdle}
use Rattle.speculative_eval.specs.Hinted.{hints_with}
use Rattle.speculative_eval.specs.Workers.{begun}
use Rattle.parallel_evaluation.proofs.Lists.{passes_counted, hired_next}
use Rattle.parallel_evaluation.proofs.hiring.hire.Goals as goal

pub returns-clause-count : goal.returns-clause-count
returns-clause-count g c =
    let all = passes_counted c.args.round.now.setup.workers c.args.passes.items c.requires.numbers in
    let none : vec_len c.loop-pass.passes ≡ 0 = search rules in
    let count = c.loop-pass.invariant.count in
    omega arith

pub loop-pass-preserved : goal.loop-pass-preserved
loop-pass-preserved g c =
    let round = c.args.round.now in
    let inv = c.loop-pass.invariant in
    let cut = All-pop (IsIdle round) c.loop-pass.passes.items c.pop.new.self.items c.pop.result c.pop.ensures.items inv.passes in
    let made : c.in-Ok.worker ≡ begun round c.in-Some.pass (hints_with (g.H.Hints.left c.in-Some-pop.own) (g.H.Hints.last c.in-Some-pop.own) (g.H.Hints.over c.in-Some-pop.own)) = search rules in record {
      passes = cut.0;
      workers = hired_next (λ p. begun round p.0 (hints_with (g.H.Hints.left p.1) (g.H.Hints.last p.1) (g.H.Hints.over p.1))) c.loop-pass.workers.items c.push_reserved.new.self.items c.loop-pass.passes.items c.pop.new.self.items c.loop-pass.hints.items c.pop-in-Some.new.self.items c.in-Some.pass c.in-Some-pop.own c.in-Ok.worker c.in-Some.ensures.items c.in-Some-pop.ensures.items c.push_reserved.ensures.items made ∙ inv.workers;
      count = search rules;
      hints = search rules;
      room = search rules;
    }

pub new-requires-clause-pass : goal.new-requires-clause-pass
new-requires-clause-pass g c κs within =
    let cut = All-pop (IsIdle c.args.round.now) c.loop-pass.passes.items c.pop.new.self.items c.pop.result c.pop.ensures.items c.loop-pass.invariant.passes in
    subst (λ r. IfSome r (IsIdle c.args.round.now)) c.in-Some.is cut.1

pub loop-pass-init : goal.loop-pass-init
loop-pass-init g c =
    let round = c.args.round.now in
    let none = c.in_ok-workers.ensures.items in
    let turned = c.reverse.ensures.items in
    let turned_hints = c.reverse-2.ensures.items in record {
      passes = search rules;
      workers = (λ i. none i ++ map (λ p. begun round p.0 (hints_with (g.H.Hints.left p.1) (g.H.Hints.last p.1) (g.H.Hints.over p.1))) (zip (reverse (turned i)) (reverse (turned_hints i))))
          ∙ (λ i. map (λ p. begun round p.0 (hints_with (g.H.Hints.left p.1) (g.H.Hints.last p.1) (g.H.Hints.over p.1))) (zip (reverse-reverse c.args.passes.items i) (reverse-reverse c.args.hints.items i)));
      count = search rules;
      hints = (let all = passes_counted round.setup.workers c.args.passes.items c.requires.numbers in let count = c.args.passes.ok.0 in let same = c.reverse.ensures.len in let same_hints = c.reverse-2.ensures.len in let given = c.requires.hints in omega arith);
      room = search rules;
    }
