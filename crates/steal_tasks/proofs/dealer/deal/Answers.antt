use Rattle.std.proofs.Common.{◌∙◌, map, length, ap, sym, subst, All, true, [], arith}
use Rattle.std.specs.List.{zip}
use Rattle.std.proofs.lemmas.List.{with_items_is, length-map}
use Rattle.std.proofs.lemmas.List.FromFn.{length-map-range_with_len}
use Rattle.std.proofs.lemmas.Result.{IfOk-weaker}
use Rattle.steal_tasks.specs.Sharing.{share}
use Rattle.steal_tasks.specs.Dealing.{dealt_to, all_dealt}
use Rattle.steal_tasks.specs.Ends.{parts, part_of, with_others, parts_from, IsReady}
use Rattle.steal_tasks.proofs.Rounds.{ends_dealt}
use Rattle.steal_tasks.proofs.dealer.deal.Goals as goal

pub all_others-requires : goal.all_others-requires
all_others-requires c =
    let many = ap length (c.as_mut_slice.ensures.value ∙ c.in_ok-deques.ensures) ∙ length-map-range_with_len (λ w. share true (dealt_to c.args.count c.args.workers w) []) 0 c.args.workers in
    omega (arith, many, c.requires.1)

pub ends_with-requires : goal.ends_with-requires
ends_with-requires c =
    let left = with_items_is c.in_ok-deques.deques c.all_others.new.deques (c.all_others.auto.deques ∙ c.as_mut_slice.ensures.len) in
    let facts = ends_dealt (λ os. os.items) c.args.count c.args.workers c.as_mut_slice.result.now c.all_others.new.deques c.in_ok-others.others.items
    (c.as_mut_slice.ensures.value ∙ c.in_ok-deques.ensures) c.in_ok-others.ensures.same c.in_ok-others.ensures.alone c.in_ok-others.ensures.others in
    subst (λ ds. All (λ p. IsReady p.0 p.1.items) (zip ds c.in_ok-others.others.items)) (sym left) facts.1

pub returns-clause-parts : goal.returns-clause-parts
returns-clause-parts c =
    let left = with_items_is c.in_ok-deques.deques c.all_others.new.deques (c.all_others.auto.deques ∙ c.as_mut_slice.ensures.len) in
    let facts = ends_dealt (λ os. os.items) c.args.count c.args.workers c.as_mut_slice.result.now c.all_others.new.deques c.in_ok-others.others.items
    (c.as_mut_slice.ensures.value ∙ c.in_ok-deques.ensures) c.in_ok-others.ensures.same c.in_ok-others.ensures.alone c.in_ok-others.ensures.others in
    IfOk-weaker c.ends_with.result _ _ (λ ends h. h ∙ ap (λ ds. map (λ p. with_others (part_of p.0) p.1.items) (zip ds c.in_ok-others.others.items)) left ∙ facts.0) c.ends_with.ensures.parts

pub returns-clause-count : goal.returns-clause-count
returns-clause-count c = IfOk-weaker c.ends_with.result _ _ (λ ends same. ends.ok.0 ∙ sym (length-map ends.items parts) ∙ ap length same ∙ length-map-range_with_len (parts_from (all_dealt c.args.count c.args.workers)) 0 c.args.workers) (returns-clause-parts c)
