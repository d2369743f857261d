use Rattle.std.proofs.Common.{length, sym, subst, All, rules}
use Rattle.std.specs.List.{zip}
use Rattle.std.proofs.lemmas.Iterator.{YieldsList-from_zip}
use Rattle.std.proofs.lemmas.Iterator.Adapters.{YieldsList-from_vec}
use Rattle.std.proofs.lemmas.Iterator.Consumers.{YieldsList-at, YieldsList-turn, YieldsList-end}
use Rattle.std.proofs.lemmas.List.Elements.{All-push}
use Rattle.steal_tasks.specs.Ends.{parts, part_of, with_others, IsReady, IsFresh}
use Rattle.steal_tasks.proofs.Rounds.{one_more, at_turn, all_came}
use Rattle.steal_tasks.proofs.dealer.ends_with.Goals as goal

pub new-requires : goal.new-requires
new-requires c =
    let road = YieldsList-at c.into_iter-own-iterator.ensures.into_iter_gives (YieldsList-from_zip
    (YieldsList-at c.zip-own-items.ensures.first (YieldsList-from_vec c.args.deques.items c.into_iter.ensures.rest (search rules)))
    (YieldsList-from_vec c.args.others.items c.zip-own-items.ensures.second.0 (search rules))) in
    let turn = YieldsList-turn road c.loop-own.yielded c.loop-own.own-iterator c.loop-own.yielded_by c.next.result c.next.new.self (c.in-Some.own, c.in-Some.others) c.in-Some.is c.next.ensures.steps in
    at_turn (zip c.args.deques.items c.args.others.items) (λ p. IsReady p.0 p.1.items) (length c.loop-own.yielded) (c.in-Some.own, c.in-Some.others) c.requires turn

pub loop-own-preserved : goal.loop-own-preserved
loop-own-preserved c = record {
  parts = one_more parts (λ p. with_others (part_of p.0) p.1.items) c.loop-own.ends.items c.push.new.self.items c.loop-own.yielded c.new.result (c.in-Some.own, c.in-Some.others) c.in_ok-push.ensures.items c.loop-own.invariant.parts c.new.ensures.parts;
  fresh = subst (All (IsFresh c.args.count)) (sym c.in_ok-push.ensures.items) (All-push (IsFresh c.args.count) c.loop-own.ends.items c.new.result c.loop-own.invariant.fresh c.new.ensures.fresh);
}

pub returns-clause-parts : goal.returns-clause-parts
returns-clause-parts c =
    let road = YieldsList-at c.into_iter-own-iterator.ensures.into_iter_gives (YieldsList-from_zip
    (YieldsList-at c.zip-own-items.ensures.first (YieldsList-from_vec c.args.deques.items c.into_iter.ensures.rest (search rules)))
    (YieldsList-from_vec c.args.others.items c.zip-own-items.ensures.second.0 (search rules))) in
    let end = YieldsList-end road c.loop-own.yielded c.loop-own.own-iterator c.loop-own.yielded_by c.next.result c.next.new.self c.in-None.is c.next.ensures.steps in
    all_came parts (λ p. with_others (part_of p.0) p.1.items) c.loop-own.ends.items c.loop-own.yielded (zip c.args.deques.items c.args.others.items) c.loop-own.invariant.parts end.0
