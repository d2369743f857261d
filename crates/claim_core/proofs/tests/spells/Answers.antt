use Rattle.std.proofs.Common.{rules, arith, ap, ◌∙◌, map}
use Rattle.claim_core.specs.Steps.{valued, tagged}
use Rattle.claim_core.proofs.SeenEvents.{still_seen}
use Rattle.claim_core.proofs.ClientSteps.{stores_more, spelt_after}
use Rattle.claim_core.proofs.tests.spells.Goals as goal

pub loop-k-preserved : goal.loop-k-preserved
loop-k-preserved g c = record {
  pass = search rules;
  more = λ i w s. still_seen _ _ c.loop-k.pass.view c.store_value.new.pass.view c.store_value.ensures.step i w (c.loop-k.invariant.more i w s);
  stored = stores_more c.args.shown c.loop-k.k c.loop-k.pass.view c.store_value.new.pass.view
      (ap (λ v. v.held) c.store_value.ensures.step ∙ ap (λ x. map (valued c.loop-k.k x) c.loop-k.pass.view.held) c.record_value.ensures.value) c.loop-k.invariant.stored;
}

pub returns-clause-more : goal.returns-clause-more
returns-clause-more g c i w s = still_seen _ _ c.loop-k.pass.view c.store_tag.new.pass.view c.store_tag.ensures.step i w (c.loop-k.invariant.more i w s)

pub returns-clause-spelt : goal.returns-clause-spelt
returns-clause-spelt g c =
    let all = c.loop-k-test.false in
    let is = c.record_words-k-end.ensures.value in
    spelt_after c.args.shown c.loop-k.k c.loop-k.pass.view c.store_tag.new.pass.view (omega arith) c.loop-k.invariant.stored
    (ap (λ v. v.held) c.store_tag.ensures.step ∙ ap (λ x. map (tagged x) c.loop-k.pass.view.held) c.record_tag.ensures.value)
    (c.record_tag.ensures.shown c.args.round.now.setup.book.texts c.requires.texts)
