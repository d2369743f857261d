use Rattle.std.proofs.Common.{arith, sym, ap, ◌∙◌, ◌≡◌}
use Rattle.cell_words.specs.Records.{tag_words, record_words}
use Rattle.cell_words.proofs.Counts.{tag_range, words_by_tag, value_rest}
use Rattle.claim_core.specs.Rule.{shown_in}
use Rattle.claim_core.proofs.SeenEvents.{still_done}
use Rattle.claim_core.proofs.tests.loads_word.Goals as goal

pub tag_words-requires : goal.tag_words-requires
tag_words-requires g c = let r = tag_range (shown_in c.args.round.now.setup c.args.i) in (omega (arith, c.requires.tag), omega (arith, c.requires.tag))

pub returns-then-tag_words-k-clause-word : goal.returns-then-tag_words-k-clause-word
returns-then-tag_words-k-clause-word g c =
    let s = shown_in c.args.round.now.setup c.args.i in
    let few : c.tag_words.result ≡ record_words s = c.tag_words.ensures.value ∙ ap tag_words c.requires.tag ∙ words_by_tag s in
    let under = c.if-tag_words-k.true in
    sym (value_rest s c.args.k (omega arith))

pub returns-clause-seen : goal.returns-clause-seen
returns-clause-seen g c = still_done _ _ c.args.pass.now.view c.load_value.new.pass.view c.load_value.ensures.step c.args.i c.args.rec c.requires.pass.2

pub returns-clause-word : goal.returns-clause-word
returns-clause-word g c =
    let s = shown_in c.args.round.now.setup c.args.i in
    let few : c.tag_words.result ≡ record_words s = c.tag_words.ensures.value ∙ ap tag_words c.requires.tag ∙ words_by_tag s in
    let over = c.if-tag_words-k.false in
    (c.load_value.ensures.shown c.args.i c.requires.pass.2 (omega arith)).0
