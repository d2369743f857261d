use Rattle.std.proofs.Common.{◌∷◌, []}
use Rattle.claim_core.specs.Rule.{shown_in}
use Rattle.claim_core.proofs.SeenEvents.{still_done}
use Rattle.claim_core.proofs.ClientSteps.{loaded_spells}
use Rattle.claim_core.proofs.tests.decodes.Goals as goal

pub loads_word-first-requires-clause-pass : goal.loads_word-first-requires-clause-pass
loads_word-first-requires-clause-pass g c κs out = (
  c.load_tag-tag.ensures.pass.0.0,
  c.requires.1,
  still_done _ _ c.args.pass.now.view c.load_tag-tag.new.pass.view c.load_tag-tag.ensures.step c.args.i c.args.rec c.requires.2,
)

pub returns-clause-shown : goal.returns-clause-shown
returns-clause-shown g c =
    let s = shown_in c.args.round.now.setup c.args.i in
    let tag = c.load_tag-tag.ensures.shown c.args.i c.requires.2 in
    (c.read_record.ensures.exact s).1 (loaded_spells s c.load_tag-tag.result _ tag.0 (λ i. c.loads_word-first.ensures.word i ∷ c.loads_word-second.ensures.word i ∷ c.loads_word-third.ensures.word i ∷ c.loads_word-fourth.ensures.word i
    ∷ c.loads_word-fifth.ensures.word i ∷ c.loads_word-sixth.ensures.word i ∷ c.loads_word-seventh.ensures.word i ∷ []) tag.1)
