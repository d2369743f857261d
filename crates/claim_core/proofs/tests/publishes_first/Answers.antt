use Rattle.std.proofs.Common.{◌≡◌, ℕ, ◌∷◌, [], ◌∙◌, ap}
use Rattle.cell_words.specs.declared.cell_word.CellWord.TheVariants.{Stale, Claimed}
use Rattle.cell_words.specs.Records.{tag_of, value_of}
use Rattle.claim_core.specs.declared.event.Event.TheVariants as ev
use Rattle.claim_core.specs.declared.event.Publish.{Publish}
use Rattle.claim_core.specs.declared.event.Publish.TheVariants as publish
use Rattle.claim_core.specs.declared.view.RoundWords.{RoundWords}
use Rattle.claim_core.specs.TestClient.{two_words}
use Rattle.claim_core.specs.Rule.{cell_in}
use Rattle.claim_core.specs.Steps.{words_after, rec_of, publish_answer}
use Rattle.claim_core.proofs.TurnSteps.{InTurn, takes_turn, next}
use Rattle.claim_core.proofs.tests.publishes_first.Goals as goal

pub returns-clause-turn : goal.returns-clause-turn
returns-clause-turn g c =
    let before : RoundWords = two_words 1 (Claimed 0) Stale (tag_of c.args.shown) (value_of c.args.shown 0) (value_of c.args.shown 1) in
    let t0 : InTurn c.take_turn.new.pass.view 0 before = takes_turn c.args.a.now.view _ 0 before c.args.turn.words c.take_turn.ensures.view (c.requires.pass.0.0.2 ∙ ap (λ n. n ∷ []) c.requires.pass.0.1) c.requires.turn.1 in
    let won : c.publish-answer.result ≡ publish.Won = c.publish-answer.ensures.exact t0.turn ∙ ap (λ (r : RoundWords). publish_answer (cell_in r 0)) t0.words in
    let rec : rec_of c.take_turn.new.pass.view.held ≡ 0 = ap (λ v. rec_of v.held) c.take_turn.ensures.view ∙ c.requires.pass.2 in
    let t1 = next _ c.take_turn.new.pass.view c.publish-answer.new.pass.view 0 before c.publish-answer.ensures.step t0 in
    (c.give_turn-turn.ensures.turn.0, c.give_turn-turn.ensures.turn.1 ∙ (t1.words ∙ ap (λ (z : ℕ × Publish). words_after 0 (ev.Publish 0 z.0 z.1) before) (λ i. (rec i, won i))))
