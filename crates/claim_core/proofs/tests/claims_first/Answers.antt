use Rattle.std.proofs.Common.{rules, ◌≡◌, ℕ, ◌∷◌, [], ◌∙◌, ap, refl, subst, sym, map}
use Rattle.cell_words.specs.declared.cell_word.CellWord.TheVariants.{Stale, Claimed}
use Rattle.cell_words.specs.Records.{value_of}
use Rattle.claim_core.specs.declared.event.Event.TheVariants as ev
use Rattle.claim_core.specs.declared.event.Claim.TheVariants as claim
use Rattle.claim_core.specs.declared.view.RoundWords.{RoundWords}
use Rattle.claim_core.specs.declared.view.View.{View}
use Rattle.claim_core.specs.TestClient.{two_words}
use Rattle.claim_core.specs.Rule.{cell_in, Seen}
use Rattle.claim_core.specs.Steps.{words_after, rec_of, claim_answer, valued, tagged, grown, HasSpelt}
use Rattle.claim_core.proofs.SeenEvents.{still_seen}
use Rattle.claim_core.proofs.ClientSteps.{won_by, stores_none, stores_more, spelt_after}
use Rattle.claim_core.proofs.TurnSteps.{InTurn, takes_turn, next, rec_stays}
use Rattle.claim_core.proofs.tests.claims_first.Goals as goal

pub returns-clause-turn : goal.returns-clause-turn
returns-clause-turn g c =
    let s = c.args.shown in
    let start : RoundWords = two_words 0 Stale Stale 0 0 0 in
    let claimed : RoundWords = two_words 0 (Claimed 0) Stale 0 0 0 in
    let taken : RoundWords = two_words 1 (Claimed 0) Stale 0 0 0 in
    let half : RoundWords = two_words 1 (Claimed 0) Stale 0 (value_of s 0) 0 in
    let written : RoundWords = two_words 1 (Claimed 0) Stale 0 (value_of s 0) (value_of s 1) in
    let t0 : InTurn c.take_turn.new.pass.view 0 start = takes_turn c.args.a.now.view _ 0 start c.args.turn.words c.take_turn.ensures.view (c.requires.pass.0.0.2 ∙ ap (λ n. n ∷ []) c.requires.pass.0.1) c.requires.turn.1 in
    let t1 : InTurn c.look-seen.new.pass.view 0 start = next _ _ c.look-seen.new.pass.view 0 start c.look-seen.ensures.step t0 in
    let won : c.claim-claim.result ≡ claim.Won = c.claim-claim.ensures.exact t1.turn ∙ ap (λ (r : RoundWords). claim_answer (cell_in r 0)) t1.words in
    let t2 : InTurn c.claim-claim.new.pass.view 0 claimed = subst (λ a. InTurn c.claim-claim.new.pass.view 0 (words_after 0 (ev.Claim 0 a) start)) won (next _ _ c.claim-claim.new.pass.view 0 start c.claim-claim.ensures.step t1) in
    let t3 : InTurn c.take_record-taken.new.pass.view 0 taken = next _ _ c.take_record-taken.new.pass.view 0 claimed c.take_record-taken.ensures.step t2 in
    let zero_taken : c.take_record-taken.result ≡ 0 = c.take_record-taken.ensures.exact t2.turn ∙ ap (λ (r : RoundWords). r.counter) t2.words in
    let rec3 : rec_of c.take_record-taken.new.pass.view.held ≡ 0 = ap (λ v. rec_of v.held) c.take_record-taken.ensures.step ∙ zero_taken in
    let t4 : InTurn c.store_value.new.pass.view 0 half = subst (λ (z : ℕ × ℕ). InTurn c.store_value.new.pass.view 0 (words_after 0 (ev.StoreValue z.0 0 z.1) taken)) (λ i. (rec3 i, c.record_value.ensures.value i)) (next _ _ c.store_value.new.pass.view 0 taken c.store_value.ensures.step t3) in
    let rec4 : rec_of c.store_value.new.pass.view.held ≡ 0 = ap (λ v. rec_of v.held) c.store_value.ensures.step ∙ (rec_stays (valued 0 c.record_value.result) c.take_record-taken.new.pass.view.held (λ h. refl) ∙ rec3) in
    let t5 : InTurn c.store_value-2.new.pass.view 0 written = subst (λ (z : ℕ × ℕ). InTurn c.store_value-2.new.pass.view 0 (words_after 0 (ev.StoreValue z.0 1 z.1) half)) (λ i. (rec4 i, c.record_value-2.ensures.value i)) (next _ _ c.store_value-2.new.pass.view 0 half c.store_value-2.ensures.step t4) in
    let rec5 : rec_of c.store_value-2.new.pass.view.held ≡ 0 = ap (λ v. rec_of v.held) c.store_value-2.ensures.step ∙ (rec_stays (valued 1 c.record_value-2.result) c.store_value.new.pass.view.held (λ h. refl) ∙ rec4) in
    let t6 = subst (λ (z : ℕ × ℕ). InTurn c.store_tag.new.pass.view 0 (words_after 0 (ev.StoreTag z.0 z.1) written)) (λ i. (rec5 i, c.record_tag.ensures.value i)) (next _ _ c.store_tag.new.pass.view 0 written c.store_tag.ensures.step t5) in
    (c.give_turn-turn.ensures.turn.0, c.give_turn-turn.ensures.turn.1 ∙ t6.words)

pub returns-clause-seen : goal.returns-clause-seen
returns-clause-seen g c =
    let s = c.args.shown in
    let start : RoundWords = two_words 0 Stale Stale 0 0 0 in
    let t0 : InTurn c.take_turn.new.pass.view 0 start = takes_turn c.args.a.now.view _ 0 start c.args.turn.words c.take_turn.ensures.view (c.requires.pass.0.0.2 ∙ ap (λ n. n ∷ []) c.requires.pass.0.1) c.requires.turn.1 in
    let t1 : InTurn c.look-seen.new.pass.view 0 start = next _ _ c.look-seen.new.pass.view 0 start c.look-seen.ensures.step t0 in
    let won : c.claim-claim.result ≡ claim.Won = c.claim-claim.ensures.exact t1.turn ∙ ap (λ (r : RoundWords). claim_answer (cell_in r 0)) t1.words in
    let held = c.take_record-taken.new.pass.view.held in
    let s1 : Seen c.claim-claim.new.pass.view 0 (Claimed 0) = won_by 0 c.look-seen.new.pass.view c.claim-claim.new.pass.view 0 (search rules) (c.claim-claim.ensures.step ∙ ap (λ a. grown (ev.Claim 0 a) c.look-seen.new.pass.view) won) in
    let s2 = still_seen _ _ c.claim-claim.new.pass.view c.take_record-taken.new.pass.view c.take_record-taken.ensures.step 0 (Claimed 0) s1 in
    let s3 = still_seen _ _ c.take_record-taken.new.pass.view c.store_value.new.pass.view c.store_value.ensures.step 0 (Claimed 0) s2 in
    let s4 = still_seen _ _ c.store_value.new.pass.view c.store_value-2.new.pass.view c.store_value-2.ensures.step 0 (Claimed 0) s3 in
    let s5 = still_seen _ _ c.store_value-2.new.pass.view c.store_tag.new.pass.view c.store_tag.ensures.step 0 (Claimed 0) s4 in
    let first = stores_more s 0 c.take_record-taken.new.pass.view c.store_value.new.pass.view (ap (λ v. v.held) c.store_value.ensures.step ∙ ap (λ x. map (valued 0 x) held) c.record_value.ensures.value) (stores_none s c.take_record-taken.new.pass.view) in
    let both = stores_more s 1 c.store_value.new.pass.view c.store_value-2.new.pass.view (ap (λ v. v.held) c.store_value-2.ensures.step ∙ ap (λ x. map (valued 1 x) c.store_value.new.pass.view.held) c.record_value-2.ensures.value) first in
    let spelt = spelt_after s 2 c.store_value-2.new.pass.view c.store_tag.new.pass.view c.requires.shown.1 both
    (ap (λ v. v.held) c.store_tag.ensures.step ∙ ap (λ x. map (tagged x) c.store_value-2.new.pass.view.held) c.record_tag.ensures.value)
    (c.record_tag.ensures.shown c.args.round.now.setup.book.texts c.requires.shown.0) in
    (subst (λ (v : View). Seen v 0 (Claimed 0)) (sym c.give_turn-turn.ensures.view) s5, subst (HasSpelt s) (sym c.give_turn-turn.ensures.view) spelt)
