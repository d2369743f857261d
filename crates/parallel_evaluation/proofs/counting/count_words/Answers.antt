use Rattle.std.proofs.Common.{◌≡◌, ◌+◌, ◌<◌, get_or, length, ap, ◌∙◌, subst, sym, arith}
use Rattle.std.proofs.lemmas.Option.{get_or_from_slice_get, slice_get_within}
use Rattle.cell_words.specs.declared.cell_word.CellWord.TheVariants.{Done}
use Rattle.claim_core.specs.Rule.{claimer_is, publisher_is, is_done, WorkersBelow}
use Rattle.parallel_evaluation.proofs.Tallies.{Counted, start, sized, next, row_room, claimer_small, publisher_small, read_of, done_word}
use Rattle.parallel_evaluation.proofs.counting.count_words.Goals as goal

pub loop-i-init : goal.loop-i-init
loop-i-init c = record { claimed = start claimer_is _ _ _ c.requires.claimed; published = start publisher_is _ _ _ c.requires.published }

pub unreachable-requires : goal.unreachable-requires
unreachable-requires c = done_word c.word.result (read_of (λ x. is_done x ≡ 1) _ _ c.word.result c.word.ensures c.requires.done) c.in_default.not-Done

pub add-requires : goal.add-requires
add-requires c =
    let workers = c.args.outcome.now.setup.workers in
    let below = subst (WorkersBelow workers) c.in-Done.is (read_of (WorkersBelow workers) _ _ c.word.result c.word.ensures c.requires.numbers) in
    let size = sized claimer_is _ _ _ _ c.loop-i.invariant.claimed in
    let room = row_room claimer_is claimer_small _ c.loop-i.i c.in-Done.claimer _ c.loop-i.claimed c.loop-i.invariant.claimed in
    let named = below.1 in
    (omega arith, omega arith)

pub add-requires-in-loop-i : goal.add-requires-in-loop-i
add-requires-in-loop-i c =
    let workers = c.args.outcome.now.setup.workers in
    let below = subst (WorkersBelow workers) c.in-Done.is (read_of (WorkersBelow workers) _ _ c.word.result c.word.ensures c.requires.numbers) in
    let size = sized publisher_is _ _ _ _ c.loop-i.invariant.published in
    let room = row_room publisher_is publisher_small _ c.loop-i.i c.in-Done.publisher _ c.loop-i.published c.loop-i.invariant.published in
    let named = below.0 in
    (omega arith, omega arith)

pub loop-i-preserved : goal.loop-i-preserved
loop-i-preserved c =
    let workers = c.args.outcome.now.setup.workers in
    let words = c.args.outcome.now.words in
    let low : c.loop-i.i < length words = slice_get_within words c.loop-i.i c.word.result c.word.ensures in
    let below = subst (WorkersBelow workers) c.in-Done.is (read_of (WorkersBelow workers) _ _ c.word.result c.word.ensures c.requires.numbers) in
    let here : get_or words c.loop-i.i c.word.result ≡ Done c.in-Done.publisher c.in-Done.claimer c.in-Done.rec =
    get_or_from_slice_get words c.loop-i.i c.word.result c.word.result c.word.ensures ∙ c.in-Done.is in
    record {
      claimed = subst (Counted claimer_is workers words (c.loop-i.i + 1)) (sym c.add.ensures)
          (next claimer_is _ c.loop-i.i _ c.loop-i.claimed c.word.result c.in-Done.claimer c.loop-i.invariant.claimed low below.1 (λ w. ap (claimer_is w) here));
      published = subst (Counted publisher_is workers words (c.loop-i.i + 1)) (sym c.add-in-loop-i.ensures)
          (next publisher_is _ c.loop-i.i _ c.loop-i.published c.word.result c.in-Done.publisher c.loop-i.invariant.published low below.0 (λ w. ap (publisher_is w) here));
    }
