use Rattle.std.proofs.Common.{rules, ◌≡◌, ◌≤◌, ◌<◌, ◌+◌, ◌++◌, ℕ, List, [], Some, length, map, get_or, take, drop, vec_len, sym, subst, ap, ◌∙◌, arith}
use Rattle.std.specs.List.{All}
use Rattle.demand_spec.specs.Book.{shown}
use Rattle.claim_core.specs.Table.{count_from}
use Rattle.claim_core.specs.Passes.{SeesAllDone}
use Rattle.speculative_eval.specs.Workers.{WorkerSeen, BelongsTo}
use Rattle.parallel_evaluation.specs.Order.{run, all_ended}
use Rattle.parallel_evaluation.specs.Turns.{AreWorkers, HaveEnded, board}
use Rattle.parallel_evaluation.proofs.Lists.{come_back, but_one, passes_counted, without_hints}
use Rattle.parallel_evaluation.proofs.Openings.{workers_begun, whole_begun}
use Rattle.parallel_evaluation.proofs.Turning.{all_belong, ended_there}
use Rattle.parallel_evaluation.proofs.ordered.run_round_in_order.Goals as goal

pub run_all-requires-clause-workers : goal.run_all-requires-clause-workers
run_all-requires-clause-workers c =
    let round = c.in_ok-round.round in
    let idle = c.in_ok-round.ensures.passes in
    let same : round.setup.workers ≡ c.args.workers = search rules in
    let counted = sym c.in_ok-hints.hints.ok.0 ∙ c.in_ok-hints.ensures ∙ (sym same ∙ sym (passes_counted round.setup.workers c.in_ok-round.passes.items (idle.1 ∙ ap (λ n. count_from n 0) (sym same)))) in
    let lent = c.as_mut_slice.ensures.value ∙ (c.in_ok-all.ensures.workers ∙ without_hints round c.in_ok-round.passes.items c.in_ok-hints.hints.items counted) in
    let size : length c.as_mut_slice.result.now ≡ vec_len c.in_ok-all.all = c.as_mut_slice.ensures.len in
    let count : vec_len c.in_ok-all.all ≡ round.setup.workers = c.in_ok-all.ensures.count in
    let few : c.args.workers ≤ 64 = c.requires.workers.1 in
    (subst (AreWorkers round) (sym lent) (workers_begun round c.in_ok-round.passes.items idle.0 (idle.1 ∙ ap (λ n. count_from n 0) (sym same))), omega arith)

pub take_back-requires-clause-first : goal.take_back-requires-clause-first
take_back-requires-clause-first c κs =
    let round = c.in_ok-round.round in
    let ws : List WorkerSeen = c.run_all.new.workers in
    let back = come_back ws c.in_ok-all.all.items c.in_ok-all.all.len (search rules) in
    let first : WorkerSeen = c.remove-first.result in
    let by : ℕ = c.first_running.result in
    let read : first ≡ get_or ws by first = c.remove-first.ensures.value ∙ ap (λ xs. get_or xs by first) back in
    let same : round.setup.workers ≡ c.args.workers = search rules in
    let size : length c.as_mut_slice.result.now ≡ vec_len c.in_ok-all.all = c.as_mut_slice.ensures.len in
    let count : vec_len c.in_ok-all.all ≡ round.setup.workers = c.in_ok-all.ensures.count in
    let kept : length ws ≡ length c.as_mut_slice.result.now = c.in_ok-run_all.ensures.workers.1 in
    let within : by < c.args.workers = c.first_running.ensures.0 in
    let low : by < length ws = omega arith in
    ended_there round c.args.stopped.now ws by first low read c.in_ok-run_all.ensures.workers.0 (subst (HaveEnded c.args.stopped.now ws) (sym kept) c.in_ok-run_all.ensures.ended) c.first_running.ensures.1

pub take_back-requires-clause-rest : goal.take_back-requires-clause-rest
take_back-requires-clause-rest c κs =
    let round = c.in_ok-round.round in
    let ws : List WorkerSeen = c.run_all.new.workers in
    let back = come_back ws c.in_ok-all.all.items c.in_ok-all.all.len (search rules) in
    let by : ℕ = c.first_running.result in
    let left : c.remove-first.new.self.items ≡ take by ws ++ drop (by + 1) ws = c.remove-first.ensures.by_index.2 ∙ ap (λ xs. take by xs ++ drop (by + 1) xs) back in
    subst (All (BelongsTo round)) (sym left) (but_one (BelongsTo round) ws by (all_belong round ws c.in_ok-run_all.ensures.workers.0))

pub returns-clause-over : goal.returns-clause-over
returns-clause-over c =
    let first = c.take_back.ensures.first in
    let words : length c.close.result.words ≡ length c.in_ok-round.round.setup.cells = search rules in record {
      over = search rules;
      done = c.close.ensures.done 0 first.0 first.1 (subst (λ m. SeesAllDone m first.0.view) (sym words) first.2);
    }

pub returns-clause-trace : goal.returns-clause-trace
returns-clause-trace c =
    let round = c.in_ok-round.round in
    let book : round.setup.book ≡ c.args.book.now.book = search rules in
    let cells : round.setup.cells ≡ c.args.cells.now = search rules in
    let workers : round.setup.workers ≡ c.args.workers = search rules in
    let setup : round.setup ≡ record { book = c.args.book.now.book; cells = c.args.cells.now; workers = c.args.workers } =
    (λ i. record { book = book i; cells = cells i; workers = workers i }) in
    let idle = c.in_ok-round.ensures.passes in
    let counted = sym c.in_ok-hints.hints.ok.0 ∙ c.in_ok-hints.ensures ∙ (sym workers ∙ sym (passes_counted round.setup.workers c.in_ok-round.passes.items (idle.1 ∙ ap (λ n. count_from n 0) (sym workers)))) in
    let begun = c.as_mut_slice.ensures.value ∙ (c.in_ok-all.ensures.workers ∙ without_hints round c.in_ok-round.passes.items c.in_ok-hints.hints.items counted) in
    let appended : c.append.new.self.items ≡ c.args.trace.now.items ++ c.run_all.new.events.items = search rules in
    let none : c.new-events.result.items ≡ [] = search rules in
    let ran = c.in_ok-run_all.ensures.events
    ∙ ap (λ es. (all_ended round.setup c.args.stopped.now (length c.as_mut_slice.result.now) 0 (run round.setup c.args.order.now (board es c.in_ok-round.turn.words c.as_mut_slice.result.now))).events) none in
    appended ∙ ap (λ es. c.args.trace.now.items ++ es)
    (whole_begun round _ c.in_ok-round.passes.items c.in_ok-round.turn.words c.as_mut_slice.result.now c.args.order.now c.args.stopped.now c.run_all.new.events.items
    setup (idle.1 ∙ ap (λ n. count_from n 0) (sym workers)) c.in_ok-round.ensures.turn.1 begun ran)

pub returns-clause-results : goal.returns-clause-results
returns-clause-results c =
    let setup = c.in_ok-round.round.setup in
    let book : setup.book ≡ c.args.book.now.book = search rules in
    let cells : setup.cells ≡ c.args.cells.now = search rules in
    c.take_back.ensures.results ∙ (λ i. map (λ a. Some (shown (book i) a)) (cells i))
