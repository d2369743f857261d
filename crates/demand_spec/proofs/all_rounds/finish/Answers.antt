use Rattle.std.proofs.Common.{◌≡◌, ◌+◌, ◌≤◌, refl, sym, ap, ◌∙◌, false, length, rules, arith}
use Rattle.cell_values.specs.Order.{entry_at}
use Rattle.demand_spec.specs.Stage.{book_with}
use Rattle.demand_spec.proofs.Listed.{last_is_finished, all_rounds_finish, next_round_is}
use Rattle.demand_spec.proofs.Ordered.{length-contents}
use Rattle.demand_spec.proofs.Texts.{rounds_text}
use Rattle.demand_spec.proofs.all_rounds.finish.Goals as goal

pub next_round-requires-clause-known : goal.next_round-requires-clause-known
next_round-requires-clause-known c = rounds_text c.args.book.now c.args.texts.now c.loop-round.round (entry_at c.loop-round.known.entries) c.requires c.loop-round.invariant

pub returns-then-not-next : goal.returns-then-not-next
returns-then-not-next c =
    let e : c.in_ok-next.next.grew ≡ false = search rules in
    last_is_finished (book_with c.args.book.now c.args.texts.now) c.loop-round.round (entry_at c.loop-round.known.entries) c.loop-round.invariant (sym c.in_ok-next.ensures.grew ∙ e)

pub returns : goal.returns
returns c =
    let l : length c.args.book.now ≤ c.loop-round.round = omega (arith, ap length c.cells-round-end.ensures.same, length-contents c.cells-round-end.result.now, c.loop-round-test.false) in
    all_rounds_finish (book_with c.args.book.now c.args.texts.now) c.loop-round.round (entry_at c.loop-round.known.entries) l c.loop-round.invariant

pub loop-round-preserved : goal.loop-round-preserved
loop-round-preserved c = next_round_is (book_with c.args.book.now c.args.texts.now) c.loop-round.round (c.loop-round.round + 1) (entry_at c.loop-round.known.entries) (entry_at c.in_ok-next.next.known.entries) refl c.loop-round.invariant c.in_ok-next.ensures.known
