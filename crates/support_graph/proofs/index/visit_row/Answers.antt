use Rattle.std.proofs.Common.{◌≡◌, ◌+◌, ◌/◌, ◌∙◌, suc, ℕ, refl, ap, subst, arith}
use Rattle.support_graph.specs.Blocks.{halves}
use Rattle.support_graph.specs.Steps.{Visits, InColumn}
use Rattle.support_graph.proofs.Columns.{no_levels, level_visits}
use Rattle.support_graph.proofs.index.visit_row.Goals as goal

pub loop-level-init : goal.loop-level-init
loop-level-init c = record { number = refl; small = c.requires.few; visits = no_levels c.args.index.now.blocks.keys c.args.index.now.readers.keys c.args.addr.sheet c.args.addr.col c.args.addr.row c.args.addr.row c.args.search.now; done = c.requires.done }

pub loop-level-preserved : goal.loop-level-preserved
loop-level-preserved c =
    let inv = c.loop-level.invariant in
    let a = c.args.addr in
    let n = c.loop-level.level in
    let next : suc n ≡ n + 1 = omega arith in
    let small = inv.small in
    record {
      number = ap (λ z. z / 2) inv.number ∙ ap (λ z. halves z a.row) next;
      small = omega (arith, small);
      visits = level_visits c.args.index.now.blocks.keys c.args.index.now.readers.keys a.sheet a.col a.row a.row n c.loop-level.number c.loop-level.number c.args.search.now c.loop-level.search c.visit_block_once.new.search inv.number inv.number inv.visits c.in_ok-visit_block_once.ensures.visits;
      done = c.in_ok-visit_block_once.ensures.done;
    }

pub returns-clause-visits : goal.returns-clause-visits
returns-clause-visits c =
    let a = c.args.addr in
    let b = c.loop-level.auto.level-end in
    let d = c.loop-level-test.false in
    let e : c.loop-level.level ≡ 16 = omega arith in
    subst (λ (n : ℕ). Visits (InColumn c.args.index.now.blocks.keys c.args.index.now.readers.keys a.sheet a.col a.row a.row n) c.args.search.now c.loop-level.search) e c.loop-level.invariant.visits
