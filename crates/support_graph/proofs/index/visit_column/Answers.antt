use Rattle.std.proofs.Common.{◌≡◌, ◌+◌, ◌≤◌, ◌/◌, ◌∙◌, suc, ℕ, refl, ap, subst, arith}
use Rattle.support_graph.specs.Blocks.{halves}
use Rattle.support_graph.specs.Steps.{Visits, InColumn}
use Rattle.support_graph.proofs.Halving.{halves_le}
use Rattle.support_graph.proofs.Columns.{no_levels, level_visits}
use Rattle.support_graph.proofs.index.visit_column.Goals as goal

pub loop-level-init : goal.loop-level-init
loop-level-init c = record { first = refl; last = refl; small = c.requires.few; visits = no_levels c.args.index.now.blocks.keys c.args.index.now.readers.keys c.args.sheet c.args.col c.args.top c.args.bottom c.args.search.now }

pub visit_blocks-requires-clause-forward : goal.visit_blocks-requires-clause-forward
visit_blocks-requires-clause-forward c =
    let inv = c.loop-level.invariant in
    let h : halves c.loop-level.level c.args.top ≤ halves c.loop-level.level c.args.bottom = halves_le c.loop-level.level c.args.top c.args.bottom c.requires.rows in
    let a = inv.first in let b = inv.last in omega (arith, a, b, h)

pub loop-level-preserved : goal.loop-level-preserved
loop-level-preserved c =
    let inv = c.loop-level.invariant in
    let n = c.loop-level.level in
    let next : suc n ≡ n + 1 = omega arith in
    let small = inv.small in
    record {
      first = ap (λ z. z / 2) inv.first ∙ ap (λ z. halves z c.args.top) next;
      last = ap (λ z. z / 2) inv.last ∙ ap (λ z. halves z c.args.bottom) next;
      small = omega (arith, small);
      visits = level_visits c.args.index.now.blocks.keys c.args.index.now.readers.keys c.args.sheet c.args.col c.args.top c.args.bottom n c.loop-level.first c.loop-level.last c.args.search.now c.loop-level.search c.visit_blocks.new.search inv.first inv.last inv.visits c.in_ok-visit_blocks.ensures;
    }

pub returns : goal.returns
returns c =
    let a = c.loop-level.auto.level-end in
    let b = c.loop-level-test.false in
    let e : c.loop-level.level ≡ 16 = omega arith in
    subst (λ (n : ℕ). Visits (InColumn c.args.index.now.blocks.keys c.args.index.now.readers.keys c.args.sheet c.args.col c.args.top c.args.bottom n) c.args.search.now c.loop-level.search) e c.loop-level.invariant.visits
