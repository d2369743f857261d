use Rattle.std.proofs.Common.{◌≡◌, ◌+◌, ◌/◌, ◌∙◌, ◌≤◌, suc, true, false, refl, ap, arith, subst, ℕ}
use Rattle.support_graph.specs.Steps.{Sets, is_column_key, is_level_key}
use Rattle.std.proofs.lemmas.Result.{err_from_is_err_and}
use Rattle.support_graph.specs.Blocks.{halves, up_halves, has_key}
use Rattle.support_graph.proofs.Changes.{changes_then, changes_failed, changes_nothing}
use Rattle.support_graph.proofs.Keys.{no_levels, column_more, column_below}
use Rattle.support_graph.proofs.index.set_column.Goals as goal

pub loop-level-init : goal.loop-level-init
loop-level-init c = record {
  low = refl;
  low_to = (let a = c.requires.top_to in let b = c.requires.bottom_to in omega arith);
  high = (let e : c.args.area.last.row + 1 ≡ suc c.args.area.last.row = omega arith in e);
  sets = changes_nothing has_key (is_column_key c.args.area c.args.col 0) c.args.present true c.args.blocks.now.keys (no_levels c.args.area c.args.col);
}

pub loop-level-preserved : goal.loop-level-preserved
loop-level-preserved c =
    let inv = c.loop-level.invariant in
    let n = c.loop-level.level in
    let next : suc n ≡ n + 1 = omega arith in
    let small = inv.low_to in
    let one_more : c.loop-level.low + 1 ≡ suc c.loop-level.low = omega arith in
    record {
      low = ap (λ z. z / 2) (one_more ∙ ap suc inv.low) ∙ ap (λ z. up_halves z c.args.area.first.row) next;
      low_to = omega arith;
      high = ap (λ z. z / 2) inv.high ∙ ap (λ z. halves z (suc c.args.area.last.row)) next;
      sets = changes_then has_key (is_column_key c.args.area c.args.col n) (is_level_key c.args.area (record { sheet = c.args.area.first.sheet; col = c.args.col; level = n; number = c.loop-level.low }) c.loop-level.high) (is_column_key c.args.area c.args.col (n + 1)) c.args.present true c.args.blocks.now.keys c.loop-level.blocks.keys c.set_ends.new.blocks.keys
          (column_more c.args.area c.args.col n c.loop-level.low c.loop-level.high inv.low inv.high) inv.sets c.in_ok-set_ends.ensures.sets;
    }

pub returns-in_err-set_ends-clause-sets : goal.returns-in_err-set_ends-clause-sets
returns-in_err-set_ends-clause-sets c =
    let p = err_from_is_err_and c.from_residual.result c.from_residual.ensures.1 in
    let inv = c.loop-level.invariant in
    let n = c.loop-level.level in
    let test = c.loop-level-test.true in
    let below : n + 1 ≤ 16 = omega arith in
    rw p.1 (changes_failed has_key (is_column_key c.args.area c.args.col (n + 1)) (is_column_key c.args.area c.args.col 16) c.args.present c.args.blocks.now.keys c.set_ends.new.blocks.keys (column_below c.args.area c.args.col (n + 1) 16 below)
    (changes_then has_key (is_column_key c.args.area c.args.col n) (is_level_key c.args.area (record { sheet = c.args.area.first.sheet; col = c.args.col; level = n; number = c.loop-level.low }) c.loop-level.high) (is_column_key c.args.area c.args.col (n + 1)) c.args.present false c.args.blocks.now.keys c.loop-level.blocks.keys c.set_ends.new.blocks.keys
    (column_more c.args.area c.args.col n c.loop-level.low c.loop-level.high inv.low inv.high) inv.sets c.in_err-set_ends.ensures.sets))

pub returns-clause-sets : goal.returns-clause-sets
returns-clause-sets c = (let a = c.loop-level.auto.level-end in let b = c.loop-level-test.false in let e : c.loop-level.level ≡ 16 = omega arith in subst (λ (n : ℕ). Sets (is_column_key c.args.area c.args.col n) c.args.present true c.args.blocks.now.keys c.loop-level.blocks.keys) e c.loop-level.invariant.sets)
