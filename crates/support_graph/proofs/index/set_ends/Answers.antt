use Rattle.std.proofs.Common.{is_ok}
use Rattle.std.proofs.lemmas.Result.{err_from_is_err_and}
use Rattle.support_graph.specs.Blocks.{has_key}
use Rattle.support_graph.specs.Steps.{is_end_key, is_level_key}
use Rattle.support_graph.proofs.Changes.{changes_then, changes_failed}
use Rattle.support_graph.proofs.Keys.{ends_are, no_low_end}
use Rattle.support_graph.proofs.index.set_ends.Goals as goal

pub returns-clause-sets : goal.returns-clause-sets
returns-clause-sets c =
    changes_then has_key (is_end_key c.args.area c.args.level c.low_end.result) (is_end_key c.args.area c.args.level c.high_end.result) (is_level_key c.args.area c.args.level c.args.high) c.args.present (is_ok c.set_end-2.result) c.args.blocks.now.keys c.set_end.new.blocks.keys c.set_end-2.new.blocks.keys
    (ends_are c.args.area c.args.level c.args.high c.low_end.result c.high_end.result c.low_end.ensures c.high_end.ensures) c.in_ok-set_end.ensures.sets c.set_end-2.ensures.sets

pub returns-in_err-set_end-clause-sets : goal.returns-in_err-set_end-clause-sets
returns-in_err-set_end-clause-sets c =
    let p = err_from_is_err_and c.from_residual.result c.from_residual.ensures.1 in
    rw p.1 (changes_failed has_key (is_end_key c.args.area c.args.level c.low_end.result) (is_level_key c.args.area c.args.level c.args.high) c.args.present c.args.blocks.now.keys c.set_end.new.blocks.keys
    (no_low_end c.args.area c.args.level c.args.high c.low_end.result c.low_end.ensures) c.in_err-set_end.ensures.sets)
