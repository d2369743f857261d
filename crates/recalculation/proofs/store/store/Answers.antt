use Rattle.std.proofs.Common.{sym, ◌∙◌}
use Rattle.std.proofs.lemmas.Result.{err_from_is_err_and}
use Rattle.cell_values.proofs.Order.{lookup_is}
use Rattle.recalculation.proofs.Storing.{put_on}
use Rattle.recalculation.proofs.store.store.Goals as goal

pub returns-clause-ok : goal.returns-clause-ok
returns-clause-ok c = put_on c.args.stored.now.entries c.insert.new.self.entries c.args.at c.args.shown c.in_ok-insert.ensures.updates.0

pub returns-in_err-insert-clause-absent : goal.returns-in_err-insert-clause-absent
returns-in_err-insert-clause-absent c = let p = err_from_is_err_and c.from_residual.result c.from_residual.ensures.1 in
    rw p.1 (sym (lookup_is c.args.stored.now.entries c.args.at) ∙ c.in_err-insert.ensures.absent)
