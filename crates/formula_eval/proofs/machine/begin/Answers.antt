use Rattle.std.proofs.Common.{◌+◌, length, sym, ap, ◌∙◌}
use Rattle.cell_values.specs.declared.address.Addr.{Addr}
use Rattle.demand_spec.specs.declared.Asked.{Asked}
use Rattle.demand_spec.specs.Book.{look}
use Rattle.demand_spec.specs.Formula.{plan}
use Rattle.demand_spec.specs.Plan.{run}
use Rattle.shared_expressions.specs.Trees.{tree_at, depth}
use Rattle.formula_eval.proofs.Sounded.{covered_from}
use Rattle.formula_eval.proofs.Turns.{begun, begun_looks, answered_is, fits_shut}
use Rattle.formula_eval.proofs.machine.begin.Goals as goal

pub run-requires-clause-fits : goal.run-requires-clause-fits
run-requires-clause-fits g c = fits_shut c.args.pool.now c.args.texts.now c.args.at c.args.frames.now.room c.args.id c.args.frames.now.frames c.requires.shut (record { deep = c.requires.room; covered = covered_from c.args.at (tree_at c.args.pool.now c.args.id) c.requires.sound.shape; small = c.requires.sound.small }) c.requires.meant

pub returns-clause-open : goal.returns-clause-open
returns-clause-open g c = begun c.args.pool.now c.args.texts.now c.args.at (look (g.K.Known.book c.args.known.now) (g.K.Known.values c.args.known.now)) c.args.id c.args.frames.now.frames c.run.result c.run.new.frames.frames _ _ c.args.frames.now.room c.requires.shut (record { deep = c.requires.room; covered = covered_from c.args.at (tree_at c.args.pool.now c.args.id) c.requires.sound.shape; small = c.requires.sound.small }) c.requires.meant c.run.ensures.comes

pub returns-clause-answer : goal.returns-clause-answer
returns-clause-answer g c =
    let l : Addr → Asked = look (g.K.Known.book c.args.known.now) (g.K.Known.values c.args.known.now) in
    sym (ap (λ z. run l (plan z c.args.at (tree_at c.args.pool.now c.args.id))) (sym c.requires.texts)
    ∙ answered_is c.args.pool.now c.args.texts.now l (length c.args.frames.now.frames + depth (tree_at c.args.pool.now c.args.id)) c.args.at (plan c.args.texts.now c.args.at (tree_at c.args.pool.now c.args.id)) c.args.frames.now.frames c.run.result c.run.new.frames.frames
    (begun c.args.pool.now c.args.texts.now c.args.at (look (g.K.Known.book c.args.known.now) (g.K.Known.values c.args.known.now)) c.args.id c.args.frames.now.frames c.run.result c.run.new.frames.frames _ _ c.args.frames.now.room c.requires.shut (record { deep = c.requires.room; covered = covered_from c.args.at (tree_at c.args.pool.now c.args.id) c.requires.sound.shape; small = c.requires.sound.small }) c.requires.meant c.run.ensures.comes))

pub returns-clause-looks : goal.returns-clause-looks
returns-clause-looks g c = begun_looks c.args.pool.now c.args.texts.now c.args.at (look (g.K.Known.book c.args.known.now) (g.K.Known.values c.args.known.now)) c.args.id c.args.frames.now.frames c.run.result c.run.new.frames.frames _ _ c.requires.shut c.run.ensures.comes
