use Rattle.std.proofs.Common.{◌∙◌, Bool, false, refl, sym, subst}
use Rattle.support_graph.specs.Steps.{Sets, is_area_key}
use Rattle.support_graph.proofs.Readings.{cut_left, cut_gone}
use Rattle.support_graph.proofs.index.take_reader.Goals as goal

pub returns-then-not-left-clause-cut : goal.returns-then-not-left-clause-cut
returns-then-not-left-clause-cut c =
    let a = c.corners_of-area.result in
    let old = c.args.index.now in
    cut_gone a c.args.cell old.blocks.keys c.set_area.new.blocks.keys old.readers.keys c.remove_reader.new.readers.keys c.requires.cut (sym c.is_read-left.ensures ∙ c.if-not-left.true) c.remove_reader.ensures
    (subst (λ (b : Bool). Sets (is_area_key a) false b old.blocks.keys c.set_area.new.blocks.keys) (c.set_area.ensures.out refl) c.set_area.ensures.sets)

pub returns-else-not-left-clause-cut : goal.returns-else-not-left-clause-cut
returns-else-not-left-clause-cut c =
    let old = c.args.index.now in
    cut_left c.corners_of-area.result c.args.cell old.blocks.keys old.readers.keys c.remove_reader.new.readers.keys c.requires.cut (sym c.is_read-left.ensures ∙ c.if-not-left.false) c.remove_reader.ensures
