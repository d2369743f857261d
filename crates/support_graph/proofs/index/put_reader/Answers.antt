use Rattle.std.proofs.Common.{◌∙◌, is_ok, sym}
use Rattle.support_graph.proofs.Readings.{cut_known}
use Rattle.support_graph.proofs.index.put_reader.Goals as goal

pub returns-clause-cut : goal.returns-clause-cut
returns-clause-cut c =
    let old = c.args.index.now in
    cut_known c.corners_of-area.result c.args.cell (is_ok c.insert_reader.result) old.blocks.keys old.readers.keys c.insert_reader.new.readers.keys c.requires.cut (sym c.is_read-known.ensures ∙ c.if-not-known.false) c.insert_reader.ensures.sets c.insert_reader.ensures.err
