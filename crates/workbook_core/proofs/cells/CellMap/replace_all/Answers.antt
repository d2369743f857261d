use Rattle.std.proofs.Common.{◌∙◌, get_or}
use Rattle.cell_values.specs.declared.address.Addr.{Addr}
use Rattle.workbook_core.specs.declared.Content.{Content}
use Rattle.workbook_core.proofs.Copied.{among_key, written_more, stays_there}
use Rattle.workbook_core.proofs.cells.CellMap.replace_all.Goals as goal
use lib.IntN.{pos}

abbrev no_cell : Addr × Content
no_cell = (record { sheet = 0; row = 0; col = 0 }, Content.Number (pos 0))

pub replace-requires : goal.replace-requires
replace-requires c = c.loop-at.invariant.there (get_or c.args.contents.now c.loop-at.at-index no_cell).0 (among_key c.args.contents.now c.loop-at.at-index no_cell c.loop-at-test.true)

pub loop-at-preserved : goal.loop-at-preserved
loop-at-preserved c = record {
  order = c.replace.ensures.replaced.order;
  there = λ a e. stays_there (get_or c.args.contents.now c.loop-at.at-index no_cell).0 (get_or c.args.contents.now c.loop-at.at-index no_cell).1 c.loop-at.self c.replace.new.self c.replace.ensures.replaced a (c.loop-at.invariant.there a e);
  rest = written_more c.args.contents.now c.loop-at.at-index no_cell c.loop-at.self c.replace.new.self c.loop-at-test.true c.replace.ensures.replaced ∙ c.loop-at.invariant.rest;
  len = c.replace.ensures.len ∙ c.loop-at.invariant.len;
}
