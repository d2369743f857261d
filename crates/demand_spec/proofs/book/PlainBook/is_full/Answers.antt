use Rattle.cell_values.specs.declared.TheConstants.{MAX_BOOK_CELLS}
use Rattle.demand_spec.proofs.Ordered.{full_is}
use Rattle.demand_spec.proofs.book.PlainBook.is_full.Goals as goal

pub returns : goal.returns
returns c = full_is c.cells.result.now c.args.self.now MAX_BOOK_CELLS c.cells.ensures.same
