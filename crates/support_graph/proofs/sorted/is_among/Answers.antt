use Rattle.std.proofs.Common.{◌∙◌, sym}
use Rattle.support_graph.proofs.Lists.{searched_found, searched_missed}
use Rattle.support_graph.proofs.sorted.is_among.Goals as goal

pub returns-clause-found : goal.returns-clause-found
returns-clause-found c e = searched_found c.args.cells.now c.args.cell c.binary_search.result c.binary_search.ensures.bound c.binary_search.ensures.ok (sym c.is_ok.ensures.value ∙ e)

pub returns-clause-missed : goal.returns-clause-missed
returns-clause-missed c order e = searched_missed c.args.cells.now c.args.cell c.binary_search.result c.binary_search.ensures.position order (sym c.is_ok.ensures.value ∙ e)
