use Rattle.std.proofs.Common.{◌∙◌}
use Rattle.cell_values.proofs.Order.{lookup_is}
use Rattle.cycle_finder.proofs.recalled.result_of.Goals as goal

pub returns : goal.returns
returns c = c.copied.ensures ∙ c.get.ensures.value ∙ lookup_is c.args.results.now.entries c.args.at
