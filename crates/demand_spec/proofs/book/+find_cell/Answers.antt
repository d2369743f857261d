use Rattle.std.proofs.Common.{◌<◌, ◌+◌, ◌/◌, length, get_or, sym, ap, ◌∙◌, subst, List, arith}
use Rattle.std.proofs.lemmas.Grind.{common_steps}
use Rattle.std.proofs.lemmas.List.{take_rest}
use Rattle.cell_values.specs.declared.address.Addr.{Addr}
use Rattle.demand_spec.specs.declared.Cell.{Cell}
use Rattle.cell_values.specs.Order.{entry_at, InOrder, addresses}
use Rattle.demand_spec.specs.Listed.{contents}
use Rattle.demand_spec.proofs.Halves.{order_take, order_drop, in_first, in_second, in_middle, same_element}
use Rattle.cell_values.proofs.Order.{cmp_less, cmp_greater, cmp_equal}
use Rattle.demand_spec.proofs.book.+find_cell.Goals as goal

pub find_cell-requires : goal.find_cell-requires
find_cell-requires t c = (grind (arith, common_steps), order_take c.args.cells.now (length c.args.cells.now / 2) c.requires)

pub find_cell-requires-in-Greater : goal.find_cell-requires-in-Greater
find_cell-requires-in-Greater t c = (
  grind (arith, common_steps),
  subst (λ (z : List (Addr × Cell)). InOrder (addresses (contents z))) (sym (take_rest c.args.cells.now (length c.args.cells.now / 2 + 1))) (order_drop c.args.cells.now (length c.args.cells.now / 2 + 1) c.requires),
)

pub returns-in-Less : goal.returns-in-Less
returns-in-Less t c =
    let l : length c.args.cells.now / 2 < length c.args.cells.now = grind (arith, common_steps) in
    c.find_cell.ensures ∙ in_first c.args.at c.args.cells.now (length c.args.cells.now / 2) c.index-cells-middle.result c.requires l (cmp_less c.args.at (get_or c.args.cells.now (length c.args.cells.now / 2) c.index-cells-middle.result).0 (sym c.cmp.ensures ∙ c.in-Less.is))

pub returns-in-Equal : goal.returns-in-Equal
returns-in-Equal t c =
    let l : length c.args.cells.now / 2 < length c.args.cells.now = grind (arith, common_steps) in
    let m = length c.args.cells.now / 2 in
    in_middle c.args.at c.args.cells.now m c.index-cells-middle-in-Equal.result c.requires l
    (cmp_equal c.args.at (get_or c.args.cells.now m c.index-cells-middle.result).0 (sym c.cmp.ensures ∙ c.in-Equal.is)
    ∙ ap (λ (z : Addr × Cell). z.0) (same_element c.args.cells.now m c.index-cells-middle.result c.index-cells-middle-in-Equal.result l))

pub returns-in-Greater : goal.returns-in-Greater
returns-in-Greater t c =
    let l : length c.args.cells.now / 2 < length c.args.cells.now = grind (arith, common_steps) in
    c.find_cell-in-Greater.ensures
    ∙ ap (λ (z : List (Addr × Cell)). entry_at (contents z) c.args.at) (take_rest c.args.cells.now (length c.args.cells.now / 2 + 1))
    ∙ in_second c.args.at c.args.cells.now (length c.args.cells.now / 2) c.index-cells-middle.result c.requires l (cmp_greater c.args.at (get_or c.args.cells.now (length c.args.cells.now / 2) c.index-cells-middle.result).0 (sym c.cmp.ensures ∙ c.in-Greater.is))
