use Rattle.std.proofs.Common.{◌≡◌, length, subst, sym, ◌∙◌, arith}
use Rattle.workbook_core.proofs.Lookups.{length-cells_in}
use Rattle.workbook_core.proofs.workbook.Workbook.count.Goals as goal

pub overflow_cast-result : goal.overflow_cast-result
overflow_cast-result c = omega (arith, c.len.ensures, length-cells_in c.self.inside.pool c.self.inside.cells, c.self.invariant.workbook.few)

pub returns-clause-count : goal.returns-clause-count
returns-clause-count c = subst (λ w. c.len.result ≡ length w.book.cells) c.self.view_is (c.len.ensures ∙ sym (length-cells_in c.self.inside.pool c.self.inside.cells))

pub returns-clause-few : goal.returns-clause-few
returns-clause-few c = omega (arith, c.len.ensures, length-cells_in c.self.inside.pool c.self.inside.cells, c.self.invariant.workbook.few)
