use Rattle.std.proofs.Common.{◌≡◌, List, subst}
use Rattle.cell_values.specs.declared.address.Addr.{Addr}
use Rattle.cell_values.specs.declared.fields.Raw.{Raw}
use Rattle.sheet_loading.specs.Loaded.{book_of, cells_in}
use Rattle.sheet_loading.proofs.loader.Loader.finish.Goals as goal

pub returns-clause-book : goal.returns-clause-book
unfolding book_of
returns-clause-book c =
    rw (← c.self.view_is) (λ read right.
    let cells = subst (λ (fs : List (Addr × Raw)). c.in_ok-workbook.workbook.book.cells ≡ cells_in read c.self.inside.texts fs) c.deref.ensures.value (c.in_ok-workbook.ensures.cells read right) in
    λ i. record { cells = cells i; texts = c.in_ok-workbook.ensures.texts i })
