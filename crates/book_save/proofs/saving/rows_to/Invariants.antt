use Rattle.std.proofs.Common.{◌≡◌, map, None, All}
use Rattle.cell_values.specs.Areas.{numbers_from}
use Rattle.book_save.specs.Rows.{first_long_at, places, saved_row, HaveUtf8}
use Rattle.book_save.proofs.saving.rows_to.Given as goal

abbrev pub invariant-loop-above : goal.invariant-loop-above
invariant-loop-above l =
    record {
      rows : map (λ row. row.items) l.saved.items ≡ map (saved_row l.book.names l.book.book l.sheet) (numbers_from 1 l.above);
      utf8 : All (HaveUtf8 l.book.names l.book.book) (places l.sheet l.columns l.above);
      short : first_long_at l.book.names l.book.book (places l.sheet l.columns l.above) ≡ None;
    }
