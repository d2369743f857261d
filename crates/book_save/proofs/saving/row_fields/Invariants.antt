use Rattle.std.proofs.Common.{◌≡◌, map, string_bytes, vec_len, None}
use Rattle.book_save.specs.Rows.{first_long_at, row_fields, row_places}
use Rattle.book_save.proofs.saving.row_fields.Given as goal

abbrev pub invariant-loop-before : goal.invariant-loop-before
invariant-loop-before l =
    record {
      fields : map string_bytes l.fields.items ≡ row_fields l.book.names l.book.book l.sheet l.before l.row;
      count : vec_len l.fields ≡ l.before;
      short : first_long_at l.book.names l.book.book (row_places l.sheet l.before l.row) ≡ None;
    }
