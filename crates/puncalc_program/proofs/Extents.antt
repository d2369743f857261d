-- A sheet with a row has a column.
use Rattle.std.proofs.Common.{◌≡◌, ℕ, ◌<◌, Some}
use Rattle.workbook_core.specs.Books.{SharedBook, IsWorkbook, extent_in}
use Rattle.book_save.proofs.Extents.{extent_some, last_wide}

-- the extent of a sheet with cells
pub extent_wide : (w : SharedBook) (sheet : ℕ) (last : ℕ × ℕ) → IsWorkbook w → Some last ≡ extent_in sheet w.book.cells → 0 < last.1
extent_wide w sheet last h e = last_wide w sheet last h (extent_some last sheet w.book.cells e)
