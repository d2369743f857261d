-- A workbook, cell by cell in order, as a plain book.
use Rattle.std.proofs.Common.{List, [], ◌∷◌, ◌++◌}
use Rattle.cell_values.specs.declared.address.Addr.{Addr}
use Rattle.cell_values.specs.Addresses.{IsBefore}
use Rattle.cell_values.specs.Order.{IsAfterAll, addresses}
use Rattle.demand_spec.specs.Book.{Content}

-- an address behind the last cell is behind all
pub after_last : (a : Addr) (cells : List (Addr × Content)) (last : Addr × Content) → IsAfterAll a (addresses cells) → IsBefore last.0 a → IsAfterAll a (addresses (cells ++ last ∷ []))
after_last a [] last h k = (k, tt)
after_last a (c ∷ cells) last h k = (h.0, after_last a cells last h.1 k)
