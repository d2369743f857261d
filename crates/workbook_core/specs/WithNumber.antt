-- A book in which one cell holds a number, and what its evaluation needs of the cells of a book.
use Rattle.std.specs.Prelude.{◌≡◌, ℤ, cond, Option, Some, None}
use Rattle.cell_values.specs.declared.address.Addr.{Addr}
use Rattle.cell_values.specs.Addresses.{same_addr}
use Rattle.cell_values.specs.Order.{entry_at}
use Rattle.cell_values.specs.Texts.{Texts}
use Rattle.demand_spec.specs.Book.{Book, Content}
use Rattle.demand_spec.specs.Edits.{applied, Put}
use Rattle.demand_spec.specs.Listed.{IsSoundAt, IsContentOf}
use Rattle.workbook_core.specs.declared.Content.{Content as Held}
use Rattle.workbook_core.specs.Books.{SharedBook}

-- the book in which this cell holds the number, and every other one what it held
abbrev pub with_number : Book → Addr → ℤ → Book
with_number b at n = record b { cells = applied (Put at (Some (Content.Number n))) b.cells }

-- the same of a workbook
abbrev pub shared_with_number : SharedBook → Addr → ℤ → SharedBook
shared_with_number w at n = record w { book = with_number w.book at n }

-- the same, or the workbook as it is where no number is given
abbrev pub shared_with : SharedBook → Option (Addr × ℤ) → SharedBook
shared_with w None = w
shared_with w (Some given) = shared_with_number w given.0 given.1

-- what a cell holds then, where it held this
abbrev pub held_with : Option (Addr × ℤ) → Addr → Option Held → Option Held
held_with None a held = held
held_with (Some given) a held = cond (same_addr given.0 a) (Some (Held.Number given.1)) held

-- a formula is sound where it stands, and what the cell holds names these texts alone
pub record IsAskable (ts : Texts) (a : Addr) (c : Content) : Type 0 where
  pub sound : IsSoundAt a c
  pub texts : IsContentOf ts c

-- this holds of each cell of the workbook, however many they are
abbrev pub AreAskable : SharedBook → Type 0
AreAskable w = (a : Addr) (c : Content) → entry_at w.book.cells a ≡ Some c → IsAskable w.book.texts a c
