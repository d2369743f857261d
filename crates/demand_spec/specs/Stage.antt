-- What formulas are asked over: a book, and the values of formula cells that are known.
use Rattle.std.specs.Prelude.{List}
use Rattle.cell_values.specs.declared.address.Addr.{Addr}
use Rattle.cell_values.specs.declared.values.Value.{Value}
use Rattle.cell_values.specs.Texts.{Texts}
use Rattle.formula_trees.specs.Expr.{Expr}
use Rattle.demand_spec.specs.declared.Asked.{Asked}
use Rattle.demand_spec.specs.Book.{Book, Content, Known, look, ask}
use Rattle.demand_spec.specs.Listed.{AreCellsOf, AreKnownOf}
use Rattle.cell_values.specs.Order.{entry_at}

pub record Sight : Type 0 where
  pub cells : List (Addr × Content)
  pub texts : Texts
  pub known : List (Addr × Value)

-- all text numbers are the texts'
pub record IsSight (s : Sight) : Type 0 where
  pub cells_of : AreCellsOf s.texts s.cells
  pub known_of : AreKnownOf s.texts (entry_at s.known)

-- a book with its texts
abbrev pub book_with : List (Addr × Content) → Texts → Book
book_with cells texts = record { cells = cells; texts = texts }

abbrev pub book_of : Sight → Book
book_of s = book_with s.cells s.texts

abbrev pub known_of : Sight → Known
known_of s = entry_at s.known

-- what a demand of a cell gives
abbrev pub look_on : Sight → Addr → Asked
look_on s a = look (book_of s) (entry_at s.known) a

-- what a formula gives
abbrev pub ask_on : Sight → Addr → Expr → Asked
ask_on s at t = ask (book_of s) (entry_at s.known) at t
