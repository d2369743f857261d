-- What laws say of the results of single cells.
use Rattle.std.specs.Prelude.{◌≡◌, Some, None, List}
use Rattle.cell_values.specs.declared.address.Addr.{Addr}
use Rattle.cell_values.specs.declared.values.Shown.{Shown}
use Rattle.cell_values.specs.Values.{IsShownOf}
use Rattle.cell_values.specs.Order.{entry_at}
use Rattle.cell_values.specs.Texts.{Texts}
use Rattle.formula_trees.specs.Expr.{Expr}
use Rattle.formula_trees.specs.Mentions.{mentions}
use Rattle.demand_spec.specs.declared.Asked.TheVariants.{Needs}
use Rattle.demand_spec.specs.Book.{Book, Content, Known, formula_at, own, ask, finished, need, shown}
use Rattle.demand_spec.specs.Laws.{In, Demands}
use Rattle.demand_spec.specs.Listed.{IsContentOf}

-- a cell without a formula shows its own value
abbrev pub ShowsOwn : Type 0
ShowsOwn = (b : Book) (c : Addr) → formula_at b c ≡ None → shown b c ≡ Shown.Val (own b c)

-- each cell that is found has text numbers of these texts
abbrev pub AreFoundOf : Texts → List (Addr × Content) → Type 0
AreFoundOf ts cells = (a : Addr) (x : Content) → entry_at cells a ≡ Some x → IsContentOf ts x

-- where the cells have text numbers of the book's texts, what they show has one too
abbrev pub ShowsItsTexts : Type 0
ShowsItsTexts = (b : Book) → AreFoundOf b.texts b.cells → (a : Addr) → IsShownOf b.texts (shown b a)

-- a formula that needs a cell, over some known values, mentions it, and it is a formula cell of which no value is known
abbrev pub NeedsAreLacking : Type 0
NeedsAreLacking = (b : Book) (e : Known) (at : Addr) (t : Expr) (x : Addr) → ask b e at t ≡ Needs x →
    In x (mentions at t) × ((u : Expr) × (formula_at b x ≡ Some u)) × (e x ≡ None)

-- what a cell demands over a part of what is finished it needs, unless that cell is finished
abbrev pub DemandsAreNeeds : Type 0
DemandsAreNeeds = (b : Book) (c x : Addr) → Demands b c x → finished b x ≡ None → need b c ≡ Some x
