-- Cells apart from a workbook.
use Rattle.std.proofs.Common.{◌≡◌, ℕ, Bool, true, false, cond, List, [], Some, Result, Ok, Err, OnOk, OnErr, sym, subst, ◌∙◌}
use Rattle.cell_values.specs.declared.address.Addr.{Addr}
use Rattle.cell_values.specs.Addresses.{same_addr}
use Rattle.cell_values.specs.Order.{entry_at}
use Rattle.cell_values.specs.Texts.{Texts}
use Rattle.formula_trees.specs.Expr.{Expr}
use Rattle.demand_spec.specs.Book.{Content}
use Rattle.demand_spec.specs.Edits.{Put, IsApplied}
use Rattle.shared_expressions.specs.declared.nodes.ExprId.{ExprId}
use Rattle.shared_expressions.specs.Trees.{Trees, tree_at, KeepsTrees, StandsFor}
use Rattle.workbook_core.specs.declared.Content.{Content as Held}
use Rattle.workbook_core.specs.Apart.{AreApart}
use Rattle.workbook_core.specs.Books.{shared_book, IsKept, IsWorkbook}
use Rattle.workbook_core.specs.Held.{cells_in, IsHeldOf, SetsHeld}
use Rattle.workbook_core.proofs.Growth.{applied_set, cells_same, held_stays}
use Rattle.workbook_core.proofs.Lookups.{from_book}

pub none_apart : AreApart [] []
none_apart = record { order = tt; ids = λ a h e. cc }

pub apart_grows : (es : List (Addr × Held)) (p q : Trees) → KeepsTrees p q → AreApart es p → AreApart es q
apart_grows es p q k h = record { order = h.order; ids = λ a x e. held_stays p q x k (h.ids a x e) }

pub apart_same : (es : List (Addr × Held)) (p q : Trees) → KeepsTrees p q → AreApart es p → cells_in q es ≡ cells_in p es
apart_same es p q k h = cells_same p q es k h.order h.ids

apart_set : (es fs : List (Addr × Held)) (p : Trees) (at : Addr) (held : Held) → AreApart es p → IsHeldOf p held → SetsHeld at (Some held) es fs → AreApart fs p
apart_set es fs p at held k of s = record { order = s.order; ids = λ a h e. go a h (same_addr at a) (sym (s.lookups a) ∙ e) }
  where
    go : (a : Addr) (h : Held) (t : Bool) → cond t (Some held) (entry_at es a) ≡ Some h → IsHeldOf p h
    go a h true e = (let same : held ≡ h = cc in subst (IsHeldOf p) same of)
    go a h false e = k.ids a h e

-- whether there was memory for the cell or not
pub apart_put : {T E : Type 0} (r : Result T E) (es fs : List (Addr × Held)) (p : Trees) (at : Addr) (held : Held) → AreApart es p → IsHeldOf p held → OnOk r (SetsHeld at (Some held) es fs) → OnErr r (fs ≡ es) → AreApart fs p
apart_put (Ok x) es fs p at held k of s e = apart_set es fs p at held k of s
apart_put (Err x) es fs p at held k of s e = subst (λ gs. AreApart gs p) (sym e) k

-- the cell holds the tree of its id
pub tree_put : (es fs : List (Addr × Held)) (p q : Trees) (at : Addr) (id : ExprId) (e : Expr) → KeepsTrees p q → AreApart es p → StandsFor q id e → SetsHeld at (Some (Held.Formula id)) es fs → IsApplied (Put at (Some (Content.Formula e))) (cells_in p es) (cells_in q fs)
tree_put es fs p q at id e k h s set =
    subst (λ x. IsApplied (Put at (Some (Content.Formula x))) (cells_in p es) (cells_in q fs)) s.same
    (subst (λ cs. IsApplied (Put at (Some (Content.Formula (tree_at q id)))) cs (cells_in q fs)) (apart_same es p q k h) (applied_set q es fs at (Some (Held.Formula id)) set))

-- a workbook's cells stand apart, and cells that fit a workbook are kept by it

pub kept_apart : (es : List (Addr × Held)) (ts : Texts) (names : List (List ℕ)) (p : Trees) → IsKept es ts names p → AreApart es p
kept_apart es ts names p k = record { order = from_book p es k.workbook.order; ids = k.ids }

pub apart_kept : (es : List (Addr × Held)) (ts : Texts) (names : List (List ℕ)) (p : Trees) → AreApart es p → IsWorkbook (shared_book es ts names p) → IsKept es ts names p
apart_kept es ts names p k w = record { workbook = w; ids = k.ids }
