use Rattle.std.proofs.Common.{◌≡◌, Option, Some, List, [], ◌∷◌, ◌++◌, length, option_map, refl, sym, ap, ◌∙◌, subst}
use Rattle.cell_values.specs.declared.address.Addr.{Addr}
use Rattle.cell_values.specs.Order.{addresses, entry_at}
use Rattle.formula_trees.specs.Expr.{Expr, expr_of}
use Rattle.formula_trees.specs.Sound.{IsSound}
use Rattle.shared_expressions.specs.declared.nodes.ExprId.{ExprId}
use Rattle.shared_expressions.specs.Trees.{Trees, tree_at}
use Rattle.demand_spec.specs.Book.{Content}
use Rattle.demand_spec.specs.Listed.{AreCellsOf}
use Rattle.demand_spec.proofs.Small.{cells_push}
use Rattle.workbook_core.specs.declared.Content.{Content as Held}
use Rattle.workbook_core.specs.Held.{content_in}
use Rattle.workbook_core.specs.Books.{SharedBook, IsWorkbook, IsCell}
use Rattle.speculative_eval.proofs.tests.copy_cell.Goals as goal

-- what stands in a cell that holds a formula, by its tree
is_cell : (w : SharedBook) (at : Addr) (found : Option Held) (h : Held) (id : ExprId) (p : Trees) (t : Expr) → IsWorkbook w → option_map (content_in w.pool) found ≡ entry_at w.book.cells at → found ≡ Some h → h ≡ Held.Formula id → p ≡ w.pool → t ≡ tree_at p id → IsCell w.book.texts (length w.names) at (Content.Formula t)
is_cell w at found h id p t k q is formula pool tree =
    let there : Some (Content.Formula (tree_at w.pool id)) ≡ entry_at w.book.cells at = ap (λ z. option_map (content_in w.pool) (Some z)) (sym formula) ∙ ap (option_map (content_in w.pool)) (sym is) ∙ q in
    subst (λ z. IsCell w.book.texts (length w.names) at (Content.Formula z)) (sym (tree ∙ ap (λ z. tree_at z id) pool)) (k.cells at (Content.Formula (tree_at w.pool id)) (sym there))

addresses_push : (cells : List (Addr × Content)) (c : Addr × Content) → addresses (cells ++ c ∷ []) ≡ addresses cells ++ c.0 ∷ []
addresses_push [] c = refl
addresses_push (d ∷ cells) c = ap (λ z. d.0 ∷ z) (addresses_push cells c)

pub push-requires-clause-on_sheet : goal.push-requires-clause-on_sheet
push-requires-clause-on_sheet g c = (is_cell c.args.book.now c.args.at c.content.result c.in-Some-Formula.field-0 c.in-Some-Formula.id c.pool.result.now (expr_of c.in_ok-tree.tree) c.content.ensures.workbook c.content.ensures.content c.in-Some-Formula.is c.in-Some-Formula.field-0-is c.pool.ensures c.in_ok-tree.ensures).on_sheet

pub push-requires-clause-sound : goal.push-requires-clause-sound
push-requires-clause-sound g c = (is_cell c.args.book.now c.args.at c.content.result c.in-Some-Formula.field-0 c.in-Some-Formula.id c.pool.result.now (expr_of c.in_ok-tree.tree) c.content.ensures.workbook c.content.ensures.content c.in-Some-Formula.is c.in-Some-Formula.field-0-is c.pool.ensures c.in_ok-tree.ensures).sound

pub returns-clause-texts : goal.returns-clause-texts
returns-clause-texts g c =
    let cell = is_cell c.args.book.now c.args.at c.content.result c.in-Some-Formula.field-0 c.in-Some-Formula.id c.pool.result.now (expr_of c.in_ok-tree.tree) c.content.ensures.workbook c.content.ensures.content c.in-Some-Formula.is c.in-Some-Formula.field-0-is c.pool.ensures c.in_ok-tree.ensures in
    subst (AreCellsOf c.args.book.now.book.texts) (sym c.in_ok-push.ensures.ok) (cells_push c.args.book.now.book.texts c.args.plain.now (c.args.at, Content.Formula (expr_of c.in_ok-tree.tree)) c.requires.texts cell.texts)

pub returns-clause-added : goal.returns-clause-added
returns-clause-added g c = ap (addresses {A = Content}) c.in_ok-push.ensures.ok ∙ addresses_push c.args.plain.now (c.args.at, Content.Formula (expr_of c.in_ok-tree.tree))
