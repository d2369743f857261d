-- Formulas of a book, as evaluations begin with them.
use Rattle.std.proofs.Common.{◌≡◌, ℕ, ◌+◌, Bool, true, List, length, refl, sym, ap, ◌∙◌, subst, Option, Some, None}
use Rattle.cell_values.specs.declared.address.Addr.{Addr}
use Rattle.formula_trees.specs.Expr.{Expr}
use Rattle.formula_trees.specs.Sound.{IsSound}
use Rattle.demand_spec.specs.declared.Asked.{Asked}
use Rattle.demand_spec.specs.Formula.{plan}
use Rattle.cell_values.specs.Order.{entry_at}
use Rattle.demand_spec.specs.Book.{Book, Content, formula_of, formula_at}
use Rattle.demand_spec.specs.Listed.{IsFormulaOf}
use Rattle.cell_values.specs.Texts.{Texts}
use Rattle.demand_spec.specs.Plan.{Plan}
use Rattle.shared_expressions.specs.Trees.{Trees, depth}
use Rattle.workbook_core.specs.Books.{SharedBook}
use Rattle.workbook_core.specs.WithNumber.{AreAskable}
use Rattle.formula_eval.specs.declared.work.Frame.{Frame}
use Rattle.formula_eval.specs.Evaluations.{Answered, Stands}
use Rattle.demand_stack.specs.Open.{tree_or, tree_of, depth_of, plan_of, IsOpen, LiesOn, AnswersOn}

pub tree_is : (b : Book) (a : Addr) (t : Expr) → formula_at b a ≡ Some t → tree_of b a ≡ t
unfolding tree_of
tree_is b a t e = ap tree_or e

pub no_tree : (b : Book) (a : Addr) → formula_at b a ≡ None → tree_of b a ≡ Expr.RefError
unfolding tree_of
no_tree b a e = ap tree_or e

pub formula_found : (b : Book) (a : Addr) (o : Option Content) (f : Option Expr) → o ≡ entry_at b.cells a → f ≡ formula_of o → formula_at b a ≡ f
unfolding formula_at
formula_found b a o f e q = sym (ap formula_of e) ∙ sym q

pub record IsFormulaCell (w : SharedBook) (a : Addr) (t : Expr) : Type 0 where
  pub sound : IsSound a t
  pub meant : IsFormulaOf w.book.texts t

pub formula_cell : (w : SharedBook) (a : Addr) (t : Expr) → AreAskable w → formula_at w.book a ≡ Some t → IsFormulaCell w a t
unfolding formula_at
formula_cell w a t h e = go (entry_at w.book.cells a) refl e
  where
    go : (o : Option Content) → entry_at w.book.cells a ≡ o → formula_of o ≡ Some t → IsFormulaCell w a t
    go None p q = cc
    go (Some (Content.Number n)) p q = cc
    go (Some (Content.Text n)) p q = cc
    go (Some (Content.Truth n)) p q = cc
    go (Some (Content.Formula u)) p q =
        let same : u ≡ t = cc in
        let c = h a (Content.Formula u) p in
        subst (IsFormulaCell w a) same (record { sound = c.sound; meant = c.texts })

-- an answer about the formula's tree is one about the cell
pub answers_cell : (w : SharedBook) (l : Addr → Asked) (a : Addr) (t : Expr) (base : List Frame) (r : Asked) (fs : List Frame) → formula_at w.book a ≡ Some t → Answered w.pool w.book.texts l (length base + depth t) a (plan w.book.texts a t) base r fs → AnswersOn w.pool w.book l a base r fs
answers_cell w l a t base r fs e h = subst (λ z. Answered w.pool w.book.texts l (length base + depth z) a (plan w.book.texts a z) base r fs) (sym (tree_is w.book a t e)) h

-- the last open evaluation goes on
pub resumed : (w : SharedBook) (p : Trees) (ts : Texts) (l : Addr → Asked) (a : Addr) (t : Bool) (fs base : List Frame) (r : Asked) (fs' : List Frame) → p ≡ w.pool → ts ≡ w.book.texts →
    ((limit : ℕ) (at : Addr) (q : Plan) (x : Addr) (under : List Frame) → Stands p ts l limit at q x fs under → Answered p ts l limit at q under r fs') →
    t ≡ true → LiesOn w.pool w.book l a t fs base → AnswersOn w.pool w.book l a base r fs'
resumed w p ts l a t fs base r fs' e d goes b h =
    let o : IsOpen w.pool w.book l a base fs = subst (λ z. LiesOn w.pool w.book l a z fs base) b h in
    let s : Stands p ts l (length base + depth_of w.book a) a (plan_of w.book a) o.needs fs base = (let x = sym e in let y = sym d in subst (λ z. Stands p z l (length base + depth_of w.book a) a (plan_of w.book a) o.needs fs base) y (subst (λ z. Stands z w.book.texts l (length base + depth_of w.book a) a (plan_of w.book a) o.needs fs base) x o.stands)) in
    let g : Answered p ts l (length base + depth_of w.book a) a (plan_of w.book a) base r fs' = goes (length base + depth_of w.book a) a (plan_of w.book a) o.needs base s in
    subst (λ z. Answered w.pool z l (length base + depth_of w.book a) a (plan_of w.book a) base r fs') d (subst (λ z. Answered z ts l (length base + depth_of w.book a) a (plan_of w.book a) base r fs') e g)
