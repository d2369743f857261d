-- What is known of a cell by its result is what rounds give it, and what is asked over that is what it needs.
use Rattle.std.proofs.Common.{◌≡◌, ℕ, ◌≤◌, List, length, Option, Some, None, refl, sym, ap, ◌∙◌, subst, arith}
use Rattle.cell_values.specs.declared.address.Addr.{Addr}
use Rattle.cell_values.specs.declared.values.Shown.{Shown}
use Rattle.cell_values.specs.declared.values.Value.{Value}
use Rattle.cell_values.specs.Order.{entry_at}
use Rattle.cell_values.specs.Texts.{Texts}
use Rattle.cell_values.specs.Values.{IsShownOf, IsValueOf}
use Rattle.formula_trees.specs.Expr.{Expr}
use Rattle.formula_trees.specs.Sound.{IsSound}
use Rattle.formula_trees.specs.declared.TheConstants.{MAX_NODES}
use Rattle.shared_expressions.specs.Trees.{depth}
use Rattle.shared_expressions.proofs.Depths.{depth_within_nodes}
use Rattle.demand_spec.specs.declared.Asked.{Asked}
use Rattle.demand_spec.specs.declared.Asked.TheVariants.{Val, Needs}
use Rattle.demand_spec.specs.Formula.{plan}
use Rattle.demand_spec.specs.Plan.{run}
use Rattle.demand_spec.specs.Book.{Book, Content, Known, formula_of, own_of, formula_at, own, look, look_at, ask, ask_formula, ask_cell, cell_needed, formulas, finished, need, period, shown, shown_from}
use Rattle.demand_spec.specs.Listed.{IsContentOf, IsFormulaOf}
use Rattle.demand_spec.proofs.Results.{shows_its_texts}
use Rattle.workbook_core.specs.Books.{SharedBook, IsWorkbook}
use Rattle.cycle_finder.specs.Loops.{loop_length, HoldShown}
use Rattle.cycle_finder.specs.Search.{own_in, value_of, length_of, AreShown, values_in}
use Rattle.cycle_finder.proofs.Around.{length_shows, shows_length}

-- a cell without a formula

pub own_found : (b : Book) (e : Known) (a : Addr) (x : Option Content) (v : Value) → x ≡ entry_at b.cells a → Some v ≡ own_in x → Val v ≡ look b e a
unfolding formula_at own
own_found b e a x v p q = subst (λ z. Val v ≡ look_at (formula_of z) (own_of z) (e a) a) p (go x q)
  where
    go : (x : Option Content) → Some v ≡ own_in x → Val v ≡ look_at (formula_of x) (own_of x) (e a) a
    go None q = (let s : v ≡ Value.Blank = cc in ap Val s)
    go (Some (Content.Number n)) q = (let s : v ≡ Value.Number n = cc in ap Val s)
    go (Some (Content.Text t)) q = (let s : v ≡ Value.Text t = cc in ap Val s)
    go (Some (Content.Truth t)) q = (let s : v ≡ Value.Bool t = cc in ap Val s)
    go (Some (Content.Formula t)) q = cc

pub own_text : (ts : Texts) (x : Option Content) (v : Value) → ((y : Content) → x ≡ Some y → IsContentOf ts y) → Some v ≡ own_in x → IsValueOf ts v
own_text ts None v h q = (let s : Value.Blank ≡ v = cc in subst (IsValueOf ts) s tt)
own_text ts (Some (Content.Number n)) v h q = (let s : Value.Number n ≡ v = cc in subst (IsValueOf ts) s tt)
own_text ts (Some (Content.Text t)) v h q = (let s : Value.Text t ≡ v = cc in subst (IsValueOf ts) s (h (Content.Text t) refl))
own_text ts (Some (Content.Truth t)) v h q = (let s : Value.Bool t ≡ v = cc in subst (IsValueOf ts) s tt)
own_text ts (Some (Content.Formula t)) v h q = cc

pub formula_there : (b : Book) (a : Addr) (x : Option Content) → x ≡ entry_at b.cells a → None ≡ own_in x → (t : Expr) × (formula_at b a ≡ Some t)
unfolding formula_at
formula_there b a x p q = go x p q
  where
    go : (x : Option Content) → x ≡ entry_at b.cells a → None ≡ own_in x → (t : Expr) × (formula_of (entry_at b.cells a) ≡ Some t)
    go None p q = cc
    go (Some (Content.Number n)) p q = cc
    go (Some (Content.Text t)) p q = cc
    go (Some (Content.Truth t)) p q = cc
    go (Some (Content.Formula t)) p q = (t, ap formula_of (sym p))

-- a formula cell

value_shown : (b : Book) (a : Addr) (t : Expr) → formula_at b a ≡ Some t → value_of (Some (shown b a)) ≡ finished b a
unfolding shown
value_shown b a t e = rw e (go (finished b a) (period b (length (formulas b)) a))
  where
    go : (f : Option Value) (p : Option ℕ) → value_of (Some (shown_from (Some t) (own b a) f p)) ≡ f
    go (Some v) p = refl
    go None (Some n) = refl
    go None None = refl

pub value_recalled : (b : Book) (results : List (Addr × Shown)) (a : Addr) (t : Expr) → HoldShown b results → formula_at b a ≡ Some t → value_of (entry_at results a) ≡ finished b a
value_recalled b results a t h e = ap value_of (h a t e) ∙ value_shown b a t e

pub value_found : (b : Book) (e : Known) (a : Addr) (t : Expr) (v : Value) → formula_at b a ≡ Some t → Some v ≡ e a → Val v ≡ look b e a
value_found b e a t v f q = (let g = sym f in λ i. look_at (g i) (own b a) (q i) a)

pub value_missing : (b : Book) (e : Known) (a : Addr) (t : Expr) → formula_at b a ≡ Some t → None ≡ e a → Needs a ≡ look b e a
value_missing b e a t f q = (let g = sym f in λ i. look_at (g i) (own b a) (q i) a)

shown_text : (ts : Texts) (r : Shown) (v : Value) → IsShownOf ts r → Some v ≡ value_of (Some r) → IsValueOf ts v
shown_text ts (Shown.Val w) v h q = (let s : w ≡ v = cc in subst (IsValueOf ts) s h)
shown_text ts (Shown.Cycle n) v h q = cc
shown_text ts Shown.ToCycle v h q = cc

pub value_text : (w : SharedBook) (results : List (Addr × Shown)) (a : Addr) (t : Expr) (v : Value) → IsWorkbook w → AreShown w.book results → formula_at w.book a ≡ Some t → Some v ≡ value_of (entry_at results a) → IsValueOf w.book.texts v
value_text w results a t v i h e q = go (entry_at results a) refl q
  where
    go : (o : Option Shown) → entry_at results a ≡ o → Some v ≡ value_of o → IsValueOf w.book.texts v
    go None p k = cc
    go (Some r) p k = shown_text w.book.texts r v (subst (IsShownOf w.book.texts) (sym (h a t r e p)) (shows_its_texts w.book (λ c x f. (i.cells c x f).texts) a)) k

-- where all results are there, asked over them a cell gives what it gives over what is finished

pub all_shown : (b : Book) (results : List (Addr × Shown)) → HoldShown b results → AreShown b results
all_shown b results h c t r e f = (let s : Some r ≡ Some (shown b c) = sym f ∙ h c t e in cc)

same_look : (b : Book) (results : List (Addr × Shown)) → HoldShown b results → (a : Addr) → look b (values_in results) a ≡ look b (finished b) a
same_look b results h a = go (formula_at b a) refl
  where
    go : (o : Option Expr) → formula_at b a ≡ o → look b (values_in results) a ≡ look b (finished b) a
    go None e = ap (λ z. look_at z (own b a) (values_in results a) a) e ∙ sym (ap (λ z. look_at z (own b a) (finished b a) a) e)
    go (Some t) e = ap (λ z. look_at (formula_at b a) (own b a) z a) (value_recalled b results a t h e)

pub need_recalled : (b : Book) (results : List (Addr × Shown)) (c : Addr) → HoldShown b results → cell_needed (ask_cell b (values_in results) c) ≡ need b c
unfolding need ask_cell
need_recalled b results c h = go (formula_at b c)
  where
    go : (o : Option Expr) → cell_needed (ask_formula b (values_in results) c o) ≡ cell_needed (ask_formula b (finished b) c o)
    go None = refl
    go (Some t) = λ i. cell_needed (Some (run (λ a. same_look b results h a i) (plan b.texts c t)))

-- loops

length_shown : (b : Book) (a : Addr) → length_of (Some (shown b a)) ≡ loop_length b a
length_shown b a = go (loop_length b a) refl (shown b a) refl
  where
    go : (o : Option ℕ) → loop_length b a ≡ o → (r : Shown) → shown b a ≡ r → length_of (Some (shown b a)) ≡ loop_length b a
    go (Some n) e r f = ap (λ z. length_of (Some z)) (length_shows b a n e) ∙ sym e
    go None e (Shown.Cycle n) f = (let k : None ≡ Some n = sym e ∙ shows_length b a n f in cc)
    go None e (Shown.Val v) f = ap (λ z. length_of (Some z)) f ∙ sym e
    go None e Shown.ToCycle f = ap (λ z. length_of (Some z)) f ∙ sym e

pub length_recalled : (b : Book) (results : List (Addr × Shown)) (a : Addr) (t : Expr) → HoldShown b results → formula_at b a ≡ Some t → length_of (entry_at results a) ≡ loop_length b a
length_recalled b results a t h e = ap length_of (h a t e) ∙ length_shown b a

pub no_length : (b : Book) (a : Addr) → formula_at b a ≡ None → None ≡ loop_length b a
unfolding shown
no_length b a e = go (loop_length b a) refl
  where
    go : (o : Option ℕ) → loop_length b a ≡ o → None ≡ loop_length b a
    go None f = sym f
    go (Some n) f = (let k : Shown.Val (own b a) ≡ Shown.Cycle n = sym (ap (λ z. shown_from z (own b a) (finished b a) (period b (length (formulas b)) a)) e) ∙ length_shows b a n f in cc)

-- what is asked

pub formula_found : (b : Book) (a : Addr) (o : Option Content) (f : Option Expr) → o ≡ entry_at b.cells a → f ≡ formula_of o → formula_at b a ≡ f
unfolding formula_at
formula_found b a o f e q = sym (ap formula_of e) ∙ sym q

-- a formula of a workbook may be evaluated, in room for the largest one
pub record Fits (w : SharedBook) (a : Addr) (t : Expr) : Type 0 where
  pub sound : IsSound a t
  pub meant : IsFormulaOf w.book.texts t
  pub room : depth t ≤ MAX_NODES

pub formula_fits : (w : SharedBook) (a : Addr) (t : Expr) → IsWorkbook w → formula_at w.book a ≡ Some t → Fits w a t
unfolding formula_at
formula_fits w a t h e = go (entry_at w.book.cells a) refl e
  where
    go : (o : Option Content) → entry_at w.book.cells a ≡ o → formula_of o ≡ Some t → Fits w a t
    go None p q = cc
    go (Some (Content.Number n)) p q = cc
    go (Some (Content.Text n)) p q = cc
    go (Some (Content.Truth n)) p q = cc
    go (Some (Content.Formula u)) p q =
        let same : u ≡ t = cc in
        let c = h.cells a (Content.Formula u) p in
        let small = c.sound.small in
        subst (Fits w a) same (record { sound = c.sound; meant = c.texts; room = omega (arith, depth_within_nodes u, small) })

-- what a formula gives is what its cell gives

pub cell_asked : (b : Book) (e : Known) (a : Addr) (t : Expr) (r : Asked) → formula_at b a ≡ Some t → r ≡ ask b e a t → Some r ≡ ask_cell b e a
unfolding ask_cell
cell_asked b e a t r f q = ap Some q ∙ sym (ap (ask_formula b e a) f)

pub none_asked : (b : Book) (e : Known) (a : Addr) → formula_at b a ≡ None → None ≡ ask_cell b e a
unfolding ask_cell
none_asked b e a f = sym (ap (ask_formula b e a) f)
