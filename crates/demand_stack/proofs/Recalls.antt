-- What is recalled of a cell is what is looked up.
use Rattle.std.proofs.Common.{◌≡◌, ℕ, zero, suc, ◌<◌, List, [], ◌∷◌, length, get_or, refl, sym, ap, ◌∙◌, subst, Option, Some, None, IfSome}
use Rattle.cell_values.specs.declared.address.Addr.{Addr}
use Rattle.cell_values.specs.declared.values.Shown.{Shown}
use Rattle.cell_values.specs.declared.values.Value.{Value}
use Rattle.cell_values.specs.Order.{entry_at}
use Rattle.cell_values.specs.Values.{IsShownOf}
use Rattle.formula_trees.specs.Expr.{Expr}
use Rattle.demand_spec.specs.declared.Asked.TheVariants.{Val, Needs}
use Rattle.demand_spec.specs.Book.{Book, Content, Known, formula_of, own_of, formula_at, own, look, look_at, finished, shown}
use Rattle.demand_spec.specs.Laws.{PartOf}
use Rattle.demand_spec.specs.Results.{AreFoundOf}
use Rattle.demand_spec.proofs.Results.{shows_own, shows_its_texts}
use Rattle.workbook_core.specs.Books.{SharedBook}
use Rattle.workbook_core.specs.WithNumber.{AreAskable}
use Rattle.formula_eval.specs.declared.machine.Look.{Look}
use Rattle.formula_eval.specs.Evaluations.{found_as, MeansValue}
use Rattle.worker_machine.specs.Jobs.{Pending, cell_at, number_in, cell_number}
use Rattle.worker_machine.specs.Evaluation.{AllRight, known_value, stored_value, value_from, values}
use Rattle.worker_machine.proofs.Places.{number_some, number_none}
use Rattle.worker_machine.proofs.Numbers.{KnownList}
use Rattle.worker_machine.proofs.Shows.{values_part, val_shown}
use Rattle.demand_stack.specs.declared.notes.Note.{Note}
use Rattle.demand_stack.specs.StackSeen.{AreStored}
use Rattle.demand_stack.specs.Recall.{IsRecall, cells_in, known_of, own_in}
use Rattle.demand_stack.specs.Open.{blank}

-- numbers

pub number_low : (ps : Pending) (a : Addr) (i : ℕ) → Some i ≡ number_in ps.cells a → i < length ps.cells
unfolding cell_number
number_low ps a i e = (number_some ps a i (sym e)).0

pub number_is : (ps : Pending) (a : Addr) (o : Option ℕ) → o ≡ number_in ps.cells a → o ≡ cell_number ps a
unfolding cell_number
number_is ps a o e = e

-- what is known of a cell

pub known_at : (ns : List Note) (i : ℕ) → get_or (known_of ns) i None ≡ (get_or ns i blank).shown
known_at [] i = refl
known_at (n ∷ ns) zero = refl
known_at (n ∷ ns) (suc i) = known_at ns i

-- the value of a formula cell

pub recalled_pending : (ps : Pending) (k : KnownList) (a : Addr) (i : ℕ) (v : Option Value) → Some i ≡ number_in ps.cells a → v ≡ known_value (get_or k i None) → v ≡ values ps k a
unfolding cell_number
recalled_pending ps k a i v p e = e ∙ ap (value_from ps k a) p

pub recalled_other : (ps : Pending) (k : KnownList) (results : List (Addr × Shown)) (a : Addr) (t : Expr) (v : Option Value) → AreStored ps results → formula_at ps.book a ≡ Some t → None ≡ number_in ps.cells a → v ≡ known_value (entry_at results a) → v ≡ values ps k a
unfolding cell_number
recalled_other ps k results a t v s f p e =
    e ∙ ap known_value (s a t f (number_none ps a (sym p)))
    ∙ sym (ap (λ o. stored_value o (shown ps.book a)) f)
    ∙ ap (value_from ps k a) p

-- text numbers

pub askable_found : (w : SharedBook) → AreAskable w → AreFoundOf w.book.texts w.book.cells
askable_found w h a x e = (h a x e).texts

-- a value that is found is what the cell shows
look_shows : (b : Book) (e : Known) (a : Addr) (v : Value) → PartOf e (finished b) → look b e a ≡ Val v → shown b a ≡ Shown.Val v
look_shows b e a v part q = by_formula (formula_at b a) refl q
  where
    by_known : (t : Expr) → formula_at b a ≡ Some t → (o : Option Value) → e a ≡ o → look_at (Some t) (own b a) o a ≡ Val v → shown b a ≡ Shown.Val v
    by_known t f (Some w) p q = (let same : w ≡ v = cc in subst (λ z. shown b a ≡ Shown.Val z) same (val_shown b a t w f (part a w p)))
    by_known t f None p q = cc

    by_formula : (o : Option Expr) → formula_at b a ≡ o → look_at o (own b a) (e a) a ≡ Val v → shown b a ≡ Shown.Val v
    by_formula (Some t) f q = by_known t f (e a) refl q
    by_formula None f q = (let same : own b a ≡ v = cc in shows_own b a f ∙ ap Shown.Val same)

pub seen_meant : (w : SharedBook) (cells : List Addr) (k : KnownList) (results : List (Addr × Shown)) (a : Addr) (r : Look) → AreAskable w → IsRecall w cells k results → found_as r a ≡ look w.book (values (cells_in w cells) k) a → MeansValue w.book.texts r
seen_meant w cells k results a (Look.Val v) h s e = subst (IsShownOf w.book.texts) (look_shows w.book (values (cells_in w cells) k) a v (values_part (cells_in w cells) k s.pending s.right) (sym e)) (shows_its_texts w.book (askable_found w h) a)
seen_meant w cells k results a Look.Missing h s e = tt

-- a result that is known is of the book's texts
pub known_meant : (w : SharedBook) (cells : List Addr) (k : KnownList) (i : ℕ) (o : Option Shown) → AreAskable w → AllRight (cells_in w cells) k → o ≡ get_or k i None → IfSome o (IsShownOf w.book.texts)
known_meant w cells k i (Some r) h right e = subst (IsShownOf w.book.texts) (sym (right i r (sym e))) (shows_its_texts w.book (askable_found w h) (cell_at (cells_in w cells) i))
known_meant w cells k i None h right e = tt

-- a look, by what the cell holds

pub own_found : (b : Book) (e : Known) (a : Addr) (x : Option Content) (v : Value) → x ≡ entry_at b.cells a → Some v ≡ own_in x → Val v ≡ look b e a
unfolding formula_at own
own_found b e a x v p q = go x p q
  where
    go : (x : Option Content) → x ≡ entry_at b.cells a → Some v ≡ own_in x → Val v ≡ look_at (formula_of (entry_at b.cells a)) (own_of (entry_at b.cells a)) (e a) a
    go None p q = subst (λ z. Val v ≡ look_at (formula_of z) (own_of z) (e a) a) p (let s : v ≡ Value.Blank = cc in ap Val s)
    go (Some (Content.Number n)) p q = subst (λ z. Val v ≡ look_at (formula_of z) (own_of z) (e a) a) p (let s : v ≡ Value.Number n = cc in ap Val s)
    go (Some (Content.Text t)) p q = subst (λ z. Val v ≡ look_at (formula_of z) (own_of z) (e a) a) p (let s : v ≡ Value.Text t = cc in ap Val s)
    go (Some (Content.Truth t)) p q = subst (λ z. Val v ≡ look_at (formula_of z) (own_of z) (e a) a) p (let s : v ≡ Value.Bool t = cc in ap Val s)
    go (Some (Content.Formula t)) p q = cc

pub formula_there : (b : Book) (a : Addr) (x : Option Content) → x ≡ entry_at b.cells a → None ≡ own_in x → (t : Expr) × (formula_at b a ≡ Some t)
unfolding formula_at
formula_there b a x p q = go x p q
  where
    go : (x : Option Content) → x ≡ entry_at b.cells a → None ≡ own_in x → (t : Expr) × (formula_of (entry_at b.cells a) ≡ Some t)
    go None p q = cc
    go (Some (Content.Number n)) p q = cc
    go (Some (Content.Text t)) p q = cc
    go (Some (Content.Truth t)) p q = cc
    go (Some (Content.Formula t)) p q = (t, ap formula_of (sym p))

pub value_found : (b : Book) (e : Known) (a : Addr) (t : Expr) (v : Value) → formula_at b a ≡ Some t → Some v ≡ e a → Val v ≡ look b e a
value_found b e a t v f q = (let g = sym f in λ i. look_at (g i) (own b a) (q i) a)

pub value_missing : (b : Book) (e : Known) (a : Addr) (t : Expr) → formula_at b a ≡ Some t → None ≡ e a → Needs a ≡ look b e a
value_missing b e a t f q = (let g = sym f in λ i. look_at (g i) (own b a) (q i) a)
