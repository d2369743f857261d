-- What a caller knows of the top, and of a book that it walks.
use Rattle.std.proofs.Common.{◌≡◌, ℕ, zero, suc, ◌<◌, ◌≤◌, inl, inr, Bool, true, false, cond, List, [], ◌∷◌, ◌++◌, append_assoc, length, get_or, drop, drop-cons, refl, sym, ap, ◌∙◌, subst, Option, Some, None, IsSome, arith}
use Rattle.std.proofs.lemmas.List.{append-nil, length_push}
use Rattle.cell_values.specs.declared.address.Addr.{Addr}
use Rattle.cell_values.specs.declared.values.Shown.{Shown}
use Rattle.cell_values.specs.declared.values.Value.{Value}
use Rattle.cell_values.specs.Addresses.{same_addr, IsBefore}
use Rattle.cell_values.specs.Order.{IsBeforeAll, InOrder, addresses, entry_at}
use Rattle.cell_values.proofs.Order.{before_apart, never_before, same_addr-true}
use Rattle.formula_trees.specs.Expr.{Expr}
use Rattle.demand_spec.specs.declared.Asked.TheVariants.{Val, Needs}
use Rattle.demand_spec.specs.Book.{Book, Content, formula_of, formula_at}
use Rattle.demand_spec.specs.Edits.{is_before}
use Rattle.demand_spec.specs.Laws.{In, Demands}
use Rattle.demand_spec.proofs.OneList.{before_member}
use Rattle.workbook_core.specs.Books.{SharedBook, IsWorkbook, next_in}
use Rattle.claim_core.specs.Pending.{IsPending}
use Rattle.worker_machine.specs.declared.state.Entry.{Entry}
use Rattle.worker_machine.specs.Jobs.{cell_at, cell_number}
use Rattle.worker_machine.specs.Evaluation.{IsEvaluation, LinkTo, cells_of, first_from, has, values}
use Rattle.worker_machine.proofs.Places.{number_some}
use Rattle.worker_machine.proofs.Shows.{demands, values_part}
use Rattle.worker_machine.proofs.Knowing.{needs_other, needs_known, gives_value}
use Rattle.worker_machine.proofs.Stepping.{from_is}
use Rattle.demand_stack.specs.StackSeen.{StackSeen, AreStored, IsDemandStack, IsUnknownTop, IsKnownTop, IsFound, TopDemands, ask_entry, first_entry, pending_of, top_of}

-- the top

pub record IsTop (s : StackSeen) (f : Entry) : Type 0 where
  pub rest : List Entry
  pub on_top : s.stack ≡ f ∷ rest

pub top_is : (s : StackSeen) (f : Entry) → top_of s ≡ Some f → IsTop s f
top_is s f e = go s.stack refl e
  where
    go : (fs : List Entry) → s.stack ≡ fs → first_entry fs ≡ Some f → IsTop s f
    go [] q d = cc
    go (g ∷ rest) q d = (let same : g ≡ f = cc in record { rest = rest; on_top = q ∙ ap (λ z. z ∷ rest) same })

pub no_top : (s : StackSeen) → top_of s ≡ None → s.stack ≡ []
no_top s e = go s.stack refl e
  where
    go : (fs : List Entry) → s.stack ≡ fs → first_entry fs ≡ None → s.stack ≡ []
    go [] q d = q
    go (g ∷ rest) q d = cc

pub known_top_is : (s : StackSeen) (f : Entry) (r : Shown) → top_of s ≡ Some f → get_or s.known f.cell None ≡ Some r → IsKnownTop s f
known_top_is s f r e k = (let t = top_is s f e in record { rest = t.rest; on_top = t.on_top; result = r; is_known = k })

pub unknown_top_is : (s : StackSeen) (f : Entry) → top_of s ≡ Some f → get_or s.known f.cell None ≡ None → IsUnknownTop s f
unknown_top_is s f e k = (let t = top_is s f e in record { rest = t.rest; on_top = t.on_top; unknown = k })

top_low : (s : StackSeen) (f : Entry) → IsDemandStack s → IsUnknownTop s f → f.cell < length s.cells
top_low s f h t = (subst (λ fs. IsEvaluation (pending_of s) s.known (cells_of fs)) t.on_top h.evaluation).below.0

-- what may be learnt

pub value_right : (s : StackSeen) (f : Entry) (v : Value) → IsDemandStack s → ask_entry s f ≡ Some (Val v) → IsFound s f.cell (Shown.Val v)
value_right s f v h a = record { right = sym (gives_value (pending_of s) s.known h.pending h.evaluation.knows f.cell v a); no_cycle = λ n e. cc }

pub other_right : (s : StackSeen) (f : Entry) (x : Addr) → IsDemandStack s → IsUnknownTop s f → ask_entry s f ≡ Some (Needs x) → cell_number (pending_of s) x ≡ None → IsFound s f.cell Shown.ToCycle
other_right s f x h t a n = record { right = sym (needs_other (pending_of s) s.known h.pending h.evaluation.knows f.cell x (top_low s f h t) a n); no_cycle = λ k e. cc }

pub known_right : (s : StackSeen) (f : Entry) (x : Addr) (i : ℕ) (r : Shown) → IsDemandStack s → IsUnknownTop s f → ask_entry s f ≡ Some (Needs x) → cell_number (pending_of s) x ≡ Some i → get_or s.known i None ≡ Some r → IsFound s f.cell Shown.ToCycle
known_right s f x i r h t a n k = record { right = sym (needs_known (pending_of s) s.known h.pending h.evaluation.knows f.cell x (top_low s f h t) t.unknown a i n r k); no_cycle = λ m e. cc }

-- what the top demands

pub needed_low : (s : StackSeen) (x : Addr) (i : ℕ) → cell_number (pending_of s) x ≡ Some i → i < length s.cells
needed_low s x i n = (number_some (pending_of s) x i n).0

pub top_demands : (s : StackSeen) (f : Entry) (x : Addr) (i : ℕ) → IsDemandStack s → IsUnknownTop s f → ask_entry s f ≡ Some (Needs x) → cell_number (pending_of s) x ≡ Some i → TopDemands s i f
top_demands s f x i h t a n =
    let at = (number_some (pending_of s) x i n).1 in
    let d : Demands s.shared.book (cell_at (pending_of s) f.cell) x = demands s.shared.book (values (pending_of s) s.known) (cell_at (pending_of s) f.cell) x (values_part (pending_of s) s.known h.pending h.evaluation.knows.right) a in
    record { top = t; demands = subst (Demands s.shared.book (cell_at (pending_of s) f.cell)) (sym at) d }

pub link_top : (s : StackSeen) (f : Entry) (i : ℕ) → IsDemandStack s → TopDemands s i f → LinkTo (pending_of s) i (cells_of s.stack)
link_top s f i h d =
    let linked = (subst (λ fs. IsEvaluation (pending_of s) s.known (cells_of fs)) d.top.on_top h.evaluation).linked in
    subst (λ fs. LinkTo (pending_of s) i (cells_of fs)) (sym d.top.on_top) (d.demands, linked)

-- a cell is put on the empty stack

pub first_low : (s : StackSeen) (i : ℕ) → IsDemandStack s → first_from s.known s.first ≡ Some i → i < length s.cells
first_low s i h e = (let w = from_is s.known s.first i e in let l = w.0 in let z = h.evaluation.knows.sized in omega arith)

pub off_empty : (s : StackSeen) (i : ℕ) → s.stack ≡ [] → has i (cells_of s.stack) ≡ false
off_empty s i e = ap (λ fs. has i (cells_of fs)) e

pub link_empty : (s : StackSeen) (i : ℕ) → s.stack ≡ [] → LinkTo (pending_of s) i (cells_of s.stack)
link_empty s i e = subst (λ fs. LinkTo (pending_of s) i (cells_of fs)) (sym e) tt

-- a walk over all cells

abbrev pub first_addr : List Addr → Option Addr
first_addr [] = None
first_addr (a ∷ rest) = Some a

before_true : (a b : Addr) → is_before a b ≡ true → IsBefore a b
before_true a b h = grind (arith, h)

true_before : (a b : Addr) → IsBefore a b → is_before a b ≡ true
true_before a b (inl h) = grind (arith, h)
true_before a b (inr (e, inl h)) = grind (arith, e, h)
true_before a b (inr (e, inr (f, h))) = grind (arith, e, f, h)

not_before : (a b : Addr) → (IsBefore a b → ⊥) → is_before a b ≡ false
not_before a b n = go (is_before a b) refl
  where
    go : (t : Bool) → is_before a b ≡ t → is_before a b ≡ false
    go true e = absurd (n (before_true a b e))
    go false e = e

pub walk_begins : (cells : List (Addr × Content)) → next_in cells None ≡ first_addr (addresses cells)
walk_begins [] = refl
walk_begins (c ∷ rest) = refl

all_behind : (a : Addr) (cells : List (Addr × Content)) → IsBeforeAll a (addresses cells) → next_in cells (Some a) ≡ first_addr (addresses cells)
all_behind a [] h = refl
all_behind a (c ∷ rest) h = ap (λ t. cond t (Some c.0) (next_in rest (Some a))) (true_before a c.0 h.0)

there : (xs : List Addr) (n : ℕ) (d : Addr) → n < length xs → In (get_or xs n d) xs
there [] n d l = absurd (omega arith)
there (x ∷ xs) zero d l = inl refl
there (x ∷ xs) (suc n) d l = inr (there xs n d (omega arith))

-- behind the address number n comes the next one
pub walk_goes_on : (cells : List (Addr × Content)) (n : ℕ) (d : Addr) → InOrder (addresses cells) → n < length (addresses cells) → next_in cells (Some (get_or (addresses cells) n d)) ≡ first_addr (drop (suc n) (addresses cells))
walk_goes_on [] n d h l = absurd (omega arith)
walk_goes_on (c ∷ rest) zero d h l = ap (λ t. cond t (Some c.0) (next_in rest (Some c.0))) (not_before c.0 c.0 (never_before c.0)) ∙ all_behind c.0 rest h.0
walk_goes_on (c ∷ rest) (suc n) d h l =
    let x : Addr = get_or (addresses rest) n d in
    let low : IsBefore c.0 x = before_member c.0 (addresses rest) x h.0 (there (addresses rest) n d (omega (arith, l))) in
    ap (λ t. cond t (Some c.0) (next_in rest (Some x))) (not_before x c.0 (λ k. before_apart c.0 x low k)) ∙ walk_goes_on rest n d h.1 (omega (arith, l))

-- one address more

some_left : (addrs : List Addr) (n : ℕ) (a : Addr) → first_addr (drop n addrs) ≡ Some a → n < length addrs
some_left [] zero a e = cc
some_left [] (suc n) a e = cc
some_left (x ∷ addrs) zero a e = omega arith
some_left (x ∷ addrs) (suc n) a e = (let l = some_left addrs n a e in omega (arith, l))

next_is : (addrs : List Addr) (n : ℕ) (a d : Addr) → first_addr (drop n addrs) ≡ Some a → get_or addrs n d ≡ a
next_is addrs n a d e =
    let s : ◌≡◌ {A = Option Addr} (Some (get_or addrs n d)) (Some a) = sym (ap first_addr (drop-cons addrs n d (some_left addrs n a e))) ∙ e in
    cc

-- the addresses that were walked, and those behind them
abbrev pub IsWalked : List (Addr × Content) → List Addr → Option Addr → Type 0
IsWalked cells done next = (done ++ drop (length done) (addresses cells) ≡ addresses cells) × (next ≡ first_addr (drop (length done) (addresses cells)))

pub walk_starts : (cells : List (Addr × Content)) (done : List Addr) (next : Option Addr) → done ≡ [] → next ≡ next_in cells None → IsWalked cells done next
walk_starts cells done next e q = subst (λ z. IsWalked cells z next) (sym e) (refl, q ∙ walk_begins cells)

pub walked_low : (cells : List (Addr × Content)) (done : List Addr) (next : Option Addr) (a : Addr) → IsWalked cells done next → next ≡ Some a → length done < length (addresses cells)
walked_low cells done next a h e = some_left (addresses cells) (length done) a (sym h.1 ∙ e)

pub walked_more : (cells : List (Addr × Content)) (done : List Addr) (next : Option Addr) (a : Addr) (later : Option Addr) → InOrder (addresses cells) → IsWalked cells done next → next ≡ Some a → later ≡ next_in cells (Some a) → IsWalked cells (done ++ a ∷ []) later
walked_more cells done next a later order h e q =
    let addrs : List Addr = addresses cells in
    let n : ℕ = length done in
    let front : first_addr (drop n addrs) ≡ Some a = sym h.1 ∙ e in
    let low = some_left addrs n a front in
    let at : get_or addrs n a ≡ a = next_is addrs n a a front in
    let long : length (done ++ a ∷ []) ≡ suc n = length_push done a ∙ omega arith in
    let rest : drop n addrs ≡ a ∷ drop (suc n) addrs = drop-cons addrs n a low ∙ ap (λ z. z ∷ drop (suc n) addrs) at in (
      append_assoc done (a ∷ []) (drop (length (done ++ a ∷ [])) addrs) ∙ ap (λ z. done ++ a ∷ drop z addrs) long ∙ sym (ap (λ z. done ++ z) rest) ∙ h.0,
      q ∙ sym (ap (λ z. next_in cells (Some z)) at) ∙ walk_goes_on cells n a order low ∙ sym (ap (λ z. first_addr (drop z addrs)) long),
    )

pub walk_ends : (cells : List (Addr × Content)) (done : List Addr) (next : Option Addr) → IsWalked cells done next → next ≡ None → done ≡ addresses cells
walk_ends cells done next h e = go (drop (length done) (addresses cells)) refl (sym h.1 ∙ e)
  where
    go : (ys : List Addr) → drop (length done) (addresses cells) ≡ ys → first_addr ys ≡ None → done ≡ addresses cells
    go [] q d = sym (append-nil done) ∙ sym (ap (λ z. done ++ z) q) ∙ h.0
    go (y ∷ ys) q d = cc

-- what holds at each place holds of each address
pub all_in : (P : Addr → Type 0) (xs : List Addr) (d : Addr) → ((k : ℕ) → k < length xs → P (get_or xs k d)) → (a : Addr) → In a xs → P a
all_in P [] d h a m = absurd m
all_in P (x ∷ xs) d h a (inl e) = subst P (sym e) (h 0 (omega arith))
all_in P (x ∷ xs) d h a (inr m) = all_in P xs d (λ k l. h (suc k) (omega (arith, l))) a m

-- a book whose cells are all formulas

length_addresses : (cells : List (Addr × Content)) → length (addresses cells) ≡ length cells
length_addresses [] = refl
length_addresses (c ∷ rest) = ap suc (length_addresses rest)

-- a formula cell is one of the book's cells
in_book : (cells : List (Addr × Content)) (a : Addr) (t : Expr) → formula_of (entry_at cells a) ≡ Some t → In a (addresses cells)
in_book [] a t e = cc
in_book (c ∷ rest) a t e = go (in_book rest a t) (same_addr a c.0) refl e
  where
    go : (formula_of (entry_at rest a) ≡ Some t → In a (addresses rest)) → (b : Bool) → same_addr a c.0 ≡ b → formula_of (cond b (Some c.1) (entry_at rest a)) ≡ Some t → In a (c.0 ∷ addresses rest)
    go later true p q = inl (same_addr-true a c.0 p)
    go later false p q = inr (later q)

formula_in : (b : Book) (a : Addr) (t : Expr) → formula_at b a ≡ Some t → In a (addresses b.cells)
unfolding formula_at
formula_in b a t e = in_book b.cells a t e

module _ (w : SharedBook) (cells : List Addr) (h : IsWorkbook w) (all : cells ≡ addresses w.book.cells) where
  pub all_pending : 1 ≤ length cells → ((a : Addr) → In a cells → IsSome (formula_at w.book a)) → IsPending w.book cells
  all_pending some formulas = record {
    one_at_least = some;
    not_too_many = (let z = ap length all in let n = length_addresses w.book.cells in let few = h.few in omega arith);
    are_formulas = formulas;
    in_order = subst InOrder (sym all) h.order;
    closed = λ c a p m. subst (In c) (sym all) (formula_in w.book c m.tree m.is_formula);
  }

  pub none_stored : (results : List (Addr × Shown)) → AreStored (record { book = w.book; cells = cells }) results
  none_stored results a t f n = absurd (n (subst (In a) (sym all) (formula_in w.book a t f)))
