-- What a worker of a table knows of its stack, and what it may say of the target.
use Rattle.std.proofs.Common.{◌≡◌, ℕ, zero, suc, ℤ, ◌+◌, ◌*◌, ◌<◌, ◌≤◌, ◌&&◌, true, false, List, [], ◌∷◌, ◌++◌, length, map, is_some, refl, sym, ap, ◌∙◌, subst, Some, None, lt_of_not-le, mul-le-mul_left, mul-suc, mul_comm, div-add-mod', mod-lt, ◌/◌, ◌%◌, arith}
use Rattle.std.specs.Prelude.{slice_get, slice_index_or}
use Rattle.std.proofs.lemmas.List.{map-append}
use Rattle.cell_values.specs.declared.address.Addr.{Addr}
use Rattle.cell_values.specs.declared.values.Shown.{Shown}
use Rattle.cell_values.specs.declared.values.Value.{Value}
use Rattle.cell_values.specs.Addresses.{same_addr}
use Rattle.cell_values.specs.Areas.{numbers_from}
use Rattle.cell_values.specs.Values.{IsShownOf}
use Rattle.cell_values.proofs.Order.{same_addr-refl, same_addr-true}
use Rattle.demand_spec.specs.Book.{Book, formula_at, shown}
use Rattle.demand_spec.specs.Laws.{In}
use Rattle.demand_spec.proofs.Results.{shows_its_texts}
use Rattle.workbook_core.specs.Books.{SharedBook, IsWorkbook}
use Rattle.workbook_core.specs.WithNumber.{shared_with_number, with_number}
use Rattle.workbook_core.proofs.WithNumber.{askable_with}
use Rattle.claim_core.specs.Pending.{IsPending}
use Rattle.worker_machine.specs.Jobs.{cell_number, shows}
use Rattle.worker_machine.proofs.Places.{number_none, number_some}
use Rattle.demand_stack.specs.StackSeen.{AreStored, StackSeen, at_first, pending_of}
use Rattle.demand_stack.proofs.Recalls.{askable_found}
use Rattle.parallel_evaluation.specs.Workers.{ArePending}
use Rattle.recalculation.specs.Calculations.{AreResultsOf, has_result}
use Rattle.what_if.specs.Tables.{HaveRun, IsIdle, IsTable, book_of, scenario_of}
use Rattle.what_if.specs.declared.runner.Runner.{Runner}
use Rattle.what_if.specs.declared.table.Table.{Table}
use Rattle.what_if.proofs.Depending.{apart, shown_here}

-- the cells of a stack

pub as_pending : (b : Book) (cells : List Addr) → ArePending b cells → (cells ≡ [] → ⊥) → IsPending b cells
as_pending b [] h some = absurd (some refl)
as_pending b (c ∷ cells) h some = h

module _ (t : Table) (h : IsTable t) where
  abbrev with : ℤ → Book
  with n = with_number (book_of t) t.at n

  pub cells_pending : (n : ℤ) → (t.cells.now ≡ [] → ⊥) → IsPending (with n) t.cells.now
  cells_pending n some = as_pending (with n) t.cells.now (h.cells.pending n) some

  has_settled : (a : Addr) → is_some (formula_at (book_of t) a) ≡ true → has_result (book_of t) t.calc.now.pending a ≡ true
  has_settled a e = subst (λ pending. has_result (book_of t) pending a ≡ true) (sym h.settled) (λ z. e z && true)

  pub cells_stored : (rs : List (Addr × Shown)) (n : ℤ) → IsWorkbook t.calc.now.shared → AreResultsOf (book_of t) t.calc.now.pending rs → AreStored (record { book = with n; cells = t.cells.now }) rs
  cells_stored rs n w results a f e out =
      let apart_from : same_addr t.at a ≡ false = apart t.calc.now.shared t.at w n a f e in
      let other : a ≡ t.at → ⊥ = λ q. let twice : true ≡ false = sym (ap (same_addr t.at) q ∙ same_addr-refl t.at) ∙ apart_from in cc in
      let l = h.cells.others n a other out in
      results a (has_settled a (ap is_some (sym l.0 ∙ e))) ∙ ap Some (sym l.1)

  pub first_idle : (n : ℤ) (first : ℕ) → IsIdle t (at_first (shared_with_number t.calc.now.shared t.at n) t.cells.now first)
  first_idle n first = record { cells = refl; empty = refl; formulas = λ a k. h.cells.formulas n a k }

  -- what a stack over the cells begins with again

  pub again_formulas : (s : StackSeen) (n : ℤ) → IsIdle t s → (a : Addr) → In a s.cells → formula_at (with n) a ≡ formula_at s.shared.book a
  again_formulas s n i a k = h.cells.formulas n a (subst (In a) i.cells k) ∙ sym (i.formulas a k)

  pub again_idle : (s : StackSeen) (n : ℤ) → IsIdle t s → IsIdle t (at_first (shared_with_number t.calc.now.shared t.at n) s.cells s.first)
  again_idle s n i = record { cells = i.cells; empty = refl; formulas = λ a k. h.cells.formulas n a (subst (In a) i.cells k) }

  pub some_cells : (s : StackSeen) (i : ℕ) → IsIdle t s → cell_number (pending_of s) t.target ≡ Some i → t.cells.now ≡ [] → ⊥
  some_cells s i idle e none = (let low = (number_some (pending_of s) t.target i e).0 in let count = ap length (idle.cells ∙ none) in omega arith)

  pub number_low : (s : StackSeen) (i : ℕ) → cell_number (pending_of s) t.target ≡ Some i → i < length s.cells
  number_low s i e = (number_some (pending_of s) t.target i e).0

  -- the cell with the target's number shows what the target shows
  pub target_shows : (s : StackSeen) (n : ℤ) (i : ℕ) → cell_number (pending_of s) t.target ≡ Some i → shows (record { book = with n; cells = s.cells }) i ≡ shown (with n) t.target
  target_shows s n i e = ap (shown (with n)) (number_some (pending_of s) t.target i e).1

  pub target_out : (s : StackSeen) → IsIdle t s → cell_number (pending_of s) t.target ≡ None → In t.target t.cells.now → ⊥
  target_out s i e k = number_none (pending_of s) t.target e (subst (In t.target) (sym i.cells) k)

  pub none_out : t.cells.now ≡ [] → In t.target t.cells.now → ⊥
  none_out e k = absurd (subst (In t.target) e k)

  -- the target apart from the cells

  pub number_shown : (n : ℤ) → IsWorkbook t.calc.now.shared → same_addr t.target t.at ≡ true → Shown.Val (Value.Number n) ≡ shown (with n) t.target
  number_shown n w e = sym (ap (shown (with n)) (same_addr-true t.target t.at e) ∙ shown_here t.calc.now.shared t.at w n)

  other : same_addr t.target t.at ≡ false → t.target ≡ t.at → ⊥
  other out q = (let twice : true ≡ false = sym (same_addr-refl t.target) ∙ ap (same_addr t.target) q ∙ out in cc)

  pub same_shown : (n : ℤ) (r : Shown) → same_addr t.target t.at ≡ false → (In t.target t.cells.now → ⊥) → r ≡ shown (book_of t) t.target → r ≡ shown (with n) t.target
  same_shown n r apart_from out e = e ∙ sym (h.cells.others n t.target (other apart_from) out).1

-- what was found of a scenario stands with its worker, at its place

pub in_turn : (n k : ℕ) → 1 ≤ n → k % n + n * (k / n) ≡ k
in_turn n k one = (let e = div-add-mod' k n in let m = mul_comm n (k / n) in omega arith)

pub found_at : (t : Table) → IsTable t → (rs : List Runner) → length rs ≡ t.workers → HaveRun t rs → (k : ℕ) → k < t.count → (d : Runner) → slice_get (slice_index_or rs (k % t.workers) d).found.items (k / t.workers) ≡ Some (scenario_of t k)
found_at t h rs count run k low d =
    let e = in_turn t.workers k h.one_worker in
    let one = h.one_worker in
    let below : k % t.workers < t.workers = mod-lt k (omega arith) in
    run (k % t.workers) d (omega arith) (k / t.workers) (omega arith) ∙ ap (λ j. Some (scenario_of t j)) e

pub some_or_none : (xs : List Shown) (j : ℕ) (s : Shown) → slice_get xs j ≡ Some s → length xs ≤ j → ⊥
some_or_none [] j s e l = cc
some_or_none (x ∷ xs) zero s e l = omega arith
some_or_none (x ∷ xs) (suc j) s e l = some_or_none xs j s e (omega arith)

pub index_told : (xs : List Shown) (j : ℕ) (s d : Shown) → slice_get xs j ≡ Some s → slice_index_or xs j d ≡ s
index_told [] j s d e = cc
index_told (x ∷ xs) zero s d e = cc
index_told (x ∷ xs) (suc j) s d e = index_told xs j s d e

-- what is shown is of the book's texts

pub text_shown : (w : SharedBook) (at : Addr) (n : ℤ) → IsWorkbook w → (a : Addr) → IsShownOf w.book.texts (shown (with_number w.book at n) a)
text_shown w at n h a = shows_its_texts (with_number w.book at n) (askable_found (shared_with_number w at n) (askable_with w at n h)) a

-- one scenario more

pub found_more : (xs : List Shown) (x : Shown) (P : ℕ → Shown) → ((j : ℕ) → j < length xs → slice_get xs j ≡ Some (P j)) → x ≡ P (length xs) → (j : ℕ) → j < length (xs ++ x ∷ []) → slice_get (xs ++ x ∷ []) j ≡ Some (P j)
found_more [] x P h e zero l = ap Some e
found_more [] x P h e (suc j) l = absurd (omega arith)
found_more (y ∷ xs) x P h e zero l = h 0 (omega arith)
found_more (y ∷ xs) x P h e (suc j) l = found_more xs x (λ k. P (suc k)) (λ k m. h (suc k) (omega arith)) e j (omega arith)

-- as many scenarios as that were found
pub below_by : (w n long j count : ℕ) → count ≤ w + n * long → w + n * j < count → j < long
below_by w n long j count end low = lt_of_not-le (λ (h : long ≤ j). let more : n * long ≤ n * j = mul-le-mul_left n h in absurd (omega arith))

pub place_more : (w n long : ℕ) → w + n * long + n ≡ w + n * (long + 1)
place_more w n long = (let e : long + 1 ≡ suc long = omega arith in let m : n * suc long ≡ n * long + n = mul-suc n long in let f = ap (λ k. n * k) e in omega arith)

-- the numbers up to one more

pub numbers_split : (first n m : ℕ) → numbers_from first (n + m) ≡ numbers_from first n ++ numbers_from (first + n) m
numbers_split first zero m = (let e : zero + m ≡ m = omega arith in let f : first ≡ first + zero = omega arith in ap (numbers_from first) e ∙ ap (λ k. numbers_from k m) f)
numbers_split first (suc n) m =
    let e : suc n + m ≡ suc (n + m) = omega arith in
    let f : suc first + n ≡ first + suc n = omega arith in
    ap (numbers_from first) e ∙ ap (λ r. first ∷ r) (numbers_split (suc first) n m ∙ ap (λ k. numbers_from (suc first) n ++ numbers_from k m) f)

pub one_more : (t : Table) (n : ℕ) → map (scenario_of t) (numbers_from 0 (n + 1)) ≡ map (scenario_of t) (numbers_from 0 n) ++ scenario_of t n ∷ []
one_more t n = (let e : 0 + n ≡ n = omega arith in ap (map (scenario_of t)) (numbers_split 0 n 1 ∙ ap (λ k. numbers_from 0 n ++ k ∷ []) e)) ∙ map-append (scenario_of t) (numbers_from 0 n) (n ∷ [])
