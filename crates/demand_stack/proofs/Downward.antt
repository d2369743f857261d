-- The stack as a Vec holds it, the top last.
use Rattle.std.proofs.Common.{◌≡◌, ℕ, zero, suc, ◌+◌, ◌-◌, ◌<◌, ◌≤◌, Bool, true, false, cond, List, [], ◌∷◌, ◌++◌, length, reverse, drop, get_or, set, map, eqb, drop-cons, eq-eqb, eqb-true, refl, ap, ◌∙◌, subst, Option, Some, None, MatchOption, arith}
use Rattle.std.specs.Option.{option_to_list}
use Rattle.std.proofs.lemmas.List.{reverse-append, length-reverse, get_or-reverse, length-drop}
use Rattle.cell_values.specs.declared.address.Addr.{Addr}
use Rattle.demand_spec.specs.declared.Asked.{Asked}
use Rattle.demand_spec.specs.Book.{Book}
use Rattle.shared_expressions.specs.Trees.{Trees}
use Rattle.formula_eval.specs.declared.work.Frame.{Frame}
use Rattle.formula_eval.specs.Stacks.{dropped}
use Rattle.formula_eval.specs.Laws.{DropsToBase}
use Rattle.worker_machine.specs.declared.state.Entry.{Entry}
use Rattle.worker_machine.specs.Evaluation.{Below, cells_of, part_to}
use Rattle.demand_stack.specs.declared.notes.Note.{Note}
use Rattle.demand_stack.specs.Open.{AreOpen, begun_of, blank}
use Rattle.demand_stack.specs.Kept.{lower, cycled, note_cycle}
use Rattle.demand_stack.proofs.Keeping.{abandoned, mapped_top}

pub reverse_push : (xs : List Entry) (f : Entry) → reverse (xs ++ f ∷ []) ≡ f ∷ reverse xs
reverse_push xs f = reverse-append xs (f ∷ [])

-- an entry, where there is none
abbrev pub no_entry : Entry
no_entry = record { cell = 0; owed = None }

-- the cells of the stack
abbrev pub stack_cells : List Entry → List ℕ
stack_cells xs = cells_of (reverse xs)

-- those behind the first n
abbrev pub cells_from : ℕ → List Entry → List ℕ
cells_from n xs = cells_of (drop n (reverse xs))

-- the cell number n from the top
abbrev pub cell_from_top : List Entry → ℕ → Entry → ℕ
cell_from_top xs n d = (get_or xs (length xs - 1 - n) d).cell

pub length_cells : (fs : List Entry) → length (cells_of fs) ≡ length fs
length_cells [] = refl
length_cells (f ∷ fs) = ap suc (length_cells fs)

pub length_stack : (xs : List Entry) → length (stack_cells xs) ≡ length xs
length_stack xs = length_cells (reverse xs) ∙ length-reverse xs

pub drop_top : (xs : List Entry) (n : ℕ) (d : Entry) → n < length xs → cells_from n xs ≡ cell_from_top xs n d ∷ cells_from (n + 1) xs
drop_top xs n d l =
    let z = length-reverse xs in
    let m : n < length (reverse xs) = omega arith in
    let s : suc n ≡ n + 1 = omega arith in
    ap cells_of (drop-cons (reverse xs) n d m) ∙ (λ i. (get_or-reverse xs n d l i).cell ∷ cells_from (s i) xs)

-- the top is the last
pub top_is_last : (xs : List Entry) (d : Entry) → 0 < length xs → stack_cells xs ≡ (get_or xs (length xs - 1) d).cell ∷ cells_from 1 xs
top_is_last xs d l =
    let one : length xs - 1 - 0 ≡ length xs - 1 = omega arith in
    drop_top xs 0 d l ∙ ap (λ k. (get_or xs k d).cell ∷ cells_from 1 xs) one

cells_below : (m : ℕ) (fs : List Entry) (k : ℕ) (d : Entry) → Below m (cells_of fs) → k < length fs → (get_or fs k d).cell < m
cells_below m [] k d h l = absurd (omega arith)
cells_below m (f ∷ rest) zero d h l = h.0
cells_below m (f ∷ rest) (suc k) d h l = cells_below m rest k d h.1 (omega arith)

pub number_below : (m : ℕ) (xs : List Entry) (n : ℕ) (d : Entry) → Below m (stack_cells xs) → n < length xs → cell_from_top xs n d < m
number_below m xs n d h l =
    let z = length-reverse xs in
    subst (λ (f : Entry). f.cell < m) (get_or-reverse xs n d l) (cells_below m (reverse xs) n d h (omega arith))

not_same : (a b : ℕ) → (a ≡ b → ⊥) → eqb a b ≡ false
not_same a b n = go (eqb a b) refl
  where
    go : (t : Bool) → eqb a b ≡ t → eqb a b ≡ false
    go true e = absurd (n (eqb-true a b e))
    go false e = e

-- what is said of the cells from the top down to this one, at that one and further up

abbrev noted : ℕ → ℕ → List ℕ → List Note → List Note
noted m i cs ns = note_cycle m (part_to i cs) ns

pub notes_end : (m i n : ℕ) (xs : List Entry) (d : Entry) (ns : List Note) → n < length xs → cell_from_top xs n d ≡ i → noted m i (cells_from n xs) ns ≡ set ns (cell_from_top xs n d) (cycled m (get_or ns (cell_from_top xs n d) blank))
notes_end m i n xs d ns l e =
    let x : ℕ = cell_from_top xs n d in
    let t : eqb x i ≡ true = eq-eqb x i e in
    ap (λ z. noted m i z ns) (drop_top xs n d l) ∙ ap (λ b. note_cycle m (cond b (x ∷ []) (x ∷ part_to i (cells_from (n + 1) xs))) ns) t

pub notes_on : (m i n : ℕ) (xs : List Entry) (d : Entry) (ns : List Note) → n < length xs → (cell_from_top xs n d ≡ i → ⊥) → noted m i (cells_from n xs) ns ≡ noted m i (cells_from (n + 1) xs) (set ns (cell_from_top xs n d) (cycled m (get_or ns (cell_from_top xs n d) blank)))
notes_on m i n xs d ns l e =
    let x : ℕ = cell_from_top xs n d in
    let t : eqb x i ≡ false = not_same x i e in
    ap (λ z. noted m i z ns) (drop_top xs n d l) ∙ ap (λ b. note_cycle m (cond b (x ∷ []) (x ∷ part_to i (cells_from (n + 1) xs))) ns) t

pub lower_end : (i n : ℕ) (xs : List Entry) (d : Entry) → n < length xs → cell_from_top xs n d ≡ i → lower i (cells_from n xs) ≡ cells_from (n + 1) xs
lower_end i n xs d l e = ap (lower i) (drop_top xs n d l) ∙ ap (λ b. cond b (cells_from (n + 1) xs) (lower i (cells_from (n + 1) xs))) (eq-eqb (cell_from_top xs n d) i e)

pub lower_on : (i n : ℕ) (xs : List Entry) (d : Entry) → n < length xs → (cell_from_top xs n d ≡ i → ⊥) → lower i (cells_from n xs) ≡ lower i (cells_from (n + 1) xs)
lower_on i n xs d l e = ap (lower i) (drop_top xs n d l) ∙ ap (λ b. cond b (cells_from (n + 1) xs) (lower i (cells_from (n + 1) xs))) (not_same (cell_from_top xs n d) i e)

pub count_end : (i n : ℕ) (xs : List Entry) (d : Entry) → n < length xs → cell_from_top xs n d ≡ i → length (part_to i (cells_from n xs)) ≡ 1
count_end i n xs d l e =
    let x : ℕ = cell_from_top xs n d in
    ap (λ z. length (part_to i z)) (drop_top xs n d l) ∙ ap (λ b. length (cond b (x ∷ []) (x ∷ part_to i (cells_from (n + 1) xs)))) (eq-eqb x i e)

pub count_on : (i n : ℕ) (xs : List Entry) (d : Entry) → n < length xs → (cell_from_top xs n d ≡ i → ⊥) → length (part_to i (cells_from n xs)) ≡ suc (length (part_to i (cells_from (n + 1) xs)))
count_on i n xs d l e =
    let x : ℕ = cell_from_top xs n d in
    ap (λ z. length (part_to i z)) (drop_top xs n d l) ∙ ap (λ b. length (cond b (x ∷ []) (x ∷ part_to i (cells_from (n + 1) xs)))) (not_same x i e)

pub none_behind : (xs : List Entry) (n : ℕ) → length xs ≤ n → cells_from n xs ≡ []
none_behind xs n l = go (drop n (reverse xs)) (let a = length-drop n (reverse xs) in let b = length-reverse xs in omega arith)
  where
    go : (ys : List Entry) → length ys ≡ 0 → cells_of ys ≡ []
    go [] e = refl
    go (y ∷ ys) e = absurd (omega arith)

-- one cell further down
pub open_down : DropsToBase → (ns : List Note) (n : ℕ) (xs : List Entry) (d : Entry) (fs fs' : List Frame) → n < length xs → fs' ≡ cond (get_or ns (cell_from_top xs n d) blank).begun (dropped fs) fs →
    (p : Trees) (b : Book) (l : Addr → Asked) (f : ℕ → Addr) → AreOpen p b l (map f (begun_of ns (cells_from n xs))) fs → AreOpen p b l (map f (begun_of ns (cells_from (n + 1) xs))) fs'
open_down drops ns n xs d fs fs' l e p b k f h =
    let x : ℕ = cell_from_top xs n d in
    let one = subst (λ z. AreOpen p b k (map f (begun_of ns z)) fs) (drop_top xs n d l) h in
    abandoned drops p b k (f x) (get_or ns x blank).begun (map f (begun_of ns (cells_from (n + 1) xs))) fs fs' (subst (λ z. AreOpen p b k z fs) (mapped_top f (get_or ns x blank).begun x (begun_of ns (cells_from (n + 1) xs))) one) e

-- the stack without its last
pub popped_stack : (xs ys : List Entry) (i : ℕ) (rest : List ℕ) (o : Option Entry) (n k : ℕ) → stack_cells xs ≡ i ∷ rest → xs ≡ ys ++ option_to_list o → n ≡ length xs → MatchOption o ((n ≡ 0) × (k ≡ 0)) (λ _. k + 1 ≡ n) → (f : Entry) × (reverse xs ≡ f ∷ reverse ys)
popped_stack xs ys i rest (Some x) n k e q l c = (x, ap reverse q ∙ reverse_push ys x)
popped_stack xs ys i rest None n k e q l c =
    let a = length_stack xs in
    let b : length (stack_cells xs) ≡ suc (length rest) = ap length e in
    let z : n ≡ 0 = c.0 in
    absurd (omega arith)
