-- The loop of a cell is the loop of each of its cells.
use Rattle.std.proofs.Common.{◌≡◌, ℕ, zero, suc, Bool, true, false, cond, inl, inr, Option, Some, None, List, [], ◌∷◌, length, refl, sym, ap, subst, arith}
use Rattle.std.specs.Prelude.{unwrap_or}
use Rattle.cell_values.specs.declared.address.Addr.{Addr}
use Rattle.cell_values.specs.declared.values.Shown.{Shown}
use Rattle.cell_values.specs.Addresses.{same_addr}
use Rattle.cell_values.specs.Order.{addresses, entry_at}
use Rattle.cell_values.proofs.Order.{same_addr-true}
use Rattle.formula_trees.specs.Expr.{Expr}
use Rattle.demand_spec.specs.Book.{Book, Content, formula_of, formula_at, need, shown}
use Rattle.demand_spec.specs.Laws.{In, HasPeriod, IsLoop}
use Rattle.demand_spec.proofs.Cycles.{loops_are_found, cycles_show}
use Rattle.cycle_finder.specs.Loops.{trail, loop_length, loop_from}
use Rattle.cycle_finder.proofs.Trails.{trail_length, trail_has, closes, met_again, met_on, met_period}

pub length_period : (b : Book) (c : Addr) (n : ℕ) → loop_length b c ≡ Some n → HasPeriod b c n
unfolding loop_length
length_period b c n e = (loops_are_found b c n).0 e

pub period_length : (b : Book) (c : Addr) (n : ℕ) → HasPeriod b c n → loop_length b c ≡ Some n
unfolding loop_length
period_length b c n p = (loops_are_found b c n).1 p

-- a cell shows the length of its loop
pub length_shows : (b : Book) (c : Addr) (n : ℕ) → loop_length b c ≡ Some n → shown b c ≡ Shown.Cycle n
length_shows b c n e = (cycles_show b c n).1 (length_period b c n e)

pub shows_length : (b : Book) (c : Addr) (n : ℕ) → shown b c ≡ Shown.Cycle n → loop_length b c ≡ Some n
shows_length b c n e = period_length b c n ((cycles_show b c n).0 e)

-- the cells

pub loop_is_trail : (b : Book) (c : Addr) (n : ℕ) → loop_length b c ≡ Some n → loop_from b c ≡ trail b n (Some c)
unfolding loop_from
loop_is_trail b c n e = ap (λ o. trail b (unwrap_or o 0) (Some c)) e

in_trail : (b : Book) (c : Addr) (n : ℕ) → loop_length b c ≡ Some n → (x : Addr) → In x (loop_from b c) → In x (trail b n (Some c))
in_trail b c n e x k = subst (In x) (loop_is_trail b c n e) k

in_loop : (b : Book) (c : Addr) (n : ℕ) → loop_length b c ≡ Some n → (x : Addr) → In x (trail b n (Some c)) → In x (loop_from b c)
in_loop b c n e x k = subst (In x) (sym (loop_is_trail b c n e)) k

pub same_length : (b : Book) (c : Addr) (n : ℕ) → loop_length b c ≡ Some n → (x : Addr) → In x (loop_from b c) → loop_length b x ≡ Some n
same_length b c n e x k = period_length b x n (met_period b c n (length_period b c n e) x (in_trail b c n e x k))

-- the cell is on its own loop
pub on_own : (b : Book) (c : Addr) (n : ℕ) → loop_length b c ≡ Some n → In c (loop_from b c)
on_own b c n e = in_loop b c n e c (trail_has b n 0 c c (length_period b c n e).some refl)

pub back_on : (b : Book) (c : Addr) (n : ℕ) → loop_length b c ≡ Some n → (x : Addr) → In x (loop_from b c) → In c (loop_from b x)
back_on b c n e x k = in_loop b x n (same_length b c n e x k) c (met_again b c n (length_period b c n e) x (in_trail b c n e x k))

pub further_on : (b : Book) (c : Addr) (n : ℕ) → loop_length b c ≡ Some n → (x y : Addr) → In x (loop_from b c) → In y (loop_from b x) → In y (loop_from b c)
further_on b c n e x y k m = in_loop b c n e y (met_on b c n (length_period b c n e) x y (in_trail b c n e x k) (in_trail b x n (same_length b c n e x k) y m))

-- as a list: the cell, and the rest of its loop
pub record Parts (b : Book) (c : Addr) (n : ℕ) : Type 0 where
  pub rest : List Addr
  pub parts : loop_from b c ≡ c ∷ rest
  pub loop : IsLoop b c rest
  pub long : length (c ∷ rest) ≡ n

pub loop_parts : (b : Book) (c : Addr) (n : ℕ) → loop_length b c ≡ Some n → Parts b c n
loop_parts b c n e = go n e (length_period b c n e)
  where
    go : (m : ℕ) → loop_length b c ≡ Some m → HasPeriod b c m → Parts b c m
    go zero f p = absurd (omega (arith, p.some))
    go (suc m) f p = record {
      rest = trail b m (need b c);
      parts = loop_is_trail b c (suc m) f;
      loop = closes b c m p;
      long = trail_length b (suc m) c c p.back;
    }

-- the cells of a loop are cells of the book

found_in : (es : List (Addr × Content)) (a : Addr) (x : Content) → entry_at es a ≡ Some x → In a (addresses es)
found_in [] a x e = cc
found_in (c ∷ es) a x e = go (same_addr a c.0) refl e (found_in es a x)
  where
    go : (t : Bool) → same_addr a c.0 ≡ t → cond t (Some c.1) (entry_at es a) ≡ Some x → (entry_at es a ≡ Some x → In a (addresses es)) → In a (addresses (c ∷ es))
    go true p q later = inl (same_addr-true a c.0 p)
    go false p q later = inr (later q)

pub formula_in : (b : Book) (a : Addr) (t : Expr) → formula_at b a ≡ Some t → In a (addresses b.cells)
unfolding formula_at
formula_in b a t e = go (entry_at b.cells a) refl e
  where
    go : (o : Option Content) → entry_at b.cells a ≡ o → formula_of o ≡ Some t → In a (addresses b.cells)
    go (Some x) p q = found_in b.cells a x p
    go None p q = cc

pub loop_in_book : (b : Book) (c : Addr) (n : ℕ) → loop_length b c ≡ Some n → (x : Addr) → In x (loop_from b c) → In x (addresses b.cells)
loop_in_book b c n e x k =
    let p = loop_parts b c n e in
    let u = p.loop.unfinished x (subst (In x) p.parts k) in
    formula_in b x u.tree u.is_formula
