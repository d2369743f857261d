use Rattle.std.proofs.Common.{◌≡◌, ℕ, zero, suc, ◌<◌, List, [], ◌∷◌, ◌++◌, length, get_or, take, sym, ap, ◌∙◌, subst, arith}
use Rattle.std.proofs.lemmas.List.{take_more}
use Rattle.cell_values.specs.declared.address.Addr.{Addr}
use Rattle.cell_values.specs.Addresses.{IsBefore}
use Rattle.cell_values.specs.Order.{IsBeforeAll, IsAfterAll, InOrder}
use Rattle.demand_stack.proofs.Steps.{origin}
use Rattle.speculative_eval.proofs.tests.shown_slowly.Goals as goal

before_place : (a : Addr) (xs : List Addr) (i : ℕ) → IsBeforeAll a xs → i < length xs → IsBefore a (get_or xs i origin)
before_place a [] i h l = absurd (omega arith)
before_place a (x ∷ xs) zero h l = h.0
before_place a (x ∷ xs) (suc i) h l = before_place a xs i h.1 (omega (arith, l))

-- an address of a list in order stands after those before it
after_taken : (xs : List Addr) (i : ℕ) → InOrder xs → i < length xs → IsAfterAll (get_or xs i origin) (take i xs)
after_taken [] i h l = absurd (omega arith)
after_taken (x ∷ xs) zero h l = tt
after_taken (x ∷ xs) (suc i) h l = (before_place x xs i h.0 (omega (arith, l)), after_taken xs i h.1 (omega (arith, l)))

pub copy_cell-requires-clause-after : goal.copy_cell-requires-clause-after
copy_cell-requires-clause-after g c = subst (IsAfterAll (get_or c.args.cells.now c.loop-i.i origin)) (sym c.loop-i.invariant.copied) (after_taken c.args.cells.now c.loop-i.i c.requires (omega arith))

pub loop-i-preserved : goal.loop-i-preserved
loop-i-preserved g c = record {
  copied = c.in_ok-copy_cell.ensures.added ∙ ap (λ z. z ++ get_or c.args.cells.now c.loop-i.i origin ∷ []) c.loop-i.invariant.copied ∙ sym (take_more c.args.cells.now c.loop-i.i origin (omega arith));
  texts = c.copy_cell.ensures.texts;
}
