-- A field that is put into a cell.
use Rattle.std.proofs.Common.{◌≡◌, ℕ, ◌≤◌, ◌<◌, List, Option, Some, None, Result, Ok, Err, OnOk, OnErr, option_map, is_some, length, refl, sym, ap, subst, ◌∙◌, arith}
use Rattle.cell_values.specs.declared.TheConstants.{MAX_BOOK_CELLS}
use Rattle.cell_values.specs.declared.address.Addr.{Addr}
use Rattle.cell_values.specs.declared.fields.Raw.{Raw}
use Rattle.cell_values.specs.Texts.{Texts}
use Rattle.cell_values.specs.Order.{entry_at}
use Rattle.formula_grammar.specs.declared.faults.FaultKind.{FaultKind}
use Rattle.formula_grammar.specs.declared.faults.FormulaFault.{FormulaFault}
use Rattle.formula_grammar.specs.Reading.{IsThisFault as IsThisFormulaFault}
use Rattle.demand_spec.specs.Book.{Content, formula_at, formula_of}
use Rattle.shared_expressions.specs.Trees.{Trees, KeepsTrees}
use Rattle.workbook_core.specs.declared.Content.{Content as Held}
use Rattle.workbook_core.specs.declared.edits.EditFault.{EditFault}
use Rattle.workbook_core.specs.Books.{IsKept, MayHold}
use Rattle.demand_spec.specs.Edits.{Put, IsApplied, IsTooLarge}
use Rattle.workbook_core.specs.Edits.{Puts, IsPutFault, IsThisFault, IsTooMany}
use Rattle.workbook_core.specs.Faults.{edit_fault_of, IsOutOfMemory, IsRead, IsWithoutRoom}
use Rattle.workbook_core.specs.Held.{content_in, cells_in, holds_formula, SetsHeld}
use Rattle.workbook_core.proofs.Counting.{too_large_put}
use Rattle.workbook_core.proofs.Growth.{applied_set, kept_cells, kept_set}
use Rattle.workbook_core.proofs.Lookups.{held_cells, length-cells_in}

pub this_fault : (place : ℕ) (kind : FaultKind) (e : FormulaFault) → IsThisFormulaFault place kind e → IsThisFault place kind (edit_fault_of e)
this_fault place kind (FormulaFault.Bad p j) h = h
this_fault place kind FormulaFault.OutOfMemory h = h

-- a cell that holds a formula has one in the book

is_formula : (p : Trees) (o : Option Held) → holds_formula o ≡ is_some (formula_of (option_map (content_in p) o))
is_formula p None = refl
is_formula p (Some (Held.Number n)) = refl
is_formula p (Some (Held.Text t)) = refl
is_formula p (Some (Held.Bool b)) = refl
is_formula p (Some (Held.Formula id)) = refl

pub formula_told : (p : Trees) (es : List (Addr × Held)) (ts : Texts) (at : Addr) → holds_formula (entry_at es at) ≡ is_some (formula_at (record { cells = cells_in p es; texts = ts }) at)
unfolding formula_at
formula_told p es ts at = is_formula p (entry_at es at) ∙ ap (λ o. is_some (formula_of o)) (sym (held_cells p es at))

module _ (names : List (List ℕ)) (ts us : Texts) (p q : Trees) (es : List (Addr × Held)) (at : Addr) (raw : Raw) where
  pub put_applied : (fs : List (Addr × Held)) (held : Option Held) → IsKept es ts names p → KeepsTrees p q → IsRead names ts us q at raw held → SetsHeld at held es fs → (h : Option Content) × Puts names ts at raw h × IsApplied (Put at h) (cells_in p es) (cells_in q fs)
  put_applied fs held k t r s =
      (option_map (content_in q) held, r.puts, subst (λ cs. IsApplied (Put at (option_map (content_in q) held)) cs (cells_in q fs)) (kept_cells es ts names p q t k) (applied_set q es fs at held s))

  pub put_large : (fs : List (Addr × Held)) (held : Option Held) (h : Option Content) → IsKept es ts names p → KeepsTrees p q → IsTooLarge (Put at h) (cells_in p es) → option_map (content_in q) held ≡ h → SetsHeld at held es fs → length fs ≤ MAX_BOOK_CELLS → ⊥
  put_large fs held h k t large is s few =
      let done : IsApplied (Put at h) (cells_in p es) (cells_in q fs) = subst (λ x. IsApplied (Put at x) (cells_in p es) (cells_in q fs)) is (subst (λ cs. IsApplied (Put at (option_map (content_in q) held)) cs (cells_in q fs)) (kept_cells es ts names p q t k) (applied_set q es fs at held s)) in
      let more : MAX_BOOK_CELLS < length (cells_in q fs) = large (cells_in q fs) done in
      absurd (omega (arith, more, length-cells_in q fs, few))

  pub put_fault : (x : Held) (e : EditFault) → IsKept es ts names p → IsRead names ts us q at raw (Some x) → IsWithoutRoom es at e → IsPutFault names ts (cells_in p es) at raw e
  put_fault x (EditFault.BadFormula place n) k r w = absurd w
  put_fault x EditFault.TooManyCells k r w = (Some (content_in q x), r.puts, too_large_put p es at (content_in q x) k.workbook.order w.0 w.1)
  put_fault x EditFault.OutOfMemory k r w = tt

  pub put_kept : {T : Type 0} (r : Result T EditFault) (fs : List (Addr × Held)) (held : Option Held) → IsKept es us names q → MayHold us (length names) q at held → OnOk r (SetsHeld at held es fs) → length fs ≤ MAX_BOOK_CELLS → OnErr r (fs ≡ es) → IsKept fs us names q
  put_kept (Ok x) fs held k may s few e = kept_set es fs us names q at held k s few may
  put_kept (Err x) fs held k may s few e = subst (λ gs. IsKept gs us names q) (sym e) k

pub too_many_from_room : (es : List (Addr × Held)) (at : Addr) (e : EditFault) → IsWithoutRoom es at e → IsTooMany e
too_many_from_room es at (EditFault.BadFormula place n) w = w
too_many_from_room es at EditFault.TooManyCells w = tt
too_many_from_room es at EditFault.OutOfMemory w = tt

pub too_many_from_memory : (e : EditFault) → IsOutOfMemory e → IsTooMany e
too_many_from_memory e is = subst IsTooMany (sym is) tt
