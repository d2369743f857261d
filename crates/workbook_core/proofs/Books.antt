-- A book in which cells are copied.
use Rattle.std.proofs.Common.{◌≡◌, ℕ, ◌+◌, ◌≤◌, ◌<◌, cond, not, ◌&&◌, ◌||◌, Bool, true, false, List, [], ◌∷◌, Some, None, Result, Ok, Err, OnOk, OnErr, option_map, is_some, IsSome, length, refl, sym, ap, subst, ◌∙◌, arith}
use Rattle.std.specs.List.{list_any, AllByRecursion, IsDistinct}
use Rattle.std.proofs.lemmas.Map.Keys.{IsDistinct-head, IsDistinct-tail, IsDistinct-cons}
use Rattle.cell_values.specs.declared.TheConstants.{MAX_BOOK_CELLS}
use Rattle.cell_values.specs.declared.address.Addr.{Addr}
use Rattle.cell_values.specs.declared.address.Area.{Area}
use Rattle.cell_values.specs.Addresses.{same_addr, IsOnSheet}
use Rattle.cell_values.specs.Areas.{walk, is_inside, IsArea}
use Rattle.cell_values.specs.Texts.{Texts}
use Rattle.cell_values.specs.Order.{entry_at}
use Rattle.formula_trees.specs.Shifted.{shifted}
use Rattle.formula_trees.proofs.Shifts.{shifted_texts, shifted_sheets}
use Rattle.demand_spec.specs.Book.{Content}
use Rattle.demand_spec.specs.Listed.{IsContentOf}
use Rattle.demand_spec.proofs.Members.{walk_holds}
use Rattle.shared_expressions.specs.Trees.{Trees, KeepsTrees}
use Rattle.workbook_core.specs.declared.Content.{Content as Held}
use Rattle.workbook_core.specs.declared.edits.EditFault.{EditFault}
use Rattle.workbook_core.specs.Books.{IsCell, IsKept, MayHold, NamesSheetsBelow, NumberFits}
use Rattle.workbook_core.specs.Copies.{among, empty_among, SetsAll, IsCopy, CopiesTo, HasNoRoom}
use Rattle.demand_spec.specs.Edits.{Copy, copied, IsApplied, IsTooLarge}
use Rattle.workbook_core.specs.Edits.{IsCopyFault, IsTooMany}
use Rattle.workbook_core.specs.Held.{content_in, cells_in}
use Rattle.workbook_core.proofs.Copied.{among_empty, empty_is_none, empty_is_among}
use Rattle.workbook_core.proofs.Counting.{more_cells, none_among}
use Rattle.workbook_core.proofs.Growth.{kept_cells, kept_from, kept_grows, held_cell, same_texts}
use Rattle.workbook_core.proofs.Lookups.{held_cells, length-cells_in, in_book}
use Rattle.workbook_core.proofs.Walked.{IsInArea, walk_distinct, inside_tells}

-- the copy of a content
abbrev copy_of : Addr → Content → Content
copy_of to (Content.Formula t) = Content.Formula (shifted to t)
copy_of to c = c

copied_some : (to : Addr) (c : Content) → copied to (Some c) ≡ Some (copy_of to c)
copied_some to (Content.Number n) = refl
copied_some to (Content.Text t) = refl
copied_some to (Content.Truth b) = refl
copied_some to (Content.Formula t) = refl

copy_texts : (ts : Texts) (to : Addr) (c : Content) → IsContentOf ts c → IsContentOf ts (copy_of to c)
copy_texts ts to (Content.Number n) h = h
copy_texts ts to (Content.Text t) h = h
copy_texts ts to (Content.Truth b) h = h
copy_texts ts to (Content.Formula t) h = shifted_texts (λ i. i < length ts) to t h

copy_sheets : (n : ℕ) (to : Addr) (c : Content) → NamesSheetsBelow n c → NamesSheetsBelow n (copy_of to c)
copy_sheets n to (Content.Number k) h = h
copy_sheets n to (Content.Text t) h = h
copy_sheets n to (Content.Truth b) h = h
copy_sheets n to (Content.Formula t) h = shifted_sheets n to t h

copy_fits : (to : Addr) (c : Content) → NumberFits c → NumberFits (copy_of to c)
copy_fits to (Content.Number n) h = h
copy_fits to (Content.Text t) h = h
copy_fits to (Content.Truth b) h = h
copy_fits to (Content.Formula t) h = h

-- a copy may stand in a cell of a sheet
copy_may : (q : Trees) (ts : Texts) (n : ℕ) (c : Content) (from to : Addr) (h : Held) → IsCell ts n from c → IsOnSheet to → to.sheet < n → IsCopy q c to h → MayHold ts n q to (Some h)
copy_may q ts n c from to h cell on sheet is =
    let twice : Some (copy_of to c) ≡ Some (content_in q h) = sym (copied_some to c) ∙ is.same in
    let same : copy_of to c ≡ content_in q h = cc in (
      is.id,
      record {
        on_sheet = on;
        sheet = sheet;
        fits = subst NumberFits same (copy_fits to c cell.fits);
        sound = is.sound;
        texts = subst (IsContentOf ts) same (copy_texts ts to c cell.texts);
        sheets = subst (NamesSheetsBelow n) same (copy_sheets n to c cell.sheets);
      },
    )

area_on_sheet : (r : Area) (a : Addr) → IsArea r → IsInArea r a → IsOnSheet a
area_on_sheet r a area h = record {
  row_from = omega (arith, area.top_from, h.top);
  row_to = omega (arith, area.bottom_to, h.bottom);
  col_from = omega (arith, area.left_from, h.left);
  col_to = omega (arith, area.right_to, h.right);
}

apart_among : (x : Addr) (ys : List Addr) → AllByRecursion (λ y. same_addr x y ≡ false) ys → among ys x ≡ false
apart_among x [] h = refl
apart_among x (y ∷ ys) h = ap (λ t. t || among ys x) h.0 ∙ apart_among x ys h.1

-- those of distinct addresses that are empty are distinct
empty_distinct : (es : List (Addr × Held)) (xs : List Addr) → IsDistinct same_addr xs → IsDistinct same_addr (empty_among es xs)
empty_distinct es [] d = d
empty_distinct es (x ∷ xs) d = go (not (is_some (entry_at es x))) (empty_distinct es xs (IsDistinct-tail same_addr x xs d))
  where
    not_later : among (empty_among es xs) x ≡ false
    not_later = among_empty es xs x ∙ ap (λ t. t && not (is_some (entry_at es x))) (apart_among x xs (IsDistinct-head same_addr x xs d))

    go : (t : Bool) → IsDistinct same_addr (empty_among es xs) → IsDistinct same_addr (cond t (x ∷ empty_among es xs) (empty_among es xs))
    go true h = IsDistinct-cons same_addr x (empty_among es xs) (none_among x (empty_among es xs) not_later) h
    go false h = h

module _ (names : List (List ℕ)) (ts : Texts) (p q : Trees) (es : List (Addr × Held)) (from : Addr) (to : Area) where
  pub copies_kept : (fs : List (Addr × Held)) (x : Held) → IsKept es ts names p → KeepsTrees p q → IsArea to → to.sheet < length names → entry_at es from ≡ Some x → CopiesTo q (content_in p x) (walk to) es fs → length fs ≤ MAX_BOOK_CELLS → IsKept fs ts names q
  copies_kept fs x k t area sheet is c few = kept_from fs ts names q c.order few (λ a h e. go a h e (among (walk to) a) refl)
    where
      go : (a : Addr) (h : Held) → entry_at fs a ≡ Some h → (u : Bool) → among (walk to) a ≡ u → MayHold ts (length names) q a (Some h)
      go a h e true f =
          let found = c.copies a f in
          let twice : Some found.0 ≡ Some h = sym found.1 ∙ e in
          let same : found.0 ≡ h = cc in
          let inside : IsInArea to a = inside_tells to a (sym (walk_holds to a) ∙ f) in
          let on : a.sheet < length names = omega (arith, inside.sheet, sheet) in
          copy_may q ts (length names) (content_in p x) from a h (held_cell es ts names p k from x is).1 (area_on_sheet to a area inside) on (subst (IsCopy q (content_in p x) a) same found.2)
      go a h e false f = held_cell es ts names q (kept_grows es ts ts names p q (same_texts ts) t k) a h (sym (c.others a f) ∙ e)

  pub copies_kept_on : {T : Type 0} (r : Result T EditFault) (fs : List (Addr × Held)) (x : Held) → IsKept es ts names p → KeepsTrees p q → IsArea to → to.sheet < length names → entry_at es from ≡ Some x → OnOk r (CopiesTo q (content_in p x) (walk to) es fs) → length fs ≤ MAX_BOOK_CELLS → OnErr r (fs ≡ es) → IsKept fs ts names q
  copies_kept_on (Ok y) fs x k t area sheet is c few e = copies_kept fs x k t area sheet is c few
  copies_kept_on (Err y) fs x k t area sheet is c few e = subst (λ gs. IsKept gs ts names q) (sym e) (kept_grows es ts ts names p q (same_texts ts) t k)

  pub copies_applied : (fs : List (Addr × Held)) (x : Held) → IsKept es ts names p → KeepsTrees p q → IsArea to → entry_at es from ≡ Some x → CopiesTo q (content_in p x) (walk to) es fs → IsApplied (Copy from to) (cells_in p es) (cells_in q fs)
  copies_applied fs x k t area is c = record {
    order = in_book q fs c.order;
    lookups = λ a. held_cells q fs a ∙ go a (among (walk to) a) refl;
  }
    where
      source : entry_at (cells_in p es) from ≡ Some (content_in p x)
      source = held_cells p es from ∙ ap (option_map (content_in p)) is

      go : (a : Addr) (u : Bool) → among (walk to) a ≡ u → option_map (content_in q) (entry_at fs a) ≡ cond (is_inside to a) (copied a (entry_at (cells_in p es) from)) (entry_at (cells_in p es) a)
      go a true f =
          let found = c.copies a f in
          ap (option_map (content_in q)) found.1 ∙ sym found.2.same ∙ ap (copied a) (sym source)
          ∙ ap (λ b. cond b (copied a (entry_at (cells_in p es) from)) (entry_at (cells_in p es) a)) (sym f ∙ walk_holds to a)
      go a false f =
          ap (option_map (content_in q)) (c.others a f) ∙ sym (held_cells q es a) ∙ ap (λ cs. entry_at cs a) (kept_cells es ts names p q t k)
          ∙ ap (λ b. cond b (copied a (entry_at (cells_in p es) from)) (entry_at (cells_in p es) a)) (sym f ∙ walk_holds to a)

  pub cleared_applied : (fs : List (Addr × Held)) → IsArea to → entry_at es from ≡ None → SetsAll (walk to) None es fs → IsApplied (Copy from to) (cells_in p es) (cells_in p fs)
  cleared_applied fs area is s = record {
    order = in_book p fs s.order;
    lookups = λ a. held_cells p fs a ∙ go a (among (walk to) a) refl;
  }
    where
      source : entry_at (cells_in p es) from ≡ None
      source = held_cells p es from ∙ ap (option_map (content_in p)) is

      go : (a : Addr) (u : Bool) → among (walk to) a ≡ u → option_map (content_in p) (entry_at fs a) ≡ cond (is_inside to a) (copied a (entry_at (cells_in p es) from)) (entry_at (cells_in p es) a)
      go a true f =
          ap (option_map (content_in p)) (s.lookups a ∙ ap (λ b. cond b None (entry_at es a)) f) ∙ ap (copied a) (sym source)
          ∙ ap (λ b. cond b (copied a (entry_at (cells_in p es) from)) (entry_at (cells_in p es) a)) (sym f ∙ walk_holds to a)
      go a false f =
          ap (option_map (content_in p)) (s.lookups a ∙ ap (λ b. cond b None (entry_at es a)) f) ∙ sym (held_cells p es a)
          ∙ ap (λ b. cond b (copied a (entry_at (cells_in p es) from)) (entry_at (cells_in p es) a)) (sym f ∙ walk_holds to a)

  pub cleared_kept : (fs : List (Addr × Held)) → IsKept es ts names p → SetsAll (walk to) None es fs → length fs ≤ MAX_BOOK_CELLS → IsKept fs ts names p
  cleared_kept fs k s few = kept_from fs ts names p s.order few (λ a h e. go a h (among (walk to) a) (sym (s.lookups a) ∙ e))
    where
      go : (a : Addr) (h : Held) (u : Bool) → cond u None (entry_at es a) ≡ Some h → MayHold ts (length names) p a (Some h)
      go a h true e = absurd (cc)
      go a h false e = held_cell es ts names p k a h e

  -- too many cells
  copies_counted : (x : Held) → IsKept es ts names p → IsArea to → entry_at es from ≡ Some x → MAX_BOOK_CELLS < length es + length (empty_among es (walk to)) → IsTooLarge (Copy from to) (cells_in p es)
  copies_counted x k area is h new a =
      let counted : length (empty_among es (walk to)) + length (cells_in p es) ≤ length new = more_cells (cells_in p es) new (empty_among es (walk to)) k.workbook.order (empty_distinct es (walk to) (walk_distinct to)) none added kept in
      omega (arith, counted, h, length-cells_in p es)
    where
      source : entry_at (cells_in p es) from ≡ Some (content_in p x)
      source = held_cells p es from ∙ ap (option_map (content_in p)) is

      none : (b : Addr) → list_any (same_addr b) (empty_among es (walk to)) ≡ true → is_some (entry_at (cells_in p es) b) ≡ false
      none b f = ap is_some (held_cells p es b) ∙ ap (λ o. is_some (option_map (content_in p) o)) (empty_is_none es (walk to) b f)

      some_copied : (b : Addr) → IsSome (copied b (entry_at (cells_in p es) from))
      some_copied b = ap (λ o. is_some (copied b o)) source ∙ ap is_some (copied_some b (content_in p x))

      added : (b : Addr) → list_any (same_addr b) (empty_among es (walk to)) ≡ true → IsSome (entry_at new b)
      added b f = ap is_some (a.lookups b ∙ ap (λ t. cond t (copied b (entry_at (cells_in p es) from)) (entry_at (cells_in p es) b)) (sym (walk_holds to b) ∙ empty_is_among es (walk to) b f)) ∙ some_copied b

      kept : (b : Addr) → IsSome (entry_at (cells_in p es) b) → IsSome (entry_at new b)
      kept b f = ap is_some (a.lookups b) ∙ go (is_inside to b)
        where
          go : (t : Bool) → is_some (cond t (copied b (entry_at (cells_in p es) from)) (entry_at (cells_in p es) b)) ≡ true
          go true = some_copied b
          go false = f

  pub copies_fault : (x : Held) (e : EditFault) → IsKept es ts names p → IsArea to → entry_at es from ≡ Some x → HasNoRoom es (walk to) e → IsCopyFault (cells_in p es) from to e
  copies_fault x (EditFault.BadFormula place n) k area is h = h
  copies_fault x EditFault.TooManyCells k area is h = λ new a. copies_counted x k area is h new a
  copies_fault x EditFault.OutOfMemory k area is h = tt

  pub copies_large : (fs : List (Addr × Held)) → IsTooLarge (Copy from to) (cells_in p es) → IsApplied (Copy from to) (cells_in p es) (cells_in q fs) → length fs ≤ MAX_BOOK_CELLS → ⊥
  copies_large fs large done few = (let more : MAX_BOOK_CELLS < length (cells_in q fs) = large (cells_in q fs) done in absurd (omega (arith, more, length-cells_in q fs, few)))

pub too_many_from_copies : (es : List (Addr × Held)) (xs : List Addr) (e : EditFault) → HasNoRoom es xs e → IsTooMany e
too_many_from_copies es xs (EditFault.BadFormula place n) h = h
too_many_from_copies es xs EditFault.TooManyCells h = tt
too_many_from_copies es xs EditFault.OutOfMemory h = tt
