-- The first formula that is too long, place by place.
use Rattle.std.proofs.Common.{◌≡◌, ℕ, ◌<◌, ◌≤◌, nat_lt, length, Bool, true, false, ◌∷◌, [], List, ◌++◌, Option, Some, None, option_map, Result, Ok, Err, OnOk, refl, ap, sym, ◌∙◌, arith}
use Rattle.std.specs.List.{filter}
use Rattle.std.proofs.lemmas.List.Elements.{filter-append, filter_map-append}
use Rattle.cell_values.specs.declared.address.Addr.{Addr}
use Rattle.cell_values.specs.Order.{entry_at}
use Rattle.cell_values.specs.Texts.{Texts}
use Rattle.formula_trees.specs.declared.TheConstants.{MAX_FORMULA_BYTES}
use Rattle.formula_trees.specs.Expr.{Expr}
use Rattle.formula_trees.specs.SheetNumbers.{SheetsBelow}
use Rattle.formula_trees.specs.TextNumbers.{TextsBelow}
use Rattle.formula_grammar.specs.Printed.{printed}
use Rattle.shared_expressions.specs.Trees.{Trees}
use Rattle.workbook_core.specs.Books.{IsWorkbook, SharedBook}
use Rattle.workbook_core.specs.Held.{content_in}
use Rattle.workbook_core.specs.declared.Content.{Content as Held}
use Rattle.demand_spec.specs.Book.{Book, Content}
use Rattle.demand_spec.specs.Edits.{Cells}
use Rattle.book_save.specs.declared.faults.SaveFault.{SaveFault}
use Rattle.book_save.specs.Fields.{field_or_empty, is_long, saved_cell}
use Rattle.book_save.specs.Rows.{cells_at, first_address, first_long_at, IsSaveFault}

none_then : (xs ys : Cells) → first_address xs ≡ None → first_address (xs ++ ys) ≡ first_address ys
none_then [] ys e = refl
none_then (x ∷ xs) ys e = cc

some_then : (xs ys : Cells) (a : Addr) → first_address xs ≡ Some a → first_address (xs ++ ys) ≡ Some a
some_then [] ys a e = cc
some_then (x ∷ xs) ys a e = e

module _ (names : List (List ℕ)) (b : Book) where
  abbrev long : Addr × Content → Bool
  long c = is_long names b.texts c.0 c.1

  apart : (xs ys : List Addr) → first_long_at names b (xs ++ ys) ≡ first_address (filter long (cells_at b.cells xs) ++ filter long (cells_at b.cells ys))
  apart xs ys =
      ap (λ (cs : Cells). first_address (filter long cs)) (filter_map-append (λ a. option_map (λ c. (a, c)) (entry_at b.cells a)) xs ys)
      ∙ ap first_address (filter-append long (cells_at b.cells xs) (cells_at b.cells ys))

  -- none among the first places
  pub long_later : (xs ys : List Addr) → first_long_at names b xs ≡ None → first_long_at names b (xs ++ ys) ≡ first_long_at names b ys
  long_later xs ys e = apart xs ys ∙ none_then (filter long (cells_at b.cells xs)) (filter long (cells_at b.cells ys)) e

  -- one among the first places
  pub long_first : (xs ys : List Addr) (a : Addr) → first_long_at names b xs ≡ Some a → first_long_at names b (xs ++ ys) ≡ Some a
  long_first xs ys a e = apart xs ys ∙ some_then (filter long (cells_at b.cells xs)) (filter long (cells_at b.cells ys)) a e

  -- a fault at the next places is one of the whole, where the places before them have none
  pub fault_of_whole : (before here rest whole : List Addr) (fault : SaveFault) → whole ≡ before ++ (here ++ rest) → first_long_at names b before ≡ None →
      IsSaveFault (first_long_at names b here) fault → IsSaveFault (first_long_at names b whole) fault
  fault_of_whole before here rest whole (SaveFault.TooLong a) e none h = ap (first_long_at names b) e ∙ long_later before (here ++ rest) none ∙ long_first here rest a h
  fault_of_whole before here rest whole SaveFault.OutOfMemory e none h = tt

  -- no fault so far, and none at the next places
  pub none_more : (before here whole : List Addr) → whole ≡ before ++ here → first_long_at names b before ≡ None → first_long_at names b here ≡ None → first_long_at names b whole ≡ None
  none_more before here whole e none h = ap (first_long_at names b) e ∙ long_later before here none ∙ h

-- whether the formula at one place is too long

pub short_none : (names : List (List ℕ)) (b : Book) (a : Addr) → entry_at b.cells a ≡ None → first_long_at names b (a ∷ []) ≡ None
short_none names b a e = rw e refl

pub short_some : (names : List (List ℕ)) (b : Book) (a : Addr) (c : Content) → entry_at b.cells a ≡ Some c → is_long names b.texts a c ≡ false → first_long_at names b (a ∷ []) ≡ None
short_some names b a c e l = rw e (rw l refl)

pub long_some : (names : List (List ℕ)) (b : Book) (a : Addr) (c : Content) → entry_at b.cells a ≡ Some c → is_long names b.texts a c ≡ true → first_long_at names b (a ∷ []) ≡ Some a
long_some names b a c e l = rw e (rw l refl)

pub cell_is : (names : List (List ℕ)) (b : Book) (a : Addr) (o : Option Content) → entry_at b.cells a ≡ o → saved_cell names b a ≡ field_or_empty names b.texts a o
cell_is names b a o e = ap (field_or_empty names b.texts a) e

-- what a cell holds, by what is found

pub found_none : (p : Trees) (r : Option Held) (o : Option Content) → option_map (content_in p) r ≡ o → r ≡ None → o ≡ None
found_none p r o e is = sym e ∙ ap (option_map (content_in p)) is

pub found_some : (p : Trees) (r : Option Held) (o : Option Content) (h : Held) → option_map (content_in p) r ≡ o → r ≡ Some h → o ≡ Some (content_in p h)
found_some p r o h e is = sym e ∙ ap (option_map (content_in p)) is

-- a fault that is want of memory

pub no_memory : (o : Option Addr) (fault : SaveFault) → fault ≡ SaveFault.OutOfMemory → IsSaveFault o fault
no_memory o fault e = rw e tt

-- a formula

module _ (w : SharedBook) (a : Addr) (t : Expr) (h : IsWorkbook w) (e : entry_at w.book.cells a ≡ Some (Content.Formula t)) where
  pub known_texts : (ts : Texts) (tree : Expr) → ts ≡ w.book.texts → tree ≡ t → TextsBelow (λ i. i < length ts) tree
  known_texts ts tree p q = rw (p, q) (h.cells a (Content.Formula t) e).texts

  pub known_sheets : (names : List (List ℕ)) (tree : Expr) → names ≡ w.names → tree ≡ t → SheetsBelow (length names) tree
  known_sheets names tree p q = rw (p, q) (h.cells a (Content.Formula t) e).sheets

  pub printed_is : (names : List (List ℕ)) (ts : Texts) (tree : Expr) (text : List ℕ) → text ≡ printed names ts a tree → names ≡ w.names → ts ≡ w.book.texts → tree ≡ t → text ≡ saved_cell w.names w.book a
  printed_is names ts tree text is n p q = is ∙ (λ i. printed (n i) (p i) a (q i)) ∙ sym (cell_is w.names w.book a (Some (Content.Formula t)) e)

  not_long : (n : ℕ) → n ≤ MAX_FORMULA_BYTES → nat_lt MAX_FORMULA_BYTES n ≡ false
  not_long n l = grind (arith, l)

  is_long_then : (n : ℕ) → MAX_FORMULA_BYTES < n → nat_lt MAX_FORMULA_BYTES n ≡ true
  is_long_then n l = grind (arith, l)

  pub short_is : (text : List ℕ) → text ≡ saved_cell w.names w.book a → length text ≤ MAX_FORMULA_BYTES → first_long_at w.names w.book (a ∷ []) ≡ None
  short_is text is l =
      let same = is ∙ cell_is w.names w.book a (Some (Content.Formula t)) e in
      short_some w.names w.book a (Content.Formula t) e (ap (λ (x : List ℕ). nat_lt MAX_FORMULA_BYTES (length x)) (sym same) ∙ not_long (length text) l)

  pub long_is : (text : List ℕ) (fault : SaveFault) → text ≡ saved_cell w.names w.book a → (fault ≡ SaveFault.TooLong a) × (MAX_FORMULA_BYTES < length text) → IsSaveFault (first_long_at w.names w.book (a ∷ [])) fault
  long_is text fault is l =
      let same = is ∙ cell_is w.names w.book a (Some (Content.Formula t)) e in
      rw l.0 (long_some w.names w.book a (Content.Formula t) e (ap (λ (x : List ℕ). nat_lt MAX_FORMULA_BYTES (length x)) (sym same) ∙ is_long_then (length text) l.1))

-- what holds anyway

pub always_short : {T E P : Type 0} (r : Result T E) → P → OnOk r P
always_short (Ok x) p = p
always_short (Err e) p = tt
