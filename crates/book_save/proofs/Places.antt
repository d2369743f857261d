-- The places of a sheet row by row are in order.
use Rattle.std.proofs.Common.{◌≡◌, ℕ, zero, suc, ◌+◌, ◌<◌, ◌≤◌, ◌⊎◌, inl, inr, List, [], ◌∷◌, ◌++◌, map, refl, ap, sym, subst, arith}
use Rattle.std.specs.List.{flat_map}
use Rattle.std.proofs.lemmas.Bool.{cases_lt}
use Rattle.cell_values.specs.declared.address.Addr.{Addr}
use Rattle.cell_values.specs.Areas.{numbers_from}
use Rattle.cell_values.specs.Order.{InOrder, IsBeforeAll}
use Rattle.demand_spec.specs.Laws.{In}
use Rattle.demand_spec.proofs.Walks.{in_either, in_left, in_right}
use Rattle.book_save.specs.Rows.{place, places, row_places}

-- the places of a row from a column on, and of rows from one on
abbrev pub row_from : ℕ → ℕ → ℕ → ℕ → List Addr
row_from sheet row col n = map (place sheet row) (numbers_from col n)

abbrev pub rows_from : ℕ → ℕ → ℕ → ℕ → List Addr
rows_from sheet columns row n = flat_map (row_places sheet columns) (numbers_from row n)

-- ---- order

before_both : (a : Addr) (xs ys : List Addr) → IsBeforeAll a xs → IsBeforeAll a ys → IsBeforeAll a (xs ++ ys)
before_both a [] ys h k = k
before_both a (x ∷ xs) ys h k = (h.0, before_both a xs ys h.1 k)

before_row : (sheet i j row col n : ℕ) → (i < row) ⊎ ((i ≡ row) × (j < col)) → IsBeforeAll (place sheet i j) (row_from sheet row col n)
before_row sheet i j row col zero h = tt
before_row sheet i j row col (suc n) h = (inr (refl, h), before_row sheet i j row (suc col) n (later h))
  where
    later : (i < row) ⊎ ((i ≡ row) × (j < col)) → (i < row) ⊎ ((i ≡ row) × (j < suc col))
    later (inl k) = inl k
    later (inr k) = (let l = k.1 in inr (k.0, omega (arith, l)))

before_rows : (sheet i j columns row n : ℕ) → i < row → IsBeforeAll (place sheet i j) (rows_from sheet columns row n)
before_rows sheet i j columns row zero h = tt
before_rows sheet i j columns row (suc n) h = before_both (place sheet i j) (row_places sheet columns row) (rows_from sheet columns (suc row) n) (before_row sheet i j row 1 columns (inl h)) (before_rows sheet i j columns (suc row) n (omega arith))

row_then : (sheet row col n : ℕ) (rest : List Addr) → InOrder rest → ((j : ℕ) → IsBeforeAll (place sheet row j) rest) → InOrder (row_from sheet row col n ++ rest)
row_then sheet row col zero rest o h = o
row_then sheet row col (suc n) rest o h =
    (before_both (place sheet row col) (row_from sheet row (suc col) n) rest (before_row sheet row col row (suc col) n (inr (refl, omega arith))) (h col), row_then sheet row (suc col) n rest o h)

rows_order : (sheet columns row n : ℕ) → InOrder (rows_from sheet columns row n)
rows_order sheet columns row zero = tt
rows_order sheet columns row (suc n) =
    row_then sheet row 1 columns (rows_from sheet columns (suc row) n) (rows_order sheet columns (suc row) n) (λ j. before_rows sheet row j columns (suc row) n (omega arith))

pub places_order : (sheet columns rows : ℕ) → InOrder (places sheet columns rows)
places_order sheet columns rows = rows_order sheet columns 1 rows

-- ---- members

in_row : (sheet row j col n : ℕ) → col ≤ j → j < col + n → In (place sheet row j) (row_from sheet row col n)
in_row sheet row j col zero h l = absurd (omega (arith, h, l))
in_row sheet row j col (suc n) h l = go (cases_lt col j) (in_row sheet row j (suc col) n)
  where
    go : (col < j) ⊎ (j ≤ col) → (suc col ≤ j → j < suc col + n → In (place sheet row j) (row_from sheet row (suc col) n)) → In (place sheet row j) (row_from sheet row col (suc n))
    go (inl k) later = inr (later (omega arith) (omega (arith, l)))
    go (inr k) later = (let e : j ≡ col = omega (arith, h, k) in inl (ap (place sheet row) e))

in_rows : (sheet columns i j row n : ℕ) → row ≤ i → i < row + n → 1 ≤ j → j ≤ columns → In (place sheet i j) (rows_from sheet columns row n)
in_rows sheet columns i j row zero h l f t = absurd (omega (arith, h, l))
in_rows sheet columns i j row (suc n) h l f t = go (cases_lt row i) (λ p q. in_rows sheet columns i j (suc row) n p q f t)
  where
    go : (row < i) ⊎ (i ≤ row) → (suc row ≤ i → i < suc row + n → In (place sheet i j) (rows_from sheet columns (suc row) n)) → In (place sheet i j) (rows_from sheet columns row (suc n))
    go (inl k) later = in_right (place sheet i j) (row_places sheet columns row) (rows_from sheet columns (suc row) n) (later (omega arith) (omega (arith, l)))
    go (inr k) later =
        let e : row ≡ i = omega (arith, h, k) in
        in_left (place sheet i j) (row_places sheet columns row) (rows_from sheet columns (suc row) n) (subst (λ r. In (place sheet i j) (row_places sheet columns r)) (sym e) (in_row sheet i j 1 columns f (omega (arith, t))))

pub in_places : (sheet columns rows i j : ℕ) → 1 ≤ i → i ≤ rows → 1 ≤ j → j ≤ columns → In (place sheet i j) (places sheet columns rows)
in_places sheet columns rows i j h l f t = in_rows sheet columns i j 1 rows h (omega (arith, l)) f t

row_sheet : (sheet row col n : ℕ) (a : Addr) → In a (row_from sheet row col n) → a.sheet ≡ sheet
row_sheet sheet row col zero a h = absurd h
row_sheet sheet row col (suc n) a (inl e) = ap (λ (z : Addr). z.sheet) e
row_sheet sheet row col (suc n) a (inr h) = row_sheet sheet row (suc col) n a h

rows_sheet : (sheet columns row n : ℕ) (a : Addr) → In a (rows_from sheet columns row n) → a.sheet ≡ sheet
rows_sheet sheet columns row zero a h = absurd h
rows_sheet sheet columns row (suc n) a h = go (in_either a (row_places sheet columns row) (rows_from sheet columns (suc row) n) h) (rows_sheet sheet columns (suc row) n a)
  where
    go : In a (row_places sheet columns row) ⊎ In a (rows_from sheet columns (suc row) n) → (In a (rows_from sheet columns (suc row) n) → a.sheet ≡ sheet) → a.sheet ≡ sheet
    go (inl k) later = row_sheet sheet row 1 columns a k
    go (inr k) later = later k

pub places_sheet : (sheet columns rows : ℕ) (a : Addr) → In a (places sheet columns rows) → a.sheet ≡ sheet
places_sheet sheet columns rows a h = rows_sheet sheet columns 1 rows a h
