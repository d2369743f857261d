-- The cells that a sheet gives are fields, none of them empty, and lie behind those of earlier sheets.
use Rattle.std.proofs.Common.{◌≡◌, ℕ, ℤ, ◌+◌, ◌≤◌, inl, List, [], ◌∷◌, ◌++◌, length, arith, Option, Some, None, Bool, true, false, eqb, refl, sym, subst, cond, fold, codes, suc}
use Rattle.std.proofs.lemmas.List.Elements.{All-from_recursion}
use Rattle.std.specs.List.{AllByRecursion, All}
use Rattle.std.specs.Str.{bytes_eq}
use Rattle.cell_values.specs.declared.address.Addr.{Addr}
use Rattle.cell_values.specs.declared.fields.Raw.{Raw}
use Rattle.cell_values.specs.Addresses.{IsOnSheet}
use Rattle.cell_values.specs.Fields.{IsRawOf, raw_of, text_raw, plain_raw, number_of_field}
use Rattle.cell_values.specs.Interned.{KeepsTexts}
use Rattle.cell_values.specs.Order.{addresses, InOrder, IsBeforeAll}
use Rattle.cell_values.specs.Texts.{Texts}
use Rattle.sheet_csv.specs.Sheet.{Field, Sheet, cell_at, is_empty, with_field, cells_of, sheet_fields}
use Rattle.workbook_core.specs.Edits.{IsField}
use Rattle.workbook_core.proofs.Fields.{read_is_field}
use Rattle.workbook_core.proofs.Growth.{kept_length}
use Rattle.sheet_loading.specs.Loaded.{IsFilled, IsPlaced}

-- what the fields of a sheet are

plain_is_filled : (ts : Texts) (bytes : List ℕ) (o : Option ℤ) → IsFilled (plain_raw ts bytes o).1
plain_is_filled ts bytes (Some n) = tt
plain_is_filled ts bytes None = go (bytes_eq bytes (codes "TRUE")) (bytes_eq bytes (codes "FALSE"))
  where
    go : (a b : Bool) → IsFilled (cond a (ts, Raw.Bool true) (cond b (ts, Raw.Bool false) (text_raw ts bytes))).1
    go true b = tt
    go false true = tt
    go false false = tt

raw_is_filled : (ts : Texts) (bytes : List ℕ) → eqb (length bytes) 0 ≡ false → IsFilled (raw_of ts bytes).1
raw_is_filled ts [] h = cc
raw_is_filled ts (c ∷ rest) h = go (eqb c 61) (eqb c 39)
  where
    go : (a b : Bool) → IsFilled (cond a (ts, Raw.Formula (c ∷ rest)) (cond b (text_raw ts rest) (plain_raw ts (c ∷ rest) (number_of_field (c ∷ rest))))).1
    go true b = tt
    go false true = tt
    go false false = plain_is_filled ts (c ∷ rest) (number_of_field (c ∷ rest))

abbrev IsGiven : Addr × Raw → Type 0
IsGiven c = IsField c.1 × IsFilled c.1

one_more : {A : Type 0} (P : A → Type 0) (xs : List A) (x : A) → AllByRecursion P xs → P x → AllByRecursion P (xs ++ x ∷ [])
one_more P [] x h k = (k, tt)
one_more P (y ∷ ys) x h k = (h.0, one_more P ys x h.1 k)

field_more : (sheet : ℕ) (s : Sheet) (f : Field) → AllByRecursion IsGiven s.1 → AllByRecursion IsGiven (with_field sheet s f).1
unfolding with_field
field_more sheet s f h = go (is_empty f) refl
  where
    go : (e : Bool) → is_empty f ≡ e → AllByRecursion IsGiven (cond {A = Sheet} e (s.0, s.1) ((raw_of s.0 f.bytes).0, s.1 ++ (cell_at sheet f, (raw_of s.0 f.bytes).1) ∷ [])).1
    go true p = h
    go false p =
        one_more IsGiven s.1 (cell_at sheet f, (raw_of s.0 f.bytes).1) h
        (read_is_field s.0 (raw_of s.0 f.bytes).0 f.bytes (raw_of s.0 f.bytes).1 refl, raw_is_filled s.0 f.bytes p)

fields_more : (sheet : ℕ) (fs : List Field) (s : Sheet) → AllByRecursion IsGiven s.1 → AllByRecursion IsGiven (fold (with_field sheet) s fs).1
fields_more sheet [] s h = h
fields_more sheet (f ∷ rest) s h = fields_more sheet rest (with_field sheet s f) (field_more sheet s f h)

given : (sheet : ℕ) (ts us : Texts) (cells : List (Addr × Raw)) (bytes : List ℕ) → (us, cells) ≡ cells_of sheet ts (sheet_fields bytes) → AllByRecursion IsGiven cells
given sheet ts us cells bytes e = subst (λ (s : Sheet). AllByRecursion IsGiven s.1) (sym e) (fields_more sheet (sheet_fields bytes) (ts, []) tt)

pub all_fields : (sheet : ℕ) (ts us : Texts) (cells : List (Addr × Raw)) (bytes : List ℕ) → (us, cells) ≡ cells_of sheet ts (sheet_fields bytes) → All (λ c. IsField c.1) cells
all_fields sheet ts us cells bytes e = All-from_recursion (λ c. IsField c.1) cells (go cells (given sheet ts us cells bytes e))
  where
    go : (cs : List (Addr × Raw)) → AllByRecursion IsGiven cs → AllByRecursion (λ c. IsField c.1) cs
    go [] g = tt
    go (c ∷ rest) g = (g.0.0, go rest g.1)

-- the cells that a sheet's bytes give
pub sheet_placed : (sheet : ℕ) (ts us : Texts) (cells : List (Addr × Raw)) (bytes : List ℕ) → (us, cells) ≡ cells_of sheet ts (sheet_fields bytes) →
    All (λ c. IsOnSheet c.0 × (c.0.sheet ≡ sheet)) cells → All (λ c. IsRawOf us c.1) cells → AllByRecursion (IsPlaced us (sheet + 1)) cells
sheet_placed sheet ts us cells bytes e on there = go cells on there (given sheet ts us cells bytes e)
  where
    go : (cs : List (Addr × Raw)) → All (λ c. IsOnSheet c.0 × (c.0.sheet ≡ sheet)) cs → All (λ c. IsRawOf us c.1) cs → AllByRecursion IsGiven cs → AllByRecursion (IsPlaced us (sheet + 1)) cs
    go [] o t g = tt
    go (c ∷ rest) o t g =
        let place = o 0 c (omega arith) in (
          record { on_sheet = place.0; earlier = (let same = place.1 in omega (arith, same)); text = t 0 c (omega arith); field = g.0.0; filled = g.0.1 },
          go rest (λ k d l. o (suc k) d (omega (arith, l))) (λ k d l. t (suc k) d (omega (arith, l))) g.1,
        )

-- with more texts and more sheets

raw_stays : (ts us : Texts) (raw : Raw) → length ts ≤ length us → IsRawOf ts raw → IsRawOf us raw
raw_stays ts us Raw.Nothing l h = tt
raw_stays ts us (Raw.Number n) l h = tt
raw_stays ts us (Raw.Text t) l h = omega arith
raw_stays ts us (Raw.Bool b) l h = tt
raw_stays ts us (Raw.Formula t) l h = tt

pub placed_stay : (ts us : Texts) (sheet more : ℕ) (cells : List (Addr × Raw)) → KeepsTexts ts us → sheet ≤ more → AllByRecursion (IsPlaced ts sheet) cells → AllByRecursion (IsPlaced us more) cells
placed_stay ts us sheet more [] k l h = tt
placed_stay ts us sheet more (c ∷ rest) k l h = (
  record { on_sheet = h.0.on_sheet; earlier = (let before = h.0.earlier in omega (arith, before, l)); text = raw_stays ts us c.1 (kept_length ts us k) h.0.text; field = h.0.field; filled = h.0.filled },
  placed_stay ts us sheet more rest k l h.1,
)

-- the order

before_both : (a : Addr) (xs ys : List (Addr × Raw)) → IsBeforeAll a (addresses xs) → IsBeforeAll a (addresses ys) → IsBeforeAll a (addresses (xs ++ ys))
before_both a [] ys h k = k
before_both a (x ∷ xs) ys h k = (h.0, before_both a xs ys h.1 k)

-- cells of earlier sheets before those of this one
pub in_order_both : (ts : Texts) (sheet : ℕ) (xs ys : List (Addr × Raw)) → AllByRecursion (IsPlaced ts sheet) xs → All (λ c. IsOnSheet c.0 × (c.0.sheet ≡ sheet)) ys →
    InOrder (addresses xs) → InOrder (addresses ys) → InOrder (addresses (xs ++ ys))
in_order_both ts sheet [] ys h on o p = p
in_order_both ts sheet (x ∷ xs) ys h on o p = (before_both x.0 xs ys o.0 (all ys on), in_order_both ts sheet xs ys h.1 on o.1 p)
  where
    all : (cs : List (Addr × Raw)) → All (λ c. IsOnSheet c.0 × (c.0.sheet ≡ sheet)) cs → IsBeforeAll x.0 (addresses cs)
    all [] k = tt
    all (c ∷ cs) k =
        let same = (k 0 c (omega arith)).1 in
        let before = h.0.earlier in
        (inl (omega (arith, same, before)), all cs (λ i d l. k (suc i) d (omega (arith, l))))

pub both : {A : Type 0} (P : A → Type 0) (xs ys : List A) → AllByRecursion P xs → AllByRecursion P ys → AllByRecursion P (xs ++ ys)
both P [] ys h k = k
both P (x ∷ xs) ys h k = (h.0, both P xs ys h.1 k)
