-- What is read of a field may be put into a cell.
use Rattle.std.proofs.Common.{◌≡◌, ℕ, ◌==◌, ◌&&◌, cond, drop, length, Bool, true, false, List, [], ◌∷◌, Option, Some, None, refl, sym, ap, subst}
use Rattle.std.specs.Prelude.{codes, ℤ, pos, neg_ℤ, nat_lt}
use Rattle.std.specs.Str.{bytes_eq, all_ascii_digits}
use Rattle.std.specs.Str.Parse.{digits_value, starts_with_minus}
use Rattle.cell_values.specs.declared.fields.Raw.{Raw}
use Rattle.cell_values.specs.Fields.{number_of_field, plain_raw, raw_of, signed_number, text_raw}
use Rattle.cell_values.specs.Numbers.{fits}
use Rattle.cell_values.specs.Texts.{Texts}
use Rattle.workbook_core.specs.Edits.{IsField}

-- what digits write fits
signed_fits : (sign : ℕ → ℤ) (digits : List ℕ) (n : ℤ) → signed_number sign digits ≡ Some n → fits n ≡ true
signed_fits sign digits n e = go (nat_lt 0 (length digits) && all_ascii_digits digits && fits (sign (digits_value 10 digits))) refl e
  where
    all_of : (t u : Bool) → (t && u) ≡ true → u ≡ true
    all_of true u h = h
    all_of false u h = cc

    go : (t : Bool) → (nat_lt 0 (length digits) && all_ascii_digits digits && fits (sign (digits_value 10 digits))) ≡ t → cond t (Some (sign (digits_value 10 digits))) None ≡ Some n → fits n ≡ true
    go true h k = (let same : sign (digits_value 10 digits) ≡ n = cc in subst (λ z. fits z ≡ true) same (all_of (nat_lt 0 (length digits) && all_ascii_digits digits) (fits (sign (digits_value 10 digits))) h))
    go false h k = cc

field_fits : (field : List ℕ) (n : ℤ) → number_of_field field ≡ Some n → fits n ≡ true
unfolding number_of_field
field_fits field n e = go (starts_with_minus field) e
  where
    go : (t : Bool) → cond t (signed_number (λ k. neg_ℤ (pos k)) (drop 1 field)) (signed_number pos field) ≡ Some n → fits n ≡ true
    go true k = signed_fits (λ m. neg_ℤ (pos m)) (drop 1 field) n k
    go false k = signed_fits pos field n k

plain_is_field : (ts : Texts) (field : List ℕ) (o : Option ℤ) → ((n : ℤ) → o ≡ Some n → fits n ≡ true) → IsField (plain_raw ts field o).1
plain_is_field ts field (Some n) h = h n refl
plain_is_field ts field None h = go (bytes_eq field (codes "TRUE")) (bytes_eq field (codes "FALSE"))
  where
    go : (t u : Bool) → IsField (cond t (ts, Raw.Bool true) (cond u (ts, Raw.Bool false) (text_raw ts field))).1
    go true u = tt
    go false true = tt
    go false false = tt

is_field : (ts : Texts) (field : List ℕ) → IsField (raw_of ts field).1
is_field ts [] = tt
is_field ts (c ∷ rest) = go (c == 61) refl (c == 39)
  where
    go : (t : Bool) → (c == 61) ≡ t → (u : Bool) → IsField (cond t (ts, Raw.Formula (c ∷ rest)) (cond u (text_raw ts rest) (plain_raw ts (c ∷ rest) (number_of_field (c ∷ rest))))).1
    go true is u = is
    go false is true = tt
    go false is false = plain_is_field ts (c ∷ rest) (number_of_field (c ∷ rest)) (field_fits (c ∷ rest))

pub read_is_field : (ts us : Texts) (field : List ℕ) (raw : Raw) → (us, raw) ≡ raw_of ts field → IsField raw
read_is_field ts us field raw e = subst IsField (sym (ap (λ p. p.1) e)) (is_field ts field)
