-- Texts with and without a mark.
use Rattle.std.proofs.Common.{◌≡◌, ◌≢◌, ℕ, suc, ◌+◌, ◌-◌, ◌*◌, ◌<◌, ◌≤◌, subst, Bool, true, false, not, cond, ◌||◌, List, [], ◌∷◌, length, refl, sym, ap, arith, None}
use Rattle.std.proofs.lemmas.Bool.{ne_eqb, cond-false}
use Rattle.std.proofs.lemmas.Str.{IsUtf8-from_is_utf8, is_utf8-from_IsUtf8}
use Rattle.std.specs.List.{list_any, position_or_len}
use Rattle.std.specs.Str.{IsUtf8, is_utf8}
use Rattle.std.proofs.lemmas.Str.Pattern.{strip_prefix_char}
use Rattle.std.specs.Str.Pattern.{FindsCharPrefix}
use Rattle.cell_values.specs.declared.TheConstants.{MAX_RANGE_CELLS}
use Rattle.cell_values.specs.declared.address.Addr.{Addr}
use Rattle.cell_values.specs.declared.address.Area.{Area}
use Rattle.cell_values.specs.Areas.{one_cell, height, width, IsArea}
use Rattle.edit_script.specs.Targets.{Names, IsCellOf, IsAreaOf, is_bang, is_quote, quoted, behind_bang}

unquoted : (text : List ℕ) → ((rest : List ℕ) → text ≢ 39 ∷ rest) → quoted text ≡ (None, text)
unquoted [] none = refl
unquoted (c ∷ rest) none = cond-false (is_quote c) _ (None, c ∷ rest) (ne_eqb c 39 (λ e. none rest (ap (λ z. z ∷ rest) e)))

pub no_name : (text : List ℕ) → FindsCharPrefix 39 text None → None ≡ (quoted text).0
no_name text none = ap (λ q. q.0) (sym (unquoted text (strip_prefix_char 39 text None none (omega arith))))

pub all_rest : (text : List ℕ) → FindsCharPrefix 39 text None → text ≡ (quoted text).1
all_rest text none = ap (λ q. q.1) (sym (unquoted text (strip_prefix_char 39 text None none (omega arith))))

no_bang : (names : Names) (name text : List ℕ) → ((rest : List ℕ) → text ≢ 33 ∷ rest) → None ≡ behind_bang names name text
no_bang names name [] none = refl
no_bang names name (c ∷ rest) none = sym (cond-false (is_bang c) _ None (ne_eqb c 33 (λ e. none rest (ap (λ z. z ∷ rest) e))))

pub bang_lacks : (names : Names) (name text : List ℕ) → FindsCharPrefix 33 text None → None ≡ behind_bang names name text
bang_lacks names name text none = no_bang names name text (strip_prefix_char 33 text None none (omega arith))

pub none_marked : (mark : ℕ → Bool) (text : List ℕ) → position_or_len mark text ≡ length text → list_any mark text ≡ false
none_marked mark [] e = refl
none_marked mark (c ∷ rest) e = go (mark c) refl e (none_marked mark rest)
  where
    go : (b : Bool) → mark c ≡ b → cond (not b) (1 + position_or_len mark rest) 0 ≡ suc (length rest) → (position_or_len mark rest ≡ length rest → list_any mark rest ≡ false) → (b || list_any mark rest) ≡ false
    go true q f later = absurd (omega (arith, f))
    go false q f later = later (omega (arith, f))

pub some_marked : (mark : ℕ → Bool) (text : List ℕ) → position_or_len mark text < length text → list_any mark text ≡ true
some_marked mark [] l = absurd (omega arith)
some_marked mark (c ∷ rest) l = go (mark c) refl l (some_marked mark rest)
  where
    go : (b : Bool) → mark c ≡ b → cond (not b) (1 + position_or_len mark rest) 0 < suc (length rest) → (position_or_len mark rest < length rest → list_any mark rest ≡ true) → (b || list_any mark rest) ≡ true
    go true q f later = refl
    go false q f later = later (omega (arith, f))

-- bytes that are read as a text, and bytes that are not

pub utf8_test : (bytes : List ℕ) → IsUtf8 bytes → is_utf8 bytes ≡ true
utf8_test bytes u = is_utf8-from_IsUtf8 bytes u

pub no_utf8_test : (bytes : List ℕ) → (IsUtf8 bytes → ⊥) → is_utf8 bytes ≡ false
no_utf8_test bytes n = go (is_utf8 bytes) refl
  where
    go : (b : Bool) → is_utf8 bytes ≡ b → is_utf8 bytes ≡ false
    go true e = absurd (n (IsUtf8-from_is_utf8 bytes e))
    go false e = e

-- one cell is an area of the sheets
pub one_of_sheets : (names : Names) (a : Addr) (r : Area) → IsCellOf names a → IsArea r → r ≡ one_cell a → IsAreaOf names r
unfolding height width
one_of_sheets names a r c area e = subst (IsAreaOf names) (sym e) (record { area = subst IsArea e area; of_sheets = c.of_sheets; few = small })
  where
    one : (n : ℕ) → suc n - n ≡ 1
    one n = omega arith

    single : (m n : ℕ) → m ≡ 1 → n ≡ 1 → m * n ≤ MAX_RANGE_CELLS
    single m n p q = subst (λ k. k * n ≤ MAX_RANGE_CELLS) (sym p) (subst (λ k. 1 * k ≤ MAX_RANGE_CELLS) (sym q) (omega arith))

    small : height (one_cell a) * width (one_cell a) ≤ MAX_RANGE_CELLS
    small = single (suc a.row - a.row) (suc a.col - a.col) (one a.row) (one a.col)
