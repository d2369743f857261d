-- What `rsplit_once` and `strip_suffix` leave of a path is the name of its sheet.
use Rattle.std.proofs.Common.{◌≡◌, ℕ, ◌+◌, ◌-◌, ◌<◌, ◌≤◌, true, false, not, ◌==◌, List, [], ◌∷◌, length, take, drop, get_or, ap, sym, subst, ◌∙◌, arith, None}
use Rattle.std.proofs.lemmas.Bool.{ne_eqb, eq-eqb, cond-true, cond-false, not_from_true, not_from_false}
use Rattle.std.proofs.lemmas.List.{get_or-drop, length-drop}
use Rattle.std.proofs.lemmas.List.Sums.{suffix_len_is}
use Rattle.std.proofs.lemmas.Str.Pattern.{NoCharPasses-char, ends_text}
use Rattle.std.specs.Str.{NoCharPasses, IsCharBoundary}
use Rattle.std.specs.Str.Pattern.{RFindsChar, FindsTextSuffix, SplitsAroundMatch, StripsSuffix}
use Rattle.cell_values.specs.Names.{file_name, without_csv}

-- a place behind the last `/`
tail_passes : (path : List ℕ) (j : ℕ) → NoCharPasses (λ d. d == 47) (drop j path) → (k : ℕ) → j ≤ k → k < length path → not (get_or path k 0 == 47) ≡ true
tail_passes path j none k low high =
    let place : j + (k - j) ≡ k = omega arith in
    let inside : k - j < length (drop j path) = omega (arith, length-drop j path) in
    let other = NoCharPasses-char 47 (drop j path) (k - j) none (omega arith) inside in
    not_from_false (get_or path k 0 == 47) (ne_eqb (get_or path k 0) 47 (λ e. other (get_or-drop j path (k - j) 0 ∙ ap (λ i. get_or path i 0) place ∙ e)))

from_last : (path : List ℕ) (j : ℕ) → j ≤ length path → NoCharPasses (λ d. d == 47) (drop j path) → (0 < j → get_or path (j - 1) 0 ≡ 47) → drop j path ≡ file_name path
from_last path j low none slash =
    let len = suffix_len_is (λ c. not (c == 47)) path j 0 low (tail_passes path j none) (λ p. not_from_true (get_or path (j - 1) 0 == 47) (eq-eqb (get_or path (j - 1) 0) 47 (slash p))) in
    ap (λ n. drop n path) (omega (arith, len))

pub behind_last_slash : (path front back : List ℕ) → SplitsAroundMatch (RFindsChar 47) path front back → back ≡ file_name path
behind_last_slash path front back (i, j, found, f, b, ordered, fl, bl) =
    let ends = found.1.ends in
    b ∙ from_last path j (omega arith) found.0 (λ p. ap (λ k. get_or path k 0) (omega arith) ∙ found.1.byte (omega arith))

pub without_slash : (path : List ℕ) → NoCharPasses (λ d. d == 47) path → path ≡ file_name path
without_slash path none = from_last path 0 (omega arith) none (λ p. absurd (omega arith))

abbrev csv : List ℕ
csv = 46 ∷ 99 ∷ 115 ∷ 118 ∷ []

pub before_csv : (name stem : List ℕ) → StripsSuffix (FindsTextSuffix csv) name stem → stem ≡ without_csv name
before_csv name stem (n, found, s, l) =
    let P : ℕ → Type 0 = λ k. IsCharBoundary name (length name - k) in
    s ∙ ap (λ k. take (length name - k) name) found.0
    ∙ sym (cond-true _ _ name (sym (ends_text true csv name (n, found, omega arith, subst P (sym found.0) found.2))))

pub no_csv : (name : List ℕ) → FindsTextSuffix csv name None → name ≡ without_csv name
no_csv name none = sym (cond-false _ _ name (sym (ends_text false csv name none)))
