-- The sum of what is shown, one cell more.
use Rattle.std.proofs.Common.{◌≡◌, ℕ, ◌+◌, ◌%◌, ◌^◌, ◌<◌, List, [], ◌∷◌, ◌++◌, length, take, get_or, sym, subst, ap, ◌∙◌, arith}
use Rattle.std.specs.Prelude.{ℤ, pos, ◌+ℤ◌}
use Rattle.std.specs.Int.{w128, int_wrap, cast_signed, cast_unsigned}
use Rattle.std.specs.Fmt.{signed_decimal}
use mir.Val.{to_z, of_z}
use Rattle.std.specs.Int.RustNames.{FitsSigned}
use Rattle.std.proofs.lemmas.Int.{ints, to_z-of_z, wrapping_add_onto, int_wrap-add_left, SFits-int_wrap}
use Rattle.std.proofs.lemmas.List.{take_more}
use Rattle.cell_values.specs.declared.values.Shown.{Shown}
use Rattle.puncalc_program.specs.Demo.{number_shown, sum_shown}

plus_zero : (a : ℤ) → a +ℤ pos 0 ≡ pos 0 +ℤ a
plus_zero a = omega (arith, ints)

plus_assoc : (a b c : ℤ) → a +ℤ (b +ℤ c) ≡ (a +ℤ b) +ℤ c
plus_assoc a b c = omega (arith, ints)

sum_push : (xs : List Shown) (x : Shown) → sum_shown (xs ++ x ∷ []) ≡ sum_shown xs +ℤ number_shown x
sum_push [] x = plus_zero (number_shown x)
sum_push (y ∷ xs) x = ap (λ z. number_shown y +ℤ z) (sum_push xs x) ∙ plus_assoc (number_shown y) (sum_shown xs) (number_shown x)

pub sum_more : (xs : List Shown) (i : ℕ) (d : Shown) → i < length xs → sum_shown (take (i + 1) xs) ≡ sum_shown (take i xs) +ℤ number_shown (get_or xs i d)
sum_more xs i d h = ap sum_shown (take_more xs i d h) ∙ sum_push (take i xs) (get_or xs i d)

-- one number more, of which 128 bits are kept
pub wrapped_more : (xs : List Shown) (i : ℕ) (d : Shown) (n : ℤ) (m : ℕ) → i < length xs → m < 2 ^ 128 → FitsSigned w128 n → cast_signed w128 m ≡ int_wrap w128 (sum_shown (take i xs)) → n ≡ number_shown (get_or xs i d) →
    cast_signed w128 ((m + cast_unsigned w128 n) % 2 ^ 128) ≡ int_wrap w128 (sum_shown (take (i + 1) xs))
wrapped_more xs i d n m low small fits h e =
    wrapping_add_onto w128 m n small fits ∙ ap (λ z. int_wrap w128 (z +ℤ n)) h ∙ int_wrap-add_left w128 (sum_shown (take i xs)) n
    ∙ ap (λ z. int_wrap w128 (sum_shown (take i xs) +ℤ z)) e ∙ ap (int_wrap w128) (sym (sum_more xs i d low))

-- the text of the sum
pub sum_told : (text : List ℕ) (total : ℤ) (shows : List Shown) → text ≡ signed_decimal (to_z w128 (of_z w128 total)) → total ≡ int_wrap w128 (sum_shown shows) → text ≡ signed_decimal (int_wrap w128 (sum_shown shows))
sum_told text total shows h e = h ∙ ap signed_decimal (to_z-of_z w128 total (subst (FitsSigned w128) (sym e) (SFits-int_wrap w128 (sum_shown shows))) ∙ e)
