-- Names in either case.
use Rattle.std.proofs.Common.{◌≡◌, ◌+◌, ◌<◌, ◌≤◌, ℕ, Bool, true, false, List, [], ◌∷◌, map, length, drop, get_or, refl, ap, sym, ◌∙◌, arith, Some, None, IsTrue}
use Rattle.std.specs.Prelude.{◌↔◌}
use Rattle.std.specs.Char.{to_ascii_uppercase, to_ascii_lowercase}
use Rattle.std.specs.Str.{bytes_eq}
use Rattle.std.proofs.lemmas.List.{at_drop_more, at_drop_all}
use Rattle.std.proofs.lemmas.Slice.Eq.{bytes_eq-Decides}
use Rattle.std.proofs.lemmas.Bool.{cond-true, cond-false}
use Rattle.std.proofs.lemmas.Bool.Decides.{nat_tests, same_from_decides}
use Rattle.formula_trees.specs.declared.tree.Fun.{Fun}
use Rattle.formula_tokens.specs.Words.{upper, function_name, named_in}

-- a function's name is in capitals
pub name_is_upper : (f : Fun) → upper (function_name f) ≡ function_name f
name_is_upper Fun.If = refl
name_is_upper Fun.And = refl
name_is_upper Fun.Or = refl
name_is_upper Fun.Not = refl
name_is_upper Fun.Choose = refl
name_is_upper Fun.IfError = refl
name_is_upper Fun.IsError = refl
name_is_upper Fun.Sum = refl
name_is_upper Fun.Min = refl
name_is_upper Fun.Max = refl
name_is_upper Fun.Count = refl
name_is_upper Fun.Abs = refl
name_is_upper Fun.Mod = refl
name_is_upper Fun.Quotient = refl
name_is_upper Fun.Index = refl
name_is_upper Fun.Match = refl
name_is_upper Fun.VLookup = refl
name_is_upper Fun.HLookup = refl
name_is_upper Fun.Left = refl
name_is_upper Fun.Right = refl
name_is_upper Fun.Mid = refl
name_is_upper Fun.Len = refl

lower_from_upper : (a b : ℕ) → to_ascii_uppercase a ≡ to_ascii_uppercase b → to_ascii_lowercase a ≡ to_ascii_lowercase b
lower_from_upper a b h = grind (arith, nat_tests)

upper_from_lower : (a b : ℕ) → to_ascii_lowercase a ≡ to_ascii_lowercase b → to_ascii_uppercase a ≡ to_ascii_uppercase b
upper_from_lower a b h = grind (arith, nat_tests)

mapped : (f g : ℕ → ℕ) → ((a b : ℕ) → f a ≡ f b → g a ≡ g b) → (xs ys : List ℕ) → map f xs ≡ map f ys → map g xs ≡ map g ys
mapped f g same [] [] h = refl
mapped f g same [] (y ∷ ys) h = cc
mapped f g same (x ∷ xs) [] h = cc
mapped f g same (x ∷ xs) (y ∷ ys) h =
    let head : f x ≡ f y = cc in
    let tail : map f xs ≡ map f ys = cc in
    let one = same x y head in
    let rest = mapped f g same xs ys tail in
    cc

-- a comparison in either case, where the name is in capitals
pub either_case : (r : Bool) (word name : List ℕ) → upper name ≡ name → (IsTrue r ↔ (map to_ascii_lowercase word ≡ map to_ascii_lowercase name)) → r ≡ bytes_eq (upper word) name
either_case r word name capital h =
    let decides = bytes_eq-Decides (upper word) name in
    same_from_decides r (bytes_eq (upper word) name) (
      (λ e. mapped to_ascii_lowercase to_ascii_uppercase upper_from_lower word name (h.0 e) ∙ capital),
      (λ e. h.1 (mapped to_ascii_uppercase to_ascii_lowercase lower_from_upper word name (e ∙ sym capital))),
    ) decides

-- the first of the functions from a place on that has this name
pub named_here : (fs : List Fun) (i : ℕ) (f : Fun) (name : List ℕ) → i < length fs → f ≡ get_or fs i f → bytes_eq name (function_name f) ≡ true → named_in (drop i fs) name ≡ Some f
named_here fs i f name h e t =
    at_drop_more (λ gs. named_in gs name) fs i f h ∙ ap (λ g. named_in (g ∷ drop (i + 1) fs) name) (sym e)
    ∙ cond-true (bytes_eq name (function_name f)) _ _ t

pub named_later : (fs : List Fun) (i : ℕ) (f : Fun) (name : List ℕ) → i < length fs → f ≡ get_or fs i f → bytes_eq name (function_name f) ≡ false → named_in (drop i fs) name ≡ named_in (drop (i + 1) fs) name
named_later fs i f name h e t =
    at_drop_more (λ gs. named_in gs name) fs i f h ∙ ap (λ g. named_in (g ∷ drop (i + 1) fs) name) (sym e)
    ∙ cond-false (bytes_eq name (function_name f)) _ _ t

pub named_nowhere : (fs : List Fun) (i : ℕ) (name : List ℕ) → length fs ≤ i → named_in (drop i fs) name ≡ None
named_nowhere fs i name h = at_drop_all (λ gs. named_in gs name) fs i h
