-- How the writer's rows read in plain words.
use Rattle.std.proofs.Common.{◌≡◌, ℕ, ◌<◌, Bool, true, false, cond, eqb, List, [], ◌∷◌, ◌++◌, length, map, Result, Ok, Err, refl, ap, sym, ◌∙◌, subst, arith}
use Rattle.std.specs.Prelude.{IfOk, MatchResult, is_ok}
use Rattle.std.specs.List.{join_with_byte, list_any}
use Rattle.std.proofs.lemmas.Bool.Decides.{nat_tests}
use Rattle.std.proofs.lemmas.List.{append-nil}
use Rattle.csv.specs.Writing as csv
use Rattle.csv.specs.Writing.{default_writer, escaped, is_blank, needs_byte, needs_quotes}
use Rattle.sheet_csv.specs.Row.{doubled, field_text, is_special, row_text}

same_byte : (b : ℕ) → needs_byte default_writer b ≡ is_special b
same_byte b = grind (arith, nat_tests)

escape_cases : (b : ℕ) (t : Bool) (xs ys : List ℕ) → t ≡ eqb b 34 → xs ≡ ys → cond t (34 ∷ b ∷ xs) (b ∷ xs) ≡ cond t (34 ∷ 34 ∷ []) (b ∷ []) ++ ys
escape_cases b true xs ys e h = let quote : b ≡ 34 = grind (arith, nat_tests) in λ i. 34 ∷ quote i ∷ h i
escape_cases b false xs ys e h = λ i. b ∷ h i

same_escape : (field : List ℕ) → escaped default_writer field ≡ doubled field
unfolding escaped
same_escape [] = refl
same_escape (b ∷ rest) = escape_cases b (eqb b 34) (escaped default_writer rest) (doubled rest) refl (same_escape rest)

same_field : (field : List ℕ) → csv.field_text default_writer field ≡ field_text field
same_field field = λ i. cond (list_any (λ b. same_byte b i) field) (34 ∷ (same_escape field i ++ 34 ∷ [])) field

same_body : (field : List ℕ) (rest : List (List ℕ)) → csv.row_body default_writer (field ∷ rest) ≡ join_with_byte 44 (map field_text (field ∷ rest))
unfolding csv.fields_text
same_body field [] = append-nil (csv.field_text default_writer field) ∙ same_field field
same_body field (next ∷ more) = λ i. same_field field i ++ (44 ∷ same_body next more i)

shown : (b : ℕ) (rest : List ℕ) (t : Bool) (quoted : List ℕ) → eqb (length (cond t (34 ∷ quoted) (b ∷ rest))) 0 ≡ false
shown b rest true quoted = grind (arith, nat_tests)
shown b rest false quoted = grind (arith, nat_tests)

-- the writer's row of one field or more
pub same_row : (fields : List (List ℕ)) → 0 < length fields → csv.row_text default_writer fields ≡ row_text fields
unfolding is_blank csv.fields_text
same_row [] h = absurd (omega arith)
same_row ([] ∷ []) h = refl
same_row ((b ∷ bs) ∷ []) h =
    let full = shown b bs (needs_quotes default_writer (b ∷ bs)) (escaped default_writer (b ∷ bs) ++ 34 ∷ []) in
    λ i. same_body (b ∷ bs) [] i ++ (cond (full i) (34 ∷ 34 ∷ []) [] ++ 10 ∷ [])
same_row ([] ∷ next ∷ more) h = ap (λ body. body ++ 10 ∷ []) (same_body [] (next ∷ more))
same_row ((b ∷ bs) ∷ next ∷ more) h = ap (λ body. body ++ 10 ∷ []) (same_body (b ∷ bs) (next ∷ more))

-- a result whose error was turned into another
pub turned : {T E F : Type 0} (r : Result T E) (s : Result T F) (Q : E → Type 0) (P R : T → Type 0) → MatchResult r (λ x. s ≡ Ok x) Q → is_ok s ≡ is_ok r → IfOk r P → ((x : T) → P x → R x) → IfOk s R
turned (Ok x) s Q P R same variant h f = subst (λ z. IfOk z R) (sym same) (f x h)
turned (Err e) (Ok x) Q P R same variant h f = cc
turned (Err e) (Err d) Q P R same variant h f = tt
