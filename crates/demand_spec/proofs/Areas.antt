-- Folds and searches over the rows of an area.
use Rattle.std.proofs.Common.{◌≡◌, ℕ, suc, ◌+◌, ◌-◌, ◌<◌, ◌≤◌, Bool, true, false, cond, Option, Some, None, Result, Ok, Err, List, [], ◌∷◌, ◌++◌, length, flat_map, refl, ap, ◌∙◌, arith}
use Rattle.std.proofs.lemmas.List.{length-map}
use Rattle.cell_values.specs.declared.address.Addr.{Addr}
use Rattle.cell_values.specs.declared.address.Area.{Area}
use Rattle.cell_values.specs.declared.values.Code.{Code}
use Rattle.cell_values.specs.declared.values.Value.{Value}
use Rattle.cell_values.specs.Areas.{width, cell_of, numbers_from, row_of}
use Rattle.cell_values.specs.Texts.{Texts}
use Rattle.builtin_functions.specs.declared.folds.FoldKind.{FoldKind}
use Rattle.builtin_functions.specs.Folds.{Total, taken}
use Rattle.demand_spec.specs.declared.Asked.{Asked}
use Rattle.demand_spec.specs.declared.Asked.TheVariants.{Val, Needs}
use Rattle.demand_spec.specs.Formula.{is_found}
use Rattle.demand_spec.specs.Asks.{and_on, any_value, or_fails, fold_looks, search_looks}
use Rattle.demand_spec.proofs.Walks.{numbers_more, numbers_all}
use Rattle.cell_values.proofs.Walking.{length-numbers_from}

-- a fold over one list and then another
fold_looks-append : (l : Addr → Asked) (k : FoldKind) (ys xs : List Addr) (t : Total) → fold_looks l k t (xs ++ ys) ≡ and_on (fold_looks l k t xs) (λ u. fold_looks l k u ys)
fold_looks-append l k ys [] t = refl
fold_looks-append l k ys (x ∷ xs) t = by_look (fold_looks-append l k ys xs) (l x)
  where
    by_taken : ((u : Total) → fold_looks l k u (xs ++ ys) ≡ and_on (fold_looks l k u xs) (λ u. fold_looks l k u ys)) → (r : Result Total Code) → and_on (or_fails r) (λ u. fold_looks l k u (xs ++ ys)) ≡ and_on (and_on (or_fails r) (λ u. fold_looks l k u xs)) (λ u. fold_looks l k u ys)
    by_taken h (Ok u) = h u
    by_taken h (Err e) = refl

    by_look : ((u : Total) → fold_looks l k u (xs ++ ys) ≡ and_on (fold_looks l k u xs) (λ u. fold_looks l k u ys)) → (r : Asked) → and_on (any_value r) (λ v. and_on (or_fails (taken k t true v)) (λ u. fold_looks l k u (xs ++ ys))) ≡ and_on (and_on (any_value r) (λ v. and_on (or_fails (taken k t true v)) (λ u. fold_looks l k u xs))) (λ u. fold_looks l k u ys)
    by_look h (Val v) = by_taken h (taken k t true v)
    by_look h (Needs y) = refl

-- one row more of an area
pub area_more : (l : Addr → Asked) (k : FoldKind) (t : Total) (r : Area) (i m : ℕ) → i < m → fold_looks l k t (flat_map (row_of r) (numbers_from i (m - i))) ≡ and_on (fold_looks l k t (row_of r i)) (λ u. fold_looks l k u (flat_map (row_of r) (numbers_from (i + 1) (m - (i + 1)))))
area_more l k t r i m h = ap (λ z. fold_looks l k t (flat_map (row_of r) z)) (numbers_more i m h) ∙ fold_looks-append l k (flat_map (row_of r) (numbers_from (i + 1) (m - (i + 1)))) (row_of r i) t

pub area_all : (l : Addr → Asked) (k : FoldKind) (t : Total) (r : Area) (i m : ℕ) → m ≤ i → fold_looks l k t (flat_map (row_of r) (numbers_from i (m - i))) ≡ Ok t
area_all l k t r i m h = ap (λ z. fold_looks l k t (flat_map (row_of r) z)) (numbers_all i m h)

-- a search over one list and then another
abbrev pub found_first : Result (Option ℕ) Asked → Result (Option ℕ) Asked → Result (Option ℕ) Asked
found_first (Ok None) other = other
found_first (Ok (Some n)) other = Ok (Some n)
found_first (Err e) other = Err e

search_looks-append : (l : Addr → Asked) (ts : Texts) (key : Value) (ys xs : List Addr) (n : ℕ) → search_looks l ts key n (xs ++ ys) ≡ found_first (search_looks l ts key n xs) (search_looks l ts key (n + length xs) ys)
search_looks-append l ts key ys [] n = (let same : n ≡ n + 0 = omega arith in ap (λ z. search_looks l ts key z ys) same)
search_looks-append l ts key ys (x ∷ xs) n =
    let same : suc n + length xs ≡ n + suc (length xs) = omega arith in
    by_look (search_looks-append l ts key ys xs (suc n) ∙ ap (λ z. found_first (search_looks l ts key (suc n) xs) (search_looks l ts key z ys)) same) (l x)
  where
    by_found : search_looks l ts key (suc n) (xs ++ ys) ≡ found_first (search_looks l ts key (suc n) xs) (search_looks l ts key (n + suc (length xs)) ys) → (q : Bool) → cond q (Ok (Some n)) (search_looks l ts key (suc n) (xs ++ ys)) ≡ found_first (cond q (Ok (Some n)) (search_looks l ts key (suc n) xs)) (search_looks l ts key (n + suc (length xs)) ys)
    by_found h true = refl
    by_found h false = h

    by_look : search_looks l ts key (suc n) (xs ++ ys) ≡ found_first (search_looks l ts key (suc n) xs) (search_looks l ts key (n + suc (length xs)) ys) → (r : Asked) → and_on (any_value r) (λ v. cond (is_found ts key v) (Ok (Some n)) (search_looks l ts key (suc n) (xs ++ ys))) ≡ found_first (and_on (any_value r) (λ v. cond (is_found ts key v) (Ok (Some n)) (search_looks l ts key (suc n) xs))) (search_looks l ts key (n + suc (length xs)) ys)
    by_look h (Val v) = by_found h (is_found ts key v)
    by_look h (Needs y) = refl

length-row : (r : Area) (i : ℕ) → length (row_of r i) ≡ width r
length-row r i = length-map (numbers_from 0 (width r)) (cell_of r i) ∙ length-numbers_from 0 (width r)

-- one row more of an area
pub search_more : (l : Addr → Asked) (ts : Texts) (key : Value) (n : ℕ) (r : Area) (i m : ℕ) → i < m → search_looks l ts key n (flat_map (row_of r) (numbers_from i (m - i))) ≡ found_first (search_looks l ts key n (row_of r i)) (search_looks l ts key (n + width r) (flat_map (row_of r) (numbers_from (i + 1) (m - (i + 1)))))
search_more l ts key n r i m h =
    ap (λ z. search_looks l ts key n (flat_map (row_of r) z)) (numbers_more i m h)
    ∙ search_looks-append l ts key (flat_map (row_of r) (numbers_from (i + 1) (m - (i + 1)))) (row_of r i) n
    ∙ ap (λ z. found_first (search_looks l ts key n (row_of r i)) (search_looks l ts key (n + z) (flat_map (row_of r) (numbers_from (i + 1) (m - (i + 1)))))) (length-row r i)

pub search_all : (l : Addr → Asked) (ts : Texts) (key : Value) (n : ℕ) (r : Area) (i m : ℕ) → m ≤ i → search_looks l ts key n (flat_map (row_of r) (numbers_from i (m - i))) ≡ Ok None
search_all l ts key n r i m h = ap (λ z. search_looks l ts key n (flat_map (row_of r) z)) (numbers_all i m h)
