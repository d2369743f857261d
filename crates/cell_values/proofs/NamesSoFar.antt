-- The names of the first files, while no name is bad.
use Rattle.std.proofs.Common.{◌≡◌, ℕ, ◌+◌, ◌<◌, ◌≤◌, true, is_none, List, [], ◌∷◌, ◌++◌, length, take, drop, get_or, refl, ap, sym, ◌∙◌, arith, Option, Some, None}
use Rattle.std.proofs.lemmas.Bool.{and_parts, cond-true, cond-false}
use Rattle.std.proofs.lemmas.List.{at_drop_more, at_drop_all, take_more, take_all}
use Rattle.std.proofs.lemmas.List.Elements.{All-push}
use Rattle.std.specs.List.{AllPass}
use Rattle.cell_values.specs.declared.names.NameFault.{NameFault}
use Rattle.cell_values.specs.Interned.{number_of, AreDistinct}
use Rattle.cell_values.specs.Names.{is_good_name, is_new_name, first_bad, bad_name, IsRefusalOf, IsFaultOf, AreSheetNames}
use Rattle.cell_values.proofs.Numbering.{none_distinct, more_distinct}

pub record NamesSoFar (all names : List (List ℕ)) (i : ℕ) : Type 0 where
  pub same : names ≡ take i all
  pub rest : first_bad names (drop i all) ≡ bad_name all
  pub good : AllPass is_good_name names
  pub distinct : AreDistinct names

pub names_start : (all : List (List ℕ)) → NamesSoFar all [] 0
names_start all = record { same = refl; rest = refl; good = λ k d h. absurd (omega arith); distinct = none_distinct }

none_since : (r : Option ℕ) → is_none r ≡ true → r ≡ None
none_since None h = refl
none_since (Some n) h = cc

is_new_parts : (earlier : List (List ℕ)) (name : List ℕ) → is_new_name earlier name ≡ true → (is_good_name name ≡ true) × (is_none (number_of earlier name) ≡ true)
unfolding is_new_name
is_new_parts earlier name new = and_parts (is_good_name name) (is_none (number_of earlier name)) new

pub names_more : (all names : List (List ℕ)) (i : ℕ) (name : List ℕ) → NamesSoFar all names i → i < length all → name ≡ get_or all i [] → is_new_name names name ≡ true → NamesSoFar all (names ++ name ∷ []) (i + 1)
names_more all names i name s l e new =
    let parts = is_new_parts names name new in
    record {
      same = ap (λ (ns : List (List ℕ)). ns ++ name ∷ []) s.same ∙ ap (λ (n : List ℕ). take i all ++ n ∷ []) e ∙ sym (take_more all i [] l);
      rest = sym (cond-true (is_new_name names name) _ _ new) ∙ ap (λ (n : List ℕ). first_bad names (n ∷ drop (i + 1) all)) e
          ∙ sym (at_drop_more (first_bad names) all i [] l) ∙ s.rest;
      good = All-push (λ (n : List ℕ). is_good_name n ≡ true) names name s.good parts.0;
      distinct = more_distinct names name s.distinct (none_since (number_of names name) parts.1);
    }

pub names_refused : (all names : List (List ℕ)) (i : ℕ) (name : List ℕ) → NamesSoFar all names i → i < length all → name ≡ get_or all i [] → (fault : NameFault) → IsRefusalOf names name fault → IsFaultOf all fault
names_refused all names i name s l e NameFault.OutOfMemory h = h
names_refused all names i name s l e (NameFault.Bad k) h =
    let step = at_drop_more (first_bad names) all i [] l in
    sym s.rest ∙ step ∙ ap (λ n. first_bad names (n ∷ drop (i + 1) all)) (sym e) ∙ cond-false (is_new_name names name) _ _ h.1 ∙ ap Some (sym h.0)

pub names_are : (all names : List (List ℕ)) (i : ℕ) → NamesSoFar all names i → length all ≤ i → names ≡ all
names_are all names i s l = s.same ∙ take_all i all l

pub none_is_bad : (all names : List (List ℕ)) (i : ℕ) → NamesSoFar all names i → length all ≤ i → bad_name all ≡ None
none_is_bad all names i s l = sym s.rest ∙ at_drop_all (first_bad names) all i l

pub sheet_names_are : (all names : List (List ℕ)) (i : ℕ) → NamesSoFar all names i → length all ≤ i → 1 ≤ length all → length all ≤ 16 → AreSheetNames names
sheet_names_are all names i s l some few =
    let len = ap length (names_are all names i s l) in
    record { some = omega arith; few = omega arith; good = s.good; distinct = s.distinct }
