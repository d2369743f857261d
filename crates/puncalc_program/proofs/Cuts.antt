-- The lines of a script, one after the other.
use Rattle.std.proofs.Common.{◌≡◌, ℕ, zero, suc, ◌+◌, ◌-◌, ◌<◌, ◌≤◌, Bool, true, false, not, eqb, ltb, List, [], ◌∷◌, length, take, drop, arith, refl, sym, ap, ◌∙◌}
use Rattle.std.specs.List.{slice_split, position_or_len, before_first, after_first, count_by, All}
use Rattle.std.proofs.lemmas.Bool.{ltb-true, ltb-false}
use Rattle.std.proofs.lemmas.List.Splits.{length-slice_split, slice_split_first, slice_split_none}
use Rattle.std.proofs.lemmas.List.{length-drop, drop-drop, drop-take}
use Rattle.std.proofs.lemmas.List.Sums.{fails_before_first, prefix_len-le-length}
use Rattle.puncalc_program.specs.Script.{without_empty_end, lines_of}

abbrev is_end : ℕ → Bool
is_end c = eqb c 10

take_all : (xs : List ℕ) (n : ℕ) → length xs ≤ n → take n xs ≡ xs
take_all [] zero h = refl
take_all [] (suc n) h = refl
take_all (x ∷ xs) zero h = absurd (omega arith)
take_all (x ∷ xs) (suc n) h = ap (λ r. x ∷ r) (take_all xs n (omega arith))

pub drop_all : (xs : List ℕ) (n : ℕ) → length xs ≤ n → drop n xs ≡ []
drop_all [] zero h = refl
drop_all [] (suc n) h = refl
drop_all (x ∷ xs) zero h = absurd (omega arith)
drop_all (x ∷ xs) (suc n) h = drop_all xs n (omega arith)

-- a piece stands before those of a text
before_others : (piece : List ℕ) (text : List ℕ) → without_empty_end (piece ∷ slice_split is_end text) ≡ piece ∷ without_empty_end (slice_split is_end text)
before_others piece text = go (slice_split is_end text) (length-slice_split is_end text)
  where
    go : (ps : List (List ℕ)) → length ps ≡ count_by is_end text + 1 → without_empty_end (piece ∷ ps) ≡ piece ∷ without_empty_end ps
    go [] e = absurd (omega arith)
    go (p ∷ ps) e = refl

some_piece : (text : List ℕ) → 0 < length text → without_empty_end (text ∷ []) ≡ text ∷ []
some_piece [] h = absurd (omega arith)
some_piece (c ∷ rest) h = refl

none_piece : lines_of [] ≡ []
unfolding lines_of
none_piece = refl

first_cut : (text : List ℕ) → 0 < length text → lines_of text ≡ before_first is_end text ∷ lines_of (after_first is_end text)
unfolding lines_of
first_cut text some = go (ltb (position_or_len is_end text) (length text)) refl
  where
    go : (b : Bool) → ltb (position_or_len is_end text) (length text) ≡ b → lines_of text ≡ before_first is_end text ∷ lines_of (after_first is_end text)
    go true e = ap without_empty_end (slice_split_first is_end text 0 (ltb-true _ _ e)) ∙ before_others (before_first is_end text) (after_first is_end text)
    go false e =
        let far : length text ≤ position_or_len is_end text = ltb-false _ _ e in
        let fails : All (λ c. is_end c ≡ false) text = λ k d low. fails_before_first is_end text k d (omega (arith, low, far)) in
        ap without_empty_end (slice_split_none is_end text fails) ∙ some_piece text some
        ∙ (λ i. sym (take_all text (position_or_len is_end text) far) i ∷ lines_of (sym (drop_all text (position_or_len is_end text + 1) (omega arith)) i))

-- the lines from a place on: the one that begins there, and those behind it
pub next_line : (script : List ℕ) (start : ℕ) → start < length script → lines_of (drop start script) ≡ before_first is_end (drop start script) ∷ lines_of (drop (start + position_or_len is_end (drop start script) + 1) script)
next_line script start low =
    let n = position_or_len is_end (drop start script) in
    let p : start + (n + 1) ≡ start + n + 1 = omega arith in
    let some : 0 < length (drop start script) = omega (arith, length-drop start script) in
    first_cut (drop start script) some
    ∙ ap (λ rest. before_first is_end (drop start script) ∷ lines_of rest) (drop-drop (n + 1) start script ∙ ap (λ m. drop m script) p)

-- and none from its end on
pub no_line : (script : List ℕ) (start : ℕ) → length script ≤ start → lines_of (drop start script) ≡ []
no_line script start h = ap lines_of (drop_all script start h) ∙ none_piece

-- the line that begins at a place ends within the script
pub line_within : (script : List ℕ) (start : ℕ) → start < length script → start + position_or_len is_end (drop start script) ≤ length script
line_within script start low =
    let most = prefix_len-le-length (λ c. not (is_end c)) (drop start script) in
    let left = length-drop start script in
    omega (arith, most, left, low)

-- and is what stands between the two places
pub line_taken : (script : List ℕ) (start n : ℕ) → take n (drop start script) ≡ drop start (take (start + n) script)
line_taken script start n = sym (drop-take start n script)

-- a slice from a place on
pub slice_from : (script : List ℕ) (start : ℕ) → take (length script - start) (drop start script) ≡ drop start script
slice_from script start = take_all (drop start script) (length script - start) (let l = length-drop start script in omega (arith, l))
