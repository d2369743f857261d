-- What std's trims and cuts leave of a text.
use Rattle.std.proofs.Common.{◌≡◌, ◌≢◌, ℕ, ◌-◌, ◌<◌, Bool, true, false, cond, ◌&&◌, ◌==◌, List, [], ◌∷◌, ◌++◌, length, take, drop, refl, sym, ap, ◌∙◌, arith, Some, None}
use Rattle.std.proofs.lemmas.Bool.{eqb-true, ne_eqb, cond-false, and_parts}
use Rattle.std.proofs.lemmas.List.{take-append-drop}
use Rattle.std.proofs.lemmas.Str.Pattern.{drop_at_char, strip_prefix_char, strip_suffix_char}
use Rattle.std.specs.List.{list_all}
use Rattle.std.specs.Str.Pattern.{CutsPrefixes, CutsSuffixes, FindsCharPrefix, FindsCharSuffix, IsFullyTrimmed, IsTrimEndMatches, IsTrimStartMatches, StripsSuffix}
use Rattle.edit_script.specs.Pieces.{is_space, without_cr, behind_spaces, trimmed}

-- spaces in front

no_space : (text : List ℕ) → ((rest : List ℕ) → text ≢ 32 ∷ rest) → behind_spaces text ≡ text
no_space [] none = refl
no_space (c ∷ rest) none = cond-false (is_space c) (behind_spaces rest) (c ∷ rest) (ne_eqb c 32 (λ e. none rest (ap (λ z. z ∷ rest) e)))

first_stays : (text : List ℕ) → IsFullyTrimmed (FindsCharPrefix 32) text → behind_spaces text ≡ text
first_stays text (None, none, t) = no_space text (strip_prefix_char 32 text None none (omega arith))
first_stays text (Some n, has, t) =
    let e : drop 0 text ≡ 32 ∷ drop n text = drop_at_char 32 text 0 n has (omega arith) in
    let f : text ≡ 32 ∷ text = e ∙ ap (λ k. 32 ∷ drop k text) t in
    absurd (omega (arith, ap length f))

front_cut : (text : List ℕ) (ns : List ℕ) (rest : List ℕ) → CutsPrefixes (FindsCharPrefix 32) text ns rest → behind_spaces rest ≡ behind_spaces text
front_cut text [] rest e = ap behind_spaces e
front_cut text (n ∷ ns) rest (m, c, has, e) = ap behind_spaces e ∙ sym (ap behind_spaces (drop_at_char 32 m 0 n has (omega arith))) ∙ front_cut text ns m c

pub spaces_cut : (text rest : List ℕ) → IsTrimStartMatches (FindsCharPrefix 32) text rest → rest ≡ behind_spaces text
spaces_cut text rest h = sym (first_stays rest h.1) ∙ front_cut text h.0.0 rest h.0.1

-- spaces at the end

all_space : (text : List ℕ) → list_all is_space (text ++ 32 ∷ []) ≡ list_all is_space text
all_space [] = refl
all_space (c ∷ rest) = ap (λ t. is_space c && t) (all_space rest)

space_goes : (text : List ℕ) → trimmed (text ++ 32 ∷ []) ≡ trimmed text
space_goes [] = refl
space_goes (c ∷ rest) = λ i. cond (all_space (c ∷ rest) i) [] (c ∷ space_goes rest i)

ends_in_space : (c : ℕ) (rest : List ℕ) → list_all is_space (c ∷ rest) ≡ true → (front : List ℕ) × (c ∷ rest ≡ front ++ 32 ∷ [])
ends_in_space c [] h = ([], ap (λ z. z ∷ []) (eqb-true c 32 (and_parts (is_space c) true h).0))
ends_in_space c (d ∷ rest) h = (let p = ends_in_space d rest (and_parts (is_space c) (list_all is_space (d ∷ rest)) h).1 in (c ∷ p.0, ap (λ z. c ∷ z) p.1))

no_end_space : (text : List ℕ) → ((front : List ℕ) → text ≢ front ++ 32 ∷ []) → trimmed text ≡ text
no_end_space [] none = refl
no_end_space (c ∷ rest) none = go (list_all is_space (c ∷ rest)) refl (no_end_space rest (λ front f. none (c ∷ front) (ap (λ z. c ∷ z) f)))
  where
    go : (b : Bool) → list_all is_space (c ∷ rest) ≡ b → trimmed rest ≡ rest → cond b [] (c ∷ trimmed rest) ≡ c ∷ rest
    go true e later = (let p = ends_in_space c rest e in absurd (none p.0 p.1))
    go false e later = ap (λ z. c ∷ z) later

nothing_left : {X : Type 0} → (xs : List X) → drop (length xs) xs ≡ []
nothing_left [] = refl
nothing_left (x ∷ xs) = nothing_left xs

last_char : (c : ℕ) (text : List ℕ) (n : ℕ) → c < 128 → FindsCharSuffix c text (Some n) → text ≡ take (length text - n) text ++ c ∷ []
last_char c text n low has = sym (take-append-drop (length text - n) text) ∙ ap (λ z. take (length text - n) text ++ z) (drop_at_char c text (length text - n) (length text) has.1 low ∙ ap (λ z. c ∷ z) (nothing_left text))

end_cut : (text : List ℕ) (ns : List ℕ) (rest : List ℕ) → CutsSuffixes (FindsCharSuffix 32) text ns rest → trimmed rest ≡ trimmed text
end_cut text [] rest e = ap trimmed e
end_cut text (n ∷ ns) rest (m, c, has, e) = ap trimmed e ∙ sym (space_goes (take (length m - n) m)) ∙ sym (ap trimmed (last_char 32 m n (omega arith) has)) ∙ end_cut text ns m c

last_stays : (text : List ℕ) → IsFullyTrimmed (FindsCharSuffix 32) text → trimmed text ≡ text
last_stays text (None, none, t) = no_end_space text (strip_suffix_char 32 text None none (omega arith))
last_stays text (Some n, has, t) = (let width : n ≡ 1 = has.0 in absurd (omega (arith, width, t)))

pub end_spaces_cut : (text rest : List ℕ) → IsTrimEndMatches (FindsCharSuffix 32) text rest → rest ≡ trimmed text
end_spaces_cut text rest h = sym (last_stays rest h.1) ∙ end_cut text h.0.0 rest h.0.1

-- the CR at the end

cr_goes : (text : List ℕ) → without_cr (text ++ 13 ∷ []) ≡ text
cr_goes [] = refl
cr_goes (c ∷ []) = refl
cr_goes (c ∷ d ∷ rest) = ap (λ z. c ∷ z) (cr_goes (d ∷ rest))

cr_lacks : (text : List ℕ) → ((front : List ℕ) → text ≢ front ++ 13 ∷ []) → without_cr text ≡ text
cr_lacks [] none = refl
cr_lacks (c ∷ []) none = cond-false (c == 13) [] (c ∷ []) (ne_eqb c 13 (λ e. none [] (ap (λ z. z ∷ []) e)))
cr_lacks (c ∷ d ∷ rest) none = ap (λ z. c ∷ z) (cr_lacks (d ∷ rest) (λ front f. none (c ∷ front) (ap (λ z. c ∷ z) f)))

pub cr_cut : (line front : List ℕ) → StripsSuffix (FindsCharSuffix 13) line front → front ≡ without_cr line
cr_cut line front (n, has, e, l) = sym (cr_goes front) ∙ ap (λ z. without_cr (z ++ 13 ∷ [])) e ∙ sym (ap without_cr (last_char 13 line n (omega arith) has))

pub no_cr : (line : List ℕ) → FindsCharSuffix 13 line None → line ≡ without_cr line
no_cr line none = sym (cr_lacks line (strip_suffix_char 13 line None none (omega arith)))
