-- The lexemes of a text, without their places.
use Rattle.std.proofs.Common.{◌≡◌, ℕ, zero, suc, ◌-◌, Bool, true, false, cond, List, [], ◌∷◌, ◌++◌, length, map, drop, refl, ap, subst, ◌∙◌, arith}
use Rattle.std.specs.List.{AllByRecursion}
use Rattle.std.proofs.lemmas.Bool.{cond-true, cond-false}
use Rattle.std.proofs.lemmas.List.{drop_at}
use Rattle.cell_values.specs.Texts.{Texts}
use Rattle.formula_tokens.specs.declared.token.Spot.{Spot}
use Rattle.formula_tokens.specs.Lexemes.{Lexeme, Cut, Placed, cut, is_blank, is_bad, is_prefix, first_lexeme, lexemes_at, lexemes}
use Rattle.formula_tokens.specs.Tokens.{token_of, spot_of, spots_of, HoldsLiteral, HoldsLiterals}

-- the lexemes, where the first bytes belong to the one before, and that one is a sheet prefix or not
abbrev pub lexemes_in : List (List ℕ) → ℕ → Bool → List ℕ → List Lexeme
lexemes_in names inside prefixed [] = []
lexemes_in names (suc inside) prefixed (b ∷ rest) = lexemes_in names inside prefixed rest
lexemes_in names zero prefixed (b ∷ rest) = cond (is_blank b) (lexemes_in names 0 false rest)
    ((first_lexeme names prefixed (b ∷ rest)).lexeme ∷ cond (is_bad (first_lexeme names prefixed (b ∷ rest)).lexeme) []
    (lexemes_in names (first_lexeme names prefixed (b ∷ rest)).more (is_prefix (first_lexeme names prefixed (b ∷ rest)).lexeme) rest))

abbrev bare : List Placed → List Lexeme
bare ps = map (λ p. p.1) ps

bare_if : (b : Bool) (ps qs : List Placed) → bare (cond b ps qs) ≡ cond b (bare ps) (bare qs)
bare_if true ps qs = refl
bare_if false ps qs = refl

same_lexemes : (names : List (List ℕ)) (place inside : ℕ) (prefixed : Bool) (text : List ℕ) → bare (lexemes_at names place inside prefixed text) ≡ lexemes_in names inside prefixed text
same_lexemes names place inside prefixed [] = refl
same_lexemes names place (suc inside) prefixed (b ∷ rest) = same_lexemes names (suc place) inside prefixed rest
same_lexemes names place zero prefixed (b ∷ rest) =
    let c : Cut = first_lexeme names prefixed (b ∷ rest) in
    let blank : bare (lexemes_at names (suc place) 0 false rest) ≡ lexemes_in names 0 false rest = same_lexemes names (suc place) 0 false rest in
    let more : bare (lexemes_at names (suc place) c.more (is_prefix c.lexeme) rest) ≡ lexemes_in names c.more (is_prefix c.lexeme) rest = same_lexemes names (suc place) c.more (is_prefix c.lexeme) rest in
    bare_if (is_blank b) (lexemes_at names (suc place) 0 false rest) ((place, c.lexeme) ∷ cond (is_bad c.lexeme) [] (lexemes_at names (suc place) c.more (is_prefix c.lexeme) rest))
    ∙ ap (λ us. cond (is_blank b) us (c.lexeme ∷ bare (cond (is_bad c.lexeme) [] (lexemes_at names (suc place) c.more (is_prefix c.lexeme) rest)))) blank
    ∙ ap (λ us. cond (is_blank b) (lexemes_in names 0 false rest) (c.lexeme ∷ us)) (bare_if (is_bad c.lexeme) [] (lexemes_at names (suc place) c.more (is_prefix c.lexeme) rest))
    ∙ ap (λ us. cond (is_blank b) (lexemes_in names 0 false rest) (c.lexeme ∷ cond (is_bad c.lexeme) [] us)) more

pub whole_lexemes : (names : List (List ℕ)) (text : List ℕ) → map (λ p. p.1) (lexemes names text) ≡ lexemes_in names 0 false (drop 1 text)
unfolding lexemes
whole_lexemes names text = same_lexemes names 1 0 false (drop 1 text)

tokens_bare : (ts : Texts) (ps : List Placed) → map (λ (s : Spot). s.token) (map (spot_of ts) ps) ≡ map (token_of ts) (bare ps)
tokens_bare ts [] = refl
tokens_bare ts (p ∷ ps) = ap (λ us. token_of ts p.1 ∷ us) (tokens_bare ts ps)

-- the tokens of a formula, from its lexemes
pub whole_tokens : (names : List (List ℕ)) (ts : Texts) (text : List ℕ) → map (λ (s : Spot). s.token) (spots_of names ts text) ≡ map (token_of ts) (lexemes_in names 0 false (drop 1 text))
unfolding spots_of
whole_tokens names ts text = tokens_bare ts (lexemes names text) ∙ ap (map (token_of ts)) (whole_lexemes names text)

held_bare : (ts : Texts) (ps : List Placed) (ls : List Lexeme) → bare ps ≡ ls → AllByRecursion (HoldsLiteral ts) ls → AllByRecursion (λ p. HoldsLiteral ts p.1) ps
held_bare ts [] ls e h = tt
held_bare ts (p ∷ ps) [] e h = cc
held_bare ts (p ∷ ps) (l ∷ ls) e h =
    let first : l ≡ p.1 = cc in
    let rest : bare ps ≡ ls = cc in
    (subst (HoldsLiteral ts) first h.0, held_bare ts ps ls rest h.1)

-- texts that hold its lexemes hold a formula's literals
pub whole_held : (names : List (List ℕ)) (ts : Texts) (text : List ℕ) → AllByRecursion (HoldsLiteral ts) (lexemes_in names 0 false (drop 1 text)) → HoldsLiterals names ts text
unfolding HoldsLiterals
whole_held names ts text h = held_bare ts (lexemes names text) (lexemes_in names 0 false (drop 1 text)) (whole_lexemes names text) h

skip : (names : List (List ℕ)) (inside : ℕ) (prefixed : Bool) (text : List ℕ) → lexemes_in names inside prefixed text ≡ lexemes_in names 0 prefixed (drop inside text)
skip names zero prefixed text = refl
skip names (suc inside) prefixed [] = refl
skip names (suc inside) prefixed (b ∷ rest) = skip names inside prefixed rest

-- a blank
pub one_blank : (names : List (List ℕ)) (prefixed : Bool) (b : ℕ) (rest : List ℕ) → is_blank b ≡ true → lexemes_in names 0 prefixed (b ∷ rest) ≡ lexemes_in names 0 false rest
one_blank names prefixed b rest h = cond-true (is_blank b) _ _ h

-- a lexeme that a text begins with, and what follows
pub one_lexeme : (names : List (List ℕ)) (prefixed : Bool) (b : ℕ) (front rest : List ℕ) (l : Lexeme) → is_blank b ≡ false → first_lexeme names prefixed (b ∷ (front ++ rest)) ≡ cut (length (b ∷ front)) l → is_bad l ≡ false
    → lexemes_in names 0 prefixed (b ∷ (front ++ rest)) ≡ l ∷ lexemes_in names 0 (is_prefix l) rest
one_lexeme names prefixed b front rest l solid first good =
    let tail = λ (c : Cut). c.lexeme ∷ cond (is_bad c.lexeme) [] (lexemes_in names c.more (is_prefix c.lexeme) (front ++ rest)) in
    cond-false (is_blank b) _ _ solid ∙ ap tail first
    ∙ ap (λ us. l ∷ us) (cond-false (is_bad l) _ _ good ∙ ap (λ n. lexemes_in names n (is_prefix l) (front ++ rest)) size
    ∙ skip names (length front) (is_prefix l) (front ++ rest) ∙ ap (lexemes_in names 0 (is_prefix l)) (drop_at front rest (length front) refl))
  where
    size : length (b ∷ front) - 1 ≡ length front
    size = omega arith
