-- The tokens of a text are no more than its bytes.
use Rattle.std.proofs.Common.{ℕ, zero, suc, ◌≤◌, Bool, true, false, cond, List, [], ◌∷◌, length, drop, arith}
use Rattle.std.proofs.lemmas.List.{length-drop, length-map}
use Rattle.cell_values.specs.Texts.{Texts}
use Rattle.formula_trees.specs.declared.TheConstants.{MAX_FORMULA_BYTES}
use Rattle.formula_tokens.specs.Lexemes.{Cut, Placed, is_blank, is_bad, is_prefix, first_lexeme, lexemes_at, lexemes}
use Rattle.formula_tokens.specs.Tokens.{spot_of, spots_of}

begun : (names : List (List ℕ)) (place : ℕ) (rest : List ℕ) (c : Cut) → length (lexemes_at names (suc place) c.more (is_prefix c.lexeme) rest) ≤ length rest →
    length ((place, c.lexeme) ∷ (cond (is_bad c.lexeme) [] (lexemes_at names (suc place) c.more (is_prefix c.lexeme) rest))) ≤ suc (length rest)
begun names place rest c h = go (is_bad c.lexeme)
  where
    go : (b : Bool) → length ((place, c.lexeme) ∷ (cond b [] (lexemes_at names (suc place) c.more (is_prefix c.lexeme) rest))) ≤ suc (length rest)
    go true = omega arith
    go false = omega arith

either : (count : ℕ) (b : Bool) (xs ys : List Placed) → length xs ≤ count → length ys ≤ count → length (cond b xs ys) ≤ count
either count true xs ys h k = h
either count false xs ys h k = k

lexemes_few : (names : List (List ℕ)) (place inside : ℕ) (prefixed : Bool) (text : List ℕ) → length (lexemes_at names place inside prefixed text) ≤ length text
lexemes_few names place inside prefixed [] = omega arith
lexemes_few names place (suc inside) prefixed (b ∷ rest) = let h = lexemes_few names (suc place) inside prefixed rest in omega arith
lexemes_few names place zero prefixed (b ∷ rest) =
    let blank = lexemes_few names (suc place) 0 false rest in
    either (suc (length rest)) (is_blank b) _ _ (omega arith)
    (begun names place rest (first_lexeme names prefixed (b ∷ rest)) (lexemes_few names (suc place) (first_lexeme names prefixed (b ∷ rest)).more (is_prefix (first_lexeme names prefixed (b ∷ rest)).lexeme) rest))

pub spots_few : (names : List (List ℕ)) (ts : Texts) (text : List ℕ) → length text ≤ MAX_FORMULA_BYTES → length (spots_of names ts text) ≤ MAX_FORMULA_BYTES
unfolding spots_of lexemes
spots_few names ts text short =
    let few = lexemes_few names 1 0 false (drop 1 text) in
    omega (arith, few, length-drop 1 text, length-map (lexemes_at names 1 0 false (drop 1 text)) (spot_of ts))
