-- The texts of what a formula means are among those that hold its literals.
use Rattle.std.proofs.Common.{◌≡◌, ℕ, zero, suc, ◌<◌, Bool, true, false, cond, List, [], ◌∷◌, length, map, drop, unwrap_or, Option, Some, None, refl}
use Rattle.std.specs.Prelude.{IsSome}
use Rattle.std.specs.List.{AllByRecursion}
use Rattle.cell_values.specs.declared.address.Addr.{Addr}
use Rattle.cell_values.specs.Interned.{number_of}
use Rattle.cell_values.specs.Texts.{Texts}
use Rattle.cell_values.proofs.Numbering.{number_is_there}
use Rattle.formula_trees.specs.Expr.{Expr}
use Rattle.formula_trees.specs.TextNumbers.{TextsBelow}
use Rattle.formula_tokens.specs.Lexemes.{Cut, Other, Placed, Quoted, first_lexeme, is_bad, is_blank, is_prefix, lexemes, lexemes_at}
use Rattle.formula_tokens.specs.Tokens.{HoldsLiteral, HoldsLiterals, TextIsOf, TextsAreOf, spot_of, spots_of}
use Rattle.formula_tokens.proofs.Plain.{IsPlain, plain_first}
use Rattle.formula_grammar.specs.Fault.{tokens_of}
use Rattle.formula_grammar.specs.Reading.{Means}
use Rattle.formula_grammar.proofs.Known.{tokens_known, tree_known}

abbrev ArePlain : Texts → List Placed → Type 0
ArePlain ts ps = AllByRecursion (λ p. IsPlain ts p.1) ps

all_plain : (ts : Texts) (names : List (List ℕ)) (place inside : ℕ) (prefixed : Bool) (text : List ℕ) → ArePlain ts (lexemes_at names place inside prefixed text)
all_plain ts names place inside prefixed [] = tt
all_plain ts names place (suc inside) prefixed (b ∷ rest) = all_plain ts names (suc place) inside prefixed rest
all_plain ts names place zero prefixed (b ∷ rest) =
    blank (is_blank b) _ _ (all_plain ts names (suc place) 0 false rest)
    (begun (first_lexeme names prefixed (b ∷ rest)) (plain_first ts names prefixed (b ∷ rest)) (λ c. all_plain ts names (suc place) c.more (is_prefix c.lexeme) rest))
  where
    ended : (c : Cut) (bad : Bool) → ArePlain ts (lexemes_at names (suc place) c.more (is_prefix c.lexeme) rest) →
        ArePlain ts (cond bad [] (lexemes_at names (suc place) c.more (is_prefix c.lexeme) rest))
    ended c true h = tt
    ended c false h = h

    begun : (c : Cut) → IsPlain ts c.lexeme → ((d : Cut) → ArePlain ts (lexemes_at names (suc place) d.more (is_prefix d.lexeme) rest)) →
        ArePlain ts ((place, c.lexeme) ∷ (cond (is_bad c.lexeme) [] (lexemes_at names (suc place) c.more (is_prefix c.lexeme) rest)))
    begun c h others = (h, ended c (is_bad c.lexeme) (others c))

    blank : (b : Bool) (xs ys : List Placed) → ArePlain ts xs → ArePlain ts ys → ArePlain ts (cond b xs ys)
    blank true xs ys h k = h
    blank false xs ys h k = k

numbered : (ts : Texts) (q : List ℕ) (o : Option ℕ) → number_of ts q ≡ o → IsSome o → unwrap_or o 0 < length ts
numbered ts q (Some n) e h = number_is_there ts q n e
numbered ts q None e h = cc

spot_there : (ts : Texts) (p : Placed) → IsPlain ts p.1 → HoldsLiteral ts p.1 → TextIsOf ts (spot_of ts p).token
spot_there ts (place, Quoted q) h k = numbered ts q (number_of ts q) refl k
spot_there ts (place, Other t) h k = h

spots_there : (ts : Texts) (ps : List Placed) → ArePlain ts ps → AllByRecursion (λ p. HoldsLiteral ts p.1) ps → TextsAreOf ts (map (spot_of ts) ps)
spots_there ts [] h k = tt
spots_there ts (p ∷ ps) h k = (spot_there ts p h.0 k.0, spots_there ts ps h.1 k.1)

texts_are_there : (names : List (List ℕ)) (ts : Texts) (text : List ℕ) → HoldsLiterals names ts text → TextsAreOf ts (spots_of names ts text)
unfolding lexemes HoldsLiterals spots_of
texts_are_there names ts text h = spots_there ts (lexemes_at names 1 0 false (drop 1 text)) (all_plain ts names 1 0 false (drop 1 text)) h

pub meant_texts : (names : List (List ℕ)) (ts : Texts) (at : Addr) (text : List ℕ) (e : Expr) → Means names ts at text e → TextsBelow (λ i. i < length ts) e
meant_texts names ts at text e m = (tree_known (length ts) (length names) at (tokens_of (spots_of names ts text)) e m.reads (tokens_known names ts text (texts_are_there names ts text m.literals))).0
