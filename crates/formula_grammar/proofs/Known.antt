-- The texts and sheets that a formula's tree names are those of its tokens, and these are there.
use Rattle.std.proofs.Common.{◌≡◌, ℕ, zero, suc, ◌<◌, Bool, true, false, cond, List, [], ◌∷◌, ◌++◌, length, map, drop, refl, sym, subst, Option, Some, None}
use Rattle.std.specs.Prelude.{◌==◌, nat_lt}
use Rattle.std.specs.Char.{is_ascii_digit}
use Rattle.std.specs.List.{AllByRecursion}
use Rattle.std.proofs.lemmas.Bool.{lt-ltb, ltb-true}
use Rattle.cell_values.specs.declared.address.Addr.{Addr}
use Rattle.cell_values.specs.Interned.{number_of}
use Rattle.cell_values.specs.Texts.{Texts}
use Rattle.cell_values.proofs.Numbering.{number_is_there}
use Rattle.formula_trees.specs.declared.tree.Fun.{Fun}
use Rattle.formula_trees.specs.Expr.{Expr, Exprs}
use Rattle.formula_trees.specs.SheetNumbers.{SheetBelow, SheetsBelow, AllSheetsBelow}
use Rattle.formula_trees.specs.TextNumbers.{TextsBelow, AllTextsBelow}
use Rattle.formula_tokens.specs.declared.token.Corner.{Corner}
use Rattle.formula_tokens.specs.declared.token.Literal.{Literal}
use Rattle.formula_tokens.specs.declared.token.Token.{Token}
use Rattle.formula_tokens.specs.Words.{begins_word, is_word_byte, leading, behind, truth_of}
use Rattle.formula_tokens.specs.Lexemes.{Lexeme, Quoted, Other, Cut, Placed, is_blank, is_bad, is_prefix, sign_of, sign_at, sign_cut, literal_from, literal_cut, other_word, plain_word, word_cut, quoted_prefix, first_lexeme, lexemes_at, lexemes}
use Rattle.formula_tokens.specs.Tokens.{TextIsOf, TextsAreOf, token_of, spot_of, spots_of}
use Rattle.formula_grammar.specs.Fault.{Reads, tokens_of}
use Rattle.formula_grammar.specs.Syntax.{Target, here, on_sheet, Expression, only_joins, compare, Joins, only_sum, join, Sums, only_term, add, Term, only_signed, multiply, Signed, plain, signed, Primary, literal, reference, group, call_none, call, Arguments, last, more, Argument, value, cell, area, lone, target_spelling, spelling, joins_spelling, sums_spelling, term_spelling, signed_spelling, primary_spelling, arguments_spelling, argument_spelling, literal_meaning, target_meaning, call_meaning, meaning, joins_meaning, sums_meaning, term_meaning, signed_meaning, primary_meaning, arguments_meaning, argument_meaning}

-- a token's text is one of so many, and its sheet is one of so many
abbrev pub IsKnown : ℕ → ℕ → Token → Type 0
IsKnown m n (Token.Literal (Literal.Text t)) = t.0 < m
IsKnown m n (Token.Prefix (Some s)) = s < n
IsKnown m n _ = Unit {0}

abbrev pub AreKnown : ℕ → ℕ → List Token → Type 0
AreKnown m n ts = AllByRecursion (IsKnown m n) ts

front : (m n : ℕ) (a b : List Token) → AreKnown m n (a ++ b) → AreKnown m n a
front m n [] b h = tt
front m n (t ∷ ts) b h = (h.0, front m n ts b h.1)

back : (m n : ℕ) (a b : List Token) → AreKnown m n (a ++ b) → AreKnown m n b
back m n [] b h = h
back m n (t ∷ ts) b h = back m n ts b h.1

-- the tree's texts and sheets are known
abbrev Knows : ℕ → ℕ → Expr → Type 0
Knows m n e = TextsBelow (λ i. i < m) e × SheetsBelow n e

abbrev AllKnow : ℕ → ℕ → Exprs → Type 0
AllKnow m n es = AllTextsBelow (λ i. i < m) es × AllSheetsBelow n es

of_literal : (m n : ℕ) (l : Literal) → IsKnown m n (Token.Literal l) → Knows m n (literal_meaning l)
of_literal m n (Literal.Number k) h = (tt, tt)
of_literal m n Literal.HugeNumber h = (tt, tt)
of_literal m n (Literal.Text t) h = (h, tt)
of_literal m n (Literal.Truth b) h = (tt, tt)
of_literal m n Literal.RefError h = (tt, tt)

of_target : (m n : ℕ) (at : Addr) (x : Target) → AreKnown m n (target_spelling x) → SheetBelow n (target_meaning at x).sheet
of_target m n at (here w) h = tt
of_target m n at (on_sheet (Some s) w) h = h.0
of_target m n at (on_sheet None w) h = tt

of_call : (m n : ℕ) (f : Option Fun) (es : Exprs) → AllKnow m n es → Knows m n (call_meaning f es)
of_call m n (Some f) es h = h
of_call m n None es h = (tt, tt)

mutual
  of_expression : (m n : ℕ) (at : Addr) (e : Expression) → AreKnown m n (spelling e) → Knows m n (meaning at e)
  of_expression m n at (only_joins j) h = of_joins m n at j h
  of_expression m n at (compare e op j) h =
      let l = of_expression m n at e (front m n (spelling e) (Token.Operator op ∷ joins_spelling j) h) in
      let r = of_joins m n at j (back m n (spelling e) (Token.Operator op ∷ joins_spelling j) h).1 in
      ((l.0, r.0), (l.1, r.1))

  of_joins : (m n : ℕ) (at : Addr) (j : Joins) → AreKnown m n (joins_spelling j) → Knows m n (joins_meaning at j)
  of_joins m n at (only_sum s) h = of_sums m n at s h
  of_joins m n at (join j op s) h =
      let l = of_joins m n at j (front m n (joins_spelling j) (Token.Operator op ∷ sums_spelling s) h) in
      let r = of_sums m n at s (back m n (joins_spelling j) (Token.Operator op ∷ sums_spelling s) h).1 in
      ((l.0, r.0), (l.1, r.1))

  of_sums : (m n : ℕ) (at : Addr) (s : Sums) → AreKnown m n (sums_spelling s) → Knows m n (sums_meaning at s)
  of_sums m n at (only_term t) h = of_term m n at t h
  of_sums m n at (add s op t) h =
      let l = of_sums m n at s (front m n (sums_spelling s) (Token.Operator op ∷ term_spelling t) h) in
      let r = of_term m n at t (back m n (sums_spelling s) (Token.Operator op ∷ term_spelling t) h).1 in
      ((l.0, r.0), (l.1, r.1))

  of_term : (m n : ℕ) (at : Addr) (t : Term) → AreKnown m n (term_spelling t) → Knows m n (term_meaning at t)
  of_term m n at (only_signed s) h = of_signed m n at s h
  of_term m n at (multiply t op s) h =
      let l = of_term m n at t (front m n (term_spelling t) (Token.Operator op ∷ signed_spelling s) h) in
      let r = of_signed m n at s (back m n (term_spelling t) (Token.Operator op ∷ signed_spelling s) h).1 in
      ((l.0, r.0), (l.1, r.1))

  of_signed : (m n : ℕ) (at : Addr) (s : Signed) → AreKnown m n (signed_spelling s) → Knows m n (signed_meaning at s)
  of_signed m n at (plain p) h = of_primary m n at p h
  of_signed m n at (signed sign s) h = of_signed m n at s h.1

  of_primary : (m n : ℕ) (at : Addr) (p : Primary) → AreKnown m n (primary_spelling p) → Knows m n (primary_meaning at p)
  of_primary m n at (literal l) h = of_literal m n l h.0
  of_primary m n at (reference x) h = (tt, of_target m n at x h)
  of_primary m n at (group e) h = of_expression m n at e (front m n (spelling e) (Token.RightParen ∷ []) h.1)
  of_primary m n at (call_none f) h = of_call m n f Exprs.End (tt, tt)
  of_primary m n at (call f xs) h = of_call m n f (arguments_meaning at xs) (of_arguments m n at xs (front m n (arguments_spelling xs) (Token.RightParen ∷ []) h.1.1))

  of_arguments : (m n : ℕ) (at : Addr) (xs : Arguments) → AreKnown m n (arguments_spelling xs) → AllKnow m n (arguments_meaning at xs)
  of_arguments m n at (last a) h = let k = of_argument m n at a h in ((k.0, tt), (k.1, tt))
  of_arguments m n at (more a xs) h =
      let k = of_argument m n at a (front m n (argument_spelling a) (Token.Comma ∷ arguments_spelling xs) h) in
      let r = of_arguments m n at xs (back m n (argument_spelling a) (Token.Comma ∷ arguments_spelling xs) h).1 in
      ((k.0, r.0), (k.1, r.1))

  of_argument : (m n : ℕ) (at : Addr) (a : Argument) → AreKnown m n (argument_spelling a) → Knows m n (argument_meaning at a)
  of_argument m n at (value e) h = of_expression m n at e h
  of_argument m n at (cell x) h = (tt, of_target m n at x h)
  of_argument m n at (area x w) h = (tt, of_target m n at x (front m n (target_spelling x) (Token.Colon ∷ Token.Reference w ∷ []) h))
  of_argument m n at (lone l) h = of_literal m n l h.0

-- the tree that tokens mean
pub tree_known : (m n : ℕ) (at : Addr) (tokens : List Token) (tree : Expr) → Reads at tokens tree → AreKnown m n tokens → TextsBelow (λ i. i < m) tree × SheetsBelow n tree
tree_known m n at tokens tree r h = subst (Knows m n) r.means (of_expression m n at r.expression (subst (AreKnown m n) (sym r.spelled) h))

-- sheets are there where a prefix tells their number

abbrev sheet_below : ℕ → Option ℕ → Bool
sheet_below n (Some s) = nat_lt s n
sheet_below n None = true

abbrev is_below : ℕ → Token → Bool
is_below n (Token.Prefix s) = sheet_below n s
is_below n _ = true

abbrev lexeme_below : ℕ → Lexeme → Bool
lexeme_below n (Quoted text) = true
lexeme_below n (Other t) = is_below n t

abbrev cut_below : ℕ → Cut → Bool
cut_below n c = lexeme_below n c.lexeme

token_if : (n : ℕ) (b : Bool) (x y : Token) → is_below n (cond b x y) ≡ cond b (is_below n x) (is_below n y)
token_if n true x y = refl
token_if n false x y = refl

cut_if : (n : ℕ) (b : Bool) (x y : Cut) → lexeme_below n (cond b x y).lexeme ≡ cond b (cut_below n x) (cut_below n y)
cut_if n true x y = refl
cut_if n false x y = refl

always_if : (b : Bool) → cond b true true ≡ true
always_if true = refl
always_if false = refl

below_names : (names : List (List ℕ)) (name : List ℕ) → sheet_below (length names) (number_of names name) ≡ true
below_names names name = go (number_of names name) (number_is_there names name)
  where
    go : (o : Option ℕ) → ((k : ℕ) → o ≡ Some k → k < length names) → sheet_below (length names) o ≡ true
    go None h = refl
    go (Some k) h = lt-ltb k (length names) (h k refl)

below_sign : (n b : ℕ) → is_below n (sign_of b) ≡ true
below_sign n b = simp (token_if, always_if)

below_sign_at : (n : ℕ) (text : List ℕ) → is_below n (sign_at text) ≡ true
below_sign_at n [] = refl
below_sign_at n (b ∷ rest) = below_sign n b

below_literal : (n : ℕ) (o : Option (List ℕ × ℕ)) → cut_below n (literal_cut o) ≡ true
below_literal n None = refl
below_literal n (Some p) = refl

below_other : (n : ℕ) (prefixed : Bool) (o : Option Bool) → is_below n (other_word prefixed o) ≡ true
below_other n prefixed None = simp (token_if, always_if)
below_other n prefixed (Some b) = simp (token_if, always_if)

below_plain : (n : ℕ) (prefixed : Bool) (word : List ℕ) (o : Option Corner) → is_below n (plain_word prefixed word o) ≡ true
below_plain n prefixed word None = below_other n prefixed (truth_of word)
below_plain n prefixed word (Some c) = simp (token_if, always_if)

below_word : (names : List (List ℕ)) (prefixed : Bool) (word rest : List ℕ) → cut_below (length names) (word_cut names prefixed word rest) ≡ true
below_word names prefixed word rest = simp (cut_if, token_if, below_plain, below_names, always_if)

below_signs : (n : ℕ) (text : List ℕ) → cut_below n (sign_cut text) ≡ true
below_signs n text = simp (cut_if, below_sign_at, always_if)

below_quoted : (names : List (List ℕ)) (text : List ℕ) → cut_below (length names) (quoted_prefix names text) ≡ true
below_quoted names text = simp (cut_if, below_names, always_if)

both : (n : ℕ) (b : Bool) (x y : Cut) → cut_below n x ≡ true → cut_below n y ≡ true → cut_below n (cond b x y) ≡ true
both n true x y h k = h
both n false x y h k = k

below_first : (names : List (List ℕ)) (prefixed : Bool) (text : List ℕ) → cut_below (length names) (first_lexeme names prefixed text) ≡ true
below_first names prefixed [] = refl
below_first names prefixed (b ∷ rest) =
    both (length names) (is_ascii_digit b) _ _ refl
    (both (length names) (begins_word b) _ _ (below_word names prefixed (leading is_word_byte (b ∷ rest)) (behind is_word_byte (b ∷ rest)))
    (both (length names) (b == 34) _ _ (below_literal (length names) (literal_from rest)) (both (length names) (b == 39) _ _ (below_quoted names rest) (below_signs (length names) (b ∷ rest)))))

abbrev AllBelow : ℕ → List Placed → Type 0
AllBelow n xs = AllByRecursion (λ x. lexeme_below n x.1 ≡ true) xs

all_below : (names : List (List ℕ)) (place inside : ℕ) (prefixed : Bool) (text : List ℕ) → AllBelow (length names) (lexemes_at names place inside prefixed text)
all_below names place inside prefixed [] = tt
all_below names place (suc inside) prefixed (b ∷ rest) = all_below names (suc place) inside prefixed rest
all_below names place zero prefixed (b ∷ rest) =
    blank (is_blank b) _ _ (all_below names (suc place) 0 false rest)
    (begun (first_lexeme names prefixed (b ∷ rest)) (below_first names prefixed (b ∷ rest)) (λ c. all_below names (suc place) c.more (is_prefix c.lexeme) rest))
  where
    ended : (c : Cut) (bad : Bool) → AllBelow (length names) (lexemes_at names (suc place) c.more (is_prefix c.lexeme) rest) →
        AllBelow (length names) (cond bad [] (lexemes_at names (suc place) c.more (is_prefix c.lexeme) rest))
    ended c true h = tt
    ended c false h = h

    begun : (c : Cut) → cut_below (length names) c ≡ true → ((d : Cut) → AllBelow (length names) (lexemes_at names (suc place) d.more (is_prefix d.lexeme) rest)) →
        AllBelow (length names) ((place, c.lexeme) ∷ (cond (is_bad c.lexeme) [] (lexemes_at names (suc place) c.more (is_prefix c.lexeme) rest)))
    begun c h rest_below = (h, ended c (is_bad c.lexeme) (rest_below c))

    blank : (b : Bool) (xs ys : List Placed) → AllBelow (length names) xs → AllBelow (length names) ys → AllBelow (length names) (cond b xs ys)
    blank true xs ys h k = h
    blank false xs ys h k = k

spot_known : (n : ℕ) (ts : Texts) (l : Lexeme) → lexeme_below n l ≡ true → TextIsOf ts (token_of ts l) → IsKnown (length ts) n (token_of ts l)
spot_known n ts (Quoted text) h k = k
spot_known n ts (Other (Token.Literal (Literal.Text t))) h k = k
spot_known n ts (Other (Token.Literal (Literal.Number i))) h k = tt
spot_known n ts (Other (Token.Literal Literal.HugeNumber)) h k = tt
spot_known n ts (Other (Token.Literal (Literal.Truth b))) h k = tt
spot_known n ts (Other (Token.Literal Literal.RefError)) h k = tt
spot_known n ts (Other (Token.Reference w)) h k = tt
spot_known n ts (Other (Token.SheetReference w)) h k = tt
spot_known n ts (Other (Token.Prefix (Some s))) h k = ltb-true s n h
spot_known n ts (Other (Token.Prefix None)) h k = tt
spot_known n ts (Other (Token.Function f)) h k = tt
spot_known n ts (Other Token.LeftParen) h k = tt
spot_known n ts (Other Token.RightParen) h k = tt
spot_known n ts (Other Token.Comma) h k = tt
spot_known n ts (Other Token.Colon) h k = tt
spot_known n ts (Other (Token.Operator o)) h k = tt
spot_known n ts (Other Token.Misplaced) h k = tt
spot_known n ts (Other Token.BadCharacter) h k = tt
spot_known n ts (Other Token.End) h k = tt

known_spots : (n : ℕ) (ts : Texts) (xs : List Placed) → AllBelow n xs → TextsAreOf ts (map (spot_of ts) xs) → AreKnown (length ts) n (tokens_of (map (spot_of ts) xs))
known_spots n ts [] h k = tt
known_spots n ts (x ∷ xs) h k = (spot_known n ts x.1 h.0 k.0, known_spots n ts xs h.1 k.1)

-- the tokens of a text are known where its literals' texts are there
pub tokens_known : (names : List (List ℕ)) (ts : Texts) (text : List ℕ) → TextsAreOf ts (spots_of names ts text) → AreKnown (length ts) (length names) (tokens_of (spots_of names ts text))
unfolding spots_of lexemes
tokens_known names ts text h = known_spots (length names) ts (lexemes_at names 1 0 false (drop 1 text)) (all_below names 1 0 false (drop 1 text)) h
