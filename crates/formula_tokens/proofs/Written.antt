-- Tokens that are written one after the other are read as they are.
use Rattle.std.proofs.Common.{◌≡◌, ℕ, ◌+◌, Bool, true, false, not, List, [], ◌∷◌, ◌++◌, length, map, refl, ap, sym, subst, ◌∙◌, inl, inr, arith, Option, IsTrue, ltb-true}
use Rattle.std.specs.Prelude.{◌&&◌, ◌==◌, nat_lt, codes}
use Rattle.std.specs.List.{list_all, prefix_len}
use Rattle.std.specs.Char.{is_ascii_digit}
use Rattle.std.specs.Str.{all_ascii_digits}
use Rattle.std.proofs.lemmas.Bool.{cond-false, and_parts}
use Rattle.std.proofs.lemmas.Bool.Decides.{nat_tests}
use Rattle.cell_values.specs.Interned.{number_of}
use Rattle.cell_values.specs.Texts.{Texts}
use Rattle.formula_trees.specs.declared.tree.Op.{Op}
use Rattle.formula_tokens.specs.declared.token.Literal.{Literal}
use Rattle.formula_tokens.specs.declared.token.Token.{Token}
use Rattle.formula_tokens.specs.Laws.{WrittenAreRead, BlanksMayFollow}
use Rattle.formula_tokens.specs.Lexemes.{Lexeme, Quoted, Other, is_blank, is_bad, is_prefix, number_token}
use Rattle.formula_tokens.specs.Spelling.{quoted, op_text, is_word, is_number, word_token, WritesPrefix, Writes, ends_word, ends_operator, may_follow, ends_before, Piece, pieces_text, opens_call, touches, AreWritten}
use Rattle.formula_tokens.specs.Tokens.{token_of}
use Rattle.formula_tokens.specs.Words.{begins_word, is_word_byte, begins_with, behind}
use Rattle.formula_tokens.proofs.Lexed.{lexemes_in, one_blank, whole_tokens}
use Rattle.formula_tokens.proofs.LexedWords.{run_behind, digit_solid, word_solid, number_lexeme, plain_lexeme, call_lexeme}
use Rattle.formula_tokens.proofs.LexedSigns.{op_lexeme, quoted_lexeme, word_prefix_lexeme, quoted_prefix_lexeme}

-- what may follow goes on with nothing
not_true : (b : Bool) → not b ≡ true → b ≡ false
not_true true h = cc
not_true false h = refl

ends_not : (c : ℕ) (rest : List ℕ) → ends_before (λ b. not (b == c)) rest ≡ true → begins_with c rest ≡ false
ends_not c [] h = refl
ends_not c (b ∷ rest) h = not_true (b == c) h

ends_run : (p : ℕ → Bool) (rest : List ℕ) → ends_before (λ b. not (p b)) rest ≡ true → prefix_len p rest ≡ 0
ends_run p [] h = refl
ends_run p (b ∷ rest) h = cond-false (p b) (1 + prefix_len p rest) 0 (not_true (p b) h)

ends_both : (p q : ℕ → Bool) (rest : List ℕ) → ends_before (λ b. p b && q b) rest ≡ true → (ends_before p rest ≡ true) × (ends_before q rest ≡ true)
ends_both p q [] h = (refl, refl)
ends_both p q (b ∷ rest) h = and_parts (p b) (q b) h

no_word : (rest : List ℕ) → ends_before ends_word rest ≡ true → (prefix_len is_word_byte rest ≡ 0) × (begins_with 33 rest ≡ false)
no_word rest h =
    let both = ends_both (λ b. not (is_word_byte b)) (λ b. not (b == 33)) rest h in
    (ends_run is_word_byte rest both.0, ends_not 33 rest both.1)

-- a word
read_word : (names : List (List ℕ)) (prefixed calls : Bool) (bytes rest : List ℕ) (t : Token) → IsTrue (is_word bytes) × (word_token prefixed calls bytes ≡ t) → ends_before ends_word rest ≡ true → begins_with 40 (behind is_blank rest) ≡ calls → is_bad (Other t) ≡ false → is_prefix (Other t) ≡ false
    → lexemes_in names 0 prefixed (bytes ++ rest) ≡ Other t ∷ lexemes_in names 0 false rest
read_word names prefixed true bytes rest t w h c good other = let e = no_word rest h in call_lexeme names prefixed bytes rest t w.0 e.0 e.1 c w.1 good other
read_word names prefixed false bytes rest t w h c good other = let e = no_word rest h in plain_lexeme names prefixed bytes rest t w.0 e.0 e.1 c w.1 good other

-- a number
read_number : (names : List (List ℕ)) (prefixed : Bool) (bytes rest : List ℕ) (t : Token) → IsTrue (is_number bytes) × (number_token bytes ≡ t) → ends_before (λ b. not (is_ascii_digit b)) rest ≡ true
    → lexemes_in names 0 prefixed (bytes ++ rest) ≡ Other t ∷ lexemes_in names 0 false rest
read_number names prefixed bytes rest t w h =
    let parts = and_parts (nat_lt 0 (length bytes)) (all_ascii_digits bytes) w.0 in
    number_lexeme names prefixed bytes rest parts.1 (ltb-true 0 (length bytes) parts.0) (ends_run is_ascii_digit rest h)
    ∙ ap (λ (u : Token). Other u ∷ lexemes_in names 0 false rest) w.1

-- a sheet prefix
read_prefix : (names : List (List ℕ)) (prefixed : Bool) (bytes rest : List ℕ) (s : Option ℕ) → (w : (name : List ℕ) × (number_of names name ≡ s) × WritesPrefix name bytes) → lexemes_in names 0 prefixed (bytes ++ rest) ≡ Other (Token.Prefix s) ∷ lexemes_in names 0 true rest
read_prefix names prefixed bytes rest s w = by_form w.0 w.1 w.2
  where
    by_form : (name : List ℕ) → number_of names name ≡ s → WritesPrefix name bytes → lexemes_in names 0 prefixed (bytes ++ rest) ≡ Other (Token.Prefix s) ∷ lexemes_in names 0 true rest
    by_form name e (inl h) = ap (λ (bs : List ℕ). lexemes_in names 0 prefixed (bs ++ rest)) h.2 ∙ word_prefix_lexeme names prefixed name rest s h.0 h.1 e
    by_form name e (inr h) = ap (λ (bs : List ℕ). lexemes_in names 0 prefixed (bs ++ rest)) h.1 ∙ quoted_prefix_lexeme names prefixed name rest s h.0 e

at_bytes : (names : List (List ℕ)) (prefixed : Bool) (bytes other rest : List ℕ) → bytes ≡ other → lexemes_in names 0 prefixed (bytes ++ rest) ≡ lexemes_in names 0 prefixed (other ++ rest)
at_bytes names prefixed bytes other rest e = ap (λ (bs : List ℕ). lexemes_in names 0 prefixed (bs ++ rest)) e

-- one lexeme
read_one : (names : List (List ℕ)) (prefixed calls : Bool) (l : Lexeme) (bytes rest : List ℕ) → Writes names prefixed calls l bytes → ends_before (may_follow l) rest ≡ true → begins_with 40 (behind is_blank rest) ≡ calls
    → lexemes_in names 0 prefixed (bytes ++ rest) ≡ l ∷ lexemes_in names 0 (is_prefix l) rest
read_one names prefixed calls (Quoted text) bytes rest w h c = at_bytes names prefixed bytes (quoted text) rest w ∙ quoted_lexeme names prefixed text rest (ends_not 34 rest h)
read_one names prefixed calls (Other (Token.Literal (Literal.Number n))) bytes rest w h c = read_number names prefixed bytes rest (Token.Literal (Literal.Number n)) w h
read_one names prefixed calls (Other (Token.Literal Literal.HugeNumber)) bytes rest w h c = read_number names prefixed bytes rest (Token.Literal Literal.HugeNumber) w h
read_one names prefixed calls (Other (Token.Literal (Literal.Text t))) bytes rest w h c = absurd w
read_one names prefixed calls (Other (Token.Literal (Literal.Truth v))) bytes rest w h c = read_word names prefixed calls bytes rest (Token.Literal (Literal.Truth v)) w h c refl refl
read_one names prefixed calls (Other (Token.Literal Literal.RefError)) bytes rest w h c = at_bytes names prefixed bytes (codes "#REF!") rest w
read_one names prefixed calls (Other (Token.Reference x)) bytes rest w h c = read_word names prefixed calls bytes rest (Token.Reference x) w h c refl refl
read_one names prefixed calls (Other (Token.SheetReference x)) bytes rest w h c = read_word names prefixed calls bytes rest (Token.SheetReference x) w h c refl refl
read_one names prefixed calls (Other (Token.Prefix s)) bytes rest w h c = read_prefix names prefixed bytes rest s w
read_one names prefixed calls (Other (Token.Function f)) bytes rest w h c = read_word names prefixed calls bytes rest (Token.Function f) w h c refl refl
read_one names prefixed calls (Other Token.LeftParen) bytes rest w h c = at_bytes names prefixed bytes (codes "(") rest w
read_one names prefixed calls (Other Token.RightParen) bytes rest w h c = at_bytes names prefixed bytes (codes ")") rest w
read_one names prefixed calls (Other Token.Comma) bytes rest w h c = at_bytes names prefixed bytes (codes ",") rest w
read_one names prefixed calls (Other Token.Colon) bytes rest w h c = at_bytes names prefixed bytes (codes ":") rest w
read_one names prefixed calls (Other (Token.Operator o)) bytes rest w h c = at_bytes names prefixed bytes (op_text o) rest w ∙ op_lexeme names prefixed o rest h
read_one names prefixed calls (Other Token.Misplaced) bytes rest w h c = read_word names prefixed calls bytes rest Token.Misplaced w h c refl refl
read_one names prefixed calls (Other Token.BadCharacter) bytes rest w h c = absurd w
read_one names prefixed calls (Other Token.End) bytes rest w h c = absurd w

-- what is written is not empty and begins with no blank
abbrev IsSolid : List ℕ → Type 0
IsSolid [] = ⊥
IsSolid (b ∷ front) = is_blank b ≡ false

solid_word : (bytes : List ℕ) → is_word bytes ≡ true → IsSolid bytes
solid_word [] h = cc
solid_word (b ∷ front) h = word_solid b (and_parts (begins_word b) (list_all is_word_byte (b ∷ front)) h).0

solid_number : (bytes : List ℕ) → is_number bytes ≡ true → IsSolid bytes
solid_number [] h = cc
solid_number (d ∷ ds) h = digit_solid d (and_parts (is_ascii_digit d) (all_ascii_digits ds) (and_parts (nat_lt 0 (length (d ∷ ds))) (all_ascii_digits (d ∷ ds)) h).1).0

solid_more : (bytes rest : List ℕ) → IsSolid bytes → IsSolid (bytes ++ rest)
solid_more [] rest h = absurd h
solid_more (b ∷ bytes) rest h = h

solid_prefix : (name bytes : List ℕ) → WritesPrefix name bytes → IsSolid bytes
solid_prefix name bytes (inl h) = subst IsSolid (sym h.2) (solid_more name (codes "!") (solid_word name h.0))
solid_prefix name bytes (inr h) = subst IsSolid (sym h.1) refl

solid_op : (o : Op) → IsSolid (op_text o)
solid_op Op.Add = refl
solid_op Op.Sub = refl
solid_op Op.Mul = refl
solid_op Op.Div = refl
solid_op Op.Join = refl
solid_op Op.Eq = refl
solid_op Op.Ne = refl
solid_op Op.Lt = refl
solid_op Op.Le = refl
solid_op Op.Gt = refl
solid_op Op.Ge = refl

solid : (names : List (List ℕ)) (prefixed calls : Bool) (l : Lexeme) (bytes : List ℕ) → Writes names prefixed calls l bytes → IsSolid bytes
solid names prefixed calls (Quoted text) bytes w = subst IsSolid (sym w) refl
solid names prefixed calls (Other (Token.Literal (Literal.Number n))) bytes w = solid_number bytes w.0
solid names prefixed calls (Other (Token.Literal Literal.HugeNumber)) bytes w = solid_number bytes w.0
solid names prefixed calls (Other (Token.Literal (Literal.Text t))) bytes w = absurd w
solid names prefixed calls (Other (Token.Literal (Literal.Truth v))) bytes w = solid_word bytes w.0
solid names prefixed calls (Other (Token.Literal Literal.RefError)) bytes w = subst IsSolid (sym w) refl
solid names prefixed calls (Other (Token.Reference x)) bytes w = solid_word bytes w.0
solid names prefixed calls (Other (Token.SheetReference x)) bytes w = solid_word bytes w.0
solid names prefixed calls (Other (Token.Prefix s)) bytes w = solid_prefix w.0 bytes w.2
solid names prefixed calls (Other (Token.Function f)) bytes w = solid_word bytes w.0
solid names prefixed calls (Other Token.LeftParen) bytes w = subst IsSolid (sym w) refl
solid names prefixed calls (Other Token.RightParen) bytes w = subst IsSolid (sym w) refl
solid names prefixed calls (Other Token.Comma) bytes w = subst IsSolid (sym w) refl
solid names prefixed calls (Other Token.Colon) bytes w = subst IsSolid (sym w) refl
solid names prefixed calls (Other (Token.Operator o)) bytes w = subst IsSolid (sym w) (solid_op o)
solid names prefixed calls (Other Token.Misplaced) bytes w = solid_word bytes w.0
solid names prefixed calls (Other Token.BadCharacter) bytes w = absurd w
solid names prefixed calls (Other Token.End) bytes w = absurd w

-- blanks
touches_none : (blanks : List ℕ) → touches false blanks ≡ false
touches_none [] = refl
touches_none (b ∷ blanks) = refl

past_blanks : (names : List (List ℕ)) (prefixed : Bool) (blanks rest : List ℕ) → list_all is_blank blanks ≡ true → lexemes_in names 0 prefixed (blanks ++ rest) ≡ lexemes_in names 0 (touches prefixed blanks) rest
past_blanks names prefixed [] rest h = refl
past_blanks names prefixed (b ∷ blanks) rest h =
    let parts = and_parts (is_blank b) (list_all is_blank blanks) h in
    one_blank names prefixed b (blanks ++ rest) parts.0 ∙ past_blanks names false blanks rest parts.1
    ∙ ap (λ (p : Bool). lexemes_in names 0 p rest) (touches_none blanks)

begins_first : (bytes rest : List ℕ) → IsSolid bytes → begins_with 40 (bytes ++ rest) ≡ begins_with 40 bytes
begins_first [] rest h = absurd h
begins_first (b ∷ bytes) rest h = refl

no_blank : (bytes rest : List ℕ) → IsSolid bytes → prefix_len is_blank (bytes ++ rest) ≡ 0
no_blank [] rest h = absurd h
no_blank (b ∷ bytes) rest h = cond-false (is_blank b) (1 + prefix_len is_blank (bytes ++ rest)) 0 h

-- whether the next token is `(`
calls_next : (names : List (List ℕ)) (prefixed : Bool) (ps : List Piece) → AreWritten names prefixed ps → begins_with 40 (behind is_blank (pieces_text ps)) ≡ opens_call ps
calls_next names prefixed [] h = refl
calls_next names prefixed (p ∷ ps) h =
    let firm = solid names (touches prefixed p.blanks) (opens_call ps) p.lexeme p.bytes h.1 in
    ap (begins_with 40) (run_behind is_blank p.blanks (p.bytes ++ pieces_text ps) h.0 (no_blank p.bytes (pieces_text ps) firm)) ∙ begins_first p.bytes (pieces_text ps) firm

-- all of them
read_all : (names : List (List ℕ)) (prefixed : Bool) (ps : List Piece) → AreWritten names prefixed ps → lexemes_in names 0 prefixed (pieces_text ps) ≡ map (λ p. p.lexeme) ps
read_all names prefixed [] h = refl
read_all names prefixed (p ∷ ps) h =
    past_blanks names prefixed p.blanks (p.bytes ++ pieces_text ps) h.0
    ∙ read_one names (touches prefixed p.blanks) (opens_call ps) p.lexeme p.bytes (pieces_text ps) h.1 h.2 (calls_next names (is_prefix p.lexeme) ps h.3)
    ∙ ap (λ (ls : List Lexeme). p.lexeme ∷ ls) (read_all names (is_prefix p.lexeme) ps h.3)

tokens_mapped : (ts : Texts) (ps : List Piece) → map (token_of ts) (map (λ p. p.lexeme) ps) ≡ map (λ p. token_of ts p.lexeme) ps
tokens_mapped ts [] = refl
tokens_mapped ts (p ∷ ps) = ap (λ (us : List Token). token_of ts p.lexeme ∷ us) (tokens_mapped ts ps)

pub written_are_read : WrittenAreRead
written_are_read names ts ps h = whole_tokens names ts (codes "=" ++ pieces_text ps) ∙ ap (map (token_of ts)) (read_all names false ps h) ∙ tokens_mapped ts ps

-- a blank may follow each lexeme
blank_digit : (b : ℕ) → is_blank b ≡ true → not (is_ascii_digit b) ≡ true
blank_digit b h = grind (arith, nat_tests)

blank_word : (b : ℕ) → is_blank b ≡ true → ends_word b ≡ true
blank_word b h = grind (arith, nat_tests)

blank_quote : (b : ℕ) → is_blank b ≡ true → not (b == 34) ≡ true
blank_quote b h = grind (arith, nat_tests)

blank_sign : (b : ℕ) → is_blank b ≡ true → (not (b == 61) && not (b == 62)) ≡ true
blank_sign b h = grind (arith, nat_tests)

blank_operator : (o : Op) (b : ℕ) → is_blank b ≡ true → ends_operator o b ≡ true
blank_operator Op.Lt b h = blank_sign b h
blank_operator Op.Gt b h = (and_parts (not (b == 61)) (not (b == 62)) (blank_sign b h)).0
blank_operator Op.Add b h = refl
blank_operator Op.Sub b h = refl
blank_operator Op.Mul b h = refl
blank_operator Op.Div b h = refl
blank_operator Op.Join b h = refl
blank_operator Op.Eq b h = refl
blank_operator Op.Ne b h = refl
blank_operator Op.Le b h = refl
blank_operator Op.Ge b h = refl

pub blanks_may_follow : BlanksMayFollow
blanks_may_follow (Quoted text) b h = blank_quote b h
blanks_may_follow (Other (Token.Literal (Literal.Number n))) b h = blank_digit b h
blanks_may_follow (Other (Token.Literal Literal.HugeNumber)) b h = blank_digit b h
blanks_may_follow (Other (Token.Literal (Literal.Text t))) b h = refl
blanks_may_follow (Other (Token.Literal (Literal.Truth v))) b h = blank_word b h
blanks_may_follow (Other (Token.Literal Literal.RefError)) b h = refl
blanks_may_follow (Other (Token.Reference x)) b h = blank_word b h
blanks_may_follow (Other (Token.SheetReference x)) b h = blank_word b h
blanks_may_follow (Other (Token.Prefix s)) b h = refl
blanks_may_follow (Other (Token.Function f)) b h = blank_word b h
blanks_may_follow (Other Token.LeftParen) b h = refl
blanks_may_follow (Other Token.RightParen) b h = refl
blanks_may_follow (Other Token.Comma) b h = refl
blanks_may_follow (Other Token.Colon) b h = refl
blanks_may_follow (Other (Token.Operator o)) b h = blank_operator o b h
blanks_may_follow (Other Token.Misplaced) b h = blank_word b h
blanks_may_follow (Other Token.BadCharacter) b h = refl
blanks_may_follow (Other Token.End) b h = refl
