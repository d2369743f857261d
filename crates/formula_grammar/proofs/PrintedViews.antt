-- A tree as concrete syntax at each level, in parentheses where its root's level is lower.
use Rattle.std.proofs.Common.{◌≡◌, ℕ, suc, ◌^◌, ◌<◌, Bool, true, false, cond, List, [], ◌∷◌, ◌++◌, length, refl, ap, sym, subst, ◌∙◌, arith, Option}
use Rattle.std.specs.Prelude.{IsSome, unwrap_or, ℤ, pos, negsuc, ◌&&◌, nat_lt, int_le, codes}
use Rattle.std.specs.Fmt.{decimal}
use Rattle.std.specs.Char.{is_ascii_digit}
use Rattle.std.specs.Str.{all_ascii_digits}
use Rattle.std.specs.Str.Parse.{digits_value}
use Rattle.std.proofs.lemmas.Bool.{cond-true, and_parts}
use Rattle.std.proofs.lemmas.Bool.Decides.{nat_tests}
use Rattle.std.proofs.lemmas.Fmt.{decimal_is_IsNumeral_wide}
use Rattle.std.proofs.lemmas.Int.{ints}
use Rattle.std.proofs.lemmas.Str.Parse.{IsNumeralModel, numerals_by_value, tells_all_ascii_digits}
use Rattle.cell_values.specs.declared.address.Addr.{Addr}
use Rattle.cell_values.specs.declared.interned.TextId.{TextId}
use Rattle.cell_values.specs.Interned.{AreDistinct}
use Rattle.cell_values.specs.Numbers.{fits}
use Rattle.cell_values.specs.ShownText.{int_text, bool_text}
use Rattle.cell_values.specs.Texts.{Texts, text_at}
use Rattle.formula_trees.specs.Expr.{Expr, Number, Text, Truth, RefError}
use Rattle.formula_trees.specs.declared.levels.TheConstants.{COMPARISON_LEVEL, JOIN_LEVEL, SUM_LEVEL, TERM_LEVEL, SIGN_LEVEL, OPERAND_LEVEL}
use Rattle.formula_trees.specs.Sound.{IsLiteral}
use Rattle.formula_tokens.specs.declared.token.Literal.{Literal}
use Rattle.formula_tokens.specs.declared.token.Token.{Token}
use Rattle.formula_tokens.specs.Lexemes.{Quoted, Other}
use Rattle.formula_tokens.specs.Spelling.{quoted}
use Rattle.formula_grammar.specs.Syntax.{Expression, only_joins, Joins, only_sum, Sums, only_term, Term, only_signed, Signed, plain, Primary, group, node, Fits, JoinsFit, SumsFit, TermFits, SignedFits, PrimaryFits, spelling, joins_spelling, sums_spelling, term_spelling, signed_spelling, primary_spelling, marks, joins_marks, sums_marks, term_marks, signed_marks, primary_marks, meaning, joins_meaning, sums_meaning, term_meaning, signed_meaning, primary_meaning}
use Rattle.formula_tokens.proofs.Lexed.{lexemes_in}
use Rattle.formula_tokens.proofs.LexedWords.{opens, begins_not, closes_digits, fitting, number_lexeme}
use Rattle.formula_tokens.proofs.Held.{numbered}
use Rattle.formula_tokens.proofs.LexedSigns.{quoted_lexeme, truth_lexeme}
use Rattle.formula_grammar.proofs.PrintedParts.{Part, one, grouped}

-- in parentheses where a level is lower than asked for
abbrev pub text_in : ℕ → ℕ → List ℕ → List ℕ
text_in level least text = cond (nat_lt level least) (codes "(" ++ (text ++ codes ")")) text

abbrev pub levels_in : ℕ → ℕ → ℕ → ℕ
levels_in level least inner = cond (nat_lt level least) (suc inner) inner

-- a tree whose root has a level, at each level
pub record Views (names : List (List ℕ)) (ts : Texts) (at : Addr) (e : Expr) (n i level : ℕ) (text : List ℕ) : Type 0 where
  pub expression : Expression
  pub joins : Joins
  pub sums : Sums
  pub term : Term
  pub signed : Signed
  pub whole : Part names ts Expr e n i text (Fits true expression) (spelling expression) (marks expression) (meaning at expression)
  pub first : Part names ts Expr e n (levels_in level COMPARISON_LEVEL i) (text_in level COMPARISON_LEVEL text) (Fits true expression) (spelling expression) (marks expression) (meaning at expression)
  pub second : Part names ts Expr e n (levels_in level JOIN_LEVEL i) (text_in level JOIN_LEVEL text) (JoinsFit true joins) (joins_spelling joins) (joins_marks joins) (joins_meaning at joins)
  pub third : Part names ts Expr e n (levels_in level SUM_LEVEL i) (text_in level SUM_LEVEL text) (SumsFit true sums) (sums_spelling sums) (sums_marks sums) (sums_meaning at sums)
  pub fourth : Part names ts Expr e n (levels_in level TERM_LEVEL i) (text_in level TERM_LEVEL text) (TermFits true term) (term_spelling term) (term_marks term) (term_meaning at term)
  pub fifth : Part names ts Expr e n (levels_in level SIGN_LEVEL i) (text_in level SIGN_LEVEL text) (SignedFits true signed) (signed_spelling signed) (signed_marks signed) (signed_meaning at signed)

module _ (names : List (List ℕ)) (ts : Texts) (at : Addr) where
  pub from_expression : (e : Expr) (n i : ℕ) (text : List ℕ) (x : Expression) → Part names ts Expr e n i text (Fits true x) (spelling x) (marks x) (meaning at x) → Views names ts at e n i COMPARISON_LEVEL text
  from_expression e n i text x p =
      let g = grouped names ts e n i text (Fits true x) (spelling x) (marks x) (meaning at x) p in
      record {
        expression = x;
        joins = only_sum (only_term (only_signed (plain (group x))));
        sums = only_term (only_signed (plain (group x)));
        term = only_signed (plain (group x));
        signed = plain (group x);
        whole = p;
        first = p;
        second = g;
        third = g;
        fourth = g;
        fifth = g;
      }

  pub from_joins : (e : Expr) (n i : ℕ) (text : List ℕ) (x : Joins) → Part names ts Expr e n i text (JoinsFit true x) (joins_spelling x) (joins_marks x) (joins_meaning at x) → Views names ts at e n i JOIN_LEVEL text
  from_joins e n i text x p =
      let g = grouped names ts e n i text (JoinsFit true x) (joins_spelling x) (joins_marks x) (joins_meaning at x) p in
      record {
        expression = only_joins x;
        joins = x;
        sums = only_term (only_signed (plain (group (only_joins x))));
        term = only_signed (plain (group (only_joins x)));
        signed = plain (group (only_joins x));
        whole = p;
        first = p;
        second = p;
        third = g;
        fourth = g;
        fifth = g;
      }

  pub from_sums : (e : Expr) (n i : ℕ) (text : List ℕ) (x : Sums) → Part names ts Expr e n i text (SumsFit true x) (sums_spelling x) (sums_marks x) (sums_meaning at x) → Views names ts at e n i SUM_LEVEL text
  from_sums e n i text x p =
      let g = grouped names ts e n i text (SumsFit true x) (sums_spelling x) (sums_marks x) (sums_meaning at x) p in
      record {
        expression = only_joins (only_sum x);
        joins = only_sum x;
        sums = x;
        term = only_signed (plain (group (only_joins (only_sum x))));
        signed = plain (group (only_joins (only_sum x)));
        whole = p;
        first = p;
        second = p;
        third = p;
        fourth = g;
        fifth = g;
      }

  pub from_term : (e : Expr) (n i : ℕ) (text : List ℕ) (x : Term) → Part names ts Expr e n i text (TermFits true x) (term_spelling x) (term_marks x) (term_meaning at x) → Views names ts at e n i TERM_LEVEL text
  from_term e n i text x p =
      let g = grouped names ts e n i text (TermFits true x) (term_spelling x) (term_marks x) (term_meaning at x) p in
      record {
        expression = only_joins (only_sum (only_term x));
        joins = only_sum (only_term x);
        sums = only_term x;
        term = x;
        signed = plain (group (only_joins (only_sum (only_term x))));
        whole = p;
        first = p;
        second = p;
        third = p;
        fourth = p;
        fifth = g;
      }

  pub from_signed : (e : Expr) (n i : ℕ) (text : List ℕ) (x : Signed) → Part names ts Expr e n i text (SignedFits true x) (signed_spelling x) (signed_marks x) (signed_meaning at x) → Views names ts at e n i SIGN_LEVEL text
  from_signed e n i text x p = record {
    expression = only_joins (only_sum (only_term (only_signed x)));
    joins = only_sum (only_term (only_signed x));
    sums = only_term (only_signed x);
    term = only_signed x;
    signed = x;
    whole = p;
    first = p;
    second = p;
    third = p;
    fourth = p;
    fifth = p;
  }

  pub from_primary : (e : Expr) (n i : ℕ) (text : List ℕ) (x : Primary) → Part names ts Expr e n i text (PrimaryFits true x) (primary_spelling x) (primary_marks x) (primary_meaning at x) → Views names ts at e n i OPERAND_LEVEL text
  from_primary e n i text x p = record {
    expression = only_joins (only_sum (only_term (only_signed (plain x))));
    joins = only_sum (only_term (only_signed (plain x)));
    sums = only_term (only_signed (plain x));
    term = only_signed (plain x);
    signed = plain x;
    whole = p;
    first = p;
    second = p;
    third = p;
    fourth = p;
    fifth = p;
  }

-- literals
own : IsNumeralModel (λ ds. all_ascii_digits ds ≡ true) (digits_value 10)
own = numerals_by_value _ tells_all_ascii_digits

digit_opens : (d : ℕ) (ds : List ℕ) → is_ascii_digit d ≡ true → opens (d ∷ ds) ≡ true
digit_opens d ds h = grind (arith, nat_tests)

digits_open : (ds : List ℕ) → all_ascii_digits ds ≡ true → 0 < length ds → opens ds ≡ true
digits_open [] h some = absurd (omega arith)
digits_open (d ∷ ds) h some = digit_opens d ds (and_parts (is_ascii_digit d) (all_ascii_digits ds) h).0

small_number : (n : ℕ) → fits (pos n) ≡ true → n < 10 ^ 64
small_number n h = grind (arith, ints, nat_tests)

abbrev LiteralPart : List (List ℕ) → Texts → Type 0 → Expr → List ℕ → Literal → Type 0
LiteralPart names ts F e text l = Part names ts Expr e 1 0 text F (Token.Literal l ∷ []) (λ d. node ∷ []) e

pub number_part : (names : List (List ℕ)) (ts : Texts) (F : Type 0) → F → (n : ℤ) → IsLiteral n → LiteralPart names ts F (Number n) (int_text n) (Literal.Number n)
number_part names ts F f (negsuc n) h = cc
number_part names ts F f (pos n) h =
    let fit = (and_parts (int_le (pos 0) (pos n)) (fits (pos n)) h).1 in
    let numeral = decimal_is_IsNumeral_wide n (small_number n fit) in
    let digits = own.from (decimal n) numeral.0.1 in
    let some = numeral.0.0 in
    let value = numeral.1 in
    let same : fits (pos (digits_value 10 (decimal n))) ≡ true = ap (λ m. fits (pos m)) value ∙ fit in
    one names ts (Number (pos n)) (decimal n) F (Other (Token.Literal (Literal.Number (pos n)))) (Token.Literal (Literal.Number (pos n))) (Number (pos n)) f refl refl tt
    (λ rest c. number_lexeme names false (decimal n) rest digits some (closes_digits rest c) ∙ ap (λ t. Other t ∷ lexemes_in names 0 false rest) (fitting (decimal n) same ∙ ap (λ m. Token.Literal (Literal.Number (pos m))) value))
    (digits_open (decimal n) digits some) (cond-true (int_le (pos 0) (pos n) && fits (pos n)) _ _ h) refl

pub text_part : (names : List (List ℕ)) (ts : Texts) (F : Type 0) → F → AreDistinct ts → (t : TextId) → t.0 < length ts → LiteralPart names ts F (Text t) (quoted (text_at ts t)) (Literal.Text t)
text_part names ts F f d t below =
    let number = numbered ts d t.0 below in
    one names ts (Text t) (quoted (text_at ts t)) F (Quoted (text_at ts t)) (Token.Literal (Literal.Text t)) (Text t) f refl
    (ap (λ (o : Option ℕ). Token.Literal (Literal.Text (record { 0 = unwrap_or o 0 }))) number) (subst IsSome (sym number) refl)
    (λ rest c. quoted_lexeme names false (text_at ts t) rest (begins_not 34 rest c refl)) refl refl refl

truth_opens : (b : Bool) → opens (bool_text b) ≡ true
truth_opens true = refl
truth_opens false = refl

pub truth_part : (names : List (List ℕ)) (ts : Texts) (F : Type 0) → F → (b : Bool) → LiteralPart names ts F (Truth b) (bool_text b) (Literal.Truth b)
truth_part names ts F f b = one names ts (Truth b) (bool_text b) F (Other (Token.Literal (Literal.Truth b))) (Token.Literal (Literal.Truth b)) (Truth b) f refl refl tt (λ rest c. truth_lexeme names b rest c) (truth_opens b) refl refl

pub ref_error_part : (names : List (List ℕ)) (ts : Texts) (F : Type 0) → F → LiteralPart names ts F RefError (codes "#REF!") Literal.RefError
ref_error_part names ts F f = one names ts RefError (codes "#REF!") F (Other (Token.Literal Literal.RefError)) (Token.Literal Literal.RefError) RefError f refl refl tt (λ rest c. refl) refl refl refl
