-- How the printed text of a reference is read, and what it means.
use Rattle.std.proofs.Common.{◌≡◌, ℕ, ◌+◌, ◌-◌, ◌/◌, ◌%◌, ◌^◌, ◌<◌, ◌≤◌, Bool, true, false, cond, eqb, List, [], ◌∷◌, ◌++◌, length, drop, refl, ap, ap₂, ◌∙◌, arith, Option, Some, None}
use Rattle.std.specs.Prelude.{ℤ, pos, negsuc, ◌&&◌, nat_lt, nat_le, unwrap_or}
use Rattle.std.specs.List.{prefix_len, list_all}
use Rattle.std.specs.Fmt.{decimal}
use Rattle.std.specs.Char.{is_ascii_digit, is_ascii_alphabetic}
use Rattle.std.specs.Str.{all_ascii_digits}
use Rattle.std.specs.Str.Parse.{digits_value}
use Rattle.std.proofs.lemmas.Bool.{cond-true, cond-false, and_parts, and_from}
use Rattle.std.proofs.lemmas.Bool.Decides.{nat_tests}
use Rattle.std.proofs.lemmas.Fmt.{digits_decimal, digits_value-decimal, decimal_nonempty}
use Rattle.std.proofs.lemmas.Int.{ints}
use Rattle.std.proofs.lemmas.List.{length-append}
use Rattle.std.proofs.lemmas.List.Folds.{list_all-append}
use Rattle.std.proofs.lemmas.Option.{cond_some, same_Some}
use Rattle.std.proofs.lemmas.Str.Parse.{IsNumeralModel, numerals_by_value, tells_all_ascii_digits}
use Rattle.cell_values.specs.declared.address.Addr.{Addr}
use Rattle.cell_values.specs.CellText.{column_number, column_letters}
use Rattle.cell_values.proofs.ReadBack.{column_letters_name, digits_no_letter}
use Rattle.cell_values.specs.declared.TheConstants.{LAST_COLUMN, LAST_ROW}
use Rattle.formula_trees.specs.declared.tree.Part.{Part}
use Rattle.formula_trees.specs.declared.tree.Reference.{Reference}
use Rattle.formula_trees.specs.References.{part_at, up_to, cell_at, resolve}
use Rattle.formula_tokens.specs.declared.token.Corner.{Corner}
use Rattle.formula_tokens.specs.declared.token.Word.{Word}
use Rattle.formula_tokens.specs.Words.{begins_word, is_word_byte, leading, behind, begins_with, without_dollar, clipped, coordinate, corner_from, corner_of}
use Rattle.formula_tokens.specs.Lexemes.{Other, reference, plain_word}
use Rattle.formula_grammar.specs.Printed.{dollar, cell_or_error}
use Rattle.formula_grammar.specs.Syntax.{part}
use Rattle.formula_tokens.proofs.Lexed.{lexemes_in}
use Rattle.formula_tokens.specs.Spelling.{is_word}
use Rattle.formula_tokens.proofs.LexedWords.{closes, opens, begins_not, closes_words, closes_call, run_leads, run_behind, plain_lexeme}

abbrev pub is_absolute : Part → Bool
is_absolute (Part.At n) = true
is_absolute (Part.By d) = false

-- the corner that a reference to a cell is written as
abbrev pub corner : Reference → Addr → Corner
corner r a = record { col = record { number = a.col; absolute = is_absolute r.col }; row = record { number = a.row; absolute = is_absolute r.row } }

own : IsNumeralModel (λ ds. all_ascii_digits ds ≡ true) (digits_value 10)
own = numerals_by_value _ tells_all_ascii_digits

-- what is inside the sheet
pub record Resolved (at : Addr) (r : Reference) (a : Addr) : Type 0 where
  pub row : part_at at.row r.row ≡ pos a.row
  pub row_from : 1 ≤ a.row
  pub row_to : a.row ≤ LAST_ROW
  pub col : part_at at.col r.col ≡ pos a.col
  pub col_from : 1 ≤ a.col
  pub col_to : a.col ≤ LAST_COLUMN

within : (most : ℕ) (z : ℤ) (n : ℕ) → up_to most z ≡ Some n → (z ≡ pos n) × (1 ≤ n) × (n ≤ most)
within most (negsuc m) n h = cc
within most (pos m) n h =
    let both = cond_some (nat_le 1 m && nat_le m most) m n h in
    let same : m ≡ n = both.1 in
    (ap pos same, grind (arith, nat_tests), grind (arith, nat_tests))

pub resolved : (at : Addr) (r : Reference) (a : Addr) → resolve at r ≡ Some a → Resolved at r a
unfolding resolve
resolved at r a h = by (up_to LAST_ROW (part_at at.row r.row)) (up_to LAST_COLUMN (part_at at.col r.col)) refl refl h
  where
    by : (row col : Option ℕ) → up_to LAST_ROW (part_at at.row r.row) ≡ row → up_to LAST_COLUMN (part_at at.col r.col) ≡ col → cell_at (unwrap_or r.sheet at.sheet) row col ≡ Some a → Resolved at r a
    by None col e f g = cc
    by (Some m) None e f g = cc
    by (Some m) (Some n) e f g =
        let same = same_Some _ _ g in
        let row = within LAST_ROW (part_at at.row r.row) a.row (e ∙ ap (λ (c : Addr). Some c.row) same) in
        let col = within LAST_COLUMN (part_at at.col r.col) a.col (f ∙ ap (λ (c : Addr). Some c.col) same) in
        record { row = row.0; row_from = row.1; row_to = row.2; col = col.0; col_from = col.1; col_to = col.2 }

-- the part of the tree that a coordinate means
pub part_back : (own n : ℕ) (p : Part) → part_at own p ≡ pos n → part own (record { number = n; absolute = is_absolute p }) ≡ p
part_back own n (Part.At m) h = ap Part.At (omega (arith, ints))
part_back own n (Part.By d) h = ap Part.By (omega (arith, ints))

-- letters and digits
letter_begins : (b : ℕ) → is_ascii_alphabetic b ≡ true → (begins_word b ≡ true) × (is_word_byte b ≡ true) × (eqb b 36 ≡ false)
letter_begins b h = (grind (arith, nat_tests), grind (arith, nat_tests), grind (arith, nat_tests))

digit_word : (b : ℕ) → is_ascii_digit b ≡ true → (is_word_byte b ≡ true) × (eqb b 36 ≡ false)
digit_word b h = (grind (arith, nat_tests), grind (arith, nat_tests))

letter_words : (xs : List ℕ) → list_all is_ascii_alphabetic xs ≡ true → list_all is_word_byte xs ≡ true
letter_words [] h = refl
letter_words (x ∷ xs) h = let parts = and_parts (is_ascii_alphabetic x) (list_all is_ascii_alphabetic xs) h in and_from _ _ (letter_begins x parts.0).1 (letter_words xs parts.1)

digit_words : (xs : List ℕ) → all_ascii_digits xs ≡ true → list_all is_word_byte xs ≡ true
digit_words [] h = refl
digit_words (x ∷ xs) h = let parts = and_parts (is_ascii_digit x) (all_ascii_digits xs) h in and_from _ _ (digit_word x parts.0).0 (digit_words xs parts.1)

words_join : (xs ys : List ℕ) → list_all is_word_byte xs ≡ true → list_all is_word_byte ys ≡ true → list_all is_word_byte (xs ++ ys) ≡ true
words_join xs ys h k = list_all-append is_word_byte xs ys ∙ and_from _ _ h k

dollar_words : (p : Part) (xs : List ℕ) → list_all is_word_byte xs ≡ true → list_all is_word_byte (dollar p ++ xs) ≡ true
dollar_words (Part.At n) xs h = h
dollar_words (Part.By d) xs h = h

digits_no_dollar : (ds : List ℕ) → all_ascii_digits ds ≡ true → begins_with 36 ds ≡ false
digits_no_dollar [] h = refl
digits_no_dollar (d ∷ ds) h = (digit_word d (and_parts (is_ascii_digit d) (all_ascii_digits ds) h).0).1

no_letters : (p : Part) (ds : List ℕ) → all_ascii_digits ds ≡ true → prefix_len is_ascii_alphabetic (dollar p ++ ds) ≡ 0
no_letters (Part.At n) ds h = refl
no_letters (Part.By d) ds h = digits_no_letter ds h

-- the row
row_bare : (p : Part) (ds : List ℕ) → all_ascii_digits ds ≡ true → (without_dollar (dollar p ++ ds) ≡ ds) × (begins_with 36 (dollar p ++ ds) ≡ is_absolute p)
row_bare (Part.At n) ds h = (refl, refl)
row_bare (Part.By d) ds h = (cond-false (begins_with 36 ds) _ ds (digits_no_dollar ds h), digits_no_dollar ds h)

abbrev corner_by : Bool → List ℕ → List ℕ → Bool → Option Corner
corner_by absolute letters digits fixed =
    cond (nat_lt 0 (length letters) && nat_lt 0 (length digits) && all_ascii_digits digits)
    (Some (record { col = coordinate absolute (column_number letters); row = coordinate fixed (digits_value 10 digits) })) None

corner_row : (absolute : Bool) (letters : List ℕ) (p : Part) (ds : List ℕ) → all_ascii_digits ds ≡ true → corner_from absolute letters (dollar p ++ ds) ≡ corner_by absolute letters ds (is_absolute p)
corner_row absolute letters p ds h =
    let bare = row_bare p ds h in
    ap (λ digits. corner_by absolute letters digits (begins_with 36 (dollar p ++ ds))) bare.0 ∙ ap (corner_by absolute letters ds) bare.1

corner_made : (absolute fixed : Bool) (letters ds : List ℕ) (m n : ℕ) → 0 < length letters → 0 < length ds → all_ascii_digits ds ≡ true → column_number letters ≡ m → digits_value 10 ds ≡ n → m ≤ LAST_COLUMN → n ≤ LAST_ROW
    → corner_by absolute letters ds fixed ≡ Some (record { col = record { number = m; absolute = absolute }; row = record { number = n; absolute = fixed } })
corner_made absolute fixed letters ds m n some few h e f low small =
    cond-true (nat_lt 0 (length letters) && nat_lt 0 (length ds) && all_ascii_digits ds) _ None (grind (arith, nat_tests))
    ∙ ap₂ (λ (i j : ℕ). Some (record { col = record { number = i; absolute = absolute }; row = record { number = j; absolute = fixed } })) (clip (column_number letters) m e (omega arith)) (clip (digits_value 10 ds) n f (omega arith))
  where
    clip : (i j : ℕ) → i ≡ j → j ≤ 4294967295 → clipped i ≡ j
    clip i j e h = grind arith

-- the column
corner_whole : (p : Part) (l : ℕ) (ls row : List ℕ) → list_all is_ascii_alphabetic (l ∷ ls) ≡ true → prefix_len is_ascii_alphabetic row ≡ 0 → corner_of (dollar p ++ ((l ∷ ls) ++ row)) ≡ corner_from (is_absolute p) (l ∷ ls) row
unfolding corner_of
corner_whole (Part.At n) l ls row h e =
    ap (λ xs. corner_from true xs (behind is_ascii_alphabetic ((l ∷ ls) ++ row))) (run_leads is_ascii_alphabetic (l ∷ ls) row h e)
    ∙ ap (λ xs. corner_from true (l ∷ ls) xs) (run_behind is_ascii_alphabetic (l ∷ ls) row h e)
corner_whole (Part.By d) l ls row h e =
    let plain = (letter_begins l (and_parts (is_ascii_alphabetic l) (list_all is_ascii_alphabetic ls) h).0).2 in
    let word : List ℕ = (l ∷ ls) ++ row in
    let bare : cond (eqb l 36) (drop 1 word) word ≡ word = cond-false (eqb l 36) (drop 1 word) word plain in
    ap (λ xs. corner_from (eqb l 36) (leading is_ascii_alphabetic xs) (behind is_ascii_alphabetic xs)) bare
    ∙ ap (λ b. corner_from b (leading is_ascii_alphabetic word) (behind is_ascii_alphabetic word)) plain
    ∙ ap (λ xs. corner_from false xs (behind is_ascii_alphabetic word)) (run_leads is_ascii_alphabetic (l ∷ ls) row h e)
    ∙ ap (λ xs. corner_from false (l ∷ ls) xs) (run_behind is_ascii_alphabetic (l ∷ ls) row h e)

some_letters : (col : ℕ) → 0 < length (column_letters col)
unfolding column_letters
some_letters col = let l = length-append (cond (nat_lt 26 col) ((64 + (col - 1) / 26) ∷ []) []) ((65 + (col - 1) % 26) ∷ []) in omega arith

is_word_cell : (p q : Part) (l : ℕ) (ls ds : List ℕ) → list_all is_ascii_alphabetic (l ∷ ls) ≡ true → all_ascii_digits ds ≡ true → is_word (dollar p ++ ((l ∷ ls) ++ (dollar q ++ ds))) ≡ true
is_word_cell (Part.At n) q l ls ds h d = words_join (l ∷ ls) (dollar q ++ ds) (letter_words (l ∷ ls) h) (dollar_words q ds (digit_words ds d))
is_word_cell (Part.By m) q l ls ds h d =
    let first = letter_begins l (and_parts (is_ascii_alphabetic l) (list_all is_ascii_alphabetic ls) h).0 in
    and_from (begins_word l) (list_all is_word_byte ((l ∷ ls) ++ (dollar q ++ ds))) first.0 (words_join (l ∷ ls) (dollar q ++ ds) (letter_words (l ∷ ls) h) (dollar_words q ds (digit_words ds d)))

reference_lexeme : (names : List (List ℕ)) (prefixed : Bool) (w rest : List ℕ) (c : Corner) → is_word w ≡ true → closes rest ≡ true → corner_of w ≡ Some c → lexemes_in names 0 prefixed (w ++ rest) ≡ Other (reference prefixed (Word.Cell c)) ∷ lexemes_in names 0 false rest
reference_lexeme names true w rest c h k e = plain_lexeme names true w rest (reference true (Word.Cell c)) h (closes_words rest k) (begins_not 33 rest k refl) (closes_call rest k) (ap (plain_word true w) e) refl refl
reference_lexeme names false w rest c h k e = plain_lexeme names false w rest (reference false (Word.Cell c)) h (closes_words rest k) (begins_not 33 rest k refl) (closes_call rest k) (ap (plain_word false w) e) refl refl

word_lexeme : (names : List (List ℕ)) (prefixed : Bool) (p q : Part) (letters ds rest : List ℕ) (m n : ℕ) → 0 < length letters → list_all is_ascii_alphabetic letters ≡ true → 0 < length ds → all_ascii_digits ds ≡ true
    → column_number letters ≡ m → digits_value 10 ds ≡ n → m ≤ LAST_COLUMN → n ≤ LAST_ROW → closes rest ≡ true
    → lexemes_in names 0 prefixed ((dollar p ++ (letters ++ (dollar q ++ ds))) ++ rest) ≡ Other (reference prefixed (Word.Cell (record { col = record { number = m; absolute = is_absolute p }; row = record { number = n; absolute = is_absolute q } }))) ∷ lexemes_in names 0 false rest
word_lexeme names prefixed p q [] ds rest m n some h few d e f low small c = absurd (omega arith)
word_lexeme names prefixed p q (l ∷ ls) ds rest m n some h few d e f low small c =
    reference_lexeme names prefixed (dollar p ++ ((l ∷ ls) ++ (dollar q ++ ds))) rest _ (is_word_cell p q l ls ds h d) c
    (corner_whole p l ls (dollar q ++ ds) h (no_letters q ds d) ∙ corner_row (is_absolute p) (l ∷ ls) q ds d ∙ corner_made (is_absolute p) (is_absolute q) (l ∷ ls) ds m n some few d e f low small)

-- a reference's text without its prefix
pub cell_lexeme : (names : List (List ℕ)) (prefixed : Bool) (at : Addr) (r : Reference) (a : Addr) (rest : List ℕ) → Resolved at r a → closes rest ≡ true → lexemes_in names 0 prefixed (cell_or_error r (Some a) ++ rest) ≡ Other (reference prefixed (Word.Cell (corner r a))) ∷ lexemes_in names 0 false rest
cell_lexeme names prefixed at r a rest in_sheet c =
    let named = column_letters_name a.col in_sheet.col_from in_sheet.col_to in
    let fits : a.row < 2 ^ 64 = omega (arith, in_sheet.row_to) in
    word_lexeme names prefixed r.col r.row (column_letters a.col) (decimal a.row) rest a.col a.row (some_letters a.col) named.all_letters (decimal_nonempty a.row fits) (digits_decimal own a.row fits)
    named.value (digits_value-decimal own a.row fits) in_sheet.col_to in_sheet.row_to c

letter_opens : (b : ℕ) (rest : List ℕ) → is_ascii_alphabetic b ≡ true → opens (b ∷ rest) ≡ true
letter_opens b rest h = grind (arith, nat_tests)

word_opens : (p : Part) (letters row rest : List ℕ) → 0 < length letters → list_all is_ascii_alphabetic letters ≡ true → opens ((dollar p ++ (letters ++ row)) ++ rest) ≡ true
word_opens (Part.At n) letters row rest some h = refl
word_opens (Part.By d) [] row rest some h = absurd (omega arith)
word_opens (Part.By d) (l ∷ ls) row rest some h = letter_opens l ((ls ++ row) ++ rest) (and_parts (is_ascii_alphabetic l) (list_all is_ascii_alphabetic ls) h).0

pub cell_opens : (at : Addr) (r : Reference) (a : Addr) (rest : List ℕ) → Resolved at r a → opens (cell_or_error r (Some a) ++ rest) ≡ true
cell_opens at r a rest in_sheet = word_opens r.col (column_letters a.col) (dollar r.row ++ decimal a.row) rest (some_letters a.col) (column_letters_name a.col in_sheet.col_from in_sheet.col_to).all_letters
