-- How a text literal is read.
use Rattle.std.proofs.Common.{◌≡◌, ◌≢◌, ℕ, suc, ◌+◌, ◌-◌, ◌<◌, Bool, true, false, eqb, List, [], ◌∷◌, ◌++◌, length, get_or, take, drop, refl, ap, sym, subst, ◌∙◌, arith, Option, Some, None}
use Rattle.std.specs.Prelude.{option_map}
use Rattle.std.proofs.lemmas.Bool.{eqb-true, eqb-false, ne_eqb, cond-false}
use Rattle.std.proofs.lemmas.Str.{IsCharBoundary-after_ascii}
use Rattle.std.specs.Str.{IsUtf8, IsCharBoundary}
use Rattle.std.proofs.lemmas.List.{append_assoc, append-nil, take-append-drop, drop_more, drop-drop, take_rest, get_or-take, get_or-drop, length-take, length-drop}
use Rattle.formula_tokens.specs.Words.{begins_with}
use Rattle.formula_tokens.specs.Lexemes.{with_byte, literal_from}

-- a literal's bytes behind others, and how many bytes write them all
abbrev pub put : List ℕ → ℕ → List ℕ × ℕ → List ℕ × ℕ
put bytes size p = (bytes ++ p.0, size + p.1)

abbrev pub before : List ℕ → ℕ → Option (List ℕ × ℕ) → Option (List ℕ × ℕ)
before bytes size o = option_map (put bytes size) o

before_more : (xs ys : List ℕ) (m n : ℕ) (o : Option (List ℕ × ℕ)) → before xs m (before ys n o) ≡ before (xs ++ ys) (m + n) o
before_more xs ys m n None = refl
before_more xs ys m n (Some p) = ap Some (simp append_assoc (ap (λ k. (xs ++ (ys ++ p.0), k)) (omega arith)))

one_byte : (b n : ℕ) (o : Option (List ℕ × ℕ)) → option_map (with_byte b n) o ≡ before (b ∷ []) n o
one_byte b n None = refl
one_byte b n (Some p) = refl

plain_byte : (b : ℕ) (rest : List ℕ) → b ≢ 34 → literal_from (b ∷ rest) ≡ before (b ∷ []) 1 (literal_from rest)
plain_byte b [] h = cond-false (eqb b 34) _ _ (ne_eqb b 34 h)
plain_byte b (c ∷ rest) h = cond-false (eqb b 34) _ _ (ne_eqb b 34 h) ∙ one_byte b 1 (literal_from (c ∷ rest))

before_none : (o : Option (List ℕ × ℕ)) → o ≡ before [] 0 o
before_none None = refl
before_none (Some p) = ap (λ k. Some (p.0, k)) (omega arith)

-- bytes other than the quote stand for themselves
plain_bytes : (xs rest : List ℕ) → ((i : ℕ) → i < length xs → get_or xs i 0 ≢ 34) → literal_from (xs ++ rest) ≡ before xs (length xs) (literal_from rest)
plain_bytes [] rest h = before_none (literal_from rest)
plain_bytes (x ∷ xs) rest h =
    plain_byte x (xs ++ rest) (h 0 (omega arith)) ∙ ap (before (x ∷ []) 1) (plain_bytes xs rest (λ i l. h (suc i) (omega arith)))
    ∙ before_more (x ∷ []) xs 1 (length xs) (literal_from rest) ∙ ap (λ k. before (x ∷ xs) k (literal_from rest)) (omega arith)

no_quote : (xs : List ℕ) → ((i : ℕ) → i < length xs → get_or xs i 0 ≢ 34) → literal_from xs ≡ None
no_quote xs h = ap literal_from (sym (append-nil xs)) ∙ plain_bytes xs [] h

quote_ends : (rest : List ℕ) → get_or rest 0 0 ≢ 34 → literal_from (34 ∷ rest) ≡ Some ([], 1)
quote_ends [] h = refl
quote_ends (c ∷ rest) h = cond-false (eqb c 34) _ _ (ne_eqb c 34 h)

begins_there : (c : ℕ) (bs : List ℕ) → begins_with c bs ≡ true → bs ≡ c ∷ drop 1 bs
begins_there c [] h = cc
begins_there c (b ∷ rest) h = ap (λ x. x ∷ rest) (eqb-true b c h)

begins_other : (bs : List ℕ) → begins_with 34 bs ≡ false → get_or bs 0 0 ≢ 34
begins_other [] h = λ e. absurd (omega arith)
begins_other (b ∷ rest) h = eqb-false b 34 h

-- a piece without a quote, and then a quote at n
module _ (rest : List ℕ) (n : ℕ) (inside : n < length rest) (quote : get_or rest n 0 ≡ 34) (plain : (i : ℕ) → i < n → get_or rest i 0 ≢ 34) where
  piece_plain : (i : ℕ) → i < length (take n rest) → get_or (take n rest) i 0 ≢ 34
  piece_plain i l =
      let len = length-take n rest in
      let same = get_or-take n rest i 0 (omega arith) in
      λ e. plain i (omega arith) (sym same ∙ e)

  piece_split : rest ≡ take n rest ++ 34 ∷ drop (n + 1) rest
  piece_split = sym (take-append-drop n rest) ∙ ap (λ xs. take n rest ++ xs) (drop_more rest n 0 inside ∙ ap (λ b. b ∷ drop (n + 1) rest) quote)

  piece_read : literal_from rest ≡ before (take n rest) n (literal_from (34 ∷ drop (n + 1) rest))
  piece_read =
      let len : length (take n rest) ≡ n = length-take n rest ∙ omega arith in
      ap literal_from piece_split ∙ plain_bytes (take n rest) (34 ∷ drop (n + 1) rest) piece_plain
      ∙ ap (λ k. before (take n rest) k (literal_from (34 ∷ drop (n + 1) rest))) len

  piece_doubled : begins_with 34 (drop (n + 1) rest) ≡ true → literal_from rest ≡ before (take n rest ++ 34 ∷ []) (n + 2) (literal_from (drop (n + 2) rest))
  piece_doubled h =
      let next : drop (n + 1) rest ≡ 34 ∷ drop (n + 2) rest = begins_there 34 (drop (n + 1) rest) h ∙ ap (λ xs. 34 ∷ xs) (drop-drop 1 (n + 1) rest ∙ ap (λ k. drop k rest) (omega arith)) in
      piece_read ∙ ap (λ xs. before (take n rest) n (literal_from (34 ∷ xs))) next
      ∙ ap (before (take n rest) n) (one_byte 34 2 (literal_from (drop (n + 2) rest)))
      ∙ before_more (take n rest) (34 ∷ []) n 2 (literal_from (drop (n + 2) rest))

  piece_last : begins_with 34 (drop (n + 1) rest) ≡ false → literal_from rest ≡ Some (take n rest, n + 1)
  piece_last h =
      piece_read ∙ ap (before (take n rest) n) (quote_ends (drop (n + 1) rest) (begins_other (drop (n + 1) rest) h))
      ∙ ap (λ xs. Some (xs, n + 1)) (append-nil (take n rest))

-- a step of the reading, which stands at a place of the text with some of the literal: the rest has a quote at n
module _ (text literal piece rest : List ℕ) (start n : ℕ) (there : rest ≡ drop start text) (found : (n < length rest) × (get_or rest n 0 ≡ 34) × ((i : ℕ) → i < n → get_or rest i 0 ≢ 34)) (cut : piece ≡ take (start + n - start) (drop start text)) (whole : before literal start (literal_from (drop start text)) ≡ literal_from text) where
  piece_is : piece ≡ take n rest
  piece_is = cut ∙ ap (take (start + n - start)) (sym there) ∙ ap (λ k. take k rest) (omega arith)

  dropped : (k m : ℕ) → m ≡ start + k → drop k rest ≡ drop m text
  dropped k m e = ap (drop k) there ∙ drop-drop k start text ∙ ap (λ l. drop l text) (sym e)

  rest_whole : before literal start (literal_from rest) ≡ literal_from text
  rest_whole = ap (λ xs. before literal start (literal_from xs)) there ∙ whole

  pub literal_more : begins_with 34 (drop (start + n + 1) text) ≡ true → before ((literal ++ piece) ++ 34 ∷ []) (start + n + 2) (literal_from (drop (start + n + 2) text)) ≡ literal_from text
  literal_more h =
      let doubled = piece_doubled rest n found.0 found.1 found.2 (ap (begins_with 34) (dropped (n + 1) (start + n + 1) (omega arith)) ∙ h) in
      ap (λ xs. before xs (start + n + 2) (literal_from (drop (start + n + 2) text))) (append_assoc literal piece (34 ∷ []) ∙ ap (λ xs. literal ++ (xs ++ 34 ∷ [])) piece_is)
      ∙ ap (λ k. before (literal ++ (take n rest ++ 34 ∷ [])) k (literal_from (drop (start + n + 2) text))) add_assoc_two
      ∙ sym (before_more literal (take n rest ++ 34 ∷ []) start (n + 2) (literal_from (drop (start + n + 2) text)))
      ∙ ap (λ xs. before literal start (before (take n rest ++ 34 ∷ []) (n + 2) (literal_from xs))) (sym (dropped (n + 2) (start + n + 2) (omega arith)))
      ∙ ap (before literal start) (sym doubled) ∙ rest_whole
    where
      add_assoc_two : start + n + 2 ≡ start + (n + 2)
      add_assoc_two = omega arith

  pub literal_done : begins_with 34 (drop (start + n + 1) text) ≡ false → Some (literal ++ piece, start + n + 1) ≡ literal_from text
  literal_done h =
      let last = piece_last rest n found.0 found.1 found.2 (ap (begins_with 34) (dropped (n + 1) (start + n + 1) (omega arith)) ∙ h) in
      ap (λ xs. Some (literal ++ xs, start + n + 1)) piece_is ∙ ap (λ k. Some (literal ++ take n rest, k)) add_assoc_one
      ∙ ap (before literal start) (sym last) ∙ rest_whole
    where
      add_assoc_one : start + n + 1 ≡ start + (n + 1)
      add_assoc_one = omega arith

-- behind a doubled quote a text may be cut
pub behind_quotes : (text : List ℕ) (n : ℕ) → IsUtf8 text → begins_with 34 (drop n text) ≡ true → (m : ℕ) → m ≡ n + 1 → IsCharBoundary text m
behind_quotes text n u h m e =
    let there = begins_there 34 (drop n text) h in
    let len = ap length there in
    let room = length-drop n text in
    let first : get_or text n 0 ≡ 34 = ap (λ k. get_or text k 0) (omega arith) ∙ sym (get_or-drop n text 0 0) ∙ ap (λ xs. get_or xs 0 0) there in
    let P : ℕ → Type 0 = λ k. IsCharBoundary text k in
    subst P (sym e) (IsCharBoundary-after_ascii text n u (omega arith) (omega arith))

-- the byte at a place of the text's bytes
pub byte_there : (text bytes : List ℕ) (i : ℕ) (b : Bool) → bytes ≡ text → b ≡ begins_with 34 (take (length bytes - i) (drop i bytes)) → (r : Bool) → b ≡ r → begins_with 34 (drop i text) ≡ r
byte_there text bytes i b e h r k = ap (λ xs. begins_with 34 (drop i xs)) (sym e) ∙ sym (ap (begins_with 34) (take_rest bytes i)) ∙ sym h ∙ k

pub literal_never : (text literal rest : List ℕ) (start : ℕ) → rest ≡ drop start text → ((i : ℕ) → i < length rest → get_or rest i 0 ≢ 34) → before literal start (literal_from (drop start text)) ≡ literal_from text → None ≡ literal_from text
literal_never text literal rest start e none whole = ap (before literal start) (sym (no_quote rest none) ∙ ap literal_from e) ∙ whole

pub literal_start : (text literal : List ℕ) → literal ≡ [] → before literal 0 (literal_from text) ≡ literal_from text
literal_start text literal e = ap (λ xs. before xs 0 (literal_from text)) e ∙ sym (before_none (literal_from text))

pub not_quoted : (bs : List ℕ) → ((rest : List ℕ) → bs ≢ 34 ∷ rest) → get_or bs 0 0 ≢ 34
not_quoted [] h = λ e. absurd (omega arith)
not_quoted (b ∷ rest) h = λ e. h rest (ap (λ c. c ∷ rest) e)
