-- Bytes and words give each other back.
use Rattle.std.proofs.Common.{◌≡◌, ℕ, zero, suc, ◌+◌, ◌*◌, ◌-◌, ◌^◌, ◌<◌, List, [], ◌∷◌, ◌++◌, length, take, drop, get_or, arith, refl, sym, Some, ap, ◌∙◌, take-append-drop, length-drop, length-take-le, length-append, append_assoc, append-nil, ◌≢◌}
use Rattle.std.specs.Prelude.{replicate}
use Rattle.std.proofs.lemmas.List.{length-replicate, take_all, drop-drop}
use Rattle.cell_values.specs.declared.short.ShortText.{ShortText}
use Rattle.cell_values.specs.ShortTexts.{IsShort, IsPadded, short_bytes, padded}
use Rattle.cell_values.proofs.Shorts.{short_few, padded_exact}
use Rattle.std.specs.Int.{w64, from_le_bytes}
use Rattle.std.proofs.lemmas.Nat.{le_bytes_8, from_le_bytes-to_le_bytes_8}
use Rattle.std.proofs.Math.Seq.{take-append_seam, drop-append_seam, take-suc}
use Rattle.cell_words.specs.TextWords.{word_of, bytes_in, packed, unpacked, word_at, text_words, text_read}
use Rattle.cell_words.specs.declared.TheConstants.{WORDS}
use Rattle.cell_words.proofs.Bytes.{AreSmall, small_at, text_small}

small_take : (n : ℕ) (xs : List ℕ) → AreSmall xs → AreSmall (take n xs)
small_take zero xs p = tt
small_take (suc n) [] p = tt
small_take (suc n) (x ∷ xs) p = (p.0, small_take n xs p.1)

small_drop : (n : ℕ) (xs : List ℕ) → AreSmall xs → AreSmall (drop n xs)
small_drop zero xs p = p
small_drop (suc n) [] p = tt
small_drop (suc n) (x ∷ xs) p = small_drop n xs p.1

pub eight_bytes : (w : ℕ) → length (bytes_in w) ≡ 8
unfolding bytes_in
eight_bytes w = refl

bytes_back : (bs : List ℕ) → length bs ≡ 8 → AreSmall bs → bytes_in (word_of bs) ≡ bs
unfolding bytes_in word_of
bytes_back bs l s = le_bytes_8 bs (from_le_bytes w64 bs) l (small_at bs s) refl

word_back : (w : ℕ) → w < 2 ^ 64 → word_of (bytes_in w) ≡ w
unfolding bytes_in word_of
word_back w l = from_le_bytes-to_le_bytes_8 w l

pub unpack_pack : (n : ℕ) (bs : List ℕ) → length bs ≡ 8 * n → AreSmall bs → unpacked (packed n bs) ≡ bs
unfolding packed unpacked
unpack_pack zero [] l s = refl
unpack_pack zero (b ∷ bs) l s = absurd (omega arith)
unpack_pack (suc n) bs l s =
    let a : length (take 8 bs) ≡ 8 = length-take-le 8 bs (omega arith) in
    let b : length (drop 8 bs) ≡ 8 * n = omega (arith, length-drop 8 bs) in
    ap (λ x. x ++ unpacked (packed n (drop 8 bs))) (bytes_back (take 8 bs) a (small_take 8 bs s))
    ∙ ap (λ x. take 8 bs ++ x) (unpack_pack n (drop 8 bs) b (small_drop 8 bs s)) ∙ take-append-drop 8 bs

abbrev pub AreWords : List ℕ → Type 0
AreWords [] = Unit {0}
AreWords (w ∷ ws) = (w < 2 ^ 64) × AreWords ws

take_eight : (xs ys : List ℕ) → length xs ≡ 8 → take 8 (xs ++ ys) ≡ xs
take_eight xs ys l = ap (λ n. take n (xs ++ ys)) (sym l) ∙ take-append_seam xs ys

drop_eight : (xs ys : List ℕ) → length xs ≡ 8 → drop 8 (xs ++ ys) ≡ ys
drop_eight xs ys l = ap (λ n. drop n (xs ++ ys)) (sym l) ∙ drop-append_seam xs ys

pub pack_unpack : (ws : List ℕ) → AreWords ws → packed (length ws) (unpacked ws) ≡ ws
unfolding packed unpacked
pack_unpack [] p = refl
pack_unpack (w ∷ ws) p =
    let a : word_of (take 8 (bytes_in w ++ unpacked ws)) ≡ w = ap word_of (take_eight (bytes_in w) (unpacked ws) (eight_bytes w)) ∙ word_back w p.0 in
    let b : packed (length ws) (drop 8 (bytes_in w ++ unpacked ws)) ≡ ws = ap (packed (length ws)) (drop_eight (bytes_in w) (unpacked ws) (eight_bytes w)) ∙ pack_unpack ws p.1 in
    λ i. a i ∷ b i

packed_at : (n j : ℕ) (bs rest : List ℕ) → j < n → get_or (packed n bs ++ rest) j 0 ≡ word_at bs j
unfolding packed
packed_at zero j bs rest l = absurd (omega arith)
packed_at (suc n) zero bs rest l = refl
packed_at (suc n) (suc j) bs rest l =
    let e : 8 * suc j ≡ 8 + 8 * j = omega arith in
    packed_at n j (drop 8 bs) rest (omega arith) ∙ ap (λ x. word_of (take 8 x)) (drop-drop (8 * j) 8 bs ∙ ap (λ m. drop m bs) (sym e))

pub text_word : (t : ShortText) (k : ℕ) → k ≢ 0 → k < WORDS → word_at t.bytes (k - 1) ≡ get_or (text_words t) k 0
text_word t zero e l = absurd (e refl)
text_word t (suc k) e l = let m : suc k - 1 ≡ k = omega arith in rw m (sym (packed_at 6 k t.bytes [] (omega arith)) ∙ ap (λ ws. get_or ws k 0) (append-nil (packed 6 t.bytes)))

pub front_start : (bytes ws : List ℕ) → take 0 bytes ≡ unpacked (take 0 ws)
unfolding unpacked
front_start bytes ws = refl

unpacked_append : (xs : List ℕ) (w : ℕ) → unpacked (xs ++ (w ∷ [])) ≡ unpacked xs ++ bytes_in w
unfolding unpacked
unpacked_append [] w = append-nil (bytes_in w)
unpacked_append (x ∷ xs) w = ap (λ y. bytes_in x ++ y) (unpacked_append xs w) ∙ sym (append_assoc (bytes_in x) (unpacked xs) (bytes_in w))

-- one more word's bytes behind those so far
pub front_more : (bytes tail ws : List ℕ) (k w : ℕ) → length bytes ≡ 48 → k < 6 → length ws ≡ 6 → w ≡ get_or ws k 0
    → take (8 * k) bytes ≡ unpacked (take k ws)
    → take (8 * (k + 1)) (take (8 * k) bytes ++ (bytes_in w ++ tail)) ≡ unpacked (take (k + 1) ws)
front_more bytes tail ws k w l low m e so =
    let a : length (take (8 * k) bytes ++ bytes_in w) ≡ 8 * (k + 1) = omega (arith, length-append (take (8 * k) bytes) (bytes_in w), length-take-le (8 * k) bytes (omega arith), eight_bytes w) in
    let n : k + 1 ≡ suc k = omega arith in
    ap (take (8 * (k + 1))) (sym (append_assoc (take (8 * k) bytes) (bytes_in w) tail))
    ∙ ap (λ x. take x ((take (8 * k) bytes ++ bytes_in w) ++ tail)) (sym a) ∙ take-append_seam (take (8 * k) bytes ++ bytes_in w) tail
    ∙ ap (λ x. x ++ bytes_in w) so ∙ ap (λ x. unpacked (take k ws) ++ bytes_in x) e
    ∙ sym (unpacked_append (take k ws) (get_or ws k 0)) ∙ ap unpacked (sym (take-suc ws k 0 (omega arith)) ∙ ap (λ x. take x ws) (sym n))

pub front_all : (bytes ws : List ℕ) (k : ℕ) → k ≡ 6 → length bytes ≡ 48 → length ws ≡ 6 → take (8 * k) bytes ≡ unpacked (take k ws) → bytes ≡ unpacked ws
front_all bytes ws k e l m so = sym (take_all 48 bytes (omega arith)) ∙ ap (λ n. take (8 * n) bytes) (sym e) ∙ so ∙ ap (λ n. unpacked (take n ws)) e ∙ ap unpacked (take_all 6 ws (omega arith))

pub are_words : (ws : List ℕ) → ((i : ℕ) → get_or ws i 0 < 2 ^ 64) → AreWords ws
are_words [] h = tt
are_words (w ∷ ws) h = (h 0, are_words ws (λ i. h (suc i)))

-- the bytes of a short text and the zeros behind them are 48
text_sized : (t : ShortText) → IsShort t → length t.bytes ≡ 48
text_sized t h =
    let e : t.bytes ≡ padded (short_bytes t) = ap (λ (u : ShortText). u.bytes) h.padding in
    let f = short_few (short_bytes t) h.short in let g = ap length e in
    omega (arith, length-append (short_bytes t) (replicate (48 - length (short_bytes t)) 0), length-replicate {A = ℕ} (48 - length (short_bytes t)) 0)

-- the seven words of a short text
pub record AreTextWords (words : List ℕ) (t : ShortText) : Type 0 where
  pub same : words ≡ text_words t
  pub short : IsShort t

words_of_padded : (words : List ℕ) (t : ShortText) → length words ≡ WORDS → AreWords words → IsPadded (get_or words 0 0) (unpacked (drop 1 words)) t → AreTextWords words t
words_of_padded [] t l h p = absurd (omega arith)
words_of_padded (w ∷ ws) t l h p =
    let n : length ws ≡ 6 = omega arith in
    let b : ws ≡ packed 6 t.bytes = sym (pack_unpack ws h.1) ∙ ap (λ m. packed m (unpacked ws)) n ∙ ap (packed 6) (sym p.same_bytes) in
    let a : w ≡ t.len = sym p.same_len in
    record { same = λ i. a i ∷ b i; short = p.short }

-- what is read off seven words has these words
pub read_has_words : (words : List ℕ) (t : ShortText) → length words ≡ WORDS → AreWords words → text_read words ≡ Some t → AreTextWords words t
read_has_words words t l h e = words_of_padded words t l h ((padded_exact (get_or words 0 0) (unpacked (drop 1 words)) t).0 e)

-- a short text is read off its words
pub words_read_back : (t : ShortText) → IsShort t → text_read (text_words t) ≡ Some t
words_read_back t h = (padded_exact t.len (unpacked (packed 6 t.bytes)) t).1 (record {
  same_len = refl;
  same_bytes = sym (unpack_pack 6 t.bytes (text_sized t h) (text_small t h));
  short = h;
})
