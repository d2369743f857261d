-- The words of a short text: its length, and then its bytes, eight to a word.
use Rattle.std.specs.Prelude.{ℕ, zero, suc, ◌*◌, List, [], ◌∷◌, ◌++◌, take, drop, slice_index, Option}
use Rattle.std.specs.Int.{w64, to_le_bytes, from_le_bytes}
use Rattle.cell_values.specs.declared.short.ShortText.{ShortText}
use Rattle.cell_values.specs.ShortTexts.{padded_of}

-- the word of eight bytes, the first one lowest
unfoldable pub word_of : List ℕ → ℕ
word_of bytes = from_le_bytes w64 bytes

-- the eight bytes of a word, the lowest first
unfoldable pub bytes_in : ℕ → List ℕ
bytes_in word = to_le_bytes w64 word

-- the word of the eight bytes from number `8 * k` on
abbrev pub word_at : List ℕ → ℕ → ℕ
word_at bytes k = word_of (take 8 (drop (8 * k) bytes))

-- the words of the first `8 * n` bytes
unfoldable pub packed : ℕ → List ℕ → List ℕ
packed zero bytes = []
packed (suc n) bytes = word_of (take 8 bytes) ∷ packed n (drop 8 bytes)

-- the bytes of words
unfoldable pub unpacked : List ℕ → List ℕ
unpacked [] = []
unpacked (word ∷ words) = bytes_in word ++ unpacked words

-- the seven words of a short text: its length, and its bytes with the zeros behind them
abbrev pub text_words : ShortText → List ℕ
text_words t = t.len ∷ packed 6 t.bytes

-- the short text that has these words, if there is one
abbrev pub text_read : List ℕ → Option ShortText
text_read words = padded_of (slice_index words 0) (unpacked (drop 1 words))
