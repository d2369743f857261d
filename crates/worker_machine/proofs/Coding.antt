-- What the tag and the value words of a record say.
use Rattle.std.proofs.Common.{◌≡◌, ℕ, ◌<◌, List, length, get_or, refl, ap, ◌∙◌, Some, arith, ext_get_or}
use Rattle.cell_values.specs.declared.values.Value.{Value}
use Rattle.cell_values.specs.declared.values.Shown.{Shown}
use Rattle.cell_words.specs.Records.{IsShown, tag_of, value_of, stored_words, record_words, filled, shown_read}
use Rattle.cell_words.proofs.Counts.{value_stored}
use Rattle.cell_words.proofs.Decoding.{read_back}

pub tag_carried : (s : Shown) → tag_of s ≡ 7 → s ≡ Shown.ToCycle
unfolding tag_of
tag_carried (Shown.Val (Value.Number n)) e = absurd (omega arith)
tag_carried (Shown.Val (Value.Text n)) e = absurd (omega arith)
tag_carried (Shown.Val (Value.Short n)) e = absurd (omega arith)
tag_carried (Shown.Val (Value.Bool n)) e = absurd (omega arith)
tag_carried (Shown.Val Value.Blank) e = absurd (omega arith)
tag_carried (Shown.Val (Value.Error n)) e = absurd (omega arith)
tag_carried (Shown.Cycle n) e = absurd (omega arith)
tag_carried Shown.ToCycle e = refl

-- every other tag but 6 is a value's
pub tag_value : (s : Shown) → (tag_of s ≡ 7 → ⊥) → (tag_of s ≡ 6 → ⊥) → (v : Value) × (s ≡ Shown.Val v)
unfolding tag_of
tag_value (Shown.Val v) n m = (v, refl)
tag_value (Shown.Cycle k) n m = absurd (m refl)
tag_value Shown.ToCycle n m = absurd (n refl)

-- all value words that are stored tell what is shown
pub words_tell : (s : Shown) (words : List ℕ) → IsShown s → length words ≡ record_words s → ((k : ℕ) → k < length words → get_or words k 0 ≡ value_of s k) → shown_read (tag_of s) (filled words) ≡ Some s
words_tell s words fits size same =
    let all : words ≡ stored_words s = ext_get_or 0 words (stored_words s) size (λ k l. same k l ∙ value_stored s k (omega arith)) in
    ap (λ z. shown_read (tag_of s) (filled z)) all ∙ read_back s fits
