-- When a text is short.
use Rattle.std.proofs.Common.{◌≡◌, ◌↔◌, true, false, Bool, ℕ, ◌≤◌, ◌<◌, List, length, take, drop, ◌++◌, arith, ◌∙◌, ap, sym, refl, subst, Option, Some, None, ◌-◌}
use Rattle.std.specs.Prelude.{if◌then◌else◌, replicate, nat_le, ◌&&◌}
use Rattle.std.specs.Str.{is_utf8, IsUtf8, bytes_eq}
use Rattle.std.proofs.lemmas.List.{drop-replicate, length-replicate, length-append, length-take-le}
use Rattle.std.proofs.lemmas.Str.{IsUtf8-from_is_utf8, is_utf8-from_IsUtf8}
use Rattle.std.proofs.lemmas.Slice.Eq.{bytes_eq-Decides}
use Rattle.std.proofs.lemmas.Bool.Decides.{nat_tests}
use Rattle.std.proofs.Math.Seq.{take-append_seam}
use Rattle.cell_values.specs.declared.TheConstants.{MAX_SHORT_BYTES}
use Rattle.cell_values.specs.declared.short.ShortText.{ShortText}
use Rattle.cell_values.specs.ShortTexts.{padded, padded_of, is_short, short_of, short_text, short_bytes, IsShort, IsPadded}

pub short_is : (bs : List ℕ) → length bs ≤ MAX_SHORT_BYTES → is_utf8 bs ≡ true → is_short bs ≡ true
short_is bs few text = grind (arith, nat_tests)

pub short_few : (bs : List ℕ) → is_short bs ≡ true → length bs ≤ MAX_SHORT_BYTES
short_few bs h = grind (arith, nat_tests)

pub short_utf8 : (bs : List ℕ) → is_short bs ≡ true → IsUtf8 bs
short_utf8 bs h = let t : is_utf8 bs ≡ true = grind (arith, nat_tests) in IsUtf8-from_is_utf8 bs t

-- the bytes of a text are those that it was made of
pub bytes_of_text : (bs : List ℕ) → short_bytes (short_text bs) ≡ bs
bytes_of_text bs = take-append_seam bs (replicate (MAX_SHORT_BYTES - length bs) 0)

pub text_is_short : (bs : List ℕ) → is_short bs ≡ true → IsShort (short_text bs)
text_is_short bs h = record { padding = ap short_text (sym (bytes_of_text bs)); short = ap is_short (bytes_of_text bs) ∙ h }

pub some_short : (bs : List ℕ) → length bs ≤ MAX_SHORT_BYTES → IsUtf8 bs → Some (short_text bs) ≡ short_of bs
some_short bs few text = rw (short_is bs few (is_utf8-from_IsUtf8 bs text)) refl

pub long_none : (bs : List ℕ) → MAX_SHORT_BYTES < length bs → ◌≡◌ {A = Option ShortText} None (short_of bs)
long_none bs l = grind (arith, nat_tests)

pub bad_none : (bs : List ℕ) → (IsUtf8 bs → ⊥) → ◌≡◌ {A = Option ShortText} None (short_of bs)
bad_none bs h = go (is_short bs) refl
  where
    go : (b : Bool) → is_short bs ≡ b → ◌≡◌ {A = Option ShortText} None (if b then Some (short_text bs) else None)
    go true e = absurd (h (short_utf8 bs e))
    go false e = refl

pub zeros_behind : (bs new : List ℕ) → new ≡ bs → length bs ≤ MAX_SHORT_BYTES → new ++ drop (length bs) (replicate MAX_SHORT_BYTES 0) ≡ padded bs
zeros_behind bs new e few = rw (e, drop-replicate (length bs) MAX_SHORT_BYTES) refl

-- the length of a short text is at most MAX_SHORT_BYTES, and its bytes are a text
pub few_bytes : (t : ShortText) → IsShort t → t.len ≤ MAX_SHORT_BYTES
few_bytes t h = let l : t.len ≡ length (short_bytes t) = ap (λ (u : ShortText). u.len) h.padding in let f = short_few (short_bytes t) h.short in omega arith

pub text_bytes : (t : ShortText) → IsShort t → IsUtf8 (take t.len t.bytes)
text_bytes t h = short_utf8 (short_bytes t) h.short

-- two short texts with the same bytes are one
pub same_short : (t u : ShortText) → IsShort t → IsShort u → short_bytes t ≡ short_bytes u → t ≡ u
same_short t u a b e = a.padding ∙ ap short_text e ∙ sym b.padding

padded_sized : (bs : List ℕ) → length bs ≤ MAX_SHORT_BYTES → length (padded bs) ≡ MAX_SHORT_BYTES
padded_sized bs few = omega (arith, length-append bs (replicate (MAX_SHORT_BYTES - length bs) 0), length-replicate {A = ℕ} (MAX_SHORT_BYTES - length bs) 0)

-- which short text a length and padded bytes are
read_padded : (len : ℕ) (bytes : List ℕ) (t : ShortText) → padded_of len bytes ≡ Some t → IsPadded len bytes t
read_padded len bytes t e = go _ _ _ refl refl refl e
  where
    go : (few same short : Bool) → nat_le len MAX_SHORT_BYTES ≡ few → bytes_eq (padded (take len bytes)) bytes ≡ same → is_short (take len bytes) ≡ short
        → (if few && same then (if short then Some (short_text (take len bytes)) else None) else None) ≡ Some t → IsPadded len bytes t
    go true true true p q r e =
        let is : short_text (take len bytes) ≡ t = cc in
        let full : padded (take len bytes) ≡ bytes = (bytes_eq-Decides (padded (take len bytes)) bytes).0 q in
        let sized : length bytes ≡ MAX_SHORT_BYTES = ap length (sym full) ∙ padded_sized (take len bytes) (short_few (take len bytes) r) in
        let few : len ≤ MAX_SHORT_BYTES = grind (arith, nat_tests) in
        subst (IsPadded len bytes) is (record { same_len = length-take-le len bytes (omega arith); same_bytes = full; short = text_is_short (take len bytes) r })
    go true true false p q r e = absurd (cc)
    go true false short p q r e = absurd (cc)
    go false same short p q r e = absurd (cc)

padded_is : (len : ℕ) (bytes : List ℕ) (t : ShortText) → IsPadded len bytes t → padded_of len bytes ≡ Some t
padded_is len bytes t h =
    let b : short_bytes t ≡ take len bytes = (λ i. take (h.same_len i) (h.same_bytes i)) in
    let pad : short_text (take len bytes) ≡ t = ap short_text (sym b) ∙ sym h.short.padding in
    let full : padded (take len bytes) ≡ bytes = ap (λ (u : ShortText). u.bytes) pad ∙ h.same_bytes in
    let l = few_bytes t h.short in let m = h.same_len in
    let few : nat_le len MAX_SHORT_BYTES ≡ true = grind (arith, nat_tests) in
    let same : bytes_eq (padded (take len bytes)) bytes ≡ true = (bytes_eq-Decides (padded (take len bytes)) bytes).1 full in
    let short : is_short (take len bytes) ≡ true = ap is_short (sym b) ∙ h.short.short in
    (λ i. if few i && same i then (if short i then Some (short_text (take len bytes)) else None) else None) ∙ ap Some pad

pub padded_exact : (len : ℕ) (bytes : List ℕ) (t : ShortText) → (padded_of len bytes ≡ Some t) ↔ IsPadded len bytes t
padded_exact len bytes t = (read_padded len bytes t, padded_is len bytes t)
