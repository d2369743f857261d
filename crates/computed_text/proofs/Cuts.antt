-- How far a walk over the characters of a text has come.
use Rattle.std.proofs.Common.{◌≡◌, ℕ, zero, suc, ◌+◌, ◌-◌, ◌≤◌, ◌<◌, List, [], ◌∷◌, ◌++◌, length, take, drop, arith, ◌∙◌, ap, sym, refl, length-append, append_assoc, append-nil}
use Rattle.std.specs.Str.{chars, IsUtf8}
use Rattle.std.specs.Char.{len_utf8}
use Rattle.std.proofs.Math.Utf8.{encode, encodes}
use Rattle.std.proofs.Math.Seq.{take-append_seam}
use Rattle.std.proofs.lemmas.Str.{chars_past_char, IsUtf8-past_char, length-encode, chars-nil}
use Rattle.std.proofs.Math.Seq.{drop-nil}
use Rattle.cell_values.specs.declared.TheConstants.{MAX_SHORT_BYTES}
use Rattle.computed_text.specs.Computed.{part}

-- `left` characters of the rest are still to be left out
pub record IsBehind (text rest : List ℕ) (left count : ℕ) : Type 0 where
  pub utf8 : IsUtf8 rest
  pub same : drop left (chars rest) ≡ drop count (chars text)

drop_one : (n : ℕ) (c : ℕ) (cs : List ℕ) → 0 < n → drop n (c ∷ cs) ≡ drop (n - 1) cs
drop_one zero c cs h = absurd (omega arith)
drop_one (suc n) c cs h = let e : suc n - 1 ≡ n = omega arith in rw e refl

take_one : (n : ℕ) (c : ℕ) (cs : List ℕ) → 0 < n → take n (c ∷ cs) ≡ c ∷ take (n - 1) cs
take_one zero c cs h = absurd (omega arith)
take_one (suc n) c cs h = let e : suc n - 1 ≡ n = omega arith in rw e refl

pub behind_more : (text rest next : List ℕ) (c left count : ℕ) → IsBehind text rest left count → 0 < left → rest ≡ encode c ++ next → IsBehind text next (left - 1) count
behind_more text rest next c left count h l e = record {
  utf8 = IsUtf8-past_char rest next c h.utf8 e;
  same = sym (drop_one left c (chars next) l) ∙ ap (drop left) (sym (chars_past_char rest next c h.utf8 e)) ∙ h.same;
}

no_chars : (rest : List ℕ) → length rest ≡ 0 → chars rest ≡ []
no_chars [] e = chars-nil
no_chars (b ∷ rest) e = absurd (omega arith)

pub behind_end : (text rest : List ℕ) (left count : ℕ) → IsBehind text rest left count → length rest ≡ 0 → chars rest ≡ drop count (chars text)
behind_end text rest left count h e =
    let n = no_chars rest e in n ∙ sym (drop-nil left) ∙ ap (drop left) (sym n) ∙ h.same

-- `end` bytes of the text are the characters so far, and `left` characters are still to come
pub record IsCut (text rest : List ℕ) (end left count : ℕ) : Type 0 where
  pub utf8 : IsUtf8 rest
  pub done : List ℕ
  pub whole : text ≡ done ++ rest
  pub sized : length done ≡ end
  pub joined : done ++ encodes (take left (chars rest)) ≡ part text 0 count

pub cut_start : (text : List ℕ) (count : ℕ) → IsUtf8 text → IsCut text text 0 count count
cut_start text count u = record { utf8 = u; done = []; whole = refl; sized = refl; joined = refl }

pub cut_more : (text rest next : List ℕ) (c end left count : ℕ) → IsCut text rest end left count → 0 < left → rest ≡ encode c ++ next
    → IsCut text next (end + len_utf8 c) (left - 1) count
cut_more text rest next c end left count h l e = record {
  utf8 = IsUtf8-past_char rest next c h.utf8 e;
  done = h.done ++ encode c;
  whole = h.whole ∙ ap (λ r. h.done ++ r) e ∙ sym (append_assoc h.done (encode c) next);
  sized = let s = h.sized in omega (arith, length-append h.done (encode c), length-encode c);
  joined = append_assoc h.done (encode c) (encodes (take (left - 1) (chars next)))
      ∙ ap (λ cs. h.done ++ encodes cs) (sym (ap (take left) (chars_past_char rest next c h.utf8 e) ∙ take_one left c (chars next) l)) ∙ h.joined;
}

pub cut_few : (text rest : List ℕ) (end left count : ℕ) → IsCut text rest end left count → end ≤ length text
cut_few text rest end left count h = let s = h.sized in let w = ap length h.whole in omega (arith, length-append h.done rest)

cut_done : (text rest : List ℕ) (end left count : ℕ) → IsCut text rest end left count → take left (chars rest) ≡ [] → take end text ≡ part text 0 count
cut_done text rest end left count h e =
    ap (take end) h.whole ∙ ap (λ n. take n (h.done ++ rest)) (sym h.sized) ∙ take-append_seam h.done rest
    ∙ sym (append-nil h.done) ∙ ap (λ cs. h.done ++ encodes cs) (sym e) ∙ h.joined

pub cut_all : (text rest : List ℕ) (end left count : ℕ) → IsCut text rest end left count → left ≡ 0 → take end text ≡ part text 0 count
cut_all text rest end left count h e = cut_done text rest end left count h (ap (λ n. take n (chars rest)) e)

take_none : (n : ℕ) → ◌≡◌ {A = List ℕ} (take n []) []
take_none zero = refl
take_none (suc n) = refl

pub cut_end : (text rest : List ℕ) (end left count : ℕ) → IsCut text rest end left count → length rest ≡ 0 → take end text ≡ part text 0 count
cut_end text rest end left count h e = cut_done text rest end left count h (ap (take left) (no_chars rest e) ∙ take_none left)

pub cut_long : (text rest : List ℕ) (end left count : ℕ) → IsCut text rest end left count → MAX_SHORT_BYTES < end → MAX_SHORT_BYTES < length (part text 0 count)
cut_long text rest end left count h l =
    let s = h.sized in let w = ap length h.joined in omega (arith, length-append h.done (encodes (take left (chars rest))))

pub part_of_tail : (text tail : List ℕ) (from count : ℕ) → chars tail ≡ drop from (chars text) → part tail 0 count ≡ part text from count
part_of_tail text tail from count e = ap (λ cs. encodes (take count cs)) e

-- two texts, written one behind the other
pub both_bytes : (front back new other rest tail : List ℕ) (n : ℕ) → new ≡ front → other ≡ back → n ≡ length front + length back
    → take n (take (length front) (new ++ rest) ++ (other ++ tail)) ≡ front ++ back
both_bytes front back new other rest tail n e f m =
    (λ i. take (m i) (take (length front) (e i ++ rest) ++ (f i ++ tail)))
    ∙ ap (λ xs. take (length front + length back) (xs ++ (back ++ tail))) (take-append_seam front rest)
    ∙ ap (take (length front + length back)) (sym (append_assoc front back tail))
    ∙ ap (λ k. take k ((front ++ back) ++ tail)) (sym (length-append front back))
    ∙ take-append_seam (front ++ back) tail
