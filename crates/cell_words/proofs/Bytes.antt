-- The bytes of a text are below 256.
use Rattle.std.proofs.Common.{◌≡◌, true, false, Bool, cond, ℕ, zero, suc, ◌+◌, ◌/◌, ◌<◌, List, [], ◌∷◌, ◌++◌, get_or, arith, refl, sym, ap, subst, inl, inr}
use Rattle.std.specs.Prelude.{replicate, ◌&&◌}
use Rattle.std.specs.Str.{IsUtf8}
use lib.Utf8.{encode, encodes, scalar, scalars, next, scalar_cases}
use lib.Dec.{ltb}
use borrow.Author.Tests.{ltb-true}
use Rattle.cell_values.specs.declared.short.ShortText.{ShortText}
use Rattle.cell_values.specs.ShortTexts.{IsShort, short_bytes, padded}
use Rattle.cell_values.proofs.Shorts.{text_bytes}

abbrev pub AreSmall : List ℕ → Type 0
AreSmall [] = Unit {0}
AreSmall (b ∷ bs) = (b < 256) × AreSmall bs

pub small_append : (xs ys : List ℕ) → AreSmall xs → AreSmall ys → AreSmall (xs ++ ys)
small_append [] ys p q = q
small_append (x ∷ xs) ys p q = (p.0, small_append xs ys p.1 q)

pub small_at : (xs : List ℕ) → AreSmall xs → (i : ℕ) → get_or xs i 0 < 256
small_at [] p i = omega arith
small_at (x ∷ xs) p zero = p.0
small_at (x ∷ xs) p (suc i) = small_at xs p.1 i

zeros_small : (n : ℕ) → AreSmall (replicate n 0)
zeros_small zero = tt
zeros_small (suc n) = (omega arith, zeros_small n)

below : (c : ℕ) → scalar c ≡ true → c < 1114112
below c s = elim (scalar_cases c s) [ inl h ↦ omega arith | inr h ↦ h.1 ]

encode_small : (c : ℕ) → scalar c ≡ true → AreSmall (encode c)
unfolding encode
encode_small c s = go (ltb c 128) (ltb c 2048) (ltb c 65536) refl refl refl
  where
    go : (x y z : Bool) → ltb c 128 ≡ x → ltb c 2048 ≡ y → ltb c 65536 ≡ z
        → AreSmall (cond x (c ∷ []) (cond y ((192 + c / 64) ∷ next c ∷ []) (cond z ((224 + c / 4096) ∷ next (c / 64) ∷ next c ∷ []) ((240 + c / 262144) ∷ next (c / 4096) ∷ next (c / 64) ∷ next c ∷ []))))
    go true y z p q r = let l = ltb-true c 128 p in (omega arith, tt)
    go false true z p q r = let l = ltb-true c 2048 q in (omega arith, (omega arith, tt))
    go false false true p q r = let l = ltb-true c 65536 r in (omega arith, (omega arith, (omega arith, tt)))
    go false false false p q r = let l = below c s in (omega arith, (omega arith, (omega arith, (omega arith, tt))))

scalars_head : (x y : Bool) → (x && y) ≡ true → (x ≡ true) × (y ≡ true)
scalars_head true true e = (refl, refl)
scalars_head true false e = absurd (cc)
scalars_head false y e = absurd (cc)

encodes_small : (cs : List ℕ) → scalars cs ≡ true → AreSmall (encodes cs)
encodes_small [] s = tt
encodes_small (c ∷ cs) s = let h = scalars_head (scalar c) (scalars cs) s in small_append (encode c) (encodes cs) (encode_small c h.0) (encodes_small cs h.1)

pub utf8_small : (bs : List ℕ) → IsUtf8 bs → AreSmall bs
utf8_small bs u = subst AreSmall u.1.1 (encodes_small u.0 u.1.0)

-- the bytes behind a short text
pub text_small : (t : ShortText) → IsShort t → AreSmall t.bytes
text_small t h =
    let e : t.bytes ≡ padded (short_bytes t) = ap (λ (u : ShortText). u.bytes) h.padding in
    subst AreSmall (sym e) (small_append (short_bytes t) _ (utf8_small (short_bytes t) (text_bytes t h)) (zeros_small _))
