-- How the records of a text follow one another.
use Rattle.std.proofs.Common.{◌≡◌, ℕ, zero, suc, ◌<◌, ◌≤◌, Bool, true, false, cond, List, [], ◌∷◌, length, Option, Some, None, ◌⊎◌, inl, inr, refl, ap, sym, ◌∙◌, arith}
use Rattle.std.proofs.lemmas.Option.{cond_some, same_Some}
use Rattle.csv.specs.Machine.{Read, ends_at_end, field_after, fields_after, is_end, next_record, step}
use Rattle.csv.specs.Reading.{ReadRecord, Reached, default_config, records_from, records_next, source_of}
use Rattle.csv.specs.declared.parser.Config.{Config}
use Rattle.csv.specs.declared.parser.State.{State}
use Rattle.csv.specs.declared.parser.State.TheVariants as st
use Rattle.csv.specs.declared.reader.Reader.{Reader}
use Rattle.csv.proofs.ReadFacts.{rows-more}

-- a read that found a record
pub record_read : {R : Type 0} (rem : R → Option (List ℕ)) (a b : Reader R) (f : List (List ℕ)) (y : List ℕ) → a.config ≡ default_config → source_of rem a ≡ Some y → ReadRecord rem a b true f → (z : List ℕ) × (source_of rem b ≡ Some z) × (next_record default_config a.state [] [] y ≡ Some (f, b.state, z))
unfolding Reached
record_read rem a b f y config source r =
    let (z, at_z, reached) = rows-more rem a b f default_config a.state y y [] config source (refl, refl) r in
    let (p, next, same, (state, rest)) = reached in
    let fields : p.0 ≡ f = sym same in
    (z, at_z, next ∙ (λ i. Some (fields i, state i, rest i)))

either : {A : Type 0} (b : Bool) (x y : Option A) (p : A) (P : Type 0) → cond b x y ≡ Some p → (x ≡ Some p → P) → (y ≡ Some p → P) → P
either true x y p P e f g = f e
either false x y p P e f g = g e

at_most : (xs ys : List ℕ) → xs ≡ ys → length ys ≤ length xs
at_most xs ys e = omega (arith, ap length e)

left_by : (fields : List (List ℕ)) (s : State) (rest : List ℕ) (p : Read) → ◌≡◌ {A = Option Read} (Some (fields, s, rest)) (Some p) → length p.2 ≤ length rest
left_by fields s rest p e = at_most rest p.2 (ap (λ (r : Read). r.2) (same_Some (fields, s, rest) p e))

one_more : (n m : ℕ) → n ≤ m → n ≤ suc m
one_more n m h = omega arith

-- a record leaves no more than there was
shorter : (cfg : Config) (s : State) (fields : List (List ℕ)) (field xs : List ℕ) (p : Read) → next_record cfg s fields field xs ≡ Some p → length p.2 ≤ length xs
unfolding next_record
shorter cfg s fields field [] p e = at_most [] p.2 (ap (λ (q : Read). q.2) (cond_some _ _ _ e).1)
shorter cfg s fields field (c ∷ rest) p e = either (is_end (step cfg s c).1) (Some (fields_after (step cfg s c).1 fields field, (step cfg s c).0, rest))
    (next_record cfg (step cfg s c).0 (fields_after (step cfg s c).1 fields field) (field_after (step cfg s c).1 c field) rest) p (length p.2 ≤ suc (length rest)) e
    (λ q. one_more (length p.2) (length rest) (left_by (fields_after (step cfg s c).1 fields field) (step cfg s c).0 rest p q))
    (λ q. one_more (length p.2) (length rest) (shorter cfg (step cfg s c).0 (fields_after (step cfg s c).1 fields field) (field_after (step cfg s c).1 c field) rest p q))

-- and one byte less, where there was one
shorter_by_one : (cfg : Config) (s : State) (fields : List (List ℕ)) (field : List ℕ) (c : ℕ) (rest : List ℕ) (p : Read) → next_record cfg s fields field (c ∷ rest) ≡ Some p → length p.2 ≤ length rest
unfolding next_record
shorter_by_one cfg s fields field c rest p e = either (is_end (step cfg s c).1) (Some (fields_after (step cfg s c).1 fields field, (step cfg s c).0, rest))
    (next_record cfg (step cfg s c).0 (fields_after (step cfg s c).1 fields field) (field_after (step cfg s c).1 c field) rest) p (length p.2 ≤ length rest) e
    (λ q. left_by (fields_after (step cfg s c).1 fields field) (step cfg s c).0 rest p q)
    (λ q. shorter cfg (step cfg s c).0 (fields_after (step cfg s c).1 fields field) (field_after (step cfg s c).1 c field) rest p q)

-- so many steps reach the end of the text
abbrev pub Enough : ℕ → State → List ℕ → Type 0
Enough n s y = (length y < n) ⊎ ((s ≡ st.StartRecord) × (length y ≡ 0))

at_end : (n : ℕ) (s : State) (p : Read) → Enough n s [] → next_record default_config s [] [] [] ≡ Some p → (m : ℕ) × (n ≡ suc m) × Enough m p.1 p.2
unfolding next_record
at_end zero s p (inl l) e = absurd (omega arith)
at_end (suc m) s p (inl l) e =
    let read = (cond_some _ _ _ e).1 in
    (m, refl, inr (sym (ap (λ (q : Read). q.1) read), sym (ap (λ (q : Read). length q.2) read)))
at_end n s p (inr (start, none)) e = absurd (not_there (rw start at (cond_some _ _ _ e).0))
  where
    not_there : ends_at_end st.StartRecord ≡ true → ⊥
    not_there h = cc

pub enough_more : (n : ℕ) (s : State) (y : List ℕ) (p : Read) → Enough n s y → next_record default_config s [] [] y ≡ Some p → (m : ℕ) × (n ≡ suc m) × Enough m p.1 p.2
enough_more n s [] p h e = at_end n s p h e
enough_more zero s (c ∷ rest) p (inl l) e = absurd (omega arith)
enough_more (suc m) s (c ∷ rest) p (inl l) e = let less = shorter_by_one default_config s [] [] c rest p e in (m, refl, inl (omega arith))
enough_more n s (c ∷ rest) p (inr (start, none)) e = absurd (omega arith)

pub no_record : (n : ℕ) (s : State) (y : List ℕ) → next_record default_config s [] [] y ≡ None → records_from default_config n s y ≡ []
unfolding records_from
no_record zero s y e = refl
no_record (suc n) s y e = ap (records_next (records_from default_config n)) e

pub one_record : (m : ℕ) (s : State) (y : List ℕ) (p : Read) → next_record default_config s [] [] y ≡ Some p → records_from default_config (suc m) s y ≡ p.0 ∷ records_from default_config m p.1 p.2
unfolding records_from
one_record m s y p e = ap (records_next (records_from default_config m)) e

-- the records from where a read began: its own, and those that follow
pub next_rows : (n m : ℕ) (s t : State) (y z : List ℕ) (f : List (List ℕ)) → n ≡ suc m → next_record default_config s [] [] y ≡ Some (f, t, z) → records_from default_config n s y ≡ f ∷ records_from default_config m t z
next_rows n m s t y z f e next = ap (λ k. records_from default_config k s y) e ∙ one_record m s y (f, t, z) next
