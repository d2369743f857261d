-- Notes kept in two lists of one length, one of them changed.
use Rattle.std.proofs.Common.{◌≡◌, ℕ, zero, suc, ◌<◌, ◌≤◌, Bool, false, List, [], ◌∷◌, length, get_or, set, replicate, refl, sym, ap, ◌∙◌, Option, None, arith}
use Rattle.std.proofs.lemmas.List.{get_or_past}
use Rattle.cell_values.specs.declared.values.Shown.{Shown}
use Rattle.demand_stack.specs.declared.notes.Note.{Note}
use Rattle.demand_stack.specs.declared.notes.Marks.{Marks}
use Rattle.demand_stack.specs.Notes.{note_of, noted}
use Rattle.demand_stack.specs.Open.{blank}
use Rattle.demand_stack.specs.Recall.{known_of}
use Rattle.worker_machine.proofs.Numbers.{KnownList}

-- the marks of a cell that was not met
abbrev pub unmarked : Marks
unmarked = record { on_stack = false; begun = false }

pub length-noted : (ks : KnownList) (ms : List Marks) → length ks ≡ length ms → length (noted ks ms) ≡ length ms
length-noted [] [] e = refl
length-noted [] (m ∷ ms) e = cc
length-noted (k ∷ ks) [] e = cc
length-noted (k ∷ ks) (m ∷ ms) e = ap suc (length-noted ks ms (omega arith))

pub noted_at : (ks : KnownList) (ms : List Marks) (i : ℕ) → length ks ≡ length ms → get_or (noted ks ms) i blank ≡ note_of (get_or ks i None) (get_or ms i unmarked)
noted_at [] [] i e = refl
noted_at [] (m ∷ ms) i e = cc
noted_at (k ∷ ks) [] i e = cc
noted_at (k ∷ ks) (m ∷ ms) zero e = refl
noted_at (k ∷ ks) (m ∷ ms) (suc i) e = noted_at ks ms i (omega arith)

pub noted_set : (ks : KnownList) (ms : List Marks) (i : ℕ) (k : Option Shown) (m : Marks) → length ks ≡ length ms → noted (set ks i k) (set ms i m) ≡ set (noted ks ms) i (note_of k m)
noted_set [] [] i k m e = refl
noted_set [] (y ∷ ms) i k m e = cc
noted_set (x ∷ ks) [] i k m e = cc
noted_set (x ∷ ks) (y ∷ ms) zero k m e = refl
noted_set (x ∷ ks) (y ∷ ms) (suc i) k m e = ap (λ z. note_of x y ∷ z) (noted_set ks ms i k m (omega arith))

pub marks_set : (ks : KnownList) (ms : List Marks) (i : ℕ) (m : Marks) → length ks ≡ length ms → noted ks (set ms i m) ≡ set (noted ks ms) i (note_of (get_or ks i None) m)
marks_set [] [] i m e = refl
marks_set [] (y ∷ ms) i m e = cc
marks_set (x ∷ ks) [] i m e = cc
marks_set (x ∷ ks) (y ∷ ms) zero m e = refl
marks_set (x ∷ ks) (y ∷ ms) (suc i) m e = ap (λ z. note_of x y ∷ z) (marks_set ks ms i m (omega arith))

-- what is known is the first of the two
pub known_noted : (ks : KnownList) (ms : List Marks) → length ks ≡ length ms → known_of (noted ks ms) ≡ ks
known_noted [] [] e = refl
known_noted [] (m ∷ ms) e = cc
known_noted (k ∷ ks) [] e = cc
known_noted (k ∷ ks) (m ∷ ms) e = ap (λ z. k ∷ z) (known_noted ks ms (omega arith))

noted_none : (n : ℕ) → noted (replicate n None) (replicate n unmarked) ≡ replicate n blank
noted_none zero = refl
noted_none (suc n) = ap (λ z. blank ∷ z) (noted_none n)

pub unmet : (ks : KnownList) (ms : List Marks) (n : ℕ) → ks ≡ replicate n None → ms ≡ replicate n unmarked → noted ks ms ≡ replicate n blank
unmet ks ms n e q = (λ i. noted (e i) (q i)) ∙ noted_none n

-- what is seen of two lists of one length

pub low : (ks : KnownList) (ms : List Marks) (v : List Note) (i : ℕ) → length ks ≡ length ms → noted ks ms ≡ v → i < length v → i < length ms
low ks ms v i e q l = (let a = length-noted ks ms e in let b : length (noted ks ms) ≡ length v = ap length q in omega arith)

pub low_results : (ks : KnownList) (ms : List Marks) (v : List Note) (i : ℕ) → length ks ≡ length ms → noted ks ms ≡ v → i < length v → i < length ks
low_results ks ms v i e q l = (let a = low ks ms v i e q l in omega arith)

note_at : (ks : KnownList) (ms : List Marks) (v : List Note) (i : ℕ) → length ks ≡ length ms → noted ks ms ≡ v → note_of (get_or ks i None) (get_or ms i unmarked) ≡ get_or v i blank
note_at ks ms v i e q = sym (noted_at ks ms i e) ∙ ap (λ z. get_or z i blank) q

pub shown_is : (ks : KnownList) (ms : List Marks) (v : List Note) (i : ℕ) → length ks ≡ length ms → noted ks ms ≡ v → get_or ks i None ≡ (get_or v i blank).shown
shown_is ks ms v i e q = ap (λ (z : Note). z.shown) (note_at ks ms v i e q)

mark_at : (ms : List Marks) (i : ℕ) (x : Marks) → i < length ms → x ≡ get_or ms i x → x ≡ get_or ms i unmarked
mark_at [] i x l q = absurd (omega arith)
mark_at (m ∷ ms) zero x l q = q
mark_at (m ∷ ms) (suc i) x l q = mark_at ms i x (omega arith) q

pub on_stack_is : (ks : KnownList) (ms : List Marks) (v : List Note) (i : ℕ) (x : Marks) → length ks ≡ length ms → noted ks ms ≡ v → i < length ms → x ≡ get_or ms i x → x.on_stack ≡ (get_or v i blank).on_stack
on_stack_is ks ms v i x e q l h = ap (λ (z : Marks). z.on_stack) (mark_at ms i x l h) ∙ ap (λ (z : Note). z.on_stack) (note_at ks ms v i e q)

pub begun_is : (ks : KnownList) (ms : List Marks) (v : List Note) (i : ℕ) (x : Marks) → length ks ≡ length ms → noted ks ms ≡ v → i < length ms → x ≡ get_or ms i x → x.begun ≡ (get_or v i blank).begun
begun_is ks ms v i x e q l h = ap (λ (z : Marks). z.begun) (mark_at ms i x l h) ∙ ap (λ (z : Note). z.begun) (note_at ks ms v i e q)

-- behind the end
pub none_noted : (ks : KnownList) (ms : List Marks) (v : List Note) (i : ℕ) → length ks ≡ length ms → noted ks ms ≡ v → length ms ≤ i → blank ≡ get_or v i blank
none_noted ks ms v i e q l =
    let a = length-noted ks ms e in
    let b : length (noted ks ms) ≡ length v = ap length q in
    sym (get_or_past v i blank (omega arith))

-- other marks
pub marks_view : (ks : KnownList) (ms : List Marks) (v : List Note) (i : ℕ) (o o' b : Bool) → length ks ≡ length ms → noted ks ms ≡ v → o ≡ o'
    → noted ks (set ms i (record { on_stack = o; begun = b })) ≡ set v i (record { shown = (get_or v i blank).shown; on_stack = o'; begun = b })
marks_view ks ms v i o o' b e q p =
    let s = shown_is ks ms v i e q in
    marks_set ks ms i (record { on_stack = o; begun = b }) e ∙ (λ j. set (q j) i (record { shown = s j; on_stack = p j; begun = b }))

-- another result
pub result_view : (ks ks' : KnownList) (ms : List Marks) (v : List Note) (i : ℕ) (k : Option Shown) (o o' : Bool) → length ks ≡ length ms → noted ks ms ≡ v → ks' ≡ set ks i k → o ≡ o'
    → noted ks' (set ms i (record { on_stack = o; begun = false })) ≡ set v i (record { shown = k; on_stack = o'; begun = false })
result_view ks ks' ms v i k o o' e q r p =
    ap (λ z. noted z (set ms i (record { on_stack = o; begun = false }))) r
    ∙ noted_set ks ms i k (record { on_stack = o; begun = false }) e ∙ (λ j. set (q j) i (record { shown = k; on_stack = p j; begun = false }))
