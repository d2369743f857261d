-- What a whole run says of the tokens.
use Rattle.std.proofs.Common.{get_or, ◌-◌, ◌≡◌, ◌≢◌, ◌≤◌, Bool, false, nat_le, leb-true, leb-false, ℕ, List, [], ◌∷◌, ◌++◌, drop, true, ◌⊎◌, inl, inr, Err, refl, sym, ap, ap₂, ◌∙◌, subst, arith, append-nil}
use Rattle.cell_values.specs.declared.address.Addr.{Addr}
use Rattle.formula_trees.specs.Expr.{Expr}
use Rattle.formula_tokens.specs.declared.token.Spot.{Spot}
use Rattle.formula_tokens.specs.declared.token.Token.{Token}
use Rattle.formula_grammar.specs.declared.faults.FaultKind.{FaultKind}
use Rattle.formula_grammar.specs.declared.faults.FormulaFault.{FormulaFault}
use Rattle.formula_grammar.specs.declared.faults.FormulaFault.TheVariants.{Bad, OutOfMemory}
use Rattle.formula_grammar.specs.Syntax.{spelling}
use Rattle.formula_grammar.specs.Fault.{Reads, Applies, FirstFault, tokens_of}
use Rattle.formula_grammar.specs.Faulty.{IsFault}
use Rattle.formula_grammar.specs.FaultKinds.{number_of}
use Rattle.formula_grammar.specs.Steps.{operand, operator, finished, accepted, fault, run, at_end, move}
use Rattle.formula_grammar.specs.Rest.{Rest, next_of, next_token, next_place, behind_next, misfit, token_level}
use Rattle.formula_grammar.specs.Parts.{Fails, ReadsExpression}
use Rattle.formula_grammar.proofs.Follows.{level_within}
use Rattle.formula_grammar.proofs.Verdict.{run_fault}
use Rattle.formula_grammar.proofs.Accepted.{step_passes, reads_accepted, accepted_reads}
use Rattle.formula_grammar.proofs.Unique.{one_meaning}
use Rattle.formula_grammar.proofs.Law.{tokens_of-append}
use Rattle.formula_grammar.proofs.Reading.{Took, fails_by, fails_misfit, run_quiet}

pub one_tree : (own : Addr) (ts : List Token) (x y : Expr) → Reads own ts x → Reads own ts y → x ≡ y
one_tree own ts x y a b = sym a.means ∙ one_meaning own a.expression b.expression a.fits b.fits (a.spelled ∙ sym b.spelled) ∙ b.means

pub only_memory : (own : Addr) (ts : List Spot) (end : ℕ) (x : Expr) (e : FormulaFault) → Reads own (tokens_of ts) x → Fails e (run ts end 0 (operand 0 [])) → e ≡ OutOfMemory
only_memory own ts end x (Bad place n) a h =
    let y : accepted ≡ fault place n = sym (reads_accepted own ts end x a) ∙ h in
    cc
only_memory own ts end x OutOfMemory a h = refl

pub first_fault : (ts : List Spot) (end : ℕ) (e : FormulaFault) → Fails e (run ts end 0 (operand 0 [])) → IsFault ts end e
first_fault ts end (Bad place k) f = run_fault ts end place k f
first_fault ts end OutOfMemory f = tt

-- the start of a text
abbrev whole : List Spot → ℕ → Rest
whole ts end = record { spots = ts; end = end; nodes = 0 }

end_accepted : (end n : ℕ) → run [] end n (operator []) ≡ accepted
end_accepted end n = ap (at_end end) (step_passes n (operator []) Token.End finished (record { moved = refl; known = refl; inside = refl; low = omega arith; few = omega arith; small = omega arith }))

pub whole_read : (own : Addr) (ts : List Spot) (end : ℕ) (new : Rest) (x : Expr) → ReadsExpression own 0 (whole ts end) new x → new.spots ≡ [] → Reads own (tokens_of ts) x
whole_read own ts end new x a e =
    let s : spelling a.part ≡ tokens_of ts = sym (append-nil (spelling a.part)) ∙ ap (λ y. spelling a.part ++ tokens_of y) (sym e) ∙ sym a.spelled in
    let r : run ts end 0 (operand 0 []) ≡ accepted = a.runs [] refl ∙ ap (λ y. run y new.end new.nodes (operator [])) e ∙ end_accepted new.end new.nodes in
    subst (Reads own (tokens_of ts)) (sym a.means) (accepted_reads own ts end a.part a.fits s r)

took_end : (spots rest : List Spot) → spots ≢ [] → next_of spots ≡ Token.End → rest ≡ drop 1 spots → (x : Spot) × (spots ≡ x ∷ rest) × (x.token ≡ Token.End)
took_end [] rest n h d = absurd (n refl)
took_end (x ∷ spots) rest n h d = (x, ap (λ ys. x ∷ ys) (sym d), h)

-- what stands behind a whole formula and an end
pub behind_end : (own : Addr) (ts : List Spot) (end : ℕ) (new mid : Rest) (x : Expr) (e : FormulaFault) → ReadsExpression own 0 (whole ts end) new x → new.spots ≢ [] → next_token new ≡ Token.End → mid ≡ behind_next new 0 → e ≡ Bad (next_place mid) (misfit (next_token mid)) → Fails e (run ts end 0 (operand 0 []))
behind_end own ts end new mid x e a ne h m b =
    let t = took_end new.spots mid.spots ne h (ap (λ r. r.spots) m) in
    let took : Took Token.End 0 new mid = record { spot = t.0; is = t.1; token = t.2; end = ap (λ r. r.end) m; nodes = ap (λ r. r.nodes) m } in
    fails_by _ _ e (a.runs [] refl ∙ run_quiet Token.End new mid (operator []) finished took refl refl refl refl) (fails_misfit mid e finished b refl)

top_stuck : (t : Token) → token_level t ≡ 0 → t ≢ Token.End → move true (operator []) t ≡ Err FaultKind.Misplaced
top_stuck (Token.Operator op) h n = let x = (level_within op).0 in absurd (omega (arith, h, x))
top_stuck Token.End h n = absurd (n refl)
top_stuck t h n = refl

-- what stands behind a whole formula
pub behind : (own : Addr) (ts : List Spot) (end : ℕ) (new : Rest) (x : Expr) (e : FormulaFault) → ReadsExpression own 0 (whole ts end) new x → token_level (next_token new) ≡ 0 → next_token new ≢ Token.End → e ≡ Bad (next_place new) (misfit (next_token new)) → Fails e (run ts end 0 (operand 0 []))
behind own ts end new x e a l n b = fails_by _ _ e (a.runs [] refl) (fails_misfit new e (operator []) b (top_stuck (next_token new) l n))

-- two ways to part a list at one of its elements
parted : (p : List Spot) (t : Spot) (ts q : List Spot) (u : Spot) (us : List Spot) → p ++ t ∷ ts ≡ q ++ u ∷ us
    → ((p ≡ q) × (t ≡ u)) ⊎ ((d : List Spot) × (q ≡ p ++ t ∷ d)) ⊎ ((d : List Spot) × (p ≡ q ++ u ∷ d))
parted [] t ts [] u us e = inl (refl, cc)
parted [] t ts (y ∷ q) u us e = let h : t ≡ y = cc in inr (inl (q, ap (λ z. z ∷ q) (sym h)))
parted (x ∷ p) t ts [] u us e = let h : x ≡ u = cc in inr (inr (p, ap (λ z. z ∷ p) h))
parted (x ∷ p) t ts (y ∷ q) u us e =
    let h : x ≡ y = cc in
    let r : p ++ t ∷ ts ≡ q ++ u ∷ us = cc in
    by_rest (parted p t ts q u us r) h
  where
    by_rest : ((p ≡ q) × (t ≡ u)) ⊎ ((d : List Spot) × (q ≡ p ++ t ∷ d)) ⊎ ((d : List Spot) × (p ≡ q ++ u ∷ d)) → x ≡ y
        → ((x ∷ p ≡ y ∷ q) × (t ≡ u)) ⊎ ((d : List Spot) × (y ∷ q ≡ x ∷ (p ++ t ∷ d))) ⊎ ((d : List Spot) × (x ∷ p ≡ y ∷ (q ++ u ∷ d)))
    by_rest (inl k) h = inl (ap₂ (λ z zs. z ∷ zs) h k.0, k.1)
    by_rest (inr (inl k)) h = inr (inl (k.0, ap₂ (λ z zs. z ∷ zs) (sym h) k.1))
    by_rest (inr (inr k)) h = inr (inr (k.0, ap₂ (λ z zs. z ∷ zs) h k.1))

-- the faults in the order of their numbers
abbrev all_faults : List FaultKind
all_faults = FaultKind.BadCharacter ∷ FaultKind.Misplaced ∷ FaultKind.UnknownName ∷ FaultKind.HugeNumber ∷ FaultKind.ArgumentCount ∷ FaultKind.TooDeep ∷ FaultKind.TooLong ∷ FaultKind.LargeRange ∷ FaultKind.UnknownSheet ∷ FaultKind.OutsideSheet ∷ []

abbrev named_by : ℕ → FaultKind
named_by n = get_or all_faults (n - 1) FaultKind.BadCharacter

numbered : (k : FaultKind) → named_by (number_of k) ≡ k
numbered FaultKind.BadCharacter = refl
numbered FaultKind.Misplaced = refl
numbered FaultKind.UnknownName = refl
numbered FaultKind.HugeNumber = refl
numbered FaultKind.ArgumentCount = refl
numbered FaultKind.TooDeep = refl
numbered FaultKind.TooLong = refl
numbered FaultKind.LargeRange = refl
numbered FaultKind.UnknownSheet = refl
numbered FaultKind.OutsideSheet = refl

same_number : (j k : FaultKind) → number_of j ≡ number_of k → j ≡ k
same_number j k e = sym (numbered j) ∙ ap named_by e ∙ numbered k

-- a fault does not stand before a first one
not_before : (spots : List Spot) (end p : ℕ) (n : FaultKind) (q : ℕ) (m : FaultKind) (a : FirstFault spots end p n) (b : FirstFault spots end q m) (d : List Spot) → b.before ≡ a.before ++ a.token ∷ d → ⊥
not_before spots end p n q m a b d e = b.earlier (tokens_of a.before) a.token.token (tokens_of d) (ap tokens_of e ∙ tokens_of-append a.before (a.token ∷ d)) n a.applies

not_less : (spots : List Spot) (end p : ℕ) (n : FaultKind) (q : ℕ) (m : FaultKind) (a : FirstFault spots end p n) (b : FirstFault spots end q m) → a.before ≡ b.before → a.token ≡ b.token → number_of n ≤ number_of m
not_less spots end p n q m a b e f = by_order (nat_le (number_of n) (number_of m)) refl
  where
    by_order : (t : Bool) → nat_le (number_of n) (number_of m) ≡ t → number_of n ≤ number_of m
    by_order true h = leb-true (number_of n) (number_of m) h
    by_order false h = absurd (a.first_line m (leb-false (number_of n) (number_of m) h) (subst (λ x. Applies x a.token.token m) (ap tokens_of (sym e)) (subst (λ y. Applies (tokens_of b.before) y.token m) (sym f) b.applies)))

pub one_fault : (spots : List Spot) (end p q : ℕ) (n m : FaultKind) → FirstFault spots end p n → FirstFault spots end q m → (p ≡ q) × (n ≡ m)
one_fault spots end p q n m a b = by_parts (parted a.before a.token a.after b.before b.token b.after (sym a.text ∙ b.text))
  where
    by_parts : ((a.before ≡ b.before) × (a.token ≡ b.token)) ⊎ ((d : List Spot) × (b.before ≡ a.before ++ a.token ∷ d)) ⊎ ((d : List Spot) × (a.before ≡ b.before ++ b.token ∷ d)) → (p ≡ q) × (n ≡ m)
    by_parts (inl h) =
        let u = not_less spots end p n q m a b h.0 h.1 in
        let v = not_less spots end q m p n b a (sym h.0) (sym h.1) in
        (sym a.at_place ∙ ap (λ x. x.place) h.1 ∙ b.at_place, same_number n m (omega (arith, u, v)))
    by_parts (inr (inl h)) = absurd (not_before spots end p n q m a b h.0 h.1)
    by_parts (inr (inr h)) = absurd (not_before spots end q m p n b a h.0 h.1)
