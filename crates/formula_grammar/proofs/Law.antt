-- Tokens have a tree or a fault, and never both.
use Rattle.std.proofs.Common.{◌≡◌, ℕ, ◌+◌, List, [], ◌∷◌, ◌++◌, true, Ok, Err, ◌⊎◌, inl, inr, refl, sym, ap, ap₂, ◌∙◌, subst}
use Rattle.cell_values.specs.declared.address.Addr.{Addr}
use Rattle.formula_trees.specs.Expr.{Expr}
use Rattle.formula_trees.specs.declared.functions.Kind.{Kind}
use Rattle.formula_trees.specs.declared.functions.Kind.TheVariants.{Plain, Place, Many, Exact}
use Rattle.formula_tokens.specs.declared.token.Spot.{Spot}
use Rattle.formula_tokens.specs.declared.token.Token.{Token}
use Rattle.formula_grammar.specs.declared.faults.FaultKind.{FaultKind}
use Rattle.formula_grammar.specs.Syntax.{spelling, meaning, kind_at}
use Rattle.formula_grammar.specs.Fault.{Reads, FirstFault, tokens_of}
use Rattle.formula_grammar.specs.Steps.{Frame, in_call, State, operand, operator, named, opened, argument, sheet, corner, colon, ended, finished, Move, move, mark_at, step, at_end, run_on, run, Outcome, accepted, fault, on_end, on_argument}
use Rattle.formula_grammar.proofs.Follows.{Follows, FollowsMove, back}
use Rattle.formula_grammar.proofs.Verdict.{start, passes, run_fault, run_faultless}
use Rattle.formula_grammar.proofs.Accepted.{reads_accepted, accepted_reads}

end_argument : (k : Kind) (fs : List Frame) (s' : State) → on_argument k fs Token.End ≡ Ok s' → s' ≡ finished
end_argument Plain fs s' e = cc
end_argument Many fs s' e = cc
end_argument Place fs s' e = cc
end_argument Exact fs s' e = cc

on_end_finished : (fs : List Frame) (s' : State) → on_end fs ≡ Ok s' → s' ≡ finished
on_end_finished [] s' e = cc
on_end_finished (f ∷ fs) s' e = cc

end_finished : (s s' : State) → move true s Token.End ≡ Ok s' → s' ≡ finished
end_finished (operand k fs) s' e = cc
end_finished (operator fs) s' e = on_end_finished fs s' e
end_finished (named f k fs) s' e = cc
end_finished (opened f k fs) s' e = end_argument (kind_at f 0) (in_call f 0 k ∷ fs) s' e
end_finished (argument k fs) s' e = end_argument k fs s' e
end_finished (sheet k fs) s' e = cc
end_finished (corner Plain r fs) s' e = on_end_finished fs s' e
end_finished (corner Many r fs) s' e = on_end_finished fs s' e
end_finished (corner Exact r fs) s' e = on_end_finished fs s' e
end_finished (corner Place r fs) s' e = on_end_finished fs s' e
end_finished (colon r fs) s' e = cc
end_finished (ended fs) s' e = on_end_finished fs s' e
end_finished finished s' e = cc

-- what an accepted run has read may follow its state
followed : (ts : List Spot) (end n : ℕ) (s : State) → run ts end n s ≡ accepted → Follows true s (tokens_of ts ++ Token.End ∷ [])
followed [] end n s e = by_step (step n s Token.End) refl e
  where
    by_step : (m : Move) → step n s Token.End ≡ m → at_end end m ≡ accepted → Follows true s (Token.End ∷ [])
    by_step (Ok s') m e =
        let p = passes n s Token.End s' m in
        let f = end_finished s s' p.moved in
        back true s Token.End [] (subst (λ x. FollowsMove true x []) (sym (p.moved ∙ ap Ok f)) refl)
    by_step (Err k) m e = cc
followed (t ∷ ts) end n s e = by_step (λ s'. followed ts end (n + (mark_at s t.token).nodes) s') (step n s t.token) refl e
  where
    by_step : ((s' : State) → run ts end (n + (mark_at s t.token).nodes) s' ≡ accepted → Follows true s' (tokens_of ts ++ Token.End ∷ []))
        → (m : Move) → step n s t.token ≡ m → run_on (run ts end (n + (mark_at s t.token).nodes)) t.place m ≡ accepted → Follows true s (t.token ∷ (tokens_of ts ++ Token.End ∷ []))
    by_step go (Ok s') m e =
        let p = passes n s t.token s' m in
        back true s t.token _ (subst (λ x. FollowsMove true x (tokens_of ts ++ Token.End ∷ [])) (sym p.moved) (go s' e))
    by_step go (Err k) m e = cc

same_front : (a b : List Token) (x : Token) → a ++ x ∷ [] ≡ b ++ x ∷ [] → a ≡ b
same_front [] [] x e = refl
same_front [] (y ∷ []) x e = cc
same_front [] (y ∷ z ∷ b) x e = cc
same_front (y ∷ []) [] x e = cc
same_front (y ∷ z ∷ a) [] x e = cc
same_front (y ∷ a) (z ∷ b) x e =
    let h : y ≡ z = cc in
    let t : a ++ x ∷ [] ≡ b ++ x ∷ [] = cc in
    ap₂ (λ u us. u ∷ us) h (same_front a b x t)

pub tokens_of-append : (a b : List Spot) → tokens_of (a ++ b) ≡ tokens_of a ++ tokens_of b
tokens_of-append [] b = refl
tokens_of-append (x ∷ a) b = ap (λ y. x.token ∷ y) (tokens_of-append a b)

-- tokens have a tree or a first fault
pub tree_or_fault : (own : Addr) (ts : List Spot) (end : ℕ) → ((f : Expr) × Reads own (tokens_of ts) f) ⊎ ((place : ℕ) × (k : FaultKind) × FirstFault ts end place k)
tree_or_fault own ts end = by_outcome (run ts end 0 start) refl
  where
    by_outcome : (o : Outcome) → run ts end 0 start ≡ o → ((f : Expr) × Reads own (tokens_of ts) f) ⊎ ((place : ℕ) × (k : FaultKind) × FirstFault ts end place k)
    by_outcome accepted e =
        let r = followed ts end 0 start e in
        let s : spelling r.0 ≡ tokens_of ts = sym (same_front (tokens_of ts) (spelling r.0) Token.End (r.3 ∙ ap (λ x. spelling r.0 ++ x) r.4)) in
        inl (meaning own r.0, accepted_reads own ts end r.0 r.2 s e)
    by_outcome (fault place n) e = inr (place, n, run_fault ts end place n e)

-- an accepted run has no first fault
pub accepted_faultless : (ts : List Spot) (end place : ℕ) (k : FaultKind) → run ts end 0 start ≡ accepted → FirstFault ts end place k → ⊥
accepted_faultless ts end place k e h =
    run_faultless ts end e (tokens_of h.before) h.token.token (tokens_of h.after)
    (sym (tokens_of-append ts (record { token = Token.End; place = end } ∷ [])) ∙ ap tokens_of h.text ∙ tokens_of-append h.before (h.token ∷ h.after)) k h.applies

-- and never both
pub never_both : (own : Addr) (ts : List Spot) (end place : ℕ) (n : FaultKind) (f : Expr) → Reads own (tokens_of ts) f → FirstFault ts end place n → ⊥
never_both own ts end place n f r h = accepted_faultless ts end place n (reads_accepted own ts end f r) h
