-- Tokens that differ in the numbers of texts alone have the same fault.
use Rattle.std.proofs.Common.{◌≡◌, ℕ, ◌+◌, List, [], ◌∷◌, length, map, true, false, Ok, Err, None, nat_le, ◌-◌, refl, ap₂, sym, ◌∙◌, subst, inl, inr}
use Rattle.std.specs.Prelude.{unwrap_or}
use Rattle.cell_values.specs.declared.interned.TextId.{TextId}
use Rattle.cell_values.specs.declared.TheConstants.{MAX_RANGE_CELLS}
use Rattle.cell_values.specs.Interned.{number_of}
use Rattle.cell_values.specs.Texts.{Texts}
use Rattle.formula_trees.specs.declared.TheConstants.{MAX_NODES, MAX_LEVELS}
use Rattle.formula_trees.specs.declared.functions.Kind.{Kind}
use Rattle.formula_trees.specs.declared.functions.Kind.TheVariants.{Plain, Place, Many, Exact}
use Rattle.formula_tokens.specs.declared.token.Literal.{Literal}
use Rattle.formula_tokens.specs.declared.token.Spot.{Spot}
use Rattle.formula_tokens.specs.declared.token.Token.{Token}
use Rattle.formula_tokens.specs.Lexemes.{Quoted, Other, Placed, lexemes}
use Rattle.formula_tokens.specs.Tokens.{spot_of, spots_of}
use Rattle.formula_grammar.specs.declared.faults.FaultKind.{FaultKind}
use Rattle.formula_grammar.specs.Fault.{FirstFault}
use Rattle.formula_grammar.specs.Reading.{FaultsStay}
use Rattle.formula_grammar.specs.Steps.{Frame, State, operand, operator, named, opened, argument, sheet, corner, colon, ended, finished, in_call, Move, move, mark_at, step, checked, Outcome, accepted, fault, run, run_on, on_argument}
use Rattle.formula_grammar.specs.Syntax.{Mark, kind_at}
use Rattle.formula_grammar.proofs.Law.{accepted_faultless}
use Rattle.formula_grammar.proofs.Verdict.{start, run_fault}
use Rattle.formula_grammar.proofs.Whole.{one_fault}

abbrev text_token : TextId → Token
text_token t = Token.Literal (Literal.Text t)

-- what a text literal does, whatever its number is
same_argument : (k : Kind) (fs : List Frame) (a b : TextId) → on_argument k fs (text_token a) ≡ on_argument k fs (text_token b)
same_argument Plain fs a b = refl
same_argument Place fs a b = refl
same_argument Many fs a b = refl
same_argument Exact fs a b = refl

same_move : (s : State) (a b : TextId) → move true s (text_token a) ≡ move true s (text_token b)
same_move (operand n fs) a b = refl
same_move (operator fs) a b = refl
same_move (named f n fs) a b = refl
same_move (opened f n fs) a b = same_argument (kind_at f 0) (in_call f 0 n ∷ fs) a b
same_move (argument k fs) a b = same_argument k fs a b
same_move (sheet k fs) a b = refl
same_move (corner Plain w fs) a b = refl
same_move (corner Place w fs) a b = refl
same_move (corner Many w fs) a b = refl
same_move (corner Exact w fs) a b = refl
same_move (colon w fs) a b = refl
same_move (ended fs) a b = refl
same_move finished a b = refl

same_mark : (s : State) (a b : TextId) → mark_at s (text_token a) ≡ mark_at s (text_token b)
same_mark (operand n fs) a b = refl
same_mark (operator fs) a b = refl
same_mark (named f n fs) a b = refl
same_mark (opened f n fs) a b = refl
same_mark (argument k fs) a b = refl
same_mark (sheet k fs) a b = refl
same_mark (corner k w fs) a b = refl
same_mark (colon w fs) a b = refl
same_mark (ended fs) a b = refl
same_mark finished a b = refl

same_step : (n : ℕ) (s : State) (a b : TextId) → step n s (text_token a) ≡ step n s (text_token b)
same_step n s a b = ap₂ (λ (m : Mark) (v : Move). checked false None None (nat_le m.level MAX_LEVELS) (nat_le m.nodes (MAX_NODES - n)) (nat_le m.cells MAX_RANGE_CELLS) v) (same_mark s a b) (same_move s a b)

run_from : (rest others : List Spot) (end n place : ℕ) (v : Move) → ((s : State) → run rest end n s ≡ run others end n s) → run_on (run rest end n) place v ≡ run_on (run others end n) place v
run_from rest others end n place (Ok s) f = f s
run_from rest others end n place (Err k) f = refl

abbrev number_in : Texts → List ℕ → TextId
number_in ts text = record { 0 = unwrap_or (number_of ts text) 0 }

-- the runs over a formula's tokens, over any texts
alike : (ts us : Texts) (ps : List Placed) (end n : ℕ) (s : State) → run (map (spot_of ts) ps) end n s ≡ run (map (spot_of us) ps) end n s
alike ts us [] end n s = refl
alike ts us ((place, Other t) ∷ ps) end n s = run_from (map (spot_of ts) ps) (map (spot_of us) ps) end (n + (mark_at s t).nodes) place (step n s t) (alike ts us ps end (n + (mark_at s t).nodes))
alike ts us ((place, Quoted text) ∷ ps) end n s =
    let a : TextId = number_in ts text in
    let b : TextId = number_in us text in
    run_from (map (spot_of ts) ps) (map (spot_of us) ps) end (n + (mark_at s (text_token a)).nodes) place (step n s (text_token a)) (alike ts us ps end (n + (mark_at s (text_token a)).nodes))
    ∙ ap₂ (λ (m : Mark) (v : Move). run_on (run (map (spot_of us) ps) end (n + m.nodes)) place v) (same_mark s a b) (same_step n s a b)

spots_alike : (names : List (List ℕ)) (ts us : Texts) (text : List ℕ) (end : ℕ) → run (spots_of names ts text) end 0 start ≡ run (spots_of names us text) end 0 start
unfolding spots_of
spots_alike names ts us text end = alike ts us (lexemes names text) end 0 start

-- so a first fault is one over any texts
first_stays : (a b : List Spot) (end place : ℕ) (k : FaultKind) → run a end 0 start ≡ run b end 0 start → FirstFault a end place k → FirstFault b end place k
first_stays a b end place k e f = by_outcome (run a end 0 start) refl
  where
    by_outcome : (o : Outcome) → run a end 0 start ≡ o → FirstFault b end place k
    by_outcome accepted h = absurd (accepted_faultless a end place k h f)
    by_outcome (fault p j) h =
        let same = one_fault a end p place j k (run_fault a end p j h) f in
        let moved = subst (λ (q : ℕ). FirstFault b end q j) same.0 (run_fault b end p j (sym e ∙ h)) in
        subst (λ (i : FaultKind). FirstFault b end place i) same.1 moved

pub faults_stay : FaultsStay
faults_stay names ts others text place k (inl h) = inl h
faults_stay names ts others text place k (inr h) = inr (h.0, first_stays (spots_of names ts text) (spots_of names others text) (length text) place k (spots_alike names ts others text (length text)) h.1)
