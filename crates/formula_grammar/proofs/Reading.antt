-- How the readers of parts go together.
use Rattle.std.proofs.Common.{Some, None, cond, ◌≡◌, ◌≢◌, ℕ, suc, ◌+◌, ◌-◌, ◌<◌, ◌≤◌, List, [], ◌∷◌, ◌++◌, length, drop, Bool, true, false, Option, Result, Ok, Err, IfOk, IfErr, OnOk, ◌⊎◌, nat_le, le-leb, refl, sym, ap, ap₂, ◌∙◌, subst, arith, append_assoc}
use Rattle.cell_values.specs.declared.address.Addr.{Addr}
use Rattle.cell_values.specs.declared.TheConstants.{MAX_RANGE_CELLS}
use Rattle.formula_trees.specs.declared.TheConstants.{MAX_NODES, MAX_LEVELS}
use Rattle.formula_trees.specs.declared.levels.TheConstants.{COMPARISON_LEVEL, JOIN_LEVEL, SUM_LEVEL, TERM_LEVEL}
use Rattle.formula_trees.specs.declared.tree.Fun.{Fun}
use Rattle.formula_trees.specs.declared.tree.Op.{Op}
use Rattle.formula_trees.specs.declared.tree.Sign.{Sign}
use Rattle.formula_trees.specs.declared.tree.Tree.{Tree}
use Rattle.formula_trees.specs.Expr.{Expr, Exprs, expr_of, Ref, Range, Unary, Binary, Call, End, More}
use Rattle.formula_trees.specs.declared.functions.Kind.{Kind}
use Rattle.formula_trees.specs.declared.functions.Kind.TheVariants.{Plain, Place, Many, Exact}
use Rattle.formula_trees.specs.Functions.{kind_of, enough, takes_more}
use Rattle.formula_trees.specs.Sound.{op_level}
use Rattle.formula_tokens.specs.declared.token.Literal.{Literal}
use Rattle.formula_tokens.specs.declared.token.Spot.{Spot}
use Rattle.formula_tokens.specs.declared.token.Token.{Token}
use Rattle.formula_tokens.specs.declared.token.Word.{Word}
use Rattle.formula_grammar.specs.declared.faults.FormulaFault.{FormulaFault}
use Rattle.formula_grammar.specs.declared.faults.FormulaFault.TheVariants.{Bad}
use Rattle.formula_grammar.specs.declared.faults.FaultKind.{FaultKind}
use Rattle.formula_grammar.specs.Fault.{own_fault, named_fault, tokens_of}
use Rattle.formula_grammar.specs.Syntax.{quiet, node, kind_at, is_alone, sign_op, target_meaning, target_spelling, only_joins, compare, only_sum, join, only_term, add, only_signed, multiply, plain, signed, literal, reference, group, call_none, call, last, more, value, cell, area, lone, spelling, joins_spelling, sums_spelling, term_spelling, signed_spelling, arguments_spelling, argument_spelling, ArgumentsFit, literal_meaning, reference_at, argument_meaning}
use Rattle.formula_grammar.specs.Steps.{Frame, in_group, in_call, State, operand, operator, named, opened, argument, sheet, corner, colon, ended, landed, if_counted, on_lone, on_sign, move, mark_at, open_levels, is_bad, checked, within, step, Outcome, fault, run, run_on, at_end, refused, Move}
use Rattle.formula_grammar.specs.Rest.{Rest, next_of, next_token, next_place, place_of, tokens_left, behind_next, run_rest, misfit, token_level, sign_token, begins_target, begins_colon, range_ahead, sheet_range_ahead}
use Rattle.formula_grammar.specs.Parts.{Fails, FailsNode, RunsOperand, FailsOperand, FailsSigned, FailsArguments, FailsArgument, FailsAlone, FailsTarget, FailsSecond, FailsSheetWord, FailsSecondWord, ReadsExpression, ReadsJoins, ReadsSums, ReadsTerm, ReadsSigned, ReadsPrimary, ReadsArguments, ReadsArgument, ReadsAlone, ReadsLone, ReadsTarget, ReadsSecond, ReadsSheetWord, Awaits, target_of}
use Rattle.formula_grammar.proofs.Verdict.{Passes}
use Rattle.std.proofs.lemmas.Bool.{lt-leb}
use Rattle.formula_grammar.proofs.Follows.{level_within}
use Rattle.formula_grammar.proofs.Accepted.{step_passes}

-- a token was next and is passed; it made so many nodes
pub record Took (t : Token) (k : ℕ) (old new : Rest) : Type 0 where
  pub spot : Spot
  pub is : old.spots ≡ spot ∷ new.spots
  pub token : spot.token ≡ t
  pub end : new.end ≡ old.end
  pub nodes : new.nodes ≡ old.nodes + k

took_spots : (spots rest : List Spot) (t : Token) → t ≢ Token.End → next_of spots ≡ t → rest ≡ drop 1 spots → (x : Spot) × (spots ≡ x ∷ rest) × (x.token ≡ t)
took_spots [] rest t n h d = absurd (n (sym h))
took_spots (x ∷ spots) rest t n h d = (x, ap (λ ys. x ∷ ys) (sym d), h)

pub took : (t : Token) (k : ℕ) (old new : Rest) → t ≢ Token.End → next_token old ≡ t → new ≡ behind_next old k → Took t k old new
took t k old new n h e =
    let x = took_spots old.spots new.spots t n h (ap (λ r. r.spots) e) in
    record { spot = x.0; is = x.1; token = x.2; end = ap (λ r. r.end) e; nodes = ap (λ r. r.nodes) e }

pub took_operator : (op : Op) (old new : Rest) → next_token old ≡ Token.Operator op → new ≡ behind_next old 1 → Took (Token.Operator op) 1 old new
took_operator op old new h e = took (Token.Operator op) 1 old new (λ x. cc) h e

pub took_spelled : (t : Token) (k : ℕ) (old new : Rest) → Took t k old new → tokens_left old ≡ t ∷ tokens_left new
took_spelled t k old new a = ap tokens_of a.is ∙ ap (λ u. u ∷ tokens_left new) a.token

pub took_shorter : (t : Token) (k : ℕ) (old new : Rest) → Took t k old new → length old.spots ≡ suc (length new.spots)
took_shorter t k old new a = ap length a.is

-- a run over a token that passes
took_run : (t : Token) (k : ℕ) (old new : Rest) (s s' : State) → Took t k old new → Passes old.nodes s t s' → (mark_at s t).nodes ≡ k → run_rest old s ≡ run_rest new s'
took_run t k old new s s' a p m =
    let count : old.nodes + (mark_at s t).nodes ≡ new.nodes = omega (arith, m, a.nodes) in
    ap (λ ts. run ts old.end old.nodes s) a.is
    ∙ ap (λ u. run_on (run new.spots old.end (old.nodes + (mark_at s u).nodes)) a.spot.place (step old.nodes s u)) a.token
    ∙ ap (run_on (run new.spots old.end (old.nodes + (mark_at s t).nodes)) a.spot.place) (step_passes old.nodes s t s' p)
    ∙ ap₂ (λ e n. run new.spots e n s') (sym a.end) count

-- a token without faults that does nothing but move, and one that makes a node
pub run_quiet : (t : Token) (old new : Rest) (s s' : State) → Took t 0 old new → move true s t ≡ Ok s' → own_fault t ≡ None → named_fault t ≡ None → mark_at s t ≡ quiet → run_rest old s ≡ run_rest new s'
run_quiet t old new s s' a m o i q =
    let level = ap (λ x. x.level) q in
    let nodes = ap (λ x. x.nodes) q in
    let cells = ap (λ x. x.cells) q in
    took_run t 0 old new s s' a (record { moved = m; known = o; inside = i; low = omega (arith, level); few = omega (arith, nodes); small = omega (arith, cells) }) nodes

run_node : (t : Token) (old new : Rest) (s s' : State) → Took t 1 old new → old.nodes < MAX_NODES → move true s t ≡ Ok s' → own_fault t ≡ None → named_fault t ≡ None → mark_at s t ≡ node → run_rest old s ≡ run_rest new s'
run_node t old new s s' a r m o i q =
    let level = ap (λ x. x.level) q in
    let nodes = ap (λ x. x.nodes) q in
    let cells = ap (λ x. x.cells) q in
    took_run t 1 old new s s' a (record { moved = m; known = o; inside = i; low = omega (arith, level); few = omega (arith, nodes, r); small = omega (arith, cells) }) nodes

pub fails_by : (o q : Outcome) (er : FormulaFault) → o ≡ q → Fails er q → Fails er o
fails_by o q er h = subst (Fails er) (sym h)

-- where a token that makes a node fails
pub fails_at : (t : Token) (old : Rest) (e : FormulaFault) (s s' : State) → next_token old ≡ t → FailsNode old e → move true s t ≡ Ok s' → (mark_at s t).level ≤ MAX_LEVELS → (mark_at s t).nodes ≡ 1 → (mark_at s t).cells ≤ MAX_RANGE_CELLS → Fails e (run_rest old s)
fails_at t old e s s' h f m l n c =
    f s s' (subst (λ u. move true s u ≡ Ok s') (sym h) m) (subst (λ u. (mark_at s u).level ≤ MAX_LEVELS) (sym h) l) (subst (λ u. (mark_at s u).nodes ≡ 1) (sym h) n) (subst (λ u. (mark_at s u).cells ≤ MAX_RANGE_CELLS) (sym h) c)

-- a run whose next token is refused
stopped : (ts : List Spot) (end n : ℕ) (k : FaultKind) (s : State) → step n s (next_of ts) ≡ Err k → run ts end n s ≡ fault (place_of ts end) k
stopped [] end n k s e = ap (λ m. at_end end m) e
stopped (t ∷ ts) end n k s e = ap (run_on (run ts end (n + (mark_at s t.token).nodes)) t.place) e

pub fails_stopped : (old : Rest) (e : FormulaFault) (k : FaultKind) (s : State) → e ≡ Bad (next_place old) k → step old.nodes s (next_token old) ≡ Err k → Fails e (run_rest old s)
fails_stopped old e k s b h = subst (λ x. Fails x (run_rest old s)) (sym b) (stopped old.spots old.end old.nodes k s h)

misfits : (n : ℕ) (s : State) (t : Token) → move true s t ≡ Err FaultKind.Misplaced → step n s t ≡ Err (misfit t)
misfits n s t m =
    ap (checked (is_bad t) (own_fault t) (named_fault t) (nat_le (mark_at s t).level MAX_LEVELS) (nat_le (mark_at s t).nodes (MAX_NODES - n)) (nat_le (mark_at s t).cells MAX_RANGE_CELLS)) m ∙ by_bad (is_bad t)
  where
    by_bad : (b : Bool) → ◌≡◌ {A = Move} (refused b FaultKind.Misplaced) (Err (cond b FaultKind.BadCharacter FaultKind.Misplaced))
    by_bad true = refl
    by_bad false = refl

pub fails_misfit : (old : Rest) (e : FormulaFault) (s : State) → e ≡ Bad (next_place old) (misfit (next_token old)) → move true s (next_token old) ≡ Err FaultKind.Misplaced → Fails e (run_rest old s)
fails_misfit old e s b h = fails_stopped old e (misfit (next_token old)) s b (misfits old.nodes s (next_token old) h)

-- a token that makes a node and has a fault, its own or of what it names
pub fails_own : (old : Rest) (e : FormulaFault) (k : FaultKind) → e ≡ Bad (next_place old) k → own_fault (next_token old) ≡ Some k → FailsNode old e
fails_own old e k b o s s' m l n c =
    let t = next_token old in
    fails_stopped old e k s b
    (ap₂ (λ x v. checked (is_bad t) x (named_fault t) (nat_le (mark_at s t).level MAX_LEVELS) (nat_le (mark_at s t).nodes (MAX_NODES - old.nodes)) (nat_le (mark_at s t).cells MAX_RANGE_CELLS) v) o m)

within_named : (bad low few small : Bool) (o l : Option FaultKind) (k : FaultKind) (s : State) → o ≡ None → l ≡ Some k → low ≡ true → few ≡ true → small ≡ true → checked bad o l low few small (Ok s) ≡ Err k
within_named bad true true true None (Some j) k s u n h f c = ap Err (some_same j k n)
  where
    some_same : (j k : FaultKind) → Some j ≡ Some k → j ≡ k
    some_same j k e = cc
within_named bad low few small (Some o) l k s u n h f c = cc
within_named bad low few small None None k s u n h f c = cc
within_named bad false few small None (Some j) k s u n h f c = cc
within_named bad true false small None (Some j) k s u n h f c = cc
within_named bad true true false None (Some j) k s u n h f c = cc

pub fails_named : (old : Rest) (e : FormulaFault) (k : FaultKind) → e ≡ Bad (next_place old) k → own_fault (next_token old) ≡ None → old.nodes < MAX_NODES → named_fault (next_token old) ≡ Some k → FailsNode old e
fails_named old e k b o r i s s' m l n c =
    let t = next_token old in
    fails_stopped old e k s b
    (ap (checked (is_bad t) (own_fault t) (named_fault t) (nat_le (mark_at s t).level MAX_LEVELS) (nat_le (mark_at s t).nodes (MAX_NODES - old.nodes)) (nat_le (mark_at s t).cells MAX_RANGE_CELLS)) m
    ∙ within_named (is_bad t) (nat_le (mark_at s t).level MAX_LEVELS) (nat_le (mark_at s t).nodes (MAX_NODES - old.nodes)) (nat_le (mark_at s t).cells MAX_RANGE_CELLS) (own_fault t) (named_fault t) k s' o i (le-leb _ _ l) (le-leb _ _ (omega (arith, n, r))) (le-leb _ _ c))

pub none_left : (o : Option FaultKind) → ((k : FaultKind) → o ≢ Some k) → o ≡ None
none_left (Some k) h = absurd (h k refl)
none_left None h = refl

-- literals that are arguments by themselves
alone_move : (k : Kind) (l : Literal) (fs : List Frame) → (k ≡ Place) ⊎ (k ≡ Exact) → is_alone k l ≡ true → move true (argument k fs) (Token.Literal l) ≡ Ok (ended fs)
alone_move Plain l fs k a = cc
alone_move Many l fs k a = cc
alone_move Place l fs k a = ap (λ b. on_lone b fs) a
alone_move Exact l fs k a = ap (λ b. on_lone b fs) a

pub fails_lone : (k : Kind) (l : Literal) (old : Rest) (e : FormulaFault) → next_token old ≡ Token.Literal l → (k ≡ Place) ⊎ (k ≡ Exact) → is_alone k l ≡ true → FailsNode old e → FailsAlone k old e
fails_lone k l old e h kind a f fs = fails_at (Token.Literal l) old e (argument k fs) (ended fs) h f (alone_move k l fs kind a) (omega arith) refl (omega arith)

-- references
pub fails_sheet_word : (w : Word) (old : Rest) (e : FormulaFault) → next_token old ≡ Token.SheetReference w → FailsNode old e → FailsSheetWord old e
fails_sheet_word w old e h f k fs = fails_at (Token.SheetReference w) old e (sheet k fs) (landed k w fs) h f refl (omega arith) refl (omega arith)

run_prefix : (s : ℕ) (k : Kind) (fs : List Frame) (from : State) (old mid : Rest) → Took (Token.Prefix (Some s)) 0 old mid → Awaits k fs from (next_token old) → run_rest old from ≡ run_rest mid (sheet k fs)
run_prefix s k fs from old mid t a = run_quiet (Token.Prefix (Some s)) old mid from (sheet k fs) t (a.prefix (Some s)) refl refl (a.prefix_mark (Some s))

pub fails_prefixed : (s : ℕ) (old mid : Rest) (e : FormulaFault) → Took (Token.Prefix (Some s)) 0 old mid → FailsSheetWord mid e → FailsTarget old e
fails_prefixed s old mid e t f k fs from a = fails_by _ _ e (run_prefix s k fs from old mid t a) (f k fs)

pub target_prefixed : (s : ℕ) (w : Word) (old mid new : Rest) → Took (Token.Prefix (Some s)) 0 old mid → ReadsSheetWord mid new w → ReadsTarget old new (Some s) w
target_prefixed s w old mid new t a = record {
  spelled = took_spelled _ _ old mid t ∙ ap (λ ts. Token.Prefix (Some s) ∷ ts) a.spelled;
  inside = a.inside;
  runs = λ k fs from h. run_prefix s k fs from old mid t h ∙ a.runs k fs;
}

awaits_place : (fs : List Frame) (t : Token) → ((l : Literal) → t ≢ Token.Literal l) → Awaits Place fs (argument Place fs) t
awaits_place fs t h = record { word = λ w. refl; word_mark = λ w. refl; prefix = λ x. refl; prefix_mark = λ x. refl; other = by_token t h }
  where
    by_token : (t : Token) → ((l : Literal) → t ≢ Token.Literal l) → begins_target t ≡ false → move true (argument Place fs) t ≡ Err FaultKind.Misplaced
    by_token (Token.Literal l) h b = absurd (h l refl)
    by_token (Token.Reference w) h b = cc
    by_token (Token.Prefix x) h b = cc
    by_token t h b = refl

awaits_many : (fs : List Frame) (t : Token) → begins_target t ≡ true → Awaits Many fs (argument Many fs) t
awaits_many fs t h = record { word = λ w. refl; word_mark = λ w. refl; prefix = λ x. refl; prefix_mark = λ x. refl; other = λ b. let x : false ≡ true = sym b ∙ h in cc }

awaits_operand : (s : ℕ) (fs : List Frame) (t : Token) → begins_target t ≡ true → Awaits Plain fs (operand s fs) t
awaits_operand s fs t h = record { word = λ w. refl; word_mark = λ w. refl; prefix = λ x. refl; prefix_mark = λ x. refl; other = λ b. let x : false ≡ true = sym b ∙ h in cc }

pub fails_cells : (old : Rest) (e : FormulaFault) → ((l : Literal) → next_token old ≢ Token.Literal l) → FailsTarget old e → FailsAlone Place old e
fails_cells old e h f fs = f Place fs (argument Place fs) (awaits_place fs (next_token old) h)

pub fails_reference : (old : Rest) (e : FormulaFault) → begins_target (next_token old) ≡ true → FailsTarget old e → (d : ℕ) → FailsSigned d old e
fails_reference old e h f d s fs k = f Plain fs (operand s fs) (awaits_operand s fs (next_token old) h)

ahead_target : (ts : List Spot) → range_ahead (tokens_of ts) ≡ true → begins_target (next_of ts) ≡ true
ahead_target [] h = cc
ahead_target (t ∷ ts) h = by_token t.token h
  where
    by_token : (u : Token) → range_ahead (u ∷ tokens_of ts) ≡ true → begins_target u ≡ true
    by_token (Token.Reference w) h = refl
    by_token (Token.Prefix x) h = refl
    by_token u h = cc

pub fails_range : (old : Rest) (e : FormulaFault) → range_ahead (tokens_left old) ≡ true → FailsTarget old e → FailsAlone Many old e
fails_range old e h f fs = f Many fs (argument Many fs) (awaits_many fs (next_token old) (ahead_target old.spots h))

run_colon : (k : Kind) (w : Word) (fs : List Frame) (old mid : Rest) → Took Token.Colon 0 old mid → run_rest old (corner k w fs) ≡ run_rest mid (colon w fs)
run_colon k w fs old mid t = run_quiet Token.Colon old mid (corner k w fs) (colon w fs) t refl refl refl refl

pub fails_colon : (w : Word) (old mid : Rest) (e : FormulaFault) → Took Token.Colon 0 old mid → FailsSecondWord w mid e → FailsSecond w old e
fails_colon w old mid e t f k fs = fails_by _ _ e (run_colon k w fs old mid t) (f fs)

meaning_of : (own : Addr) (s : Option ℕ) (w : Word) → target_meaning own (target_of s w) ≡ reference_at own s w
meaning_of own None w = refl
meaning_of own (Some s) w = refl

range_of : (own : Addr) (s : Option ℕ) (v w : Word) → argument_meaning own (area (target_of s v) w) ≡ Range (reference_at own s v) (reference_at own s w)
range_of own None v w = refl
range_of own (Some s) v w = refl

range_spelled : (s : Option ℕ) (v w : Word) (old mid new : Rest) → tokens_left old ≡ target_spelling (target_of s v) ++ tokens_left mid → tokens_left mid ≡ Token.Colon ∷ Token.Reference w ∷ tokens_left new → tokens_left old ≡ argument_spelling (area (target_of s v) w) ++ tokens_left new
range_spelled s v w old mid new a b = a ∙ ap (λ ts. target_spelling (target_of s v) ++ ts) b ∙ sym (append_assoc (target_spelling (target_of s v)) (Token.Colon ∷ Token.Reference w ∷ []) (tokens_left new))

pub cells_range : (own : Addr) (s : Option ℕ) (w : Word) (old mid new : Rest) (tree : Expr) → ((l : Literal) → next_token old ≢ Token.Literal l) → ReadsTarget old mid s w → ReadsSecond own s w mid new tree → ReadsAlone own Place old new tree
cells_range own s w old mid new tree h a b = record {
  part = area (target_of s w) b.second;
  fits = tt;
  kind = tt;
  spelled = range_spelled s w b.second old mid new a.spelled b.spelled;
  means = b.means ∙ sym (range_of own s w b.second);
  runs = λ fs. a.runs Place fs (argument Place fs) (awaits_place fs (next_token old) h) ∙ b.runs Place fs;
}

pub many_range : (own : Addr) (s : Option ℕ) (w : Word) (old mid new : Rest) (tree : Expr) → range_ahead (tokens_left old) ≡ true → ReadsTarget old mid s w → ReadsSecond own s w mid new tree → ReadsAlone own Many old new tree
many_range own s w old mid new tree h a b = record {
  part = area (target_of s w) b.second;
  fits = tt;
  kind = tt;
  spelled = range_spelled s w b.second old mid new a.spelled b.spelled;
  means = b.means ∙ sym (range_of own s w b.second);
  runs = λ fs. a.runs Many fs (argument Many fs) (awaits_many fs (next_token old) (ahead_target old.spots h)) ∙ b.runs Many fs;
}

pub fails_cells_second : (s : Option ℕ) (w : Word) (old mid : Rest) (e : FormulaFault) → ((l : Literal) → next_token old ≢ Token.Literal l) → ReadsTarget old mid s w → FailsSecond w mid e → FailsAlone Place old e
fails_cells_second s w old mid e h a f fs = fails_by _ _ e (a.runs Place fs (argument Place fs) (awaits_place fs (next_token old) h)) (f Place fs)

pub fails_range_second : (s : Option ℕ) (w : Word) (old mid : Rest) (e : FormulaFault) → range_ahead (tokens_left old) ≡ true → ReadsTarget old mid s w → FailsSecond w mid e → FailsAlone Many old e
fails_range_second s w old mid e h a f fs = fails_by _ _ e (a.runs Many fs (argument Many fs) (awaits_many fs (next_token old) (ahead_target old.spots h))) (f Many fs)

run_no_range : (ts : List Spot) (end n : ℕ) (w : Word) (fs : List Frame) → next_of ts ≢ Token.Colon → run ts end n (corner Place w fs) ≡ run ts end n (ended fs)
run_no_range [] end n w fs h = refl
run_no_range (t ∷ ts) end n w fs h = by_token t.token h
  where
    by_token : (u : Token) → u ≢ Token.Colon → run_on (run ts end (n + (mark_at (corner Place w fs) u).nodes)) t.place (step n (corner Place w fs) u) ≡ run_on (run ts end (n + (mark_at (ended fs) u).nodes)) t.place (step n (ended fs) u)
    by_token Token.Colon h = absurd (h refl)
    by_token (Token.Operator op) h = refl
    by_token u h = refl

pub cells_cell : (own : Addr) (s : Option ℕ) (w : Word) (old new : Rest) (tree : Expr) → ((l : Literal) → next_token old ≢ Token.Literal l) → ReadsTarget old new s w → next_token new ≢ Token.Colon → tree ≡ Ref (reference_at own s w) → ReadsAlone own Place old new tree
cells_cell own s w old new tree h a c m = record {
  part = cell (target_of s w);
  fits = tt;
  kind = tt;
  spelled = a.spelled;
  means = m ∙ ap Ref (sym (meaning_of own s w));
  runs = λ fs. a.runs Place fs (argument Place fs) (awaits_place fs (next_token old) h) ∙ run_no_range new.spots new.end new.nodes w fs c;
}

pub primary_reference : (own : Addr) (s : Option ℕ) (w : Word) (old new : Rest) (tree : Expr) → begins_target (next_token old) ≡ true → ReadsTarget old new s w → tree ≡ Ref (reference_at own s w) → (d : ℕ) → ReadsPrimary own d old new tree
primary_reference own s w old new tree h a m d = record {
  part = reference (target_of s w);
  fits = tt;
  spelled = a.spelled;
  means = m ∙ ap Ref (sym (meaning_of own s w));
  runs = λ k fs e. a.runs Plain fs (operand k fs) (awaits_operand k fs (next_token old) h);
}

-- the same of answers
ok_of : (r : Result Tree FormulaFault) (P Q : Expr → Type 0) → ((x : Expr) → P x → Q x) → IfOk r (λ tree. P (expr_of tree)) → IfOk r (λ tree. Q (expr_of tree))
ok_of (Ok tree) P Q g a = g (expr_of tree) a
ok_of (Err e) P Q g a = tt

err_of : (r : Result Tree FormulaFault) (P Q : FormulaFault → Type 0) → ((e : FormulaFault) → P e → Q e) → IfErr r P → IfErr r Q
err_of (Ok tree) P Q g a = tt
err_of (Err e) P Q g a = g e a

pub cells_range_ok : (own : Addr) (s : Option ℕ) (w : Word) (old mid new : Rest) (r : Result Tree FormulaFault) → ((l : Literal) → next_token old ≢ Token.Literal l) → ReadsTarget old mid s w → IfOk r (λ tree. ReadsSecond own s w mid new (expr_of tree)) → IfOk r (λ tree. ReadsAlone own Place old new (expr_of tree))
cells_range_ok own s w old mid new r h a = ok_of r (ReadsSecond own s w mid new) (ReadsAlone own Place old new) (λ x b. cells_range own s w old mid new x h a b)

pub many_range_ok : (own : Addr) (s : Option ℕ) (w : Word) (old mid new : Rest) (r : Result Tree FormulaFault) → range_ahead (tokens_left old) ≡ true → ReadsTarget old mid s w → IfOk r (λ tree. ReadsSecond own s w mid new (expr_of tree)) → IfOk r (λ tree. ReadsAlone own Many old new (expr_of tree))
many_range_ok own s w old mid new r h a = ok_of r (ReadsSecond own s w mid new) (ReadsAlone own Many old new) (λ x b. many_range own s w old mid new x h a b)

pub cells_range_err : (s : Option ℕ) (w : Word) (old mid : Rest) (r : Result Tree FormulaFault) → ((l : Literal) → next_token old ≢ Token.Literal l) → ReadsTarget old mid s w → IfErr r (λ e. FailsSecond w mid e) → IfErr r (λ e. FailsAlone Place old e)
cells_range_err s w old mid r h a = err_of r (FailsSecond w mid) (FailsAlone Place old) (λ e f. fails_cells_second s w old mid e h a f)

pub many_range_err : (s : Option ℕ) (w : Word) (old mid : Rest) (r : Result Tree FormulaFault) → range_ahead (tokens_left old) ≡ true → ReadsTarget old mid s w → IfErr r (λ e. FailsSecond w mid e) → IfErr r (λ e. FailsAlone Many old e)
many_range_err s w old mid r h a = err_of r (FailsSecond w mid) (FailsAlone Many old) (λ e f. fails_range_second s w old mid e h a f)

-- operators
run_operator : (op : Op) (fs : List Frame) (old new : Rest) → Took (Token.Operator op) 1 old new → old.nodes < MAX_NODES → run_rest old (operator fs) ≡ run_rest new (operand 0 fs)
run_operator op fs old new a h = run_node (Token.Operator op) old new (operator fs) (operand 0 fs) a h refl refl refl refl

runs_over : (d : ℕ) (op : Op) (old mid mid' : Rest) → RunsOperand d old mid → Took (Token.Operator op) 1 mid mid' → mid.nodes < MAX_NODES → (fs : List Frame) → open_levels fs ≡ d → run_rest old (operand 0 fs) ≡ run_rest mid' (operand 0 fs)
runs_over d op old mid mid' r e n fs h = r fs h ∙ run_operator op fs mid mid' e n

pub expression_first : (own : Addr) (d : ℕ) (old new : Rest) (x : Expr) → ReadsJoins own d old new x → ReadsExpression own d old new x
expression_first own d old new x a = record { part = only_joins a.part; fits = a.fits; spelled = a.spelled; means = a.means; runs = a.runs }

pub expression_more : (own : Addr) (d : ℕ) (op : Op) (old mid mid' new : Rest) (x y z : Expr) → ReadsExpression own d old mid x → Took (Token.Operator op) 1 mid mid' → mid.nodes < MAX_NODES → op_level op ≡ COMPARISON_LEVEL → ReadsJoins own d mid' new y → z ≡ Binary op x y → ReadsExpression own d old new z
expression_more own d op old mid mid' new x y z a e n l b m = record {
  part = compare a.part op b.part;
  fits = (a.fits, l, b.fits);
  spelled = a.spelled ∙ ap (λ ts. spelling a.part ++ ts) (took_spelled _ _ mid mid' e ∙ ap (λ ts. Token.Operator op ∷ ts) b.spelled) ∙ sym (append_assoc (spelling a.part) (Token.Operator op ∷ joins_spelling b.part) (tokens_left new));
  means = m ∙ ap₂ (Binary op) a.means b.means;
  runs = λ fs k. runs_over d op old mid mid' a.runs e n fs k ∙ b.runs fs k;
}

pub joins_first : (own : Addr) (d : ℕ) (old new : Rest) (x : Expr) → ReadsSums own d old new x → ReadsJoins own d old new x
joins_first own d old new x a = record { part = only_sum a.part; fits = a.fits; spelled = a.spelled; means = a.means; runs = a.runs }

pub joins_more : (own : Addr) (d : ℕ) (op : Op) (old mid mid' new : Rest) (x y z : Expr) → ReadsJoins own d old mid x → Took (Token.Operator op) 1 mid mid' → mid.nodes < MAX_NODES → op_level op ≡ JOIN_LEVEL → ReadsSums own d mid' new y → z ≡ Binary op x y → ReadsJoins own d old new z
joins_more own d op old mid mid' new x y z a e n l b m = record {
  part = join a.part op b.part;
  fits = (a.fits, l, b.fits);
  spelled = a.spelled ∙ ap (λ ts. joins_spelling a.part ++ ts) (took_spelled _ _ mid mid' e ∙ ap (λ ts. Token.Operator op ∷ ts) b.spelled) ∙ sym (append_assoc (joins_spelling a.part) (Token.Operator op ∷ sums_spelling b.part) (tokens_left new));
  means = m ∙ ap₂ (Binary op) a.means b.means;
  runs = λ fs k. runs_over d op old mid mid' a.runs e n fs k ∙ b.runs fs k;
}

pub sums_first : (own : Addr) (d : ℕ) (old new : Rest) (x : Expr) → ReadsTerm own d old new x → ReadsSums own d old new x
sums_first own d old new x a = record { part = only_term a.part; fits = a.fits; spelled = a.spelled; means = a.means; runs = a.runs }

pub sums_more : (own : Addr) (d : ℕ) (op : Op) (old mid mid' new : Rest) (x y z : Expr) → ReadsSums own d old mid x → Took (Token.Operator op) 1 mid mid' → mid.nodes < MAX_NODES → op_level op ≡ SUM_LEVEL → ReadsTerm own d mid' new y → z ≡ Binary op x y → ReadsSums own d old new z
sums_more own d op old mid mid' new x y z a e n l b m = record {
  part = add a.part op b.part;
  fits = (a.fits, l, b.fits);
  spelled = a.spelled ∙ ap (λ ts. sums_spelling a.part ++ ts) (took_spelled _ _ mid mid' e ∙ ap (λ ts. Token.Operator op ∷ ts) b.spelled) ∙ sym (append_assoc (sums_spelling a.part) (Token.Operator op ∷ term_spelling b.part) (tokens_left new));
  means = m ∙ ap₂ (Binary op) a.means b.means;
  runs = λ fs k. runs_over d op old mid mid' a.runs e n fs k ∙ b.runs fs k;
}

pub term_first : (own : Addr) (d : ℕ) (old new : Rest) (x : Expr) → ReadsSigned own d old new x → ReadsTerm own d old new x
term_first own d old new x a = record { part = only_signed a.part; fits = a.fits; spelled = a.spelled; means = a.means; runs = λ fs k. a.runs 0 fs (omega (arith, k)) }

pub term_more : (own : Addr) (d : ℕ) (op : Op) (old mid mid' new : Rest) (x y z : Expr) → ReadsTerm own d old mid x → Took (Token.Operator op) 1 mid mid' → mid.nodes < MAX_NODES → op_level op ≡ TERM_LEVEL → ReadsSigned own d mid' new y → z ≡ Binary op x y → ReadsTerm own d old new z
term_more own d op old mid mid' new x y z a e n l b m = record {
  part = multiply a.part op b.part;
  fits = (a.fits, l, b.fits);
  spelled = a.spelled ∙ ap (λ ts. term_spelling a.part ++ ts) (took_spelled _ _ mid mid' e ∙ ap (λ ts. Token.Operator op ∷ ts) b.spelled) ∙ sym (append_assoc (term_spelling a.part) (Token.Operator op ∷ signed_spelling b.part) (tokens_left new));
  means = m ∙ ap₂ (Binary op) a.means b.means;
  runs = λ fs k. runs_over d op old mid mid' a.runs e n fs k ∙ b.runs 0 fs (omega (arith, k));
}

pub fails_over : (d : ℕ) (op : Op) (old mid mid' : Rest) (e : FormulaFault) → RunsOperand d old mid → Took (Token.Operator op) 1 mid mid' → mid.nodes < MAX_NODES → FailsOperand d mid' e → FailsOperand d old e
fails_over d op old mid mid' e r h n f fs k = fails_by _ _ e (runs_over d op old mid mid' r h n fs k) (f fs k)

-- behind an operand the operator itself fails
pub fails_operator : (d : ℕ) (op : Op) (old mid : Rest) (e : FormulaFault) → RunsOperand d old mid → next_token mid ≡ Token.Operator op → FailsNode mid e → FailsOperand d old e
fails_operator d op old mid e r h f fs k = fails_by _ _ e (r fs k) (fails_at (Token.Operator op) mid e (operator fs) (operand 0 fs) h f refl (omega arith) refl (omega arith))

pub fails_signed : (d : ℕ) (old : Rest) (e : FormulaFault) → FailsSigned d old e → FailsOperand d old e
fails_signed d old e f fs k = f 0 fs (omega (arith, k))

-- signs
pub sign_is : (t : Token) (sign : Sign) → sign_token t ≡ Some sign → t ≡ Token.Operator (sign_op sign)
sign_is (Token.Operator Op.Add) Sign.Plus e = refl
sign_is (Token.Operator Op.Add) Sign.Minus e = cc
sign_is (Token.Operator Op.Sub) Sign.Minus e = refl
sign_is (Token.Operator Op.Sub) Sign.Plus e = cc
sign_is (Token.Operator op) sign e = cc
sign_is t sign e = cc

sign_moves : (sign : Sign) (s : ℕ) (fs : List Frame) → move true (operand s fs) (Token.Operator (sign_op sign)) ≡ Ok (operand (suc s) fs)
sign_moves Sign.Plus s fs = refl
sign_moves Sign.Minus s fs = refl

run_signing : (sign : Sign) (d s : ℕ) (fs : List Frame) (old new : Rest) → Took (Token.Operator (sign_op sign)) 1 old new → s + open_levels fs ≡ d → d < MAX_LEVELS → old.nodes < MAX_NODES → run_rest old (operand s fs) ≡ run_rest new (operand (suc s) fs)
run_signing sign d s fs old new a h l n =
    took_run (Token.Operator (sign_op sign)) 1 old new (operand s fs) (operand (suc s) fs) a (record { moved = sign_moves sign s fs; known = refl; inside = refl; low = omega (arith, h, l); few = omega (arith, n); small = omega arith }) refl

pub signed_plain : (own : Addr) (d : ℕ) (old new : Rest) (r : Result Tree FormulaFault) → IfOk r (λ tree. ReadsPrimary own d old new (expr_of tree)) → IfOk r (λ tree. ReadsSigned own d old new (expr_of tree))
signed_plain own d old new r = ok_of r (ReadsPrimary own d old new) (ReadsSigned own d old new) (λ x a. record { part = plain a.part; fits = a.fits; spelled = a.spelled; means = a.means; runs = a.runs })

pub signed_sign : (own : Addr) (sign : Sign) (d : ℕ) (old mid new : Rest) (x y : Expr) → Took (Token.Operator (sign_op sign)) 1 old mid → d < MAX_LEVELS → old.nodes < MAX_NODES → ReadsSigned own (d + 1) mid new x → y ≡ Unary sign x → ReadsSigned own d old new y
signed_sign own sign d old mid new x y e l n a m = record {
  part = signed sign a.part;
  fits = a.fits;
  spelled = took_spelled _ _ old mid e ∙ ap (λ ts. Token.Operator (sign_op sign) ∷ ts) a.spelled;
  means = m ∙ ap (Unary sign) a.means;
  runs = λ s fs k. run_signing sign d s fs old mid e k l n ∙ a.runs (suc s) fs (omega (arith, k));
}

pub fails_signing : (sign : Sign) (d : ℕ) (old mid : Rest) (e : FormulaFault) → Took (Token.Operator (sign_op sign)) 1 old mid → d < MAX_LEVELS → old.nodes < MAX_NODES → FailsSigned (d + 1) mid e → FailsSigned d old e
fails_signing sign d old mid e h l n f s fs k = fails_by _ _ e (run_signing sign d s fs old mid h k l n) (f (suc s) fs (omega (arith, k)))

pub fails_sign : (sign : Sign) (d : ℕ) (old : Rest) (e : FormulaFault) → next_token old ≡ Token.Operator (sign_op sign) → d < MAX_LEVELS → FailsNode old e → FailsSigned d old e
fails_sign sign d old e h l f s fs k = fails_at (Token.Operator (sign_op sign)) old e (operand s fs) (operand (suc s) fs) h f (sign_moves sign s fs) (omega (arith, k, l)) refl (omega arith)

-- a token without faults of its own that opens a level too high
step_deep : (n : ℕ) (s s' : State) (t : Token) → move true s t ≡ Ok s' → own_fault t ≡ None → MAX_LEVELS < (mark_at s t).level → step n s t ≡ Err FaultKind.TooDeep
step_deep n s s' t m o h =
    ap₂ (λ e v. checked (is_bad t) e (named_fault t) (nat_le (mark_at s t).level MAX_LEVELS) (nat_le (mark_at s t).nodes (MAX_NODES - n)) (nat_le (mark_at s t).cells MAX_RANGE_CELLS) v) o m
    ∙ ap (λ b. within None (named_fault t) b (nat_le (mark_at s t).nodes (MAX_NODES - n)) (nat_le (mark_at s t).cells MAX_RANGE_CELLS) s') (lt-leb _ _ h)

fails_deep : (old : Rest) (e : FormulaFault) (s s' : State) (t : Token) → next_token old ≡ t → e ≡ Bad (next_place old) FaultKind.TooDeep → move true s t ≡ Ok s' → own_fault t ≡ None → MAX_LEVELS < (mark_at s t).level → Fails e (run_rest old s)
fails_deep old e s s' t h b m o l = fails_stopped old e FaultKind.TooDeep s b (ap (step old.nodes s) h ∙ step_deep old.nodes s s' t m o l)

pub fails_deep_sign : (sign : Sign) (d : ℕ) (old : Rest) (e : FormulaFault) → next_token old ≡ Token.Operator (sign_op sign) → MAX_LEVELS ≤ d → e ≡ Bad (next_place old) FaultKind.TooDeep → FailsSigned d old e
fails_deep_sign sign d old e h l b s fs k = fails_deep old e (operand s fs) (operand (suc s) fs) (Token.Operator (sign_op sign)) h b (sign_moves sign s fs) refl (omega (arith, k, l))

pub fails_deep_group : (d : ℕ) (old : Rest) (e : FormulaFault) → next_token old ≡ Token.LeftParen → MAX_LEVELS ≤ d → e ≡ Bad (next_place old) FaultKind.TooDeep → FailsSigned d old e
fails_deep_group d old e h l b s fs k = fails_deep old e (operand s fs) (operand 0 (in_group s ∷ fs)) Token.LeftParen h b refl refl (omega (arith, k, l))

-- primaries
pub primary_literal : (own : Addr) (d : ℕ) (l : Literal) (old new : Rest) (x : Expr) → Took (Token.Literal l) 1 old new → old.nodes < MAX_NODES → own_fault (Token.Literal l) ≡ None → x ≡ literal_meaning l → ReadsPrimary own d old new x
primary_literal own d l old new x e n o m = record {
  part = literal l;
  fits = tt;
  spelled = took_spelled _ _ old new e;
  means = m;
  runs = λ s fs k. run_node (Token.Literal l) old new (operand s fs) (operator fs) e n refl o refl refl;
}

pub fails_literal : (l : Literal) (d : ℕ) (old : Rest) (e : FormulaFault) → next_token old ≡ Token.Literal l → FailsNode old e → FailsSigned d old e
fails_literal l d old e h f s fs k = fails_at (Token.Literal l) old e (operand s fs) (operator fs) h f refl (omega arith) refl (omega arith)

run_left : (d s : ℕ) (fs : List Frame) (old new : Rest) → Took Token.LeftParen 0 old new → s + open_levels fs ≡ d → d < MAX_LEVELS → run_rest old (operand s fs) ≡ run_rest new (operand 0 (in_group s ∷ fs))
run_left d s fs old new a h l = took_run Token.LeftParen 0 old new (operand s fs) (operand 0 (in_group s ∷ fs)) a (record { moved = refl; known = refl; inside = refl; low = omega (arith, h, l); few = omega arith; small = omega arith }) refl

run_right_group : (s : ℕ) (fs : List Frame) (old new : Rest) → Took Token.RightParen 0 old new → run_rest old (operator (in_group s ∷ fs)) ≡ run_rest new (operator fs)
run_right_group s fs old new a = run_quiet Token.RightParen old new (operator (in_group s ∷ fs)) (operator fs) a refl refl refl refl

pub primary_group : (own : Addr) (d : ℕ) (old mid mid' new : Rest) (x : Expr) → Took Token.LeftParen 0 old mid → d < MAX_LEVELS → ReadsExpression own (d + 1) mid mid' x → Took Token.RightParen 0 mid' new → ReadsPrimary own d old new x
primary_group own d old mid mid' new x e l a h = record {
  part = group a.part;
  fits = a.fits;
  spelled = took_spelled _ _ old mid e ∙ ap (λ ts. Token.LeftParen ∷ ts) (a.spelled ∙ ap (λ ts. spelling a.part ++ ts) (took_spelled _ _ mid' new h) ∙ sym (append_assoc (spelling a.part) (Token.RightParen ∷ []) (tokens_left new)));
  means = a.means;
  runs = λ s fs k. run_left d s fs old mid e k l ∙ a.runs (in_group s ∷ fs) (omega (arith, k)) ∙ run_right_group s fs mid' new h;
}

pub fails_group : (d : ℕ) (old mid : Rest) (e : FormulaFault) → Took Token.LeftParen 0 old mid → d < MAX_LEVELS → FailsOperand (d + 1) mid e → FailsSigned d old e
fails_group d old mid e h l f s fs k = fails_by _ _ e (run_left d s fs old mid h k l) (f (in_group s ∷ fs) (omega (arith, k)))

group_stuck : (s : ℕ) (fs : List Frame) (t : Token) → token_level t ≡ 0 → t ≢ Token.RightParen → move true (operator (in_group s ∷ fs)) t ≡ Err FaultKind.Misplaced
group_stuck s fs (Token.Operator op) h r = let x = (level_within op).0 in absurd (omega (arith, h, x))
group_stuck s fs Token.RightParen h r = absurd (r refl)
group_stuck s fs t h r = refl

-- a group that is not closed
pub fails_unclosed : (own : Addr) (d : ℕ) (old mid mid' : Rest) (x : Expr) (e : FormulaFault) → Took Token.LeftParen 0 old mid → d < MAX_LEVELS → ReadsExpression own (d + 1) mid mid' x → token_level (next_token mid') ≡ 0 → next_token mid' ≢ Token.RightParen → e ≡ Bad (next_place mid') (misfit (next_token mid')) → FailsSigned d old e
fails_unclosed own d old mid mid' x e h l a n r b s fs k =
    fails_by _ _ e (run_left d s fs old mid h k l ∙ a.runs (in_group s ∷ fs) (omega (arith, k))) (fails_misfit mid' e (operator (in_group s ∷ fs)) b (group_stuck s fs (next_token mid') n r))

-- where no operand begins
operand_stuck : (s : ℕ) (fs : List Frame) (t : Token) → sign_token t ≡ None → ((l : Literal) → t ≢ Token.Literal l) → ((w : Word) → t ≢ Token.Reference w) → ((x : Option ℕ) → t ≢ Token.Prefix x) → t ≢ Token.LeftParen → ((f : Option Fun) → t ≢ Token.Function f) → move true (operand s fs) t ≡ Err FaultKind.Misplaced
operand_stuck s fs (Token.Literal l) g a b c d e = absurd (a l refl)
operand_stuck s fs (Token.Reference w) g a b c d e = absurd (b w refl)
operand_stuck s fs (Token.Prefix x) g a b c d e = absurd (c x refl)
operand_stuck s fs Token.LeftParen g a b c d e = absurd (d refl)
operand_stuck s fs (Token.Function f) g a b c d e = absurd (e f refl)
operand_stuck s fs (Token.Operator op) g a b c d e = ap (λ o. on_sign o s fs) g
operand_stuck s fs t g a b c d e = refl

pub fails_no_operand : (d : ℕ) (old : Rest) (er : FormulaFault) → sign_token (next_token old) ≡ None → ((l : Literal) → next_token old ≢ Token.Literal l) → ((w : Word) → next_token old ≢ Token.Reference w) → ((x : Option ℕ) → next_token old ≢ Token.Prefix x) → next_token old ≢ Token.LeftParen → ((f : Option Fun) → next_token old ≢ Token.Function f) → er ≡ Bad (next_place old) (misfit (next_token old)) → FailsSigned d old er
fails_no_operand d old er g a b c p e w s fs k = fails_misfit old er (operand s fs) w (operand_stuck s fs (next_token old) g a b c p e)

-- calls
pub fails_unknown : (d : ℕ) (old : Rest) (e : FormulaFault) → next_token old ≡ Token.Function None → e ≡ Bad (next_place old) FaultKind.UnknownName → FailsSigned d old e
fails_unknown d old e h b s fs k = fails_stopped old e FaultKind.UnknownName (operand s fs) b (ap (step old.nodes (operand s fs)) h)

run_name : (s : ℕ) (f : Fun) (fs : List Frame) (old new : Rest) → Took (Token.Function (Some f)) 1 old new → old.nodes < MAX_NODES → run_rest old (operand s fs) ≡ run_rest new (named (Some f) s fs)
run_name s f fs old new a n = run_node (Token.Function (Some f)) old new (operand s fs) (named (Some f) s fs) a n refl refl refl refl

run_opening : (d s : ℕ) (f : Fun) (fs : List Frame) (old new : Rest) → Took Token.LeftParen 0 old new → s + open_levels fs ≡ d → d < MAX_LEVELS → run_rest old (named (Some f) s fs) ≡ run_rest new (opened (Some f) s fs)
run_opening d s f fs old new a h l = took_run Token.LeftParen 0 old new (named (Some f) s fs) (opened (Some f) s fs) a (record { moved = refl; known = refl; inside = refl; low = omega (arith, h, l); few = omega arith; small = omega arith }) refl

pub fails_name : (f : Fun) (d : ℕ) (old : Rest) (e : FormulaFault) → next_token old ≡ Token.Function (Some f) → FailsNode old e → FailsSigned d old e
fails_name f d old e h g s fs k = fails_at (Token.Function (Some f)) old e (operand s fs) (named (Some f) s fs) h g refl (omega arith) refl (omega arith)

named_stuck : (f : Option Fun) (s : ℕ) (fs : List Frame) (t : Token) → t ≢ Token.LeftParen → move true (named f s fs) t ≡ Err FaultKind.Misplaced
named_stuck f s fs Token.LeftParen h = absurd (h refl)
named_stuck f s fs t h = refl

pub fails_no_paren : (f : Fun) (d : ℕ) (old mid : Rest) (e : FormulaFault) → Took (Token.Function (Some f)) 1 old mid → old.nodes < MAX_NODES → next_token mid ≢ Token.LeftParen → e ≡ Bad (next_place mid) (misfit (next_token mid)) → FailsSigned d old e
fails_no_paren f d old mid e a n h b s fs k = fails_by _ _ e (run_name s f fs old mid a n) (fails_misfit mid e (named (Some f) s fs) b (named_stuck (Some f) s fs (next_token mid) h))

pub fails_deep_call : (f : Fun) (d : ℕ) (old mid : Rest) (e : FormulaFault) → Took (Token.Function (Some f)) 1 old mid → old.nodes < MAX_NODES → next_token mid ≡ Token.LeftParen → MAX_LEVELS ≤ d → e ≡ Bad (next_place mid) FaultKind.TooDeep → FailsSigned d old e
fails_deep_call f d old mid e a n h l b s fs k = fails_by _ _ e (run_name s f fs old mid a n) (fails_deep mid e (named (Some f) s fs) (opened (Some f) s fs) Token.LeftParen h b refl refl (omega (arith, k, l)))

run_called : (d s : ℕ) (f : Fun) (fs : List Frame) (old mid ts : Rest) → s + open_levels fs ≡ d → Took (Token.Function (Some f)) 1 old mid → old.nodes < MAX_NODES → Took Token.LeftParen 0 mid ts → d < MAX_LEVELS → run_rest old (operand s fs) ≡ run_rest ts (opened (Some f) s fs)
run_called d s f fs old mid ts k e n h l = run_name s f fs old mid e n ∙ run_opening d s f fs mid ts h k l

run_opened : (f : Option Fun) (s : ℕ) (fs : List Frame) (old : Rest) → next_token old ≢ Token.RightParen → run_rest old (opened f s fs) ≡ run_rest old (argument (kind_at f 0) (in_call f 0 s ∷ fs))
run_opened f s fs old h = by_spots old.spots h
  where
    by_spots : (ts : List Spot) → next_of ts ≢ Token.RightParen → run ts old.end old.nodes (opened f s fs) ≡ run ts old.end old.nodes (argument (kind_at f 0) (in_call f 0 s ∷ fs))
    by_spots [] h = refl
    by_spots (t ∷ ts) h = by_token t.token h
      where
        by_token : (u : Token) → u ≢ Token.RightParen → run_on (run ts old.end (old.nodes + (mark_at (opened f s fs) u).nodes)) t.place (step old.nodes (opened f s fs) u) ≡ run_on (run ts old.end (old.nodes + (mark_at (argument (kind_at f 0) (in_call f 0 s ∷ fs)) u).nodes)) t.place (step old.nodes (argument (kind_at f 0) (in_call f 0 s ∷ fs)) u)
        by_token Token.RightParen h = absurd (h refl)
        by_token u h = refl

pub primary_call : (own : Addr) (d : ℕ) (f : Fun) (old mid mid' new : Rest) (trees : Exprs) → Took (Token.Function (Some f)) 1 old mid → old.nodes < MAX_NODES → Took Token.LeftParen 0 mid mid' → d < MAX_LEVELS → next_token mid' ≢ Token.RightParen → ReadsArguments own f 0 (d + 1) mid' new trees → ReadsPrimary own d old new (Call f trees)
primary_call own d f old mid mid' new trees e n h l r a = record {
  part = call (Some f) a.part;
  fits = a.fits;
  spelled = took_spelled _ _ old mid e ∙ ap (λ ts. Token.Function (Some f) ∷ ts) (took_spelled _ _ mid mid' h ∙ ap (λ ts. Token.LeftParen ∷ ts) (a.spelled ∙ sym (append_assoc (arguments_spelling a.part) (Token.RightParen ∷ []) (tokens_left new))));
  means = ap (Call f) a.means;
  runs = λ s fs k. run_called d s f fs old mid mid' k e n h l ∙ run_opened (Some f) s fs mid' r ∙ a.runs s fs (omega (arith, k));
}

pub fails_call : (d : ℕ) (f : Fun) (old mid mid' : Rest) (er : FormulaFault) → Took (Token.Function (Some f)) 1 old mid → old.nodes < MAX_NODES → Took Token.LeftParen 0 mid mid' → d < MAX_LEVELS → next_token mid' ≢ Token.RightParen → FailsArguments f 0 (d + 1) mid' er → FailsSigned d old er
fails_call d f old mid mid' er e n h l r a s fs k = fails_by _ _ er (run_called d s f fs old mid mid' k e n h l ∙ run_opened (Some f) s fs mid' r) (a s fs (omega (arith, k)))

if_ok : (b : Bool) (s : State) → b ≡ true → if_counted true b s ≡ Ok s
if_ok true s h = refl
if_ok false s h = cc

if_not : (b : Bool) (s : State) → b ≡ false → if_counted true b s ≡ Err FaultKind.ArgumentCount
if_not false s h = refl
if_not true s h = cc

pub primary_none : (own : Addr) (d : ℕ) (f : Fun) (old mid mid' new : Rest) → Took (Token.Function (Some f)) 1 old mid → old.nodes < MAX_NODES → Took Token.LeftParen 0 mid mid' → d < MAX_LEVELS → enough f 0 ≡ true → Took Token.RightParen 0 mid' new → ReadsPrimary own d old new (Call f End)
primary_none own d f old mid mid' new e n h l en r = record {
  part = call_none (Some f);
  fits = en;
  spelled = took_spelled _ _ old mid e ∙ ap (λ ts. Token.Function (Some f) ∷ ts) (took_spelled _ _ mid mid' h ∙ ap (λ ts. Token.LeftParen ∷ ts) (took_spelled _ _ mid' new r));
  means = refl;
  runs = λ s fs k. run_called d s f fs old mid mid' k e n h l ∙ run_quiet Token.RightParen mid' new (opened (Some f) s fs) (operator fs) r (if_ok (enough f 0) (operator fs) en) refl refl refl;
}

step_counted : (n : ℕ) (s : State) (t : Token) → move true s t ≡ Err FaultKind.ArgumentCount → is_bad t ≡ false → step n s t ≡ Err FaultKind.ArgumentCount
step_counted n s t m b = ap₂ (λ x v. checked x (own_fault t) (named_fault t) (nat_le (mark_at s t).level MAX_LEVELS) (nat_le (mark_at s t).nodes (MAX_NODES - n)) (nat_le (mark_at s t).cells MAX_RANGE_CELLS) v) b m

fails_counted : (old : Rest) (e : FormulaFault) (s : State) (t : Token) → next_token old ≡ t → e ≡ Bad (next_place old) FaultKind.ArgumentCount → move true s t ≡ Err FaultKind.ArgumentCount → is_bad t ≡ false → Fails e (run_rest old s)
fails_counted old e s t h b m z = fails_stopped old e FaultKind.ArgumentCount s b (ap (step old.nodes s) h ∙ step_counted old.nodes s t m z)

pub fails_none : (d : ℕ) (f : Fun) (old mid mid' : Rest) (er : FormulaFault) → Took (Token.Function (Some f)) 1 old mid → old.nodes < MAX_NODES → Took Token.LeftParen 0 mid mid' → d < MAX_LEVELS → enough f 0 ≡ false → next_token mid' ≡ Token.RightParen → er ≡ Bad (next_place mid') FaultKind.ArgumentCount → FailsSigned d old er
fails_none d f old mid mid' er e n h l en r b s fs k = fails_by _ _ er (run_called d s f fs old mid mid' k e n h l) (fails_counted mid' er (opened (Some f) s fs) Token.RightParen r b (if_not (enough f 0) (operator fs) en) refl)

-- arguments
run_right_call : (f : Fun) (n s : ℕ) (fs : List Frame) (old new : Rest) → Took Token.RightParen 0 old new → enough f (suc n) ≡ true → run_rest old (ended (in_call (Some f) n s ∷ fs)) ≡ run_rest new (operator fs)
run_right_call f n s fs old new a h = run_quiet Token.RightParen old new (ended (in_call (Some f) n s ∷ fs)) (operator fs) a (if_ok (enough f (suc n)) (operator fs) h) refl refl refl

run_comma : (f : Fun) (n s : ℕ) (fs : List Frame) (old new : Rest) → Took Token.Comma 0 old new → takes_more f (suc n) ≡ true → run_rest old (ended (in_call (Some f) n s ∷ fs)) ≡ run_rest new (argument (kind_of f (suc n)) (in_call (Some f) (suc n) s ∷ fs))
run_comma f n s fs old new a h = run_quiet Token.Comma old new (ended (in_call (Some f) n s ∷ fs)) (argument (kind_of f (suc n)) (in_call (Some f) (suc n) s ∷ fs)) a (if_ok (takes_more f (suc n)) _ h) refl refl refl

run_comma_next : (f : Fun) (n s : ℕ) (fs : List Frame) (old new : Rest) → Took Token.Comma 0 old new → takes_more f (n + 1) ≡ true → run_rest old (ended (in_call (Some f) n s ∷ fs)) ≡ run_rest new (argument (kind_of f (n + 1)) (in_call (Some f) (n + 1) s ∷ fs))
run_comma_next f n s fs old new a h =
    let one : n + 1 ≡ suc n = omega arith in
    run_comma f n s fs old new a (ap (takes_more f) (sym one) ∙ h) ∙ ap (λ m. run_rest new (argument (kind_of f m) (in_call (Some f) m s ∷ fs))) (sym one)

pub last_is : (own : Addr) (f : Fun) (k : Kind) (n d : ℕ) (old mid new : Rest) (x : Expr) (all : Exprs) → k ≡ kind_of f n → ReadsArgument own k d old mid x → Took Token.RightParen 0 mid new → enough f (n + 1) ≡ true → all ≡ More x End → ReadsArguments own f n d old new all
last_is own f k n d old mid new x all ke a e h w =
    let one : n + 1 ≡ suc n = omega arith in
    let h' = ap (enough f) (sym one) ∙ h in
    let b = subst (λ j. ReadsArgument own j d old mid x) ke a in
    record {
      part = last b.part;
      fits = (b.kind, b.fits, h');
      spelled = b.spelled ∙ ap (λ ts. argument_spelling b.part ++ ts) (took_spelled _ _ mid new e);
      means = w ∙ ap (λ y. More y End) b.means;
      runs = λ s fs j. b.runs (in_call (Some f) n s ∷ fs) j ∙ run_right_call f n s fs mid new e h';
    }

pub more_is : (own : Addr) (f : Fun) (k : Kind) (n d : ℕ) (old mid mid' new : Rest) (x : Expr) (xs all : Exprs) → k ≡ kind_of f n → ReadsArgument own k d old mid x → Took Token.Comma 0 mid mid' → takes_more f (n + 1) ≡ true → ReadsArguments own f (n + 1) d mid' new xs → all ≡ More x xs → ReadsArguments own f n d old new all
more_is own f k n d old mid mid' new x xs all ke a e h b w =
    let one : n + 1 ≡ suc n = omega arith in
    let h' = ap (takes_more f) (sym one) ∙ h in
    let y = subst (λ j. ReadsArgument own j d old mid x) ke a in
    record {
      part = more y.part b.part;
      fits = (y.kind, y.fits, h', subst (λ m. ArgumentsFit true (Some f) m b.part) one b.fits);
      spelled = y.spelled ∙ ap (λ ts. argument_spelling y.part ++ ts) (took_spelled _ _ mid mid' e ∙ ap (λ ts. Token.Comma ∷ ts) b.spelled) ∙ sym (append_assoc (argument_spelling y.part) (Token.Comma ∷ arguments_spelling b.part) (Token.RightParen ∷ tokens_left new));
      means = w ∙ ap₂ More y.means b.means;
      runs = λ s fs j. y.runs (in_call (Some f) n s ∷ fs) j ∙ run_comma_next f n s fs mid mid' e h ∙ b.runs s fs j;
    }

pub fails_more : (own : Addr) (f : Fun) (k : Kind) (n d : ℕ) (old mid mid' : Rest) (x : Expr) (er : FormulaFault) → k ≡ kind_of f n → ReadsArgument own k d old mid x → Took Token.Comma 0 mid mid' → takes_more f (n + 1) ≡ true → FailsArguments f (n + 1) d mid' er → FailsArguments f n d old er
fails_more own f k n d old mid mid' x er ke a e h b s fs j =
    let y = subst (λ i. ReadsArgument own i d old mid x) ke a in
    fails_by _ _ er (y.runs (in_call (Some f) n s ∷ fs) j ∙ run_comma_next f n s fs mid mid' e h) (b s fs j)

pub fails_few : (own : Addr) (f : Fun) (k : Kind) (n d : ℕ) (old mid : Rest) (x : Expr) (er : FormulaFault) → k ≡ kind_of f n → ReadsArgument own k d old mid x → next_token mid ≡ Token.RightParen → enough f (n + 1) ≡ false → er ≡ Bad (next_place mid) FaultKind.ArgumentCount → FailsArguments f n d old er
fails_few own f k n d old mid x er ke a e h b s fs j =
    let one : n + 1 ≡ suc n = omega arith in
    let y = subst (λ i. ReadsArgument own i d old mid x) ke a in
    fails_by _ _ er (y.runs (in_call (Some f) n s ∷ fs) j) (fails_counted mid er (ended (in_call (Some f) n s ∷ fs)) Token.RightParen e b (if_not (enough f (suc n)) (operator fs) (ap (enough f) (sym one) ∙ h)) refl)

pub fails_many : (own : Addr) (f : Fun) (k : Kind) (n d : ℕ) (old mid : Rest) (x : Expr) (er : FormulaFault) → k ≡ kind_of f n → ReadsArgument own k d old mid x → next_token mid ≡ Token.Comma → takes_more f (n + 1) ≡ false → er ≡ Bad (next_place mid) FaultKind.ArgumentCount → FailsArguments f n d old er
fails_many own f k n d old mid x er ke a e h b s fs j =
    let one : n + 1 ≡ suc n = omega arith in
    let y = subst (λ i. ReadsArgument own i d old mid x) ke a in
    fails_by _ _ er (y.runs (in_call (Some f) n s ∷ fs) j) (fails_counted mid er (ended (in_call (Some f) n s ∷ fs)) Token.Comma e b (if_not (takes_more f (suc n)) _ (ap (takes_more f) (sym one) ∙ h)) refl)

ended_stuck : (f : Option Fun) (n s : ℕ) (fs : List Frame) (t : Token) → t ≢ Token.RightParen → t ≢ Token.Comma → move true (ended (in_call f n s ∷ fs)) t ≡ Err FaultKind.Misplaced
ended_stuck f n s fs Token.RightParen a b = absurd (a refl)
ended_stuck f n s fs Token.Comma a b = absurd (b refl)
ended_stuck f n s fs t a b = refl

pub fails_unended : (own : Addr) (f : Fun) (k : Kind) (n d : ℕ) (old mid : Rest) (x : Expr) (er : FormulaFault) → k ≡ kind_of f n → ReadsArgument own k d old mid x → next_token mid ≢ Token.RightParen → next_token mid ≢ Token.Comma → er ≡ Bad (next_place mid) (misfit (next_token mid)) → FailsArguments f n d old er
fails_unended own f k n d old mid x er ke a r c b s fs j =
    let y = subst (λ i. ReadsArgument own i d old mid x) ke a in
    fails_by _ _ er (y.runs (in_call (Some f) n s ∷ fs) j) (fails_misfit mid er (ended (in_call (Some f) n s ∷ fs)) b (ended_stuck (Some f) n s fs (next_token mid) r c))

pub fails_first : (f : Fun) (k : Kind) (n d : ℕ) (old : Rest) (er : FormulaFault) → k ≡ kind_of f n → FailsArgument k d old er → FailsArguments f n d old er
fails_first f k n d old er ke a s fs j = subst (λ i. FailsArgument i d old er) ke a (in_call (Some f) n s ∷ fs) j

-- one argument
run_ended : (ts : List Spot) (end n : ℕ) (fs : List Frame) → token_level (next_of ts) ≡ 0 → run ts end n (operator fs) ≡ run ts end n (ended fs)
run_ended [] end n fs h = refl
run_ended (t ∷ ts) end n fs h = by_token t.token h
  where
    by_token : (u : Token) → token_level u ≡ 0 → run_on (run ts end (n + (mark_at (operator fs) u).nodes)) t.place (step n (operator fs) u) ≡ run_on (run ts end (n + (mark_at (ended fs) u).nodes)) t.place (step n (ended fs) u)
    by_token (Token.Operator op) h = let x = (level_within op).0 in absurd (omega (arith, h, x))
    by_token u h = refl

run_value : (ts : List Spot) (end n : ℕ) (fs : List Frame) → run ts end n (argument Plain fs) ≡ run ts end n (operand 0 fs)
run_value [] end n fs = refl
run_value (t ∷ ts) end n fs = refl

argument_value : (own : Addr) (d : ℕ) (old new : Rest) (x : Expr) → token_level (next_token new) ≡ 0 → ReadsExpression own d old new x → ReadsArgument own Plain d old new x
argument_value own d old new x h a = record {
  part = value a.part;
  fits = a.fits;
  kind = tt;
  spelled = a.spelled;
  means = a.means;
  runs = λ fs k. run_value old.spots old.end old.nodes fs ∙ a.runs fs k ∙ run_ended new.spots new.end new.nodes fs h;
}

-- no range begins, so the run goes as over an operand
run_corner : (ts : List Spot) (end n : ℕ) (w : Word) (fs : List Frame) → begins_colon (tokens_of ts) ≡ false → run ts end n (corner Many w fs) ≡ run ts end n (operator fs)
run_corner [] end n w fs h = refl
run_corner (t ∷ ts) end n w fs h = by_token t.token h
  where
    by_token : (u : Token) → begins_colon (u ∷ tokens_of ts) ≡ false → run_on (run ts end (n + (mark_at (corner Many w fs) u).nodes)) t.place (step n (corner Many w fs) u) ≡ run_on (run ts end (n + (mark_at (operator fs) u).nodes)) t.place (step n (operator fs) u)
    by_token Token.Colon h = cc
    by_token u h = refl

-- a step to one of two states from which the runs are the same
same_steps : (bad : Bool) (o l : Option FaultKind) (low few small : Bool) (a b : State) (go : State → Outcome) (place : ℕ) → go a ≡ go b → run_on go place (checked bad o l low few small (Ok a)) ≡ run_on go place (checked bad o l low few small (Ok b))
same_steps bad None None true true true a b go place h = h
same_steps bad None (Some l) true true true a b go place h = refl
same_steps bad (Some o) l low few small a b go place h = refl
same_steps bad None l false few small a b go place h = refl
same_steps bad None l true false small a b go place h = refl
same_steps bad None l true true false a b go place h = refl

run_sheet : (ts : List Spot) (end n : ℕ) (fs : List Frame) → sheet_range_ahead (tokens_of ts) ≡ false → run ts end n (sheet Many fs) ≡ run ts end n (sheet Plain fs)
run_sheet [] end n fs h = refl
run_sheet (t ∷ ts) end n fs h = by_token t.token h
  where
    by_token : (u : Token) → sheet_range_ahead (u ∷ tokens_of ts) ≡ false → run_on (run ts end (n + (mark_at (sheet Many fs) u).nodes)) t.place (step n (sheet Many fs) u) ≡ run_on (run ts end (n + (mark_at (sheet Plain fs) u).nodes)) t.place (step n (sheet Plain fs) u)
    by_token (Token.SheetReference w) h = same_steps false (own_fault (Token.SheetReference w)) (named_fault (Token.SheetReference w)) true (nat_le 1 (MAX_NODES - n)) true (corner Many w fs) (operator fs) (run ts end (n + 1)) t.place (run_corner ts end (n + 1) w fs h)
    by_token u h = refl

run_many : (ts : List Spot) (end n : ℕ) (fs : List Frame) → range_ahead (tokens_of ts) ≡ false → run ts end n (argument Many fs) ≡ run ts end n (operand 0 fs)
run_many [] end n fs h = refl
run_many (t ∷ ts) end n fs h = by_token t.token h
  where
    by_token : (u : Token) → range_ahead (u ∷ tokens_of ts) ≡ false → run_on (run ts end (n + (mark_at (argument Many fs) u).nodes)) t.place (step n (argument Many fs) u) ≡ run_on (run ts end (n + (mark_at (operand 0 fs) u).nodes)) t.place (step n (operand 0 fs) u)
    by_token (Token.Reference w) h = same_steps false (own_fault (Token.Reference w)) (named_fault (Token.Reference w)) true (nat_le 1 (MAX_NODES - n)) true (corner Many w fs) (operator fs) (run ts end (n + 1)) t.place (run_corner ts end (n + 1) w fs h)
    by_token (Token.Prefix x) h = same_steps false None (named_fault (Token.Prefix x)) true (nat_le 0 (MAX_NODES - n)) true (sheet Many fs) (sheet Plain fs) (run ts end (n + 0)) t.place (run_sheet ts end (n + 0) fs h)
    by_token u h = refl

argument_many : (own : Addr) (d : ℕ) (old new : Rest) (x : Expr) → range_ahead (tokens_left old) ≡ false → token_level (next_token new) ≡ 0 → ReadsExpression own d old new x → ReadsArgument own Many d old new x
argument_many own d old new x r h a = record {
  part = value a.part;
  fits = a.fits;
  kind = tt;
  spelled = a.spelled;
  means = a.means;
  runs = λ fs k. run_many old.spots old.end old.nodes fs r ∙ a.runs fs k ∙ run_ended new.spots new.end new.nodes fs h;
}

argument_alone : (own : Addr) (k : Kind) (d : ℕ) (old new : Rest) (x : Expr) → ReadsAlone own k old new x → ReadsArgument own k d old new x
argument_alone own k d old new x a = record { part = a.part; fits = a.fits; kind = a.kind; spelled = a.spelled; means = a.means; runs = λ fs h. a.runs fs }

argument_lone : (own : Addr) (k : Kind) (d : ℕ) (l : Literal) (old new : Rest) (x : Expr) → ReadsLone k l old new x → ReadsArgument own k d old new x
argument_lone own Plain d l old new x a = absurd (let e = a.alone in cc)
argument_lone own Many d l old new x a = absurd (let e = a.alone in cc)
argument_lone own Place d l old new x a = record { part = lone l; fits = tt; kind = a.alone; spelled = a.spelled; means = a.means; runs = λ fs h. a.runs fs }
argument_lone own Exact d l old new x a = record { part = lone l; fits = tt; kind = a.alone; spelled = a.spelled; means = a.means; runs = λ fs h. a.runs fs }

-- the same at the code's kinds
at_kind_ok : (own : Addr) (k : Kind) (j : Kind) (d : ℕ) (old new : Rest) (r : Result Tree FormulaFault) → j ≡ k → IfOk r (λ tree. ReadsArgument own j d old new (expr_of tree)) → IfOk r (λ tree. ReadsArgument own k d old new (expr_of tree))
at_kind_ok own k j d old new r e a = subst (λ i. IfOk r (λ tree. ReadsArgument own i d old new (expr_of tree))) e a

pub argument_value_ok : (own : Addr) (k : Kind) (d : ℕ) (old new : Rest) (r : Result Tree FormulaFault) → Plain ≡ k → OnOk r (token_level (next_token new) ≡ 0) → IfOk r (λ tree. ReadsExpression own d old new (expr_of tree)) → IfOk r (λ tree. ReadsArgument own k d old new (expr_of tree))
argument_value_ok own k d old new (Ok tree) e h a = at_kind_ok own k Plain d old new (Ok tree) e (argument_value own d old new (expr_of tree) h a)
argument_value_ok own k d old new (Err er) e h a = tt

pub argument_many_ok : (own : Addr) (k : Kind) (d : ℕ) (old new : Rest) (r : Result Tree FormulaFault) → Many ≡ k → range_ahead (tokens_left old) ≡ false → OnOk r (token_level (next_token new) ≡ 0) → IfOk r (λ tree. ReadsExpression own d old new (expr_of tree)) → IfOk r (λ tree. ReadsArgument own k d old new (expr_of tree))
argument_many_ok own k d old new (Ok tree) e n h a = at_kind_ok own k Many d old new (Ok tree) e (argument_many own d old new (expr_of tree) n h a)
argument_many_ok own k d old new (Err er) e n h a = tt

pub argument_alone_ok : (own : Addr) (k : Kind) (j : Kind) (d : ℕ) (old new : Rest) (r : Result Tree FormulaFault) → j ≡ k → IfOk r (λ tree. ReadsAlone own j old new (expr_of tree)) → IfOk r (λ tree. ReadsArgument own k d old new (expr_of tree))
argument_alone_ok own k j d old new r e a = at_kind_ok own k j d old new r e (ok_of r (ReadsAlone own j old new) (ReadsArgument own j d old new) (argument_alone own j d old new) a)

pub argument_lone_ok : (own : Addr) (k : Kind) (d : ℕ) (l : Literal) (old new : Rest) (r : Result Tree FormulaFault) → IfOk r (λ tree. ReadsLone k l old new (expr_of tree)) → IfOk r (λ tree. ReadsArgument own k d old new (expr_of tree))
argument_lone_ok own k d l old new r a = ok_of r (ReadsLone k l old new) (ReadsArgument own k d old new) (argument_lone own k d l old new) a

pub fails_alone : (k : Kind) (j : Kind) (d : ℕ) (old : Rest) (r : Result Tree FormulaFault) → j ≡ k → IfErr r (λ e. FailsAlone j old e) → IfErr r (λ e. FailsArgument k d old e)
fails_alone k j d old r e a = subst (λ i. IfErr r (λ er. FailsArgument i d old er)) e (err_of r (FailsAlone j old) (FailsArgument j d old) (λ er f fs h. f fs) a)

pub fails_value : (k : Kind) (d : ℕ) (old : Rest) (r : Result Tree FormulaFault) → Plain ≡ k → IfErr r (λ e. FailsOperand d old e) → IfErr r (λ e. FailsArgument k d old e)
fails_value k d old r e a = subst (λ i. IfErr r (λ er. FailsArgument i d old er)) e (err_of r (FailsOperand d old) (FailsArgument Plain d old) (λ er f fs h. fails_by _ _ er (run_value old.spots old.end old.nodes fs) (f fs h)) a)

pub fails_many_value : (k : Kind) (d : ℕ) (old : Rest) (r : Result Tree FormulaFault) → Many ≡ k → range_ahead (tokens_left old) ≡ false → IfErr r (λ e. FailsOperand d old e) → IfErr r (λ e. FailsArgument k d old e)
fails_many_value k d old r e n a = subst (λ i. IfErr r (λ er. FailsArgument i d old er)) e (err_of r (FailsOperand d old) (FailsArgument Many d old) (λ er f fs h. fails_by _ _ er (run_many old.spots old.end old.nodes fs n) (f fs h)) a)

exact_stuck : (fs : List Frame) (t : Token) → ((l : Literal) → t ≢ Token.Literal l) → move true (argument Exact fs) t ≡ Err FaultKind.Misplaced
exact_stuck fs (Token.Literal l) h = absurd (h l refl)
exact_stuck fs t h = refl

pub fails_exact : (k : Kind) (d : ℕ) (old : Rest) (er : FormulaFault) → Exact ≡ k → ((l : Literal) → next_token old ≢ Token.Literal l) → er ≡ Bad (next_place old) (misfit (next_token old)) → FailsArgument k d old er
fails_exact k d old er e h b = subst (λ i. FailsArgument i d old er) e (λ fs j. fails_misfit old er (argument Exact fs) b (exact_stuck fs (next_token old) h))
