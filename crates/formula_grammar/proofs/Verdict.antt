-- A run's outcome is the fault of the definition, or there is none.
use Rattle.std.proofs.Common.{◌≡◌, ℕ, suc, ◌+◌, ◌-◌, ◌<◌, ◌≤◌, List, [], ◌∷◌, ◌++◌, length, Bool, true, false, Ok, Err, Option, Some, None, ◌⊎◌, inl, inr, refl, sym, ap, ap₂, ◌∙◌, subst, arith, append_assoc, append-nil, length-append, get_or, nat_le, ⊎_elim, leb-true, leb-false}
use Rattle.std.proofs.lemmas.List.{get_or_at}
use Rattle.std.specs.Prelude.{take, zero, pos, int_le, ◌&&◌, cond}
use Rattle.cell_values.specs.Numbers.{fits}
use Rattle.cell_values.specs.declared.TheConstants.{MAX_RANGE_CELLS}
use Rattle.formula_trees.specs.declared.TheConstants.{MAX_NODES, MAX_LEVELS}
use Rattle.formula_trees.specs.declared.tree.Fun.{Fun}
use Rattle.formula_trees.specs.declared.tree.Sign.{Sign}
use Rattle.formula_trees.specs.declared.functions.Kind.{Kind}
use Rattle.formula_trees.specs.declared.functions.Kind.TheVariants.{Plain, Place, Many, Exact}
use Rattle.formula_tokens.specs.declared.token.Literal.{Literal}
use Rattle.formula_tokens.specs.declared.token.Spot.{Spot}
use Rattle.formula_tokens.specs.declared.token.Token.{Token}
use Rattle.formula_tokens.specs.declared.token.Word.{Word}
use Rattle.formula_grammar.specs.declared.faults.FaultKind.{FaultKind}
use Rattle.formula_grammar.specs.Syntax.{Mark, quiet, spelling, marks, kind_at, are_enough, may_go_on, is_ref_error, is_exact}
use Rattle.formula_grammar.specs.FaultKinds.{number_of}
use Rattle.formula_grammar.specs.Fault.{own_fault, named_fault, literal_fault, word_fault, function_fault, corner_fault, prefix_fault, is_inside, Stands, Applies, IsFaultless, FirstFault, formula_marks, mark_of, marks_to, total_nodes, tokens_of}
use Rattle.formula_grammar.specs.Steps.{Frame, in_group, in_call, State, operand, operator, named, opened, argument, sheet, corner, colon, ended, finished, Move, if_counted, on_lone, on_sign, sign_of, on_operand, on_right, on_comma, on_end, on_close, on_operator, on_argument, on_sheet_word, on_no_range, on_corner, on_named, on_opened, on_colon, move, mark_at, is_bad, checked, step, Outcome, accepted, fault, run_on, run, at_end}
use Rattle.formula_grammar.proofs.Walk.{Walk, stuck, at, opens, go_on, walk, prefixed, prefixed-append, walk-expression}
use Rattle.formula_grammar.proofs.Follows.{Follows, FollowsMove, back, some_follows}

-- what a strict move and a move without counts have to do with each other
abbrev Judged : Move → Move → Type 0
Judged (Ok a) (Ok b) = a ≡ b
Judged (Err n) (Err m) = n ≡ FaultKind.Misplaced
Judged (Err n) (Ok b) = n ≡ FaultKind.ArgumentCount
Judged (Ok a) (Err m) = ⊥

judged_count : (b : Bool) (s : State) → Judged (if_counted true b s) (if_counted false b s)
judged_count true s = refl
judged_count false s = refl

judged_right : (fs : List Frame) → Judged (on_right true fs) (on_right false fs)
judged_right [] = refl
judged_right (in_group s ∷ fs) = refl
judged_right (in_call f n s ∷ fs) = judged_count (are_enough f (suc n)) _

judged_comma : (fs : List Frame) → Judged (on_comma true fs) (on_comma false fs)
judged_comma [] = refl
judged_comma (in_group s ∷ fs) = refl
judged_comma (in_call f n s ∷ fs) = judged_count (may_go_on f (suc n)) _

judged_end : (fs : List Frame) → Judged (on_end fs) (on_end fs)
judged_end [] = refl
judged_end (f ∷ fs) = refl

judged_close : (fs : List Frame) (t : Token) → Judged (on_close true fs t) (on_close false fs t)
judged_close fs Token.RightParen = judged_right fs
judged_close fs Token.Comma = judged_comma fs
judged_close fs Token.End = judged_end fs
judged_close fs t = refl

judged_operator : (fs : List Frame) (t : Token) → Judged (on_operator true fs t) (on_operator false fs t)
judged_operator fs (Token.Operator op) = refl
judged_operator fs t = judged_close fs t

judged_sign : (o : Option Sign) (s : ℕ) (fs : List Frame) → Judged (on_sign o s fs) (on_sign o s fs)
judged_sign (Some sign) s fs = refl
judged_sign None s fs = refl

judged_operand : (s : ℕ) (fs : List Frame) (t : Token) → Judged (on_operand s fs t) (on_operand s fs t)
judged_operand s fs (Token.Operator op) = judged_sign (sign_of op) s fs
judged_operand s fs t = refl

judged_lone : (b : Bool) (fs : List Frame) → Judged (on_lone b fs) (on_lone b fs)
judged_lone true fs = refl
judged_lone false fs = refl

judged_argument : (k : Kind) (fs : List Frame) (t : Token) → Judged (on_argument k fs t) (on_argument k fs t)
judged_argument Plain fs t = judged_operand 0 fs t
judged_argument Many fs (Token.Reference w) = refl
judged_argument Many fs (Token.Prefix x) = refl
judged_argument Many fs t = judged_operand 0 fs t
judged_argument Place fs (Token.Literal l) = judged_lone (is_ref_error l) fs
judged_argument Place fs t = refl
judged_argument Exact fs (Token.Literal l) = judged_lone (is_exact l) fs
judged_argument Exact fs t = refl

judged_sheet : (k : Kind) (fs : List Frame) (t : Token) → Judged (on_sheet_word k fs t) (on_sheet_word k fs t)
judged_sheet k fs (Token.SheetReference w) = refl
judged_sheet k fs t = refl

judged_no_range : (k : Kind) (fs : List Frame) (t : Token) → Judged (on_no_range true k fs t) (on_no_range false k fs t)
judged_no_range Plain fs t = judged_operator fs t
judged_no_range Many fs t = judged_operator fs t
judged_no_range Exact fs t = judged_operator fs t
judged_no_range Place fs t = judged_close fs t

judged_corner : (k : Kind) (w : Word) (fs : List Frame) (t : Token) → Judged (on_corner true k w fs t) (on_corner false k w fs t)
judged_corner k w fs Token.Colon = refl
judged_corner k w fs t = judged_no_range k fs t

judged_opened : (f : Option Fun) (s : ℕ) (fs : List Frame) (t : Token) → Judged (on_opened true f s fs t) (on_opened false f s fs t)
judged_opened f s fs Token.RightParen = judged_count (are_enough f 0) _
judged_opened f s fs t = judged_argument (kind_at f 0) (in_call f 0 s ∷ fs) t

judged_named : (f : Option Fun) (s : ℕ) (fs : List Frame) (t : Token) → Judged (on_named f s fs t) (on_named f s fs t)
judged_named f s fs Token.LeftParen = refl
judged_named f s fs t = refl

judged_colon : (fs : List Frame) (t : Token) → Judged (on_colon fs t) (on_colon fs t)
judged_colon fs (Token.Reference w) = refl
judged_colon fs t = refl

judged : (s : State) (t : Token) → Judged (move true s t) (move false s t)
judged (operand s fs) t = judged_operand s fs t
judged (operator fs) t = judged_operator fs t
judged (named f s fs) t = judged_named f s fs t
judged (opened f s fs) t = judged_opened f s fs t
judged (argument k fs) t = judged_argument k fs t
judged (sheet k fs) t = judged_sheet k fs t
judged (corner k w fs) t = judged_corner k w fs t
judged (colon w fs) t = judged_colon fs t
judged (ended fs) t = judged_close fs t
judged finished t = refl

-- the levels that a walk opens, and whether it gets stuck
abbrev pub listed : Walk → List Mark
listed stuck = []
listed (at s) = []
listed (opens n w) = n ∷ listed w

abbrev is_stuck : Walk → Bool
is_stuck stuck = true
is_stuck (at s) = false
is_stuck (opens n w) = is_stuck w

pub listed-prefixed : (ns : List Mark) (w : Walk) → listed (prefixed ns w) ≡ ns ++ listed w
listed-prefixed [] w = refl
listed-prefixed (n ∷ ns) w = ap (λ x. n ∷ x) (listed-prefixed ns w)

is_stuck-prefixed : (ns : List Mark) (w : Walk) → is_stuck (prefixed ns w) ≡ is_stuck w
is_stuck-prefixed [] w = refl
is_stuck-prefixed (n ∷ ns) w = is_stuck-prefixed ns w

-- the tokens lead to a state, and open these levels
record Leads (strict : Bool) (ts : List Token) (from : State) (ns : List Mark) (to : State) : Type 0 where
  walks : (u : List Token) → walk strict (ts ++ u) from ≡ prefixed ns (walk strict u to)
  counts : length ns ≡ length ts
  follows : (u : List Token) → Follows strict to u → Follows strict from (ts ++ u)

leads_none : (strict : Bool) (s : State) → Leads strict [] s [] s
leads_none strict s = record { walks = λ u. refl; counts = refl; follows = λ u h. h }

leads_more : (strict : Bool) (ts : List Token) (s : State) (ns : List Mark) (s1 : State) (t : Token) (s2 : State) → Leads strict ts s ns s1 → move strict s1 t ≡ Ok s2 → Leads strict (ts ++ t ∷ []) s (ns ++ mark_at s1 t ∷ []) s2
leads_more strict ts s ns s1 t s2 l m = record {
  walks = λ u.
      ap (λ x. walk strict x s) (append_assoc ts (t ∷ []) u) ∙ l.walks (t ∷ u) ∙ ap (λ x. prefixed ns (opens (mark_at s1 t) (go_on (walk strict u) x))) m ∙ sym (prefixed-append ns (mark_at s1 t ∷ []) (walk strict u s2));
  counts = omega (arith, l.counts, length-append ns (mark_at s1 t ∷ []), length-append ts (t ∷ []));
  follows = λ u h.
      subst (Follows strict s) (sym (append_assoc ts (t ∷ []) u)) (l.follows (t ∷ u) (back strict s1 t u (subst (λ x. FollowsMove strict x u) (sym m) h)));
}

abbrev pub start : State
start = operand 0 []

-- where tokens lead to a state, a formula begins with them
stands : (strict : Bool) (ts : List Token) (ns : List Mark) (s : State) → Leads strict ts start ns s → Stands strict ts
stands strict ts ns s l =
    let w = some_follows strict s in
    let o = l.follows w.0 w.1 in
    record { expression = o.0; rest = w.0; fits = o.2; spelled = sym (o.3 ∙ ap (λ x. spelling o.0 ++ x) o.4) }

-- how a formula's walk goes
walked : (strict : Bool) (ts : List Token) (h : Stands strict ts) → walk strict (ts ++ h.rest) start ≡ prefixed (marks h.expression 0 ++ quiet ∷ []) (at finished)
walked strict ts h =
    ap (λ x. walk strict x start) (sym h.spelled) ∙ walk-expression strict h.expression [] 0 (Token.End ∷ []) refl h.fits
    ∙ sym (prefixed-append (marks h.expression 0) (quiet ∷ []) (at finished))

stands_not : (strict : Bool) (ts : List Token) (ns : List Mark) (s : State) (t : Token) (n : FaultKind) → Leads strict ts start ns s → move strict s t ≡ Err n → Stands strict (ts ++ t ∷ []) → ⊥
stands_not strict ts ns s t n l m h =
    let a = walked strict (ts ++ t ∷ []) h in
    let b = ap (λ x. walk strict x start) (append_assoc ts (t ∷ []) h.rest) ∙ l.walks (t ∷ h.rest) ∙ ap (λ x. prefixed ns (opens (mark_at s t) (go_on (walk strict h.rest) x))) m in
    let c : false ≡ true =
    sym (ap is_stuck a ∙ is_stuck-prefixed (marks h.expression 0 ++ quiet ∷ []) (at finished)) ∙ ap is_stuck b ∙ is_stuck-prefixed ns (opens (mark_at s t) stuck) in
    cc

-- the marks of every formula that begins with tokens that lead to a state
marks_are : (ts : List Token) (ns : List Mark) (s : State) (t : Token) → Leads true ts start ns s → (h : Stands true (ts ++ t ∷ []))
    → (rest : List Mark) × (formula_marks h.expression ≡ ns ++ mark_at s t ∷ rest)
marks_are ts ns s t l h =
    let a = walked true (ts ++ t ∷ []) h in
    let b = ap (λ x. walk true x start) (append_assoc ts (t ∷ []) h.rest) ∙ l.walks (t ∷ h.rest) in (
      listed (go_on (walk true h.rest) (move true s t)),
      sym (append-nil (formula_marks h.expression)) ∙ sym (listed-prefixed (formula_marks h.expression) (at finished)) ∙ sym (ap listed a) ∙ ap listed b ∙ listed-prefixed ns _,
    )

mark_is : (ts : List Token) (ns : List Mark) (s : State) (t : Token) → Leads true ts start ns s → (h : Stands true (ts ++ t ∷ [])) → mark_of ts h.expression ≡ mark_at s t
mark_is ts ns s t l h =
    let m = marks_are ts ns s t l h in
    ap (λ x. get_or x (length ts) quiet) m.1 ∙ get_or_at ns (mark_at s t) m.0 quiet (length ts) l.counts

total_front : (ns : List Mark) (m : Mark) (rest : List Mark) (k : ℕ) → length ns ≡ k → total_nodes (take (suc k) (ns ++ m ∷ rest)) ≡ total_nodes ns + m.nodes
total_front [] m rest k h =
    let e : k ≡ 0 = sym h in
    ap (λ j. total_nodes (take (suc j) (m ∷ rest))) e ∙ omega arith
total_front (n ∷ ns) m rest zero h = absurd (omega (arith, h))
total_front (n ∷ ns) m rest (suc k) h =
    let j : length ns ≡ k = omega (arith, h) in
    let r = total_front ns m rest k j in
    omega (arith, r)

total_is : (ts : List Token) (ns : List Mark) (s : State) (t : Token) → Leads true ts start ns s → (h : Stands true (ts ++ t ∷ [])) → total_nodes (marks_to ts h.expression) ≡ total_nodes ns + (mark_at s t).nodes
total_is ts ns s t l h =
    let m = marks_are ts ns s t l h in
    ap (λ x. total_nodes (take (suc (length ts)) x)) m.1 ∙ total_front ns (mark_at s t) m.0 (length ts) l.counts

pub total-append : (a b : List Mark) → total_nodes (a ++ b) ≡ total_nodes a + total_nodes b
total-append [] b = omega arith
total-append (m ∷ a) b = let r = total-append a b in omega (arith, r)

-- one more token at the end of some
split_snoc : (before b : List Token) (t u : Token) (c : List Token) → before ++ t ∷ [] ≡ b ++ u ∷ c → ((before ≡ b) × (t ≡ u)) ⊎ ((d : List Token) × (before ≡ b ++ u ∷ d))
split_snoc [] [] t u c e = inl (refl, cc)
split_snoc [] (x ∷ []) t u c e = cc
split_snoc [] (x ∷ y ∷ b) t u c e = cc
split_snoc (x ∷ before) [] t u c e = let h : x ≡ u = cc in inr (before, ap (λ y. y ∷ before) h)
split_snoc (x ∷ before) (y ∷ b) t u c e =
    let same : x ≡ y = cc in
    let rest : before ++ t ∷ [] ≡ b ++ u ∷ c = cc in
    ⊎_elim (λ h. inl (ap₂ (λ z zs. z ∷ zs) same h.0, h.1)) (λ h. inr (h.0, ap₂ (λ z zs. z ∷ zs) same h.1)) (split_snoc before b t u c rest)

faultless_more : (before : List Token) (t : Token) → IsFaultless before → ((n : FaultKind) → Applies before t n → ⊥) → IsFaultless (before ++ t ∷ [])
faultless_more before t none here b u c e n applies =
    ⊎_elim
    (λ h. here n (subst (λ x. Applies x t n) (sym h.0) (subst (λ x. Applies b x n) (sym h.1) applies)))
    (λ h. none b u h.0 h.1 n applies)
    (split_snoc before b t u c e)

faultless_none : IsFaultless []
faultless_none [] t after e n applies = cc
faultless_none (x ∷ before) t after e n applies = cc

-- the faults that tokens have of themselves come early, and those of what they name last
abbrev IsOwn : FaultKind → Type 0
IsOwn FaultKind.BadCharacter = Unit {0}
IsOwn FaultKind.UnknownName = Unit {0}
IsOwn FaultKind.HugeNumber = Unit {0}
IsOwn k = ⊥

abbrev IsNamed : FaultKind → Type 0
IsNamed FaultKind.UnknownSheet = Unit {0}
IsNamed FaultKind.OutsideSheet = Unit {0}
IsNamed k = ⊥

abbrev IsEach : (FaultKind → Type 0) → Option FaultKind → Type 0
IsEach P (Some k) = P k
IsEach P None = Unit {0}

each : (P : FaultKind → Type 0) (o : Option FaultKind) (k : FaultKind) → IsEach P o → o ≡ Some k → P k
each P o k h e = subst (IsEach P) e h

chosen : (P : FaultKind → Type 0) (k : FaultKind) (b : Bool) → P k → IsEach P (cond b None (Some k))
chosen P k true h = tt
chosen P k false h = h

own_literal : (l : Literal) → IsEach IsOwn (literal_fault l)
own_literal (Literal.Number n) = chosen IsOwn FaultKind.HugeNumber (int_le (pos 0) n && fits n) tt
own_literal Literal.HugeNumber = tt
own_literal l = tt

own_word : (w : Word) → IsEach IsOwn (word_fault w)
own_word (Word.Cell c) = tt
own_word Word.Unknown = tt

own_function : (f : Option Fun) → IsEach IsOwn (function_fault f)
own_function (Some f) = tt
own_function None = tt

own_token : (t : Token) → IsEach IsOwn (own_fault t)
own_token Token.BadCharacter = tt
own_token (Token.Reference w) = own_word w
own_token (Token.SheetReference w) = own_word w
own_token (Token.Function f) = own_function f
own_token (Token.Literal l) = own_literal l
own_token t = tt

own_few : (k : FaultKind) → IsOwn k → number_of k ≤ 4
own_few FaultKind.BadCharacter h = omega arith
own_few FaultKind.UnknownName h = omega arith
own_few FaultKind.HugeNumber h = omega arith
own_few k h = absurd h

own_from_1 : (t : Token) (k : FaultKind) → own_fault t ≡ Some k → number_of k ≤ 4
own_from_1 t k e = own_few k (each IsOwn (own_fault t) k (own_token t) e)

literal_good : (l : Literal) → own_fault (Token.Literal l) ≡ Some FaultKind.BadCharacter → ⊥
literal_good (Literal.Number n) e = by_range (int_le (pos 0) n && fits n) e
  where
    by_range : (b : Bool) → cond b None (Some FaultKind.HugeNumber) ≡ Some FaultKind.BadCharacter → ⊥
    by_range true e = cc
    by_range false e = cc
literal_good Literal.HugeNumber e = cc
literal_good l e = cc

word_good : (w : Word) → word_fault w ≡ Some FaultKind.BadCharacter → ⊥
word_good (Word.Cell c) e = cc
word_good Word.Unknown e = cc

function_good : (f : Option Fun) → function_fault f ≡ Some FaultKind.BadCharacter → ⊥
function_good (Some f) e = cc
function_good None e = cc

-- a token that is no bad character does not have that fault
not_bad : (t : Token) → is_bad t ≡ false → own_fault t ≡ Some FaultKind.BadCharacter → ⊥
not_bad Token.BadCharacter b e = cc
not_bad (Token.Reference w) b e = word_good w e
not_bad (Token.SheetReference w) b e = word_good w e
not_bad (Token.Function f) b e = function_good f e
not_bad (Token.Literal l) b e = literal_good l e
not_bad t b e = cc

bad_is : (t : Token) → is_bad t ≡ true → own_fault t ≡ Some FaultKind.BadCharacter
bad_is Token.BadCharacter b = refl
bad_is t b = cc

named_corner : (w : Word) → IsEach IsNamed (corner_fault w)
named_corner (Word.Cell c) = chosen IsNamed FaultKind.OutsideSheet (is_inside c) tt
named_corner Word.Unknown = tt

named_prefix : (s : Option ℕ) → IsEach IsNamed (prefix_fault s)
named_prefix (Some s) = tt
named_prefix None = tt

named_token : (t : Token) → IsEach IsNamed (named_fault t)
named_token (Token.Prefix s) = named_prefix s
named_token (Token.Reference w) = named_corner w
named_token (Token.SheetReference w) = named_corner w
named_token t = tt

named_late : (k : FaultKind) → IsNamed k → 9 ≤ number_of k
named_late FaultKind.UnknownSheet h = omega arith
named_late FaultKind.OutsideSheet h = omega arith
named_late k h = absurd h

named_from_9 : (t : Token) (k : FaultKind) → named_fault t ≡ Some k → 9 ≤ number_of k
named_from_9 t k e = named_late k (each IsNamed (named_fault t) k (named_token t) e)

-- what a step says of its token
pub record Passes (n : ℕ) (s : State) (t : Token) (s' : State) : Type 0 where
  pub moved : move true s t ≡ Ok s'
  pub known : own_fault t ≡ None
  pub inside : named_fault t ≡ None
  pub low : (mark_at s t).level ≤ MAX_LEVELS
  pub few : (mark_at s t).nodes ≤ MAX_NODES - n
  pub small : (mark_at s t).cells ≤ MAX_RANGE_CELLS

pub passes : (n : ℕ) (s : State) (t : Token) (s' : State) → step n s t ≡ Ok s' → Passes n s t s'
passes n s t s' = by_case (is_bad t) (own_fault t) (named_fault t) (nat_le (mark_at s t).level MAX_LEVELS) (nat_le (mark_at s t).nodes (MAX_NODES - n)) (nat_le (mark_at s t).cells MAX_RANGE_CELLS) (move true s t) refl refl refl refl refl refl refl
  where
    by_case : (bad : Bool) (o l : Option FaultKind) (low few small : Bool) (m : Move) → is_bad t ≡ bad → own_fault t ≡ o → named_fault t ≡ l → nat_le (mark_at s t).level MAX_LEVELS ≡ low → nat_le (mark_at s t).nodes (MAX_NODES - n) ≡ few → nat_le (mark_at s t).cells MAX_RANGE_CELLS ≡ small → move true s t ≡ m → checked bad o l low few small m ≡ Ok s' → Passes n s t s'
    by_case bad None None true true true (Ok a) qb qo ql h f c m e = record { moved = m ∙ e; known = qo; inside = ql; low = leb-true _ _ h; few = leb-true _ _ f; small = leb-true _ _ c }
    by_case bad (Some o) l low few small (Ok a) qb qo ql h f c m e = cc
    by_case bad None l false few small (Ok a) qb qo ql h f c m e = cc
    by_case bad None l true false small (Ok a) qb qo ql h f c m e = cc
    by_case bad None l true true false (Ok a) qb qo ql h f c m e = cc
    by_case bad None (Some l) true true true (Ok a) qb qo ql h f c m e = cc
    by_case true o l low few small (Err j) qb qo ql h f c m e = cc
    by_case false o l low few small (Err j) qb qo ql h f c m e = cc

-- tokens that no count of arguments speaks of
abbrev Uncounted : Token → Type 0
Uncounted Token.RightParen = ⊥
Uncounted Token.Comma = ⊥
Uncounted t = Unit {0}

same_close : (fs : List Frame) (t : Token) → Uncounted t → on_close true fs t ≡ on_close false fs t
same_close fs Token.RightParen u = absurd u
same_close fs Token.Comma u = absurd u
same_close fs t u = refl

same_operator : (fs : List Frame) (t : Token) → Uncounted t → on_operator true fs t ≡ on_operator false fs t
same_operator fs (Token.Operator op) u = refl
same_operator fs t u = same_close fs t u

same_no_range : (k : Kind) (fs : List Frame) (t : Token) → Uncounted t → on_no_range true k fs t ≡ on_no_range false k fs t
same_no_range Plain fs t u = same_operator fs t u
same_no_range Many fs t u = same_operator fs t u
same_no_range Exact fs t u = same_operator fs t u
same_no_range Place fs t u = same_close fs t u

same_corner : (k : Kind) (w : Word) (fs : List Frame) (t : Token) → Uncounted t → on_corner true k w fs t ≡ on_corner false k w fs t
same_corner k w fs Token.Colon u = refl
same_corner k w fs t u = same_no_range k fs t u

same_opened : (f : Option Fun) (s : ℕ) (fs : List Frame) (t : Token) → Uncounted t → on_opened true f s fs t ≡ on_opened false f s fs t
same_opened f s fs Token.RightParen u = absurd u
same_opened f s fs t u = refl

same_move : (s : State) (t : Token) → Uncounted t → move true s t ≡ move false s t
same_move (operand s fs) t u = refl
same_move (operator fs) t u = same_operator fs t u
same_move (named f s fs) t u = refl
same_move (opened f s fs) t u = same_opened f s fs t u
same_move (argument k fs) t u = refl
same_move (sheet k fs) t u = refl
same_move (corner k w fs) t u = same_corner k w fs t u
same_move (colon w fs) t u = refl
same_move (ended fs) t u = same_close fs t u
same_move finished t u = refl

-- where a count of arguments is wrong, the token has no other fault
record Clear (t : Token) : Type 0 where
  own : own_fault t ≡ None
  fine : is_bad t ≡ false

both_moves : (s : State) (t : Token) (k : FaultKind) (b : State) → Uncounted t → move true s t ≡ Err k → move false s t ≡ Ok b → ⊥
both_moves s t k b u e f =
    let x : ◌≡◌ {A = Move} (Err k) (Ok b) = sym e ∙ same_move s t u ∙ f in
    cc

clear_count : (s : State) (t : Token) (k : FaultKind) (b : State) → move true s t ≡ Err k → move false s t ≡ Ok b → Clear t
clear_count s Token.RightParen k b e f = record { own = refl; fine = refl }
clear_count s Token.Comma k b e f = record { own = refl; fine = refl }
clear_count s t k b e f = absurd (both_moves s t k b tt e f)

-- tokens that lead to a state, with and without counts
record Reached (before : List Token) (s : State) : Type 0 where
  marks_so_far : List Mark
  strictly : Leads true before start marks_so_far s
  loosely : Leads false before start marks_so_far s

reached_none : Reached [] start
reached_none = record { marks_so_far = []; strictly = leads_none true start; loosely = leads_none false start }

loose_ok : (s : State) (t : Token) (s' : State) → move true s t ≡ Ok s' → move false s t ≡ Ok s'
loose_ok s t s' e = by_case (move true s t) (move false s t) (judged s t) e
  where
    by_case : (m n : Move) → Judged m n → m ≡ Ok s' → n ≡ Ok s'
    by_case (Ok a) (Ok b) j e = ap Ok (sym j) ∙ e
    by_case (Ok a) (Err n) j e = absurd j
    by_case (Err n) (Ok b) j e = cc
    by_case (Err n) (Err m) j e = cc

reached_more : (before : List Token) (s : State) (t : Token) (s' : State) → Reached before s → move true s t ≡ Ok s' → Reached (before ++ t ∷ []) s'
reached_more before s t s' r m = record {
  marks_so_far = r.marks_so_far ++ mark_at s t ∷ [];
  strictly = leads_more true before start r.marks_so_far s t s' r.strictly m;
  loosely = leads_more false before start r.marks_so_far s t s' r.loosely (loose_ok s t s' m);
}

reached_stands : (before : List Token) (s : State) → Reached before s → Stands true before × Stands false before
reached_stands before s r = (stands true before r.marks_so_far s r.strictly, stands false before r.marks_so_far s r.loosely)

-- which fault it can be
at_least_1 : (k : FaultKind) → 1 ≤ number_of k
at_least_1 FaultKind.BadCharacter = omega arith
at_least_1 FaultKind.Misplaced = omega arith
at_least_1 FaultKind.UnknownName = omega arith
at_least_1 FaultKind.HugeNumber = omega arith
at_least_1 FaultKind.ArgumentCount = omega arith
at_least_1 FaultKind.TooDeep = omega arith
at_least_1 FaultKind.TooLong = omega arith
at_least_1 FaultKind.LargeRange = omega arith
at_least_1 FaultKind.UnknownSheet = omega arith
at_least_1 FaultKind.OutsideSheet = omega arith

from_2 : (t : Token) (k : FaultKind) → is_bad t ≡ false → own_fault t ≡ Some k → 2 ≤ number_of k
from_2 t FaultKind.BadCharacter b e = absurd (not_bad t b e)
from_2 t FaultKind.Misplaced b e = omega arith
from_2 t FaultKind.UnknownName b e = omega arith
from_2 t FaultKind.HugeNumber b e = omega arith
from_2 t FaultKind.ArgumentCount b e = omega arith
from_2 t FaultKind.TooDeep b e = omega arith
from_2 t FaultKind.TooLong b e = omega arith
from_2 t FaultKind.LargeRange b e = omega arith
from_2 t FaultKind.UnknownSheet b e = omega arith
from_2 t FaultKind.OutsideSheet b e = omega arith

at_least_2 : (before : List Token) (t : Token) (m : FaultKind) → is_bad t ≡ false → Applies before t m → 2 ≤ number_of m
at_least_2 before t m b (inl h) = from_2 t m b h
at_least_2 before t m b (inr (inl h)) = omega (arith, ap number_of h.0)
at_least_2 before t m b (inr (inr (inl h))) = omega (arith, ap number_of h.0)
at_least_2 before t m b (inr (inr (inr (inl h)))) = omega (arith, ap number_of h.0)
at_least_2 before t m b (inr (inr (inr (inr (inl h))))) = omega (arith, ap number_of h.0)
at_least_2 before t m b (inr (inr (inr (inr (inr (inl h)))))) = omega (arith, ap number_of h.0)
at_least_2 before t m b (inr (inr (inr (inr (inr (inr h)))))) = let x = named_from_9 t m h in omega (arith, x)

-- a token without a fault of its own has none
no_own : (t : Token) (m : FaultKind) → own_fault t ≡ None → own_fault t ≡ Some m → ⊥
no_own t m u e = let x : ◌≡◌ {A = Option FaultKind} None (Some m) = sym u ∙ e in cc

at_least_5 : (before : List Token) (t : Token) (m : FaultKind) → Stands false (before ++ t ∷ []) → own_fault t ≡ None → Applies before t m → 5 ≤ number_of m
at_least_5 before t m st u (inl h) = absurd (no_own t m u h)
at_least_5 before t m st u (inr (inl h)) = absurd (h.1 st)
at_least_5 before t m st u (inr (inr (inl h))) = omega (arith, ap number_of h.0)
at_least_5 before t m st u (inr (inr (inr (inl h)))) = omega (arith, ap number_of h.0)
at_least_5 before t m st u (inr (inr (inr (inr (inl h))))) = omega (arith, ap number_of h.0)
at_least_5 before t m st u (inr (inr (inr (inr (inr (inl h)))))) = omega (arith, ap number_of h.0)
at_least_5 before t m st u (inr (inr (inr (inr (inr (inr h)))))) = let x = named_from_9 t m h in omega (arith, x)

-- the faults that a token which stands can have
abbrev Flaw : ℕ → State → Token → FaultKind → Type 0
Flaw n s t m =
    (own_fault t ≡ Some m)
    ⊎ ((m ≡ FaultKind.TooDeep) × (MAX_LEVELS < (mark_at s t).level))
    ⊎ ((m ≡ FaultKind.TooLong) × (MAX_NODES < n + (mark_at s t).nodes))
    ⊎ ((m ≡ FaultKind.LargeRange) × (MAX_RANGE_CELLS < (mark_at s t).cells))
    ⊎ (named_fault t ≡ Some m)

flawed : (before : List Token) (s : State) (t : Token) (m : FaultKind) (r : Reached before s) → Stands true (before ++ t ∷ []) × Stands false (before ++ t ∷ []) → Applies before t m → Flaw (total_nodes r.marks_so_far) s t m
flawed before s t m r st (inl h) = inl h
flawed before s t m r st (inr (inl h)) = absurd (h.1 st.1)
flawed before s t m r st (inr (inr (inl h))) = absurd (h.1 st.0)
flawed before s t m r st (inr (inr (inr (inl h)))) =
    let e = ap (λ x. x.level) (mark_is before r.marks_so_far s t r.strictly h.1) in
    inr (inl (h.0, omega (arith, e, h.2)))
flawed before s t m r st (inr (inr (inr (inr (inl h))))) =
    let e = total_is before r.marks_so_far s t r.strictly h.1 in
    inr (inr (inl (h.0, omega (arith, e, h.2))))
flawed before s t m r st (inr (inr (inr (inr (inr (inl h)))))) =
    let e = ap (λ x. x.cells) (mark_is before r.marks_so_far s t r.strictly h.1) in
    inr (inr (inr (inl (h.0, omega (arith, e, h.2)))))
flawed before s t m r st (inr (inr (inr (inr (inr (inr h)))))) = inr (inr (inr (inr h)))

no_flaw : (n : ℕ) → n ≤ MAX_NODES → (s : State) (t : Token) (s' : State) (m : FaultKind) → Passes n s t s' → Flaw n s t m → ⊥
no_flaw n w s t s' m p (inl h) = no_own t m p.known h
no_flaw n w s t s' m p (inr (inl h)) = omega (arith, p.low, h.1)
no_flaw n w s t s' m p (inr (inr (inl h))) = omega (arith, w, p.few, h.1)
no_flaw n w s t s' m p (inr (inr (inr (inl h)))) = omega (arith, p.small, h.1)
no_flaw n w s t s' m p (inr (inr (inr (inr h)))) = let x : ◌≡◌ {A = Option FaultKind} None (Some m) = sym p.inside ∙ h in cc

no_line : (before : List Token) (s : State) (t : Token) (s' : State) (r : Reached before s) → total_nodes r.marks_so_far ≤ MAX_NODES → Passes (total_nodes r.marks_so_far) s t s' → (m : FaultKind) → Applies before t m → ⊥
no_line before s t s' r w p m a =
    no_flaw (total_nodes r.marks_so_far) w s t s' m p (flawed before s t m r (reached_stands (before ++ t ∷ []) s' (reached_more before s t s' r p.moved)) a)

-- what is known of a token that stands behind n nodes, whose least flaw is k
record Least (n : ℕ) (s : State) (t : Token) (k : ℕ) : Type 0 where
  own : own_fault t ≡ None
  level : 6 < k → (mark_at s t).level ≤ MAX_LEVELS
  nodes : 7 < k → n + (mark_at s t).nodes ≤ MAX_NODES
  cells : 8 < k → (mark_at s t).cells ≤ MAX_RANGE_CELLS
  named : k ≤ 9

least_flaw : (n : ℕ) (s : State) (t : Token) (k : ℕ) (m : FaultKind) → Least n s t k → Flaw n s t m → k ≤ number_of m
least_flaw n s t k m l (inl h) = absurd (no_own t m l.own h)
least_flaw n s t k m l (inr (inl h)) = by_size (nat_le k 6) refl
  where
    by_size : (b : Bool) → nat_le k 6 ≡ b → k ≤ number_of m
    by_size true e = let x = leb-true k 6 e in omega (arith, x, ap number_of h.0)
    by_size false e = let x = leb-false k 6 e in let y = l.level x in absurd (omega (arith, y, h.1))
least_flaw n s t k m l (inr (inr (inl h))) = by_size (nat_le k 7) refl
  where
    by_size : (b : Bool) → nat_le k 7 ≡ b → k ≤ number_of m
    by_size true e = let x = leb-true k 7 e in omega (arith, x, ap number_of h.0)
    by_size false e = let x = leb-false k 7 e in let y = l.nodes x in absurd (omega (arith, y, h.1))
least_flaw n s t k m l (inr (inr (inr (inl h)))) = by_size (nat_le k 8) refl
  where
    by_size : (b : Bool) → nat_le k 8 ≡ b → k ≤ number_of m
    by_size true e = let x = leb-true k 8 e in omega (arith, x, ap number_of h.0)
    by_size false e = let x = leb-false k 8 e in let y = l.cells x in absurd (omega (arith, y, h.1))
least_flaw n s t k m l (inr (inr (inr (inr h)))) = let x = named_from_9 t m h in let y = l.named in omega (arith, x, y)

-- a step that fails does so by the fault with the least number
record Lines (before : List Token) (t : Token) (n : FaultKind) : Type 0 where
  applies : Applies before t n
  least : (m : FaultKind) → Applies before t m → number_of n ≤ number_of m

lines : (before : List Token) (s : State) (t : Token) (n : FaultKind) (r : Reached before s) → total_nodes r.marks_so_far ≤ MAX_NODES → step (total_nodes r.marks_so_far) s t ≡ Err n → Lines before t n
lines before s t n r w = by_case (is_bad t) (own_fault t) (named_fault t) (nat_le (mark_at s t).level MAX_LEVELS) (nat_le (mark_at s t).nodes (MAX_NODES - total_nodes r.marks_so_far)) (nat_le (mark_at s t).cells MAX_RANGE_CELLS) (move true s t) (move false s t) refl refl refl refl refl refl refl refl (judged s t)
  where
    numbered : (k : FaultKind) → Lines before t k → k ≡ n → Lines before t n
    numbered k l e = subst (Lines before t) e l

    strict_not : (m : FaultKind) → move true s t ≡ Err m → Stands true (before ++ t ∷ []) → ⊥
    strict_not m e = stands_not true before r.marks_so_far s t m r.strictly e

    loose_not : (m : FaultKind) → move false s t ≡ Err m → Stands false (before ++ t ∷ []) → ⊥
    loose_not m e = stands_not false before r.marks_so_far s t m r.loosely e

    loose : (b : State) → move false s t ≡ Ok b → Stands false (before ++ t ∷ [])
    loose b e = stands false (before ++ t ∷ []) (r.marks_so_far ++ mark_at s t ∷ []) b (leads_more false before start r.marks_so_far s t b r.loosely e)

    both : (a : State) → move true s t ≡ Ok a → Stands true (before ++ t ∷ []) × Stands false (before ++ t ∷ [])
    both a e = reached_stands (before ++ t ∷ []) a (reached_more before s t a r e)

    least_of : (k : ℕ) (a : State) → move true s t ≡ Ok a → Least (total_nodes r.marks_so_far) s t k → (m : FaultKind) → Applies before t m → k ≤ number_of m
    least_of k a e h m x = least_flaw (total_nodes r.marks_so_far) s t k m h (flawed before s t m r (both a e) x)

    same_own : (k m : FaultKind) → own_fault t ≡ Some k → own_fault t ≡ Some m → number_of k ≤ number_of m
    same_own k m o e = let x : Some k ≡ Some m = sym o ∙ e in let y : k ≡ m = cc in omega (arith, ap number_of y)

    same_named : (k m : FaultKind) → named_fault t ≡ Some k → named_fault t ≡ Some m → number_of k ≤ number_of m
    same_named k m o e = let x : Some k ≡ Some m = sym o ∙ e in let y : k ≡ m = cc in omega (arith, ap number_of y)

    least_own : (k : FaultKind) (a : State) → own_fault t ≡ Some k → move true s t ≡ Ok a → (m : FaultKind) → Applies before t m → number_of k ≤ number_of m
    least_own k a o e m x = of_flaw (flawed before s t m r (both a e) x)
      where
        of_flaw : Flaw (total_nodes r.marks_so_far) s t m → number_of k ≤ number_of m
        of_flaw (inl h) = same_own k m o h
        of_flaw (inr (inl h)) = let y = own_from_1 t k o in omega (arith, y, ap number_of h.0)
        of_flaw (inr (inr (inl h))) = let y = own_from_1 t k o in omega (arith, y, ap number_of h.0)
        of_flaw (inr (inr (inr (inl h)))) = let y = own_from_1 t k o in omega (arith, y, ap number_of h.0)
        of_flaw (inr (inr (inr (inr h)))) = let y = own_from_1 t k o in let z = named_from_9 t m h in omega (arith, y, z)

    least_named : (k : FaultKind) (a : State) → own_fault t ≡ None → named_fault t ≡ Some k → (mark_at s t).level ≤ MAX_LEVELS → (mark_at s t).nodes ≤ MAX_NODES - total_nodes r.marks_so_far → (mark_at s t).cells ≤ MAX_RANGE_CELLS → move true s t ≡ Ok a → (m : FaultKind) → Applies before t m → number_of k ≤ number_of m
    least_named k a o q u v z e m x = of_flaw (flawed before s t m r (both a e) x)
      where
        of_flaw : Flaw (total_nodes r.marks_so_far) s t m → number_of k ≤ number_of m
        of_flaw (inl h) = absurd (no_own t m o h)
        of_flaw (inr (inl h)) = absurd (omega (arith, u, h.1))
        of_flaw (inr (inr (inl h))) = absurd (omega (arith, w, v, h.1))
        of_flaw (inr (inr (inr (inl h)))) = absurd (omega (arith, z, h.1))
        of_flaw (inr (inr (inr (inr h)))) = same_named k m q h

    by_case : (bad : Bool) (o l : Option FaultKind) (low few small : Bool) (m lo : Move) → is_bad t ≡ bad → own_fault t ≡ o → named_fault t ≡ l → nat_le (mark_at s t).level MAX_LEVELS ≡ low → nat_le (mark_at s t).nodes (MAX_NODES - total_nodes r.marks_so_far) ≡ few → nat_le (mark_at s t).cells MAX_RANGE_CELLS ≡ small → move true s t ≡ m → move false s t ≡ lo → Judged m lo → checked bad o l low few small m ≡ Err n → Lines before t n
    by_case true o l low few small (Err k) lo qb qo ql h f c m q jd e =
        numbered FaultKind.BadCharacter (record { applies = inl (bad_is t qb); least = λ i x. at_least_1 i }) cc
    by_case false o l low few small (Err k) (Err j) qb qo ql h f c m q jd e =
        numbered k (subst (Lines before t) (sym jd) (record { applies = inr (inl (refl, loose_not j q)); least = λ i. at_least_2 before t i qb })) cc
    by_case false o l low few small (Err k) (Ok b) qb qo ql h f c m q jd e =
        numbered k (subst (Lines before t) (sym jd) (record {
          applies = inr (inr (inl (refl, strict_not k m, loose b q)));
          least = λ i. at_least_5 before t i (loose b q) (clear_count s t k b m q).own;
        })) cc
    by_case bad (Some o) l low few small (Ok a) lo qb qo ql h f c m q jd e =
        numbered o (record { applies = inl qo; least = least_own o a qo m }) cc
    by_case bad None l false few small (Ok a) lo qb qo ql h f c m q jd e =
        let st = both a m in
        let high : MAX_LEVELS < (mark_at s t).level = leb-false _ _ h in
        let is = ap (λ x. x.level) (mark_is before r.marks_so_far s t r.strictly st.0) in
        numbered FaultKind.TooDeep (record {
          applies = inr (inr (inr (inl (refl, st.0, omega (arith, is, high)))));
          least = least_of 6 a m (record { own = qo; level = λ x. absurd (omega (arith, x)); nodes = λ x. absurd (omega (arith, x)); cells = λ x. absurd (omega (arith, x)); named = omega arith });
        }) cc
    by_case bad None l true false small (Ok a) lo qb qo ql h f c m q jd e =
        let st = both a m in
        let more : MAX_NODES - total_nodes r.marks_so_far < (mark_at s t).nodes = leb-false _ _ f in
        let many : MAX_NODES < total_nodes r.marks_so_far + (mark_at s t).nodes = omega (arith, more) in
        let is = total_is before r.marks_so_far s t r.strictly st.0 in
        numbered FaultKind.TooLong (record {
          applies = inr (inr (inr (inr (inl (refl, st.0, omega (arith, is, many))))));
          least = least_of 7 a m (record { own = qo; level = λ x. leb-true _ _ h; nodes = λ x. absurd (omega (arith, x)); cells = λ x. absurd (omega (arith, x)); named = omega arith });
        }) cc
    by_case bad None l true true false (Ok a) lo qb qo ql h f c m q jd e =
        let st = both a m in
        let large : MAX_RANGE_CELLS < (mark_at s t).cells = leb-false _ _ c in
        let is = ap (λ x. x.cells) (mark_is before r.marks_so_far s t r.strictly st.0) in
        let room : (mark_at s t).nodes ≤ MAX_NODES - total_nodes r.marks_so_far = leb-true _ _ f in
        numbered FaultKind.LargeRange (record {
          applies = inr (inr (inr (inr (inr (inl (refl, st.0, omega (arith, is, large)))))));
          least = least_of 8 a m (record { own = qo; level = λ x. leb-true _ _ h; nodes = λ x. omega (arith, w, room); cells = λ x. absurd (omega (arith, x)); named = omega arith });
        }) cc
    by_case bad None (Some l) true true true (Ok a) lo qb qo ql h f c m q jd e =
        numbered l (record { applies = inr (inr (inr (inr (inr (inr ql))))); least = least_named l a qo ql (leb-true _ _ h) (leb-true _ _ f) (leb-true _ _ c) m }) cc
    by_case bad None None true true true (Ok a) lo qb qo ql h f c m q jd e = cc

-- what a run says
abbrev Tells : List Spot → ℕ → Outcome → Type 0
Tells spots end accepted = IsFaultless (tokens_of spots ++ Token.End ∷ [])
Tells spots end (fault place n) = FirstFault spots end place n

-- tokens that lead to a state behind n nodes
record Comes (before : List Token) (n : ℕ) (s : State) : Type 0 where
  reached : Reached before s
  nodes : total_nodes reached.marks_so_far ≡ n
  faultless : IsFaultless before
  few : n ≤ MAX_NODES

comes_none : Comes [] 0 start
unfolding reached_none
comes_none = record { reached = reached_none; nodes = refl; faultless = faultless_none; few = omega arith }

comes_more : (before : List Token) (n : ℕ) (s : State) (t : Token) (s' : State) → Comes before n s → step n s t ≡ Ok s' → Comes (before ++ t ∷ []) (n + (mark_at s t).nodes) s'
unfolding reached_more
comes_more before n s t s' c e =
    let ok : step (total_nodes c.reached.marks_so_far) s t ≡ Ok s' = ap (λ k. step k s t) c.nodes ∙ e in
    let p = passes (total_nodes c.reached.marks_so_far) s t s' ok in
    let one = total-append c.reached.marks_so_far (mark_at s t ∷ []) in
    let k = c.nodes in
    let few = c.few in
    record {
      reached = reached_more before s t s' c.reached p.moved;
      nodes = omega (arith, one, k);
      faultless = faultless_more before t c.faultless (no_line before s t s' c.reached (omega (arith, k, few)) p);
      few = omega (arith, k, few, p.few);
    }

map-more : (before : List Spot) (t : Spot) → tokens_of (before ++ t ∷ []) ≡ tokens_of before ++ t.token ∷ []
map-more [] t = refl
map-more (x ∷ before) t = ap (λ y. x.token ∷ y) (map-more before t)

comes_lines : (before : List Token) (n : ℕ) (s : State) (t : Token) (k : FaultKind) → Comes before n s → step n s t ≡ Err k → Lines before t k
comes_lines before n s t k c e = let few = c.few in let nodes = c.nodes in lines before s t k c.reached (omega (arith, nodes, few)) (ap (λ j. step j s t) c.nodes ∙ e)

found : (before after : List Spot) (t : Spot) (spots : List Spot) (end n : ℕ) (k : FaultKind) (s : State) → Comes (tokens_of before) n s → step n s t.token ≡ Err k → spots ++ record { token = Token.End; place = end } ∷ [] ≡ before ++ t ∷ after → FirstFault spots end t.place k
found before after t spots end n k s c e text =
    let l = comes_lines (tokens_of before) n s t.token k c e in
    record {
      before = before;
      token = t;
      after = after;
      text = text;
      at_place = refl;
      applies = l.applies;
      first_line = λ m h a. omega (arith, h, l.least m a);
      earlier = c.faultless;
    }

tells : (ts : List Spot) (end n : ℕ) (s : State) (before : List Spot) → Comes (tokens_of before) n s → Tells (before ++ ts) end (run ts end n s)
tells [] end n s before c = by_step (step n s Token.End) refl
  where
    by_step : (m : Move) → step n s Token.End ≡ m → Tells (before ++ []) end (at_end end m)
    by_step (Ok s') e = let m = comes_more (tokens_of before) n s Token.End s' c e in subst (λ x. IsFaultless (tokens_of x ++ Token.End ∷ [])) (sym (append-nil before)) m.faultless
    by_step (Err k) e =
        found before [] (record { token = Token.End; place = end }) (before ++ []) end n k s c e
        (ap (λ x. x ++ record { token = Token.End; place = end } ∷ []) (append-nil before))
tells (t ∷ ts) end n s before c = by_step (λ s' c'. tells ts end (n + (mark_at s t.token).nodes) s' (before ++ t ∷ []) c') (step n s t.token) refl
  where
    by_step : ((s' : State) → Comes (tokens_of (before ++ t ∷ [])) (n + (mark_at s t.token).nodes) s' → Tells ((before ++ t ∷ []) ++ ts) end (run ts end (n + (mark_at s t.token).nodes) s'))
        → (m : Move) → step n s t.token ≡ m → Tells (before ++ t ∷ ts) end (run_on (run ts end (n + (mark_at s t.token).nodes)) t.place m)
    by_step go (Ok s') e =
        let c' = comes_more (tokens_of before) n s t.token s' c e in
        subst (λ x. Tells x end (run ts end (n + (mark_at s t.token).nodes) s')) (append_assoc before (t ∷ []) ts)
        (go s' (subst (λ x. Comes x (n + (mark_at s t.token).nodes) s') (sym (map-more before t)) c'))
    by_step go (Err k) e = found before (ts ++ record { token = Token.End; place = end } ∷ []) t (before ++ t ∷ ts) end n k s c e (append_assoc before (t ∷ ts) _)

-- a run from the start that ends in a fault does so at the first token to which a line applies, by the first line
pub run_fault : (ts : List Spot) (end place : ℕ) (n : FaultKind) → run ts end 0 start ≡ fault place n → FirstFault ts end place n
run_fault ts end place n e = subst (Tells ts end) e (tells ts end 0 start [] comes_none)

-- a run that is accepted has no fault
pub run_faultless : (ts : List Spot) (end : ℕ) → run ts end 0 start ≡ accepted → IsFaultless (tokens_of ts ++ Token.End ∷ [])
run_faultless ts end e = subst (Tells ts end) e (tells ts end 0 start [] comes_none)
