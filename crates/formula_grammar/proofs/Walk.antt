-- A walk over a formula's tokens, by the grammar alone.
use Rattle.std.proofs.Common.{◌≡◌, ℕ, suc, ◌+◌, List, [], ◌∷◌, ◌++◌, Bool, true, false, Ok, Err, Option, refl, sym, ap, ap₂, ◌∙◌, subst, arith, append_assoc}
use Rattle.formula_trees.specs.declared.tree.Fun.{Fun}
use Rattle.formula_trees.specs.declared.tree.Sign.{Sign}
use Rattle.formula_trees.specs.declared.functions.Kind.{Kind}
use Rattle.formula_trees.specs.declared.functions.Kind.TheVariants.{Plain, Place, Many, Exact}
use Rattle.formula_tokens.specs.declared.token.Token.{Token}
use Rattle.formula_tokens.specs.declared.token.Word.{Word}
use Rattle.formula_grammar.specs.Syntax.{Mark, quiet, node, opening, signing, sized, cells_between, kind_at, are_enough, may_go_on, is_ref_error, is_exact, Target, here, on_sheet, Expression, only_joins, compare, Joins, only_sum, join, Sums, only_term, add, Term, only_signed, multiply, Signed, plain, signed, Primary, literal, reference, group, call_none, call, Arguments, last, more, Argument, value, cell, area, lone, sign_op, target_spelling, spelling, joins_spelling, sums_spelling, term_spelling, signed_spelling, primary_spelling, arguments_spelling, argument_spelling, marks, joins_marks, sums_marks, term_marks, signed_marks, primary_marks, arguments_marks, argument_marks, counted, IsOfKind, Fits, JoinsFit, SumsFit, TermFits, SignedFits, PrimaryFits, ArgumentsFit, ArgumentFits}
use Rattle.formula_grammar.specs.Steps.{Frame, in_group, in_call, State, operand, operator, opened, argument, sheet, corner, ended, Move, if_counted, on_lone, move, mark_at, open_levels}

-- a walk: it is stuck, it has come to a state, or the next token has a mark and it goes on
pub data Walk : Type 0 where
  stuck : Walk
  at : State → Walk
  opens : Mark → Walk → Walk

abbrev pub go_on : (State → Walk) → Move → Walk
go_on go (Ok s) = go s
go_on go (Err n) = stuck

abbrev pub walk : Bool → List Token → State → Walk
walk strict [] s = at s
walk strict (t ∷ ts) s = opens (mark_at s t) (go_on (walk strict ts) (move strict s t))

abbrev pub prefixed : List Mark → Walk → Walk
prefixed [] w = w
prefixed (n ∷ ns) w = opens n (prefixed ns w)

pub prefixed-append : (a b : List Mark) (w : Walk) → prefixed (a ++ b) w ≡ prefixed a (prefixed b w)
prefixed-append [] b w = refl
prefixed-append (n ∷ a) b w = ap (opens n) (prefixed-append a b w)

-- the tokens that an operand begins with
abbrev pub IsFirst : Token → Type 0
IsFirst (Token.Literal l) = Unit {0}
IsFirst (Token.Reference w) = Unit {0}
IsFirst (Token.Prefix s) = Unit {0}
IsFirst (Token.Function f) = Unit {0}
IsFirst Token.LeftParen = Unit {0}
IsFirst (Token.Operator op) = Unit {0}
IsFirst t = ⊥

-- tokens follow, and the first is no colon
abbrev pub NoColon : List Token → Type 0
NoColon [] = ⊥
NoColon (Token.Colon ∷ ts) = ⊥
NoColon (t ∷ ts) = Unit {0}

-- what an operand begins with, where it is no range
abbrev pub Head : Token → List Token → Type 0
Head (Token.Reference w) ts = NoColon ts
Head (Token.Prefix s) ts = (w : Word) × (us : List Token) × (ts ≡ Token.SheetReference w ∷ us) × NoColon us
Head t ts = IsFirst t

pub record Begins (ts : List Token) : Type 0 where
  pub first : Token
  pub others : List Token
  pub is : ts ≡ first ∷ others
  pub head : Head first others

begins-assoc : (a b u : List Token) → Begins (a ++ (b ++ u)) → Begins ((a ++ b) ++ u)
begins-assoc a b u = subst Begins (sym (append_assoc a b u))

begins_primary : (p : Primary) (u : List Token) → NoColon u → Begins (primary_spelling p ++ u)
begins_primary (literal l) u h = record { first = Token.Literal l; others = u; is = refl; head = tt }
begins_primary (reference (here w)) u h = record { first = Token.Reference w; others = u; is = refl; head = h }
begins_primary (reference (on_sheet s w)) u h = record { first = Token.Prefix s; others = Token.SheetReference w ∷ u; is = refl; head = (w, u, refl, h) }
begins_primary (group e) u h = record { first = Token.LeftParen; others = (spelling e ++ Token.RightParen ∷ []) ++ u; is = refl; head = tt }
begins_primary (call_none f) u h = record { first = Token.Function f; others = Token.LeftParen ∷ Token.RightParen ∷ u; is = refl; head = tt }
begins_primary (call f xs) u h = record { first = Token.Function f; others = Token.LeftParen ∷ ((arguments_spelling xs ++ Token.RightParen ∷ []) ++ u); is = refl; head = tt }

begins_signed : (s : Signed) (u : List Token) → NoColon u → Begins (signed_spelling s ++ u)
begins_signed (plain p) u h = begins_primary p u h
begins_signed (signed sign s) u h = record { first = Token.Operator (sign_op sign); others = signed_spelling s ++ u; is = refl; head = tt }

begins_term : (t : Term) (u : List Token) → NoColon u → Begins (term_spelling t ++ u)
begins_term (only_signed s) u h = begins_signed s u h
begins_term (multiply t op s) u h = begins-assoc (term_spelling t) (Token.Operator op ∷ signed_spelling s) u (begins_term t _ tt)

begins_sums : (s : Sums) (u : List Token) → NoColon u → Begins (sums_spelling s ++ u)
begins_sums (only_term t) u h = begins_term t u h
begins_sums (add s op t) u h = begins-assoc (sums_spelling s) (Token.Operator op ∷ term_spelling t) u (begins_sums s _ tt)

begins_joins : (j : Joins) (u : List Token) → NoColon u → Begins (joins_spelling j ++ u)
begins_joins (only_sum s) u h = begins_sums s u h
begins_joins (join j op s) u h = begins-assoc (joins_spelling j) (Token.Operator op ∷ sums_spelling s) u (begins_joins j _ tt)

pub begins_expression : (e : Expression) (u : List Token) → NoColon u → Begins (spelling e ++ u)
begins_expression (only_joins j) u h = begins_joins j u h
begins_expression (compare e op j) u h = begins-assoc (spelling e) (Token.Operator op ∷ joins_spelling j) u (begins_expression e _ tt)

-- what ends an argument
abbrev pub IsCloser : Token → Type 0
IsCloser Token.RightParen = Unit {0}
IsCloser Token.Comma = Unit {0}
IsCloser t = ⊥

no_colon_closer : (t : Token) (u : List Token) → IsCloser t → NoColon (t ∷ u)
no_colon_closer Token.RightParen u h = tt
no_colon_closer Token.Comma u h = tt
no_colon_closer t u h = absurd h

if_counted-counted : (strict b : Bool) (s : State) → counted strict b → if_counted strict b s ≡ Ok s
if_counted-counted false b s h = refl
if_counted-counted true true s h = refl
if_counted-counted true false s h = cc

-- tokens of which the first may begin an operand
pub record Starts (ts : List Token) : Type 0 where
  pub first : Token
  pub others : List Token
  pub is : ts ≡ first ∷ others
  pub may : IsFirst first

starts-assoc : (a b u : List Token) → Starts (a ++ (b ++ u)) → Starts ((a ++ b) ++ u)
starts-assoc a b u = subst Starts (sym (append_assoc a b u))

head_first : (t : Token) (ts : List Token) → Head t ts → IsFirst t
head_first (Token.Reference w) ts h = tt
head_first (Token.Prefix s) ts h = tt
head_first t ts h = h

starts_target : (x : Target) (u : List Token) → Starts (target_spelling x ++ u)
starts_target (here w) u = record { first = Token.Reference w; others = u; is = refl; may = tt }
starts_target (on_sheet s w) u = record { first = Token.Prefix s; others = Token.SheetReference w ∷ u; is = refl; may = tt }

starts_argument : (x : Argument) (t : Token) (u : List Token) → IsCloser t → Starts (argument_spelling x ++ t ∷ u)
starts_argument (value e) t u h =
    let b = begins_expression e (t ∷ u) (no_colon_closer t u h) in
    record { first = b.first; others = b.others; is = b.is; may = head_first b.first b.others b.head }
starts_argument (cell x) t u h = starts_target x (t ∷ u)
starts_argument (area x w) t u h = starts-assoc (target_spelling x) (Token.Colon ∷ Token.Reference w ∷ []) (t ∷ u) (starts_target x _)
starts_argument (lone l) t u h = record { first = Token.Literal l; others = t ∷ u; is = refl; may = tt }

pub starts_arguments : (xs : Arguments) (t : Token) (u : List Token) → IsCloser t → Starts (arguments_spelling xs ++ t ∷ u)
starts_arguments (last x) t u h = starts_argument x t u h
starts_arguments (more x xs) t u h = starts-assoc (argument_spelling x) (Token.Comma ∷ arguments_spelling xs) (t ∷ u) (starts_argument x Token.Comma _ tt)

module _ (strict : Bool) where
  walk-corner : (w : Word) (fs : List Frame) (ts : List Token) → NoColon ts → walk strict ts (corner Many w fs) ≡ walk strict ts (operator fs)
  walk-corner w fs [] h = absurd h
  walk-corner w fs (t ∷ ts) h = by_token t h
    where
      by_token : (t : Token) → NoColon (t ∷ ts) → walk strict (t ∷ ts) (corner Many w fs) ≡ walk strict (t ∷ ts) (operator fs)
      by_token Token.Colon h = absurd h
      by_token t h = refl

  -- an argument that is no range goes as an operand
  walk-fold : (fs : List Frame) (t : Token) (ts : List Token) → Head t ts → walk strict (t ∷ ts) (argument Many fs) ≡ walk strict (t ∷ ts) (operand 0 fs)
  walk-fold fs (Token.Reference w) ts h = ap (opens node) (walk-corner w fs ts h)
  walk-fold fs (Token.Prefix s) ts (w, us, is, h) =
      ap (λ x. opens quiet (walk strict x (sheet Many fs))) is ∙ ap (λ x. opens quiet (opens node x)) (walk-corner w fs us h)
      ∙ sym (ap (λ x. opens quiet (walk strict x (sheet Plain fs))) is)
  walk-fold fs t ts h = refl

  walk-opened : (f : Option Fun) (s : ℕ) (fs : List Frame) (t : Token) (ts : List Token) → IsFirst t → walk strict (t ∷ ts) (opened f s fs) ≡ walk strict (t ∷ ts) (argument (kind_at f 0) (in_call f 0 s ∷ fs))
  walk-opened f s fs Token.RightParen ts h = absurd h
  walk-opened f s fs t ts h = refl

  walk-right : (f : Option Fun) (n s : ℕ) (fs : List Frame) (u : List Token) → counted strict (are_enough f (suc n)) → walk strict (Token.RightParen ∷ u) (operator (in_call f n s ∷ fs)) ≡ opens quiet (walk strict u (operator fs))
  walk-right f n s fs u h = ap (λ m. opens quiet (go_on (walk strict u) m)) (if_counted-counted strict (are_enough f (suc n)) (operator fs) h)

  walk-comma : (f : Option Fun) (n s : ℕ) (fs : List Frame) (u : List Token) → counted strict (may_go_on f (suc n)) → walk strict (Token.Comma ∷ u) (operator (in_call f n s ∷ fs)) ≡ opens quiet (walk strict u (argument (kind_at f (suc n)) (in_call f (suc n) s ∷ fs)))
  walk-comma f n s fs u h = ap (λ m. opens quiet (go_on (walk strict u) m)) (if_counted-counted strict (may_go_on f (suc n)) (argument (kind_at f (suc n)) (in_call f (suc n) s ∷ fs)) h)

  -- behind a whole argument a comma or a parenthesis does what it does behind an operand
  walk-ended : (fs : List Frame) (t : Token) (u : List Token) → IsCloser t → walk strict (t ∷ u) (ended fs) ≡ walk strict (t ∷ u) (operator fs)
  walk-ended fs Token.RightParen u h = refl
  walk-ended fs Token.Comma u h = refl
  walk-ended fs t u h = absurd h

  walk-place : (w : Word) (fs : List Frame) (t : Token) (u : List Token) → IsCloser t → walk strict (t ∷ u) (corner Place w fs) ≡ walk strict (t ∷ u) (operator fs)
  walk-place w fs Token.RightParen u h = refl
  walk-place w fs Token.Comma u h = refl
  walk-place w fs t u h = absurd h

  walk-lone : (b : Bool) (fs : List Frame) (t : Token) (u : List Token) → b ≡ true → IsCloser t → go_on (walk strict (t ∷ u)) (on_lone b fs) ≡ walk strict (t ∷ u) (operator fs)
  walk-lone true fs t u h c = walk-ended fs t u c
  walk-lone false fs t u h c = cc

  walk-begun : (fs : List Frame) (ts : List Token) (t : Token) (u : List Token) → walk strict (ts ++ t ∷ u) (argument Plain fs) ≡ walk strict (ts ++ t ∷ u) (operand 0 fs)
  walk-begun fs [] t u = refl
  walk-begun fs (x ∷ ts) t u = refl

  walk-begun_fold : (fs : List Frame) (ts : List Token) → Begins ts → walk strict ts (argument Many fs) ≡ walk strict ts (operand 0 fs)
  walk-begun_fold fs ts b =
      ap (λ us. walk strict us (argument Many fs)) b.is ∙ walk-fold fs b.first b.others b.head ∙ sym (ap (λ us. walk strict us (operand 0 fs)) b.is)

  walk-begun_opened : (f : Option Fun) (s : ℕ) (fs : List Frame) (ts : List Token) → Starts ts → walk strict ts (opened f s fs) ≡ walk strict ts (argument (kind_at f 0) (in_call f 0 s ∷ fs))
  walk-begun_opened f s fs ts b =
      ap (λ us. walk strict us (opened f s fs)) b.is ∙ walk-opened f s fs b.first b.others b.may ∙ sym (ap (λ us. walk strict us (argument (kind_at f 0) (in_call f 0 s ∷ fs))) b.is)

  mutual
    pub walk-expression : (e : Expression) (fs : List Frame) (d : ℕ) (u : List Token) → d ≡ open_levels fs → Fits strict e → walk strict (spelling e ++ u) (operand 0 fs) ≡ prefixed (marks e d) (walk strict u (operator fs))
    walk-expression (only_joins j) fs d u h fit = walk-joins j fs d u h fit
    walk-expression (compare e op j) fs d u h fit =
        ap (λ ts. walk strict ts (operand 0 fs)) (append_assoc (spelling e) (Token.Operator op ∷ joins_spelling j) u)
        ∙ walk-expression e fs d (Token.Operator op ∷ (joins_spelling j ++ u)) h fit.0
        ∙ ap (prefixed (marks e d)) (ap (opens node) (walk-joins j fs d u h fit.2))
        ∙ sym (prefixed-append (marks e d) (node ∷ joins_marks j d) (walk strict u (operator fs)))

    walk-joins : (j : Joins) (fs : List Frame) (d : ℕ) (u : List Token) → d ≡ open_levels fs → JoinsFit strict j → walk strict (joins_spelling j ++ u) (operand 0 fs) ≡ prefixed (joins_marks j d) (walk strict u (operator fs))
    walk-joins (only_sum s) fs d u h fit = walk-sums s fs d u h fit
    walk-joins (join j op s) fs d u h fit =
        ap (λ ts. walk strict ts (operand 0 fs)) (append_assoc (joins_spelling j) (Token.Operator op ∷ sums_spelling s) u)
        ∙ walk-joins j fs d (Token.Operator op ∷ (sums_spelling s ++ u)) h fit.0
        ∙ ap (prefixed (joins_marks j d)) (ap (opens node) (walk-sums s fs d u h fit.2))
        ∙ sym (prefixed-append (joins_marks j d) (node ∷ sums_marks s d) (walk strict u (operator fs)))

    walk-sums : (s : Sums) (fs : List Frame) (d : ℕ) (u : List Token) → d ≡ open_levels fs → SumsFit strict s → walk strict (sums_spelling s ++ u) (operand 0 fs) ≡ prefixed (sums_marks s d) (walk strict u (operator fs))
    walk-sums (only_term t) fs d u h fit = walk-term t fs d u h fit
    walk-sums (add s op t) fs d u h fit =
        ap (λ ts. walk strict ts (operand 0 fs)) (append_assoc (sums_spelling s) (Token.Operator op ∷ term_spelling t) u)
        ∙ walk-sums s fs d (Token.Operator op ∷ (term_spelling t ++ u)) h fit.0
        ∙ ap (prefixed (sums_marks s d)) (ap (opens node) (walk-term t fs d u h fit.2))
        ∙ sym (prefixed-append (sums_marks s d) (node ∷ term_marks t d) (walk strict u (operator fs)))

    walk-term : (t : Term) (fs : List Frame) (d : ℕ) (u : List Token) → d ≡ open_levels fs → TermFits strict t → walk strict (term_spelling t ++ u) (operand 0 fs) ≡ prefixed (term_marks t d) (walk strict u (operator fs))
    walk-term (only_signed s) fs d u h fit = walk-signed s 0 fs d u (omega (arith, h)) fit
    walk-term (multiply t op s) fs d u h fit =
        ap (λ ts. walk strict ts (operand 0 fs)) (append_assoc (term_spelling t) (Token.Operator op ∷ signed_spelling s) u)
        ∙ walk-term t fs d (Token.Operator op ∷ (signed_spelling s ++ u)) h fit.0
        ∙ ap (prefixed (term_marks t d)) (ap (opens node) (walk-signed s 0 fs d u (omega (arith, h)) fit.2))
        ∙ sym (prefixed-append (term_marks t d) (node ∷ signed_marks s d) (walk strict u (operator fs)))

    walk-signed : (s : Signed) (k : ℕ) (fs : List Frame) (d : ℕ) (u : List Token) → d ≡ k + open_levels fs → SignedFits strict s → walk strict (signed_spelling s ++ u) (operand k fs) ≡ prefixed (signed_marks s d) (walk strict u (operator fs))
    walk-signed (plain p) k fs d u h fit = walk-primary p k fs d u h fit
    walk-signed (signed Sign.Minus s) k fs d u h fit = ap₂ opens (ap (λ n. signing (suc n)) (sym h)) (walk-signed s (suc k) fs (suc d) u (omega (arith, h)) fit)
    walk-signed (signed Sign.Plus s) k fs d u h fit = ap₂ opens (ap (λ n. signing (suc n)) (sym h)) (walk-signed s (suc k) fs (suc d) u (omega (arith, h)) fit)

    walk-primary : (p : Primary) (k : ℕ) (fs : List Frame) (d : ℕ) (u : List Token) → d ≡ k + open_levels fs → PrimaryFits strict p → walk strict (primary_spelling p ++ u) (operand k fs) ≡ prefixed (primary_marks p d) (walk strict u (operator fs))
    walk-primary (literal l) k fs d u h fit = refl
    walk-primary (reference (here w)) k fs d u h fit = refl
    walk-primary (reference (on_sheet s w)) k fs d u h fit = refl
    walk-primary (group e) k fs d u h fit =
        ap₂ opens (ap (λ n. opening (suc n)) (sym h))
        (ap (λ ts. walk strict ts (operand 0 (in_group k ∷ fs))) (append_assoc (spelling e) (Token.RightParen ∷ []) u)
        ∙ walk-expression e (in_group k ∷ fs) (suc d) (Token.RightParen ∷ u) (ap suc h) fit
        ∙ sym (prefixed-append (marks e (suc d)) (quiet ∷ []) (walk strict u (operator fs))))
    walk-primary (call_none f) k fs d u h fit =
        ap (opens node) (ap₂ opens (ap (λ n. opening (suc n)) (sym h)) (ap (λ m. opens quiet (go_on (walk strict u) m)) (if_counted-counted strict (are_enough f 0) (operator fs) fit)))
    walk-primary (call f xs) k fs d u h fit =
        ap (opens node) (ap₂ opens (ap (λ n. opening (suc n)) (sym h))
        (ap (λ ts. walk strict ts (opened f k fs)) (append_assoc (arguments_spelling xs) (Token.RightParen ∷ []) u)
        ∙ walk-begun_opened f k fs _ (starts_arguments xs Token.RightParen u tt)
        ∙ walk-arguments xs f 0 k fs (suc d) u (ap suc h) fit
        ∙ sym (prefixed-append (arguments_marks xs (suc d)) (quiet ∷ []) (walk strict u (operator fs)))))

    walk-arguments : (xs : Arguments) (f : Option Fun) (n k : ℕ) (fs : List Frame) (d : ℕ) (u : List Token) → d ≡ suc (k + open_levels fs) → ArgumentsFit strict f n xs → walk strict (arguments_spelling xs ++ Token.RightParen ∷ u) (argument (kind_at f n) (in_call f n k ∷ fs)) ≡ prefixed (arguments_marks xs d) (opens quiet (walk strict u (operator fs)))
    walk-arguments (last x) f n k fs d u h fit =
        walk-argument x (kind_at f n) (in_call f n k ∷ fs) d Token.RightParen u tt h fit.0 fit.1
        ∙ ap (prefixed (argument_marks x d)) (walk-right f n k fs u fit.2)
    walk-arguments (more x xs) f n k fs d u h fit =
        ap (λ ts. walk strict ts (argument (kind_at f n) (in_call f n k ∷ fs))) (append_assoc (argument_spelling x) (Token.Comma ∷ arguments_spelling xs) (Token.RightParen ∷ u))
        ∙ walk-argument x (kind_at f n) (in_call f n k ∷ fs) d Token.Comma _ tt h fit.0 fit.1
        ∙ ap (prefixed (argument_marks x d)) (walk-comma f n k fs _ fit.2 ∙ ap (opens quiet) (walk-arguments xs f (suc n) k fs d u h fit.3))
        ∙ sym (prefixed-append (argument_marks x d) (quiet ∷ arguments_marks xs d) (opens quiet (walk strict u (operator fs))))

    walk-argument : (x : Argument) (k : Kind) (fs : List Frame) (d : ℕ) (t : Token) (u : List Token) → IsCloser t → d ≡ open_levels fs → IsOfKind k x → ArgumentFits strict x → walk strict (argument_spelling x ++ t ∷ u) (argument k fs) ≡ prefixed (argument_marks x d) (walk strict (t ∷ u) (operator fs))
    walk-argument (value e) Plain fs d t u c h kind fit = walk-begun fs (spelling e) t u ∙ walk-expression e fs d (t ∷ u) h fit
    walk-argument (value e) Many fs d t u c h kind fit = walk-begun_fold fs (spelling e ++ t ∷ u) (begins_expression e (t ∷ u) (no_colon_closer t u c)) ∙ walk-expression e fs d (t ∷ u) h fit
    walk-argument (value e) Place fs d t u c h kind fit = absurd kind
    walk-argument (value e) Exact fs d t u c h kind fit = absurd kind
    walk-argument (cell x) Plain fs d t u c h kind fit = absurd kind
    walk-argument (cell x) Many fs d t u c h kind fit = absurd kind
    walk-argument (cell x) Exact fs d t u c h kind fit = absurd kind
    walk-argument (cell (here w)) Place fs d t u c h kind fit = ap (opens node) (walk-place w fs t u c)
    walk-argument (cell (on_sheet s w)) Place fs d t u c h kind fit = ap (λ x. opens quiet (opens node x)) (walk-place w fs t u c)
    walk-argument (area x w) Plain fs d t u c h kind fit = absurd kind
    walk-argument (area x w) Exact fs d t u c h kind fit = absurd kind
    walk-argument (area (here v) w) Many fs d t u c h kind fit = ap (λ x. opens node (opens quiet (opens (sized (cells_between v w)) x))) (walk-ended fs t u c)
    walk-argument (area (here v) w) Place fs d t u c h kind fit = ap (λ x. opens node (opens quiet (opens (sized (cells_between v w)) x))) (walk-ended fs t u c)
    walk-argument (area (on_sheet s v) w) Many fs d t u c h kind fit = ap (λ x. opens quiet (opens node (opens quiet (opens (sized (cells_between v w)) x)))) (walk-ended fs t u c)
    walk-argument (area (on_sheet s v) w) Place fs d t u c h kind fit = ap (λ x. opens quiet (opens node (opens quiet (opens (sized (cells_between v w)) x)))) (walk-ended fs t u c)
    walk-argument (lone l) Plain fs d t u c h kind fit = cc
    walk-argument (lone l) Many fs d t u c h kind fit = cc
    walk-argument (lone l) Place fs d t u c h kind fit = ap (opens node) (walk-lone (is_ref_error l) fs t u kind c)
    walk-argument (lone l) Exact fs d t u c h kind fit = ap (opens node) (walk-lone (is_exact l) fs t u kind c)
