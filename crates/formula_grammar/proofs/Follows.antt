-- What may follow a state, and that something may.
use Rattle.std.proofs.Common.{◌≡◌, ℕ, zero, suc, ◌+◌, ◌≤◌, List, [], ◌∷◌, ◌++◌, Bool, true, false, Ok, Err, Option, Some, None, IsTrue, ◌⊎◌, inl, inr, refl, sym, ap, ◌∙◌, arith, append_assoc, append-nil, nat_le, le-leb}
use Rattle.std.specs.Prelude.{pos, nat_lt}
use Rattle.std.proofs.lemmas.Bool.Decides.{nat_tests}
use Rattle.formula_trees.specs.declared.levels.TheConstants.{COMPARISON_LEVEL, JOIN_LEVEL, SUM_LEVEL, TERM_LEVEL}
use Rattle.formula_trees.specs.declared.tree.Fun.{Fun}
use Rattle.formula_trees.specs.declared.tree.Op.{Op}
use Rattle.formula_trees.specs.declared.tree.Sign.{Sign}
use Rattle.formula_trees.specs.declared.functions.Kind.{Kind}
use Rattle.formula_trees.specs.declared.functions.Kind.TheVariants.{Plain, Place, Many, Exact}
use Rattle.formula_trees.specs.Functions.{signature_of, enough, takes_more}
use Rattle.formula_trees.specs.Sound.{op_level}
use Rattle.formula_tokens.specs.declared.token.Literal.{Literal}
use Rattle.formula_tokens.specs.declared.token.Token.{Token}
use Rattle.formula_tokens.specs.declared.token.Word.{Word}
use Rattle.formula_grammar.specs.Syntax.{kind_at, are_enough, may_go_on, is_ref_error, is_exact, Target, here, on_sheet, Expression, only_joins, compare, Joins, only_sum, join, Sums, only_term, add, Term, only_signed, multiply, Signed, plain, signed, Primary, literal, reference, group, call_none, call, Arguments, last, more, Argument, value, cell, area, lone, sign_op, target_spelling, spelling, joins_spelling, sums_spelling, term_spelling, signed_spelling, primary_spelling, arguments_spelling, argument_spelling, counted, IsOfKind, Fits, JoinsFit, SumsFit, TermFits, SignedFits, PrimaryFits, ArgumentsFit, ArgumentFits}
use Rattle.formula_grammar.specs.Steps.{Frame, in_group, in_call, State, operand, operator, named, opened, argument, sheet, corner, colon, ended, finished, Move, if_counted, on_lone, landed, sign_of, on_sign, on_operand, on_right, on_comma, on_end, on_close, on_operator, on_argument, on_sheet_word, on_no_range, on_corner, on_named, on_opened, on_colon, move}

-- an operator is of one of four levels
abbrev HasLevel : Op → Type 0
HasLevel op = (op_level op ≡ COMPARISON_LEVEL) ⊎ (op_level op ≡ JOIN_LEVEL) ⊎ (op_level op ≡ SUM_LEVEL) ⊎ (op_level op ≡ TERM_LEVEL)

level_cases : (op : Op) → HasLevel op
level_cases Op.Add = inr (inr (inl refl))
level_cases Op.Sub = inr (inr (inl refl))
level_cases Op.Mul = inr (inr (inr refl))
level_cases Op.Div = inr (inr (inr refl))
level_cases Op.Join = inr (inl refl)
level_cases Op.Eq = inl refl
level_cases Op.Ne = inl refl
level_cases Op.Lt = inl refl
level_cases Op.Le = inl refl
level_cases Op.Gt = inl refl
level_cases Op.Ge = inl refl

pub level_within : (op : Op) → (COMPARISON_LEVEL ≤ op_level op) × (op_level op ≤ TERM_LEVEL)
level_within op = by_level (level_cases op)
  where
    by_level : HasLevel op → (COMPARISON_LEVEL ≤ op_level op) × (op_level op ≤ TERM_LEVEL)
    by_level (inl e) = (omega (arith, e), omega (arith, e))
    by_level (inr (inl e)) = (omega (arith, e), omega (arith, e))
    by_level (inr (inr (inl e))) = (omega (arith, e), omega (arith, e))
    by_level (inr (inr (inr e))) = (omega (arith, e), omega (arith, e))

module _ (strict : Bool) where
  -- what may follow a term in an expression
  abbrev pub IsTail : List Token → Type 0
  IsTail a = (t : Term) → TermFits strict t → (e : Expression) × Fits strict e × (spelling e ≡ term_spelling t ++ a)

  -- what may follow an operand, where this may close it
  abbrev pub Followed : (List Token → Type 0) → List Token → Type 0
  Followed C w = (a : List Token) × (b : List Token) × (w ≡ a ++ b) × IsTail a × C b

  -- what may stand where an expression has ended
  abbrev pub Closes : List Frame → List Token → Type 0
  Closes [] u = u ≡ Token.End ∷ []
  Closes (in_group s ∷ fs) u = (w : List Token) × (u ≡ Token.RightParen ∷ w) × Followed (Closes fs) w
  Closes (in_call f n s ∷ fs) u =
      ((w : List Token) × (u ≡ Token.RightParen ∷ w) × counted strict (are_enough f (suc n)) × Followed (Closes fs) w)
      ⊎ ((xs : Arguments) × (w : List Token) × (u ≡ Token.Comma ∷ (arguments_spelling xs ++ Token.RightParen ∷ w)) × counted strict (may_go_on f (suc n)) × ArgumentsFit strict f (suc n) xs × Followed (Closes fs) w)

  abbrev pub Operand : List Frame → List Token → Type 0
  Operand fs w = (e : Expression) × (u : List Token) × Fits strict e × (w ≡ spelling e ++ u) × Closes fs u

  abbrev pub AnArgument : Kind → List Frame → List Token → Type 0
  AnArgument k fs w = (x : Argument) × (u : List Token) × IsOfKind k x × ArgumentFits strict x × (w ≡ argument_spelling x ++ u) × Closes fs u

  abbrev pub Opened : Option Fun → ℕ → List Frame → List Token → Type 0
  Opened f s fs w =
      ((u : List Token) × (w ≡ Token.RightParen ∷ u) × counted strict (are_enough f 0) × Followed (Closes fs) u)
      ⊎ AnArgument (kind_at f 0) (in_call f 0 s ∷ fs) w

  abbrev pub SecondCorner : List Frame → List Token → Type 0
  SecondCorner fs w = (v : Word) × (u : List Token) × (w ≡ Token.Reference v ∷ u) × Closes fs u

  abbrev pub Range : List Frame → List Token → Type 0
  Range fs w = (v : List Token) × (w ≡ Token.Colon ∷ v) × SecondCorner fs v

  abbrev pub Alone : Kind → List Frame → List Token → Type 0
  Alone Place fs w = Closes fs w
  Alone Many fs w = Followed (Closes fs) w
  Alone Plain fs w = Followed (Closes fs) w
  Alone Exact fs w = Followed (Closes fs) w

  abbrev pub Corner : Kind → List Frame → List Token → Type 0
  Corner k fs w = Range fs w ⊎ Alone k fs w

  abbrev pub Landed : Kind → List Frame → List Token → Type 0
  Landed Place fs w = Corner Place fs w
  Landed Many fs w = Corner Many fs w
  Landed Plain fs w = Followed (Closes fs) w
  Landed Exact fs w = Followed (Closes fs) w

  abbrev pub SheetWord : Kind → List Frame → List Token → Type 0
  SheetWord k fs w = (v : Word) × (u : List Token) × (w ≡ Token.SheetReference v ∷ u) × Landed k fs u

  -- what may follow a state
  abbrev pub Follows : State → List Token → Type 0
  Follows (operand s fs) w = Operand fs w
  Follows (operator fs) w = Followed (Closes fs) w
  Follows (named f s fs) w = (u : List Token) × (w ≡ Token.LeftParen ∷ u) × Opened f s fs u
  Follows (opened f s fs) w = Opened f s fs w
  Follows (argument k fs) w = AnArgument k fs w
  Follows (sheet k fs) w = SheetWord k fs w
  Follows (corner k v fs) w = Corner k fs w
  Follows (colon v fs) w = SecondCorner fs w
  Follows (ended fs) w = Closes fs w
  Follows finished w = w ≡ []

  abbrev pub FollowsMove : Move → List Token → Type 0
  FollowsMove (Ok s) w = Follows s w
  FollowsMove (Err n) w = ⊥

  -- what is put before the leftmost part of a term, a sum or an expression is put before the whole
  lift_term : (p : List Token) → ((s : Signed) → SignedFits strict s → (t : Term) × TermFits strict t × (term_spelling t ≡ p ++ signed_spelling s))
      → (t : Term) → TermFits strict t → (t' : Term) × TermFits strict t' × (term_spelling t' ≡ p ++ term_spelling t)
  lift_term p g (only_signed s) fit = g s fit
  lift_term p g (multiply t op s) fit =
      let r = lift_term p g t fit.0 in
      (multiply r.0 op s, (r.1, fit.1, fit.2), ap (λ x. x ++ Token.Operator op ∷ signed_spelling s) r.2 ∙ append_assoc p (term_spelling t) _)

  lift_sums : (p : List Token) → ((t : Term) → TermFits strict t → (s : Sums) × SumsFit strict s × (sums_spelling s ≡ p ++ term_spelling t))
      → (s : Sums) → SumsFit strict s → (s' : Sums) × SumsFit strict s' × (sums_spelling s' ≡ p ++ sums_spelling s)
  lift_sums p g (only_term t) fit = g t fit
  lift_sums p g (add s op t) fit =
      let r = lift_sums p g s fit.0 in
      (add r.0 op t, (r.1, fit.1, fit.2), ap (λ x. x ++ Token.Operator op ∷ term_spelling t) r.2 ∙ append_assoc p (sums_spelling s) _)

  lift_joins : (p : List Token) → ((s : Sums) → SumsFit strict s → (j : Joins) × JoinsFit strict j × (joins_spelling j ≡ p ++ sums_spelling s))
      → (j : Joins) → JoinsFit strict j → (j' : Joins) × JoinsFit strict j' × (joins_spelling j' ≡ p ++ joins_spelling j)
  lift_joins p g (only_sum s) fit = g s fit
  lift_joins p g (join j op s) fit =
      let r = lift_joins p g j fit.0 in
      (join r.0 op s, (r.1, fit.1, fit.2), ap (λ x. x ++ Token.Operator op ∷ sums_spelling s) r.2 ∙ append_assoc p (joins_spelling j) _)

  lift_expression : (p : List Token) → ((j : Joins) → JoinsFit strict j → (e : Expression) × Fits strict e × (spelling e ≡ p ++ joins_spelling j))
      → (e : Expression) → Fits strict e → (e' : Expression) × Fits strict e' × (spelling e' ≡ p ++ spelling e)
  lift_expression p g (only_joins j) fit = g j fit
  lift_expression p g (compare e op j) fit =
      let r = lift_expression p g e fit.0 in
      (compare r.0 op j, (r.1, fit.1, fit.2), ap (λ x. x ++ Token.Operator op ∷ joins_spelling j) r.2 ∙ append_assoc p (spelling e) _)

  -- the same before an expression, of what is put before its leftmost sum, term or signed part
  before_sum : (p : List Token) → ((s : Sums) → SumsFit strict s → (j : Joins) × JoinsFit strict j × (joins_spelling j ≡ p ++ sums_spelling s))
      → (e : Expression) → Fits strict e → (e' : Expression) × Fits strict e' × (spelling e' ≡ p ++ spelling e)
  before_sum p g = lift_expression p (λ j fit. let r = lift_joins p g j fit in (only_joins r.0, r.1, r.2))

  before_term : (p : List Token) → ((t : Term) → TermFits strict t → (s : Sums) × SumsFit strict s × (sums_spelling s ≡ p ++ term_spelling t))
      → (e : Expression) → Fits strict e → (e' : Expression) × Fits strict e' × (spelling e' ≡ p ++ spelling e)
  before_term p g = before_sum p (λ s fit. let r = lift_sums p g s fit in (only_sum r.0, r.1, r.2))

  before_signed : (p : List Token) → ((s : Signed) → SignedFits strict s → (t : Term) × TermFits strict t × (term_spelling t ≡ p ++ signed_spelling s))
      → (e : Expression) → Fits strict e → (e' : Expression) × Fits strict e' × (spelling e' ≡ p ++ spelling e)
  before_signed p g = before_term p (λ t fit. let r = lift_term p g t fit in (only_term r.0, r.1, r.2))

  -- a sign before an expression
  with_sign : (sign : Sign) (e : Expression) → Fits strict e → (e' : Expression) × Fits strict e' × (spelling e' ≡ Token.Operator (sign_op sign) ∷ spelling e)
  with_sign sign = before_signed (Token.Operator (sign_op sign) ∷ []) (λ s fit. (only_signed (signed sign s), fit, refl))

  -- a term and an operator
  abbrev with_operator : Term → Op → List Token
  with_operator t op = term_spelling t ++ Token.Operator op ∷ []

  -- an operator and an expression behind a term
  tail_of : (op : Op) (e : Expression) → Fits strict e → IsTail (Token.Operator op ∷ spelling e)
  tail_of op e fit t fits =
      let r = by_level (level_cases op) in
      (r.0, r.1, r.2 ∙ append_assoc (term_spelling t) (Token.Operator op ∷ []) (spelling e))
    where
      by_level : HasLevel op → (e' : Expression) × Fits strict e' × (spelling e' ≡ with_operator t op ++ spelling e)
      by_level (inl l) = lift_expression (with_operator t op) (λ j f. (compare (only_joins (only_sum (only_term t))) op j, (fits, l, f), sym (append_assoc (term_spelling t) (Token.Operator op ∷ []) _))) e fit
      by_level (inr (inl l)) = before_sum (with_operator t op) (λ s f. (join (only_sum (only_term t)) op s, (fits, l, f), sym (append_assoc (term_spelling t) (Token.Operator op ∷ []) _))) e fit
      by_level (inr (inr (inl l))) = before_term (with_operator t op) (λ u f. (add (only_term t) op u, (fits, l, f), sym (append_assoc (term_spelling t) (Token.Operator op ∷ []) _))) e fit
      by_level (inr (inr (inr l))) = before_signed (with_operator t op) (λ s f. (multiply t op s, (fits, l, f), sym (append_assoc (term_spelling t) (Token.Operator op ∷ []) _))) e fit

  no_tail : IsTail []
  no_tail t fits = (only_joins (only_sum (only_term t)), fits, sym (append-nil (term_spelling t)))

  -- a primary, and what may follow it
  operand_by : (p : Primary) → PrimaryFits strict p → (fs : List Frame) (w : List Token) → Followed (Closes fs) w → Operand fs (primary_spelling p ++ w)
  operand_by p fit fs w (a, b, e, tail, closes) =
      let g = tail (only_signed (plain p)) fit in
      (g.0, b, g.1, ap (λ x. primary_spelling p ++ x) e ∙ sym (append_assoc (primary_spelling p) a b) ∙ sym (ap (λ x. x ++ b) g.2), closes)

  after_operator : (op : Op) (fs : List Frame) (w : List Token) → Operand fs w → Followed (Closes fs) (Token.Operator op ∷ w)
  after_operator op fs w (e, u, fit, is, closes) = (Token.Operator op ∷ spelling e, u, ap (λ x. Token.Operator op ∷ x) is, tail_of op e fit, closes)

  closed : (fs : List Frame) (w : List Token) → Closes fs w → Followed (Closes fs) w
  closed fs w c = ([], w, refl, no_tail, c)

  -- an argument, and what closes its list
  arguments_of : (f : Option Fun) (n s : ℕ) (fs : List Frame) (w : List Token) → AnArgument (kind_at f n) (in_call f n s ∷ fs) w
      → (xs : Arguments) × (v : List Token) × ArgumentsFit strict f n xs × (w ≡ arguments_spelling xs ++ Token.RightParen ∷ v) × Followed (Closes fs) v
  arguments_of f n s fs w (x, u, kind, fit, is, inl (v, is', enough', follows)) =
      (last x, v, (kind, fit, enough'), is ∙ ap (λ y. argument_spelling x ++ y) is', follows)
  arguments_of f n s fs w (x, u, kind, fit, is, inr (xs, v, is', more', fits, follows)) =
      (more x xs, v, (kind, fit, more', fits), is ∙ ap (λ y. argument_spelling x ++ y) is' ∙ sym (append_assoc (argument_spelling x) (Token.Comma ∷ arguments_spelling xs) (Token.RightParen ∷ v)), follows)

counted_of : (strict b : Bool) (s : State) (w : List Token) → FollowsMove strict (if_counted strict b s) w → counted strict b × Follows strict s w
counted_of false b s w h = (tt, h)
counted_of true true s w h = (refl, h)
counted_of true false s w h = absurd h

lone_of : (strict b : Bool) (fs : List Frame) (w : List Token) → FollowsMove strict (on_lone b fs) w → (b ≡ true) × Closes strict fs w
lone_of strict true fs w h = (refl, h)
lone_of strict false fs w h = absurd h

module _ (strict : Bool) where
  right_back : (fs : List Frame) (w : List Token) → FollowsMove strict (on_right strict fs) w → Closes strict fs (Token.RightParen ∷ w)
  right_back [] w h = absurd h
  right_back (in_group s ∷ fs) w h = (w, refl, h)
  right_back (in_call f n s ∷ fs) w h =
      let c = counted_of strict (are_enough f (suc n)) (operator fs) w h in
      inl (w, refl, c.0, c.1)

  comma_back : (fs : List Frame) (w : List Token) → FollowsMove strict (on_comma strict fs) w → Closes strict fs (Token.Comma ∷ w)
  comma_back [] w h = absurd h
  comma_back (in_group s ∷ fs) w h = absurd h
  comma_back (in_call f n s ∷ fs) w h =
      let c = counted_of strict (may_go_on f (suc n)) (argument (kind_at f (suc n)) (in_call f (suc n) s ∷ fs)) w h in
      let r = arguments_of strict f (suc n) s fs w c.1 in
      inr (r.0, r.1, ap (λ x. Token.Comma ∷ x) r.3, c.0, r.2, r.4)

  end_back : (fs : List Frame) (w : List Token) → FollowsMove strict (on_end fs) w → Closes strict fs (Token.End ∷ w)
  end_back [] w h = ap (λ x. Token.End ∷ x) h
  end_back (f ∷ fs) w h = absurd h

  close_back : (fs : List Frame) (t : Token) (w : List Token) → FollowsMove strict (on_close strict fs t) w → Closes strict fs (t ∷ w)
  close_back fs Token.RightParen w h = right_back fs w h
  close_back fs Token.Comma w h = comma_back fs w h
  close_back fs Token.End w h = end_back fs w h
  close_back fs t w h = absurd h

  operator_back : (fs : List Frame) (t : Token) (w : List Token) → FollowsMove strict (on_operator strict fs t) w → Followed strict (Closes strict fs) (t ∷ w)
  operator_back fs (Token.Operator op) w h = after_operator strict op fs w h
  operator_back fs t w h = closed strict fs _ (close_back fs _ w h)

  called : (f : Option Fun) (s : ℕ) (fs : List Frame) (w : List Token) → Follows strict (named f s fs) w → Operand strict fs (Token.Function f ∷ w)
  called f s fs w (u, is, inl (v, is', enough', follows)) =
      let o = operand_by strict (call_none f) enough' fs v follows in
      (o.0, o.1, o.2, ap (λ x. Token.Function f ∷ x) (is ∙ ap (λ x. Token.LeftParen ∷ x) is') ∙ o.3, o.4)
  called f s fs w (u, is, inr a) =
      let r = arguments_of strict f 0 s fs u a in
      let o = operand_by strict (call f r.0) r.2 fs r.1 r.4 in
      (o.0, o.1, o.2, ap (λ x. Token.Function f ∷ x) (is ∙ ap (λ x. Token.LeftParen ∷ x) (r.3 ∙ sym (append_assoc (arguments_spelling r.0) (Token.RightParen ∷ []) r.1))) ∙ o.3, o.4)

  grouped : (s : ℕ) (fs : List Frame) (w : List Token) → Operand strict (in_group s ∷ fs) w → Operand strict fs (Token.LeftParen ∷ w)
  grouped s fs w (e, u, fit, is, (v, is', follows)) =
      let o = operand_by strict (group e) fit fs v follows in
      (o.0, o.1, o.2, ap (λ x. Token.LeftParen ∷ x) (is ∙ ap (λ x. spelling e ++ x) is' ∙ sym (append_assoc (spelling e) (Token.RightParen ∷ []) v)) ∙ o.3, o.4)

  signed_back : (sign : Sign) (fs : List Frame) (w : List Token) → Operand strict fs w → Operand strict fs (Token.Operator (sign_op sign) ∷ w)
  signed_back sign fs w (e, u, fit, is, closes) =
      let r = with_sign strict sign e fit in
      (r.0, u, r.1, ap (λ x. Token.Operator (sign_op sign) ∷ x) is ∙ sym (ap (λ x. x ++ u) r.2), closes)

  sign_back : (op : Op) (s : ℕ) (fs : List Frame) (w : List Token) → FollowsMove strict (on_sign (sign_of op) s fs) w → Operand strict fs (Token.Operator op ∷ w)
  sign_back Op.Add s fs w h = signed_back Sign.Plus fs w h
  sign_back Op.Sub s fs w h = signed_back Sign.Minus fs w h
  sign_back op s fs w h = absurd h

  prefix_back : (x : Option ℕ) (fs : List Frame) (w : List Token) → SheetWord strict Plain fs w → Operand strict fs (Token.Prefix x ∷ w)
  prefix_back x fs w (v, u, is, follows) =
      let o = operand_by strict (reference (on_sheet x v)) tt fs u follows in
      (o.0, o.1, o.2, ap (λ y. Token.Prefix x ∷ y) is ∙ o.3, o.4)

  operand_back : (s : ℕ) (fs : List Frame) (t : Token) (w : List Token) → FollowsMove strict (on_operand s fs t) w → Operand strict fs (t ∷ w)
  operand_back s fs (Token.Literal l) w h = operand_by strict (literal l) tt fs w h
  operand_back s fs (Token.Reference v) w h = operand_by strict (reference (here v)) tt fs w h
  operand_back s fs (Token.Prefix x) w h = prefix_back x fs w h
  operand_back s fs (Token.Function f) w h = called f s fs w h
  operand_back s fs Token.LeftParen w h = grouped s fs w h
  operand_back s fs (Token.Operator op) w h = sign_back op s fs w h
  operand_back s fs t w h = absurd h

  valued : (fs : List Frame) (w : List Token) → Operand strict fs w → AnArgument strict Plain fs w
  valued fs w (e, u, fit, is, closes) = (value e, u, tt, fit, is, closes)

  folded : (fs : List Frame) (w : List Token) → Operand strict fs w → AnArgument strict Many fs w
  folded fs w (e, u, fit, is, closes) = (value e, u, tt, fit, is, closes)

  range_spelled : (x : Target) (w v : List Token) (q : Word) (u : List Token) → w ≡ Token.Colon ∷ v → v ≡ Token.Reference q ∷ u → target_spelling x ++ w ≡ argument_spelling (area x q) ++ u
  range_spelled x w v q u is is' = ap (λ y. target_spelling x ++ y) (is ∙ ap (λ y. Token.Colon ∷ y) is') ∙ sym (append_assoc (target_spelling x) (Token.Colon ∷ Token.Reference q ∷ []) u)

  corner_many : (x : Target) (fs : List Frame) (w : List Token) → Corner strict Many fs w → AnArgument strict Many fs (target_spelling x ++ w)
  corner_many x fs w (inl (v, is, (q, u, is', closes))) = (area x q, u, tt, tt, range_spelled x w v q u is is', closes)
  corner_many x fs w (inr follows) = folded fs _ (operand_by strict (reference x) tt fs w follows)

  corner_place : (x : Target) (fs : List Frame) (w : List Token) → Corner strict Place fs w → AnArgument strict Place fs (target_spelling x ++ w)
  corner_place x fs w (inl (v, is, (q, u, is', closes))) = (area x q, u, tt, tt, range_spelled x w v q u is is', closes)
  corner_place x fs w (inr closes) = (cell x, w, tt, tt, refl, closes)

  behind_prefix : (k : Kind) (x : Option ℕ) (v : Word) (fs : List Frame) (w u : List Token) → w ≡ Token.SheetReference v ∷ u → AnArgument strict k fs (target_spelling (on_sheet x v) ++ u) → AnArgument strict k fs (Token.Prefix x ∷ w)
  behind_prefix k x v fs w u is (a, b, kind, fit, spelled, closes) = (a, b, kind, fit, ap (λ y. Token.Prefix x ∷ y) is ∙ spelled, closes)

  argument_back : (k : Kind) (fs : List Frame) (t : Token) (w : List Token) → FollowsMove strict (on_argument k fs t) w → AnArgument strict k fs (t ∷ w)
  argument_back Plain fs t w h = valued fs _ (operand_back 0 fs t w h)
  argument_back Many fs (Token.Reference v) w h = corner_many (here v) fs w h
  argument_back Many fs (Token.Prefix x) w (v, u, is, c) = behind_prefix Many x v fs w u is (corner_many (on_sheet x v) fs u c)
  argument_back Many fs t w h = folded fs _ (operand_back 0 fs _ w h)
  argument_back Place fs (Token.Reference v) w h = corner_place (here v) fs w h
  argument_back Place fs (Token.Prefix x) w (v, u, is, c) = behind_prefix Place x v fs w u is (corner_place (on_sheet x v) fs u c)
  argument_back Place fs (Token.Literal l) w h = let a = lone_of strict (is_ref_error l) fs w h in (lone l, w, a.0, tt, refl, a.1)
  argument_back Place fs t w h = absurd h
  argument_back Exact fs (Token.Literal l) w h = let a = lone_of strict (is_exact l) fs w h in (lone l, w, a.0, tt, refl, a.1)
  argument_back Exact fs t w h = absurd h

  landed_back : (k : Kind) (v : Word) (fs : List Frame) (w : List Token) → Follows strict (landed k v fs) w → Landed strict k fs w
  landed_back Plain v fs w h = h
  landed_back Place v fs w h = h
  landed_back Many v fs w h = h
  landed_back Exact v fs w h = h

  sheet_back : (k : Kind) (fs : List Frame) (t : Token) (w : List Token) → FollowsMove strict (on_sheet_word k fs t) w → SheetWord strict k fs (t ∷ w)
  sheet_back k fs (Token.SheetReference v) w h = (v, w, refl, landed_back k v fs w h)
  sheet_back k fs t w h = absurd h

  alone_back : (k : Kind) (fs : List Frame) (t : Token) (w : List Token) → FollowsMove strict (on_no_range strict k fs t) w → Alone strict k fs (t ∷ w)
  alone_back Plain fs t w h = operator_back fs t w h
  alone_back Many fs t w h = operator_back fs t w h
  alone_back Exact fs t w h = operator_back fs t w h
  alone_back Place fs t w h = close_back fs t w h

  corner_back : (k : Kind) (v : Word) (fs : List Frame) (t : Token) (w : List Token) → FollowsMove strict (on_corner strict k v fs t) w → Corner strict k fs (t ∷ w)
  corner_back k v fs Token.Colon w h = inl (w, refl, h)
  corner_back k v fs t w h = inr (alone_back k fs _ w h)

  opened_back : (f : Option Fun) (s : ℕ) (fs : List Frame) (t : Token) (w : List Token) → FollowsMove strict (on_opened strict f s fs t) w → Opened strict f s fs (t ∷ w)
  opened_back f s fs Token.RightParen w h =
      let c = counted_of strict (are_enough f 0) (operator fs) w h in
      inl (w, refl, c.0, c.1)
  opened_back f s fs t w h = inr (argument_back (kind_at f 0) (in_call f 0 s ∷ fs) _ w h)

  named_back : (f : Option Fun) (s : ℕ) (fs : List Frame) (t : Token) (w : List Token) → FollowsMove strict (on_named f s fs t) w → Follows strict (named f s fs) (t ∷ w)
  named_back f s fs Token.LeftParen w h = (w, refl, h)
  named_back f s fs t w h = absurd h

  colon_back : (fs : List Frame) (t : Token) (w : List Token) → FollowsMove strict (on_colon fs t) w → SecondCorner strict fs (t ∷ w)
  colon_back fs (Token.Reference v) w h = (v, w, refl, h)
  colon_back fs t w h = absurd h

  -- what may follow a state that a token leads to may follow the token
  pub back : (s : State) (t : Token) (w : List Token) → FollowsMove strict (move strict s t) w → Follows strict s (t ∷ w)
  back (operand s fs) t w h = operand_back s fs t w h
  back (operator fs) t w h = operator_back fs t w h
  back (named f s fs) t w h = named_back f s fs t w h
  back (opened f s fs) t w h = opened_back f s fs t w h
  back (argument k fs) t w h = argument_back k fs t w h
  back (sheet k fs) t w h = sheet_back k fs t w h
  back (corner k v fs) t w h = corner_back k v fs t w h
  back (colon v fs) t w h = colon_back fs t w h
  back (ended fs) t w h = close_back fs t w h
  back finished t w h = absurd h

counted_by : (strict b : Bool) → IsTrue b → counted strict b
counted_by false b h = tt
counted_by true b h = h

-- what is not enough is not too much
below_most : (a m n : ℕ) → a ≤ m → nat_le a n ≡ false → nat_lt n m ≡ true
below_most a m n h e = grind (arith, nat_tests)

pub room : (f : Fun) (n : ℕ) → enough f n ≡ false → takes_more f n ≡ true
room Fun.If n e = below_most 2 3 n (omega arith) e
room Fun.Not n e = below_most 1 1 n (omega arith) e
room Fun.IfError n e = below_most 2 2 n (omega arith) e
room Fun.IsError n e = below_most 1 1 n (omega arith) e
room Fun.Abs n e = below_most 1 1 n (omega arith) e
room Fun.Mod n e = below_most 2 2 n (omega arith) e
room Fun.Quotient n e = below_most 2 2 n (omega arith) e
room Fun.Index n e = below_most 3 3 n (omega arith) e
room Fun.Match n e = below_most 2 3 n (omega arith) e
room Fun.VLookup n e = below_most 3 4 n (omega arith) e
room Fun.HLookup n e = below_most 3 4 n (omega arith) e
room Fun.Left n e = below_most 1 2 n (omega arith) e
room Fun.Right n e = below_most 1 2 n (omega arith) e
room Fun.Mid n e = below_most 3 3 n (omega arith) e
room Fun.Len n e = below_most 1 1 n (omega arith) e
room f n e = refl

module _ (strict : Bool) where
  zero_literal : Primary
  zero_literal = literal (Literal.Number (pos 0))

  -- an argument of a kind
  some_argument : (k : Kind) → (x : Argument) × IsOfKind k x × ArgumentFits strict x
  some_argument Plain = (value (only_joins (only_sum (only_term (only_signed (plain (literal (Literal.Number (pos 0)))))))), tt, tt)
  some_argument Many = (value (only_joins (only_sum (only_term (only_signed (plain (literal (Literal.Number (pos 0)))))))), tt, tt)
  some_argument Place = (cell (here Word.Unknown), tt, tt)
  some_argument Exact = (lone (Literal.Number (pos 0)), refl, tt)

  -- behind an argument there are enough, or more may come that are
  abbrev Filled : Option Fun → ℕ → Type 0
  Filled f n = counted strict (are_enough f (suc n)) ⊎ ((xs : Arguments) × counted strict (may_go_on f (suc n)) × ArgumentsFit strict f (suc n) xs)

  one_more : (f : Option Fun) (n : ℕ) → IsTrue (may_go_on f (suc n)) → Filled f (suc n) → Filled f n
  one_more f n m (inl e) = let x = some_argument (kind_at f (suc n)) in inr (last x.0, counted_by strict _ m, (x.1, x.2, e))
  one_more f n m (inr (xs, more', fit)) = let x = some_argument (kind_at f (suc n)) in inr (more x.0 xs, counted_by strict _ m, (x.1, x.2, more', fit))

  fill : (f : Fun) (k n : ℕ) → (signature_of f).least ≤ suc n + k → Filled (Some f) n
  fill f zero n h = inl (counted_by strict (enough f (suc n)) (le-leb ((signature_of f).least) (suc n) (omega (arith, h))))
  fill f (suc k) n h = by_enough (enough f (suc n)) refl (fill f k (suc n) (omega (arith, h)))
    where
      by_enough : (b : Bool) → enough f (suc n) ≡ b → Filled (Some f) (suc n) → Filled (Some f) n
      by_enough true e r = inl (counted_by strict (enough f (suc n)) e)
      by_enough false e r = one_more (Some f) n (room f (suc n) e) r

  filled : (f : Option Fun) (n : ℕ) → Filled f n
  filled (Some f) n = fill f ((signature_of f).least) n (omega arith)
  filled None n = inl (counted_by strict true refl)

  closing : (fs : List Frame) → (u : List Token) × Closes strict fs u
  closing [] = (Token.End ∷ [], refl)
  closing (in_group s ∷ fs) = let c = closing fs in (Token.RightParen ∷ c.0, (c.0, refl, closed strict fs c.0 c.1))
  closing (in_call f n s ∷ fs) = by_count (filled f n) (closing fs)
    where
      by_count : Filled f n → (u : List Token) × Closes strict fs u → (u : List Token) × Closes strict (in_call f n s ∷ fs) u
      by_count (inl e) (u, c) = (Token.RightParen ∷ u, inl (u, refl, e, closed strict fs u c))
      by_count (inr (xs, m, fit)) (u, c) = (Token.Comma ∷ (arguments_spelling xs ++ Token.RightParen ∷ u), inr (xs, u, refl, m, fit, closed strict fs u c))

  argument_follows : (k : Kind) (fs : List Frame) → (w : List Token) × AnArgument strict k fs w
  argument_follows k fs =
      let c = closing fs in
      let x = some_argument k in
      (argument_spelling x.0 ++ c.0, (x.0, c.0, x.1, x.2, refl, c.1))

  alone_closed : (k : Kind) (fs : List Frame) (w : List Token) → Closes strict fs w → Alone strict k fs w
  alone_closed Place fs w c = c
  alone_closed Many fs w c = closed strict fs w c
  alone_closed Plain fs w c = closed strict fs w c
  alone_closed Exact fs w c = closed strict fs w c

  landed_closed : (k : Kind) (fs : List Frame) (w : List Token) → Closes strict fs w → Landed strict k fs w
  landed_closed Place fs w c = inr c
  landed_closed Many fs w c = inr (closed strict fs w c)
  landed_closed Plain fs w c = closed strict fs w c
  landed_closed Exact fs w c = closed strict fs w c

  -- something may follow each state
  pub some_follows : (s : State) → (w : List Token) × Follows strict s w
  some_follows (operand s fs) = let c = closing fs in (Token.Literal (Literal.Number (pos 0)) ∷ c.0, operand_by strict (literal (Literal.Number (pos 0))) tt fs c.0 (closed strict fs c.0 c.1))
  some_follows (operator fs) = let c = closing fs in (c.0, closed strict fs c.0 c.1)
  some_follows (named f s fs) = let a = argument_follows (kind_at f 0) (in_call f 0 s ∷ fs) in (Token.LeftParen ∷ a.0, (a.0, refl, inr a.1))
  some_follows (opened f s fs) = let a = argument_follows (kind_at f 0) (in_call f 0 s ∷ fs) in (a.0, inr a.1)
  some_follows (argument k fs) = argument_follows k fs
  some_follows (sheet k fs) = let c = closing fs in (Token.SheetReference Word.Unknown ∷ c.0, (Word.Unknown, c.0, refl, landed_closed k fs c.0 c.1))
  some_follows (corner k v fs) = let c = closing fs in (c.0, inr (alone_closed k fs c.0 c.1))
  some_follows (colon v fs) = let c = closing fs in (Token.Reference Word.Unknown ∷ c.0, (Word.Unknown, c.0, refl, c.1))
  some_follows (ended fs) = closing fs
  some_follows finished = ([], refl)
