-- Tokens have one meaning.
use Rattle.std.proofs.Common.{◌≡◌, ℕ, suc, ◌<◌, ◌≤◌, List, [], ◌∷◌, ◌++◌, true, cond, Option, Some, None, nat_le, le-leb, refl, sym, ap, ◌∙◌, subst, arith, append_assoc}
use Rattle.std.proofs.lemmas.Bool.{lt-leb}
use Rattle.cell_values.specs.declared.address.Addr.{Addr}
use Rattle.formula_trees.specs.declared.levels.TheConstants.{COMPARISON_LEVEL, JOIN_LEVEL, SUM_LEVEL, TERM_LEVEL}
use Rattle.formula_trees.specs.declared.tree.Fun.{Fun}
use Rattle.formula_trees.specs.declared.tree.Op.{Op}
use Rattle.formula_trees.specs.declared.tree.Sign.{Sign}
use Rattle.formula_trees.specs.Expr.{Expr, Exprs, Ref, Range, RefError, Unary, Binary, End, More}
use Rattle.formula_trees.specs.Sound.{op_level}
use Rattle.formula_tokens.specs.declared.token.Token.{Token}
use Rattle.formula_tokens.specs.declared.token.Word.{Word}
use Rattle.formula_grammar.specs.Syntax.{here, on_sheet, Expression, only_joins, compare, Joins, only_sum, join, Sums, only_term, add, Term, only_signed, multiply, Signed, plain, signed, Primary, literal, reference, group, call_none, call, Arguments, last, more, Argument, value, cell, area, lone, spelling, joins_spelling, sums_spelling, term_spelling, signed_spelling, primary_spelling, arguments_spelling, argument_spelling, literal_meaning, reference_at, call_meaning, meaning, joins_meaning, sums_meaning, term_meaning, signed_meaning, primary_meaning, arguments_meaning, argument_meaning, Fits, JoinsFit, SumsFit, TermFits, SignedFits, PrimaryFits, ArgumentsFit, ArgumentFits}
use Rattle.formula_grammar.specs.Steps.{sign_of}
use Rattle.formula_grammar.proofs.Walk.{IsFirst, Starts, starts_arguments}
use Rattle.formula_grammar.proofs.Follows.{level_within}

-- what waits for an operand: a left side, a sign, a parenthesis, or a call with the arguments before it
data Pending : Type 0 where
  left : Expr → Op → Pending
  sign : Sign → Pending
  grouping : Pending
  calling : Option Fun → (Exprs → Exprs) → Pending

data Mode : Type 0 where
  want : Mode
  have : Expr → Mode
  naming : Option Fun → Mode
  opening : Option Fun → Mode
  prefixing : Option ℕ → Mode
  spanning : Expr → Mode

abbrev Go : Type 0
Go = List Pending → Mode → Expr

-- gives an operand to what waits and binds at least so tightly, and goes on
abbrev reduce : ℕ → List Pending → Expr → (List Pending → Expr → Expr) → Expr
reduce l [] x go = go [] x
reduce l (left y op ∷ st) x go = cond (nat_le l (op_level op)) (reduce l st (Binary op y x) go) (go (left y op ∷ st) x)
reduce l (sign s ∷ st) x go = reduce l st (Unary s x) go
reduce l (grouping ∷ st) x go = go (grouping ∷ st) x
reduce l (calling f before ∷ st) x go = go (calling f before ∷ st) x

abbrev on_signing : Option Sign → Go → List Pending → Expr
on_signing (Some s) go st = go (sign s ∷ st) want
on_signing None go st = RefError

abbrev closed_by : Go → List Pending → Expr → Expr
closed_by go (grouping ∷ st) x = go st (have x)
closed_by go (calling f before ∷ st) x = go st (have (call_meaning f (before (More x End))))
closed_by go (left y op ∷ st) x = RefError
closed_by go (sign s ∷ st) x = RefError
closed_by go [] x = RefError

abbrev comma_by : Go → List Pending → Expr → Expr
comma_by go (calling f before ∷ st) x = go (calling f (λ r. before (More x r)) ∷ st) want
comma_by go (grouping ∷ st) x = RefError
comma_by go (left y op ∷ st) x = RefError
comma_by go (sign s ∷ st) x = RefError
comma_by go [] x = RefError

abbrev on_have : Go → List Pending → Expr → Token → Expr
on_have go st x (Token.Operator op) = reduce (op_level op) st x (λ s y. go (left y op ∷ s) want)
on_have go st x Token.RightParen = reduce 0 st x (closed_by go)
on_have go st x Token.Comma = reduce 0 st x (comma_by go)
on_have go st x Token.Colon = reduce 0 st x (λ s y. go s (spanning y))
on_have go st x t = RefError

abbrev on_naming : Go → List Pending → Option Fun → Token → Expr
on_naming go st f Token.LeftParen = go st (opening f)
on_naming go st f t = RefError

abbrev ending : Go
ending st (have x) = reduce 0 st x (λ s y. y)
ending st want = RefError
ending st (naming f) = RefError
ending st (opening f) = RefError
ending st (prefixing s) = RefError
ending st (spanning x) = RefError

-- what waits at the top binds less tightly
abbrev Below : ℕ → List Pending → Type 0
Below l [] = Unit {0}
Below l (left y op ∷ st) = op_level op < l
Below l (sign s ∷ st) = ⊥
Below l (grouping ∷ st) = Unit {0}
Below l (calling f before ∷ st) = Unit {0}

below_more : (l m : ℕ) (st : List Pending) → l ≤ m → Below l st → Below m st
below_more l m [] h b = tt
below_more l m (left y op ∷ st) h b = omega (arith, h, b)
below_more l m (sign s ∷ st) h b = absurd b
below_more l m (grouping ∷ st) h b = tt
below_more l m (calling f before ∷ st) h b = tt

reduce-below : (l : ℕ) (st : List Pending) (x : Expr) (go : List Pending → Expr → Expr) → Below l st → reduce l st x go ≡ go st x
reduce-below l [] x go b = refl
reduce-below l (left y op ∷ st) x go b = ap (λ t. cond t (reduce l st (Binary op y x) go) (go (left y op ∷ st) x)) (lt-leb l (op_level op) b)
reduce-below l (sign s ∷ st) x go b = absurd b
reduce-below l (grouping ∷ st) x go b = refl
reduce-below l (calling f before ∷ st) x go b = refl

reduce-left : (l : ℕ) (st : List Pending) (x y : Expr) (op : Op) (go : List Pending → Expr → Expr) → l ≤ op_level op → reduce l (left y op ∷ st) x go ≡ reduce l st (Binary op y x) go
reduce-left l st x y op go h = ap (λ t. cond t (reduce l st (Binary op y x) go) (go (left y op ∷ st) x)) (le-leb l (op_level op) h)

-- the level of the operator that tokens begin with, or 0
abbrev token_level : Token → ℕ
token_level (Token.Operator op) = op_level op
token_level t = 0

abbrev head_level : List Token → ℕ
head_level [] = 0
head_level (t ∷ ts) = token_level t

at_most_term : (u : List Token) → head_level u ≤ TERM_LEVEL
at_most_term [] = omega arith
at_most_term (Token.Operator op ∷ u) = (level_within op).1
at_most_term (t ∷ u) = omega arith

barrier : (st : List Pending) → Below COMPARISON_LEVEL st → Below 0 st
barrier [] b = tt
barrier (left y op ∷ st) b = let x = (level_within op).0 in absurd (omega (arith, b, x))
barrier (sign s ∷ st) b = absurd b
barrier (grouping ∷ st) b = tt
barrier (calling f before ∷ st) b = tt

module _ (own : Addr) where
  abbrev on_want : Go → List Pending → Token → Expr
  on_want go st (Token.Literal l) = go st (have (literal_meaning l))
  on_want go st (Token.Reference w) = go st (have (Ref (reference_at own None w)))
  on_want go st (Token.Prefix s) = go st (prefixing s)
  on_want go st (Token.Function f) = go st (naming f)
  on_want go st Token.LeftParen = go (grouping ∷ st) want
  on_want go st (Token.Operator op) = on_signing (sign_of op) go st
  on_want go st t = RefError

  abbrev on_opening : Go → List Pending → Option Fun → Token → Expr
  on_opening go st f Token.RightParen = go st (have (call_meaning f End))
  on_opening go st f t = on_want go (calling f (λ r. r) ∷ st) t

  abbrev on_prefixing : Go → List Pending → Option ℕ → Token → Expr
  on_prefixing go st s (Token.SheetReference w) = go st (have (Ref (reference_at own s w)))
  on_prefixing go st s t = RefError

  abbrev spanned : Expr → Word → Expr
  spanned (Ref r) w = Range r (reference_at own r.sheet w)
  spanned x w = RefError

  abbrev on_spanning : Go → List Pending → Expr → Token → Expr
  on_spanning go st x (Token.Reference w) = go st (have (spanned x w))
  on_spanning go st x t = RefError

  abbrev act : Token → Go → Go
  act t go st want = on_want go st t
  act t go st (have x) = on_have go st x t
  act t go st (naming f) = on_naming go st f t
  act t go st (opening f) = on_opening go st f t
  act t go st (prefixing s) = on_prefixing go st s t
  act t go st (spanning x) = on_spanning go st x t

  -- the tree of tokens, by a stack of what waits
  abbrev build : List Token → Go
  build [] = ending
  build (t ∷ ts) = act t (build ts)

  -- an operand goes to the left side before it, where no operator that binds more tightly follows
  give_left : (u : List Token) (st : List Pending) (x y : Expr) (op : Op) → head_level u ≤ op_level op → build u (left y op ∷ st) (have x) ≡ build u st (have (Binary op y x))
  give_left [] st x y op h = reduce-left 0 st x y op _ h
  give_left (Token.Operator o ∷ u) st x y op h = reduce-left (op_level o) st x y op _ h
  give_left (Token.RightParen ∷ u) st x y op h = reduce-left 0 st x y op _ h
  give_left (Token.Comma ∷ u) st x y op h = reduce-left 0 st x y op _ h
  give_left (Token.Colon ∷ u) st x y op h = reduce-left 0 st x y op _ h
  give_left (t ∷ u) st x y op h = refl

  give_sign : (u : List Token) (st : List Pending) (s : Sign) (x : Expr) → build u (sign s ∷ st) (have x) ≡ build u st (have (Unary s x))
  give_sign [] st s x = refl
  give_sign (Token.Operator o ∷ u) st s x = refl
  give_sign (t ∷ u) st s x = refl

  -- an operator takes what stands before it
  take_operator : (op : Op) (u : List Token) (st : List Pending) (x : Expr) → Below (op_level op) st → build (Token.Operator op ∷ u) st (have x) ≡ build u (left x op ∷ st) want
  take_operator op u st x b = reduce-below (op_level op) st x _ b

  build-opening : (f : Option Fun) (st : List Pending) (ts : List Token) → Starts ts → build ts st (opening f) ≡ build ts (calling f (λ r. r) ∷ st) want
  build-opening f st ts s = ap (λ x. build x st (opening f)) s.is ∙ by_token s.first s.others s.may ∙ sym (ap (λ x. build x (calling f (λ r. r) ∷ st) want) s.is)
    where
      by_token : (t : Token) (u : List Token) → IsFirst t → build (t ∷ u) st (opening f) ≡ build (t ∷ u) (calling f (λ r. r) ∷ st) want
      by_token Token.RightParen u h = absurd h
      by_token t u h = refl

  mutual
    build-expression : (e : Expression) (u : List Token) (st : List Pending) → Fits true e → head_level u ≤ COMPARISON_LEVEL → Below COMPARISON_LEVEL st → build (spelling e ++ u) st want ≡ build u st (have (meaning own e))
    build-expression (only_joins j) u st fit h b = build-joins j u st fit (omega (arith, h)) (below_more COMPARISON_LEVEL JOIN_LEVEL st (omega arith) b)
    build-expression (compare e op j) u st fit h b =
        ap (λ ts. build ts st want) (append_assoc (spelling e) (Token.Operator op ∷ joins_spelling j) u)
        ∙ build-expression e (Token.Operator op ∷ (joins_spelling j ++ u)) st fit.0 (omega (arith, fit.1)) b
        ∙ take_operator op (joins_spelling j ++ u) st (meaning own e) (subst (λ n. Below n st) (sym fit.1) b)
        ∙ build-joins j u (left (meaning own e) op ∷ st) fit.2 (omega (arith, h)) (omega (arith, fit.1))
        ∙ give_left u st _ _ op (omega (arith, fit.1, h))

    build-joins : (j : Joins) (u : List Token) (st : List Pending) → JoinsFit true j → head_level u ≤ JOIN_LEVEL → Below JOIN_LEVEL st → build (joins_spelling j ++ u) st want ≡ build u st (have (joins_meaning own j))
    build-joins (only_sum s) u st fit h b = build-sums s u st fit (omega (arith, h)) (below_more JOIN_LEVEL SUM_LEVEL st (omega arith) b)
    build-joins (join j op s) u st fit h b =
        ap (λ ts. build ts st want) (append_assoc (joins_spelling j) (Token.Operator op ∷ sums_spelling s) u)
        ∙ build-joins j (Token.Operator op ∷ (sums_spelling s ++ u)) st fit.0 (omega (arith, fit.1)) b
        ∙ take_operator op (sums_spelling s ++ u) st (joins_meaning own j) (subst (λ n. Below n st) (sym fit.1) b)
        ∙ build-sums s u (left (joins_meaning own j) op ∷ st) fit.2 (omega (arith, h)) (omega (arith, fit.1))
        ∙ give_left u st _ _ op (omega (arith, fit.1, h))

    build-sums : (s : Sums) (u : List Token) (st : List Pending) → SumsFit true s → head_level u ≤ SUM_LEVEL → Below SUM_LEVEL st → build (sums_spelling s ++ u) st want ≡ build u st (have (sums_meaning own s))
    build-sums (only_term t) u st fit h b = build-term t u st fit (below_more SUM_LEVEL TERM_LEVEL st (omega arith) b)
    build-sums (add s op t) u st fit h b =
        ap (λ ts. build ts st want) (append_assoc (sums_spelling s) (Token.Operator op ∷ term_spelling t) u)
        ∙ build-sums s (Token.Operator op ∷ (term_spelling t ++ u)) st fit.0 (omega (arith, fit.1)) b
        ∙ take_operator op (term_spelling t ++ u) st (sums_meaning own s) (subst (λ n. Below n st) (sym fit.1) b)
        ∙ build-term t u (left (sums_meaning own s) op ∷ st) fit.2 (omega (arith, fit.1))
        ∙ give_left u st _ _ op (omega (arith, fit.1, h))

    build-term : (t : Term) (u : List Token) (st : List Pending) → TermFits true t → Below TERM_LEVEL st → build (term_spelling t ++ u) st want ≡ build u st (have (term_meaning own t))
    build-term (only_signed s) u st fit b = build-signed s u st fit
    build-term (multiply t op s) u st fit b =
        ap (λ ts. build ts st want) (append_assoc (term_spelling t) (Token.Operator op ∷ signed_spelling s) u)
        ∙ build-term t (Token.Operator op ∷ (signed_spelling s ++ u)) st fit.0 b
        ∙ take_operator op (signed_spelling s ++ u) st (term_meaning own t) (subst (λ n. Below n st) (sym fit.1) b)
        ∙ build-signed s u (left (term_meaning own t) op ∷ st) fit.2
        ∙ give_left u st _ _ op (omega (arith, fit.1, at_most_term u))

    build-signed : (s : Signed) (u : List Token) (st : List Pending) → SignedFits true s → build (signed_spelling s ++ u) st want ≡ build u st (have (signed_meaning own s))
    build-signed (plain p) u st fit = build-primary p u st fit
    build-signed (signed Sign.Minus s) u st fit = build-signed s u (sign Sign.Minus ∷ st) fit ∙ give_sign u st Sign.Minus (signed_meaning own s)
    build-signed (signed Sign.Plus s) u st fit = build-signed s u (sign Sign.Plus ∷ st) fit ∙ give_sign u st Sign.Plus (signed_meaning own s)

    build-primary : (p : Primary) (u : List Token) (st : List Pending) → PrimaryFits true p → build (primary_spelling p ++ u) st want ≡ build u st (have (primary_meaning own p))
    build-primary (literal l) u st fit = refl
    build-primary (reference (here w)) u st fit = refl
    build-primary (reference (on_sheet s w)) u st fit = refl
    build-primary (group e) u st fit =
        ap (λ ts. build ts (grouping ∷ st) want) (append_assoc (spelling e) (Token.RightParen ∷ []) u)
        ∙ build-expression e (Token.RightParen ∷ u) (grouping ∷ st) fit (omega arith) tt
    build-primary (call_none f) u st fit = refl
    build-primary (call f xs) u st fit =
        ap (λ ts. build ts st (opening f)) (append_assoc (arguments_spelling xs) (Token.RightParen ∷ []) u)
        ∙ build-opening f st _ (starts_arguments xs Token.RightParen u tt)
        ∙ build-arguments xs f 0 (λ r. r) u st fit

    build-arguments : (xs : Arguments) (f : Option Fun) (n : ℕ) (before : Exprs → Exprs) (u : List Token) (st : List Pending) → ArgumentsFit true f n xs → build (arguments_spelling xs ++ Token.RightParen ∷ u) (calling f before ∷ st) want ≡ build u st (have (call_meaning f (before (arguments_meaning own xs))))
    build-arguments (last x) f n before u st fit =
        build-argument x (Token.RightParen ∷ u) (calling f before ∷ st) fit.1 (omega arith) tt
    build-arguments (more x xs) f n before u st fit =
        ap (λ ts. build ts (calling f before ∷ st) want) (append_assoc (argument_spelling x) (Token.Comma ∷ arguments_spelling xs) (Token.RightParen ∷ u))
        ∙ build-argument x (Token.Comma ∷ (arguments_spelling xs ++ Token.RightParen ∷ u)) (calling f before ∷ st) fit.1 (omega arith) tt
        ∙ build-arguments xs f (suc n) (λ r. before (More (argument_meaning own x) r)) u st fit.3

    build-argument : (x : Argument) (u : List Token) (st : List Pending) → ArgumentFits true x → head_level u ≤ COMPARISON_LEVEL → Below COMPARISON_LEVEL st → build (argument_spelling x ++ u) st want ≡ build u st (have (argument_meaning own x))
    build-argument (value e) u st fit h b = build-expression e u st fit h b
    build-argument (cell (here w)) u st fit h b = refl
    build-argument (cell (on_sheet s w)) u st fit h b = refl
    build-argument (area (here v) w) u st fit h b = reduce-below 0 st (Ref (reference_at own None v)) _ (barrier st b)
    build-argument (area (on_sheet s v) w) u st fit h b = reduce-below 0 st (Ref (reference_at own s v)) _ (barrier st b)
    build-argument (lone l) u st fit h b = refl

  -- two readings of the same tokens mean the same
  pub one_meaning : (d e : Expression) → Fits true d → Fits true e → spelling d ≡ spelling e → meaning own d ≡ meaning own e
  one_meaning d e fd fe h =
      sym (build-expression d [] [] fd (omega arith) tt) ∙ ap (λ ts. build (ts ++ []) [] want) h ∙ build-expression e [] [] fe (omega arith) tt
