-- Parts of a formula: a tree, its concrete syntax and its text together.
use Rattle.std.proofs.Common.{◌≡◌, ℕ, suc, ◌+◌, ◌≤◌, true, false, not, map, List, [], ◌∷◌, ◌++◌, refl, ap, ap₂, sym, ◌∙◌, arith, Some, None}
use Rattle.std.specs.Prelude.{max, codes, ◌==◌}
use Rattle.std.proofs.lemmas.Bool.{and_parts}
use Rattle.std.specs.List.{AllByRecursion}
use Rattle.std.proofs.lemmas.List.{append_assoc, append-nil, map-append}
use Rattle.cell_values.specs.Texts.{Texts}
use Rattle.cell_values.specs.declared.TheConstants.{MAX_RANGE_CELLS}
use Rattle.formula_trees.specs.declared.TheConstants.{MAX_LEVELS}
use Rattle.formula_trees.specs.declared.tree.Fun.{Fun}
use Rattle.formula_trees.specs.declared.tree.Op.{Op}
use Rattle.formula_trees.specs.declared.tree.Sign.{Sign}
use Rattle.formula_trees.specs.Expr.{Expr, Exprs, Unary, Binary, Call, End, More}
use Rattle.formula_tokens.specs.declared.token.Token.{Token}
use Rattle.formula_tokens.specs.Lexemes.{Lexeme, Other}
use Rattle.formula_tokens.specs.Spelling.{op_text, ends_operator, ends_before}
use Rattle.formula_tokens.specs.Tokens.{token_of, HoldsLiteral}
use Rattle.formula_tokens.specs.Words.{function_name}
use Rattle.formula_grammar.specs.Printed.{sign_text}
use Rattle.formula_grammar.specs.Syntax.{Mark, quiet, node, opening, signing, sign_op}
use Rattle.formula_grammar.specs.Fault.{own_fault, named_fault, total_nodes}
use Rattle.formula_tokens.proofs.Lexed.{lexemes_in}
use Rattle.formula_tokens.proofs.LexedWords.{closes, opens, function_lexeme}
use Rattle.formula_tokens.proofs.LexedSigns.{op_lexeme}

-- a part that means a tree: it may stand, its text is read as its tokens, the texts hold its literals, the tokens have no fault, and its marks are
-- those of so many nodes and levels
pub record Part (names : List (List ℕ)) (ts : Texts) (T : Type 0) (tree : T) (count inner : ℕ) (text : List ℕ) (fits : Type 0) (spelled : List Token) (marks : ℕ → List Mark) (meant : T) : Type 0 where
  pub allowed : fits
  pub means : meant ≡ tree
  pub lexed : List Lexeme
  pub reads : (rest : List ℕ) → closes rest ≡ true → lexemes_in names 0 false (text ++ rest) ≡ lexed ++ lexemes_in names 0 false rest
  pub tokens : map (token_of ts) lexed ≡ spelled
  pub held : AllByRecursion (HoldsLiteral ts) lexed
  pub begins : opens text ≡ true
  pub known : AllByRecursion (λ t. own_fault t ≡ None) spelled
  pub inside : AllByRecursion (λ t. named_fault t ≡ None) spelled
  pub total : (d : ℕ) → total_nodes (marks d) ≡ count
  pub low : (d : ℕ) → d + inner ≤ MAX_LEVELS → AllByRecursion (λ m. m.level ≤ MAX_LEVELS) (marks d)
  pub small : (d : ℕ) → AllByRecursion (λ m. m.cells ≤ MAX_RANGE_CELLS) (marks d)

pub all_join : {X : Type 0} (P : X → Type 0) (xs ys : List X) → AllByRecursion P xs → AllByRecursion P ys → AllByRecursion P (xs ++ ys)
all_join P [] ys h k = k
all_join P (x ∷ xs) ys h k = (h.0, all_join P xs ys h.1 k)

pub total_join : (xs ys : List Mark) → total_nodes (xs ++ ys) ≡ total_nodes xs + total_nodes ys
total_join [] ys = omega arith
total_join (x ∷ xs) ys = let more = total_join xs ys in omega arith

pub opens_more : (text rest : List ℕ) → opens text ≡ true → opens (text ++ rest) ≡ true
opens_more [] rest h = cc
opens_more (b ∷ text) rest h = h

op_closes : (o : Op) (rest : List ℕ) → closes (op_text o ++ rest) ≡ true
op_closes Op.Add rest = refl
op_closes Op.Sub rest = refl
op_closes Op.Mul rest = refl
op_closes Op.Div rest = refl
op_closes Op.Join rest = refl
op_closes Op.Eq rest = refl
op_closes Op.Ne rest = refl
op_closes Op.Lt rest = refl
op_closes Op.Le rest = refl
op_closes Op.Gt rest = refl
op_closes Op.Ge rest = refl

ends_always : (rest : List ℕ) → ends_before (λ b. true) rest ≡ true
ends_always [] = refl
ends_always (b ∷ rest) = refl

-- no operator that may follow goes on with what begins a part
opens_ends : (o : Op) (rest : List ℕ) → opens rest ≡ true → ends_before (ends_operator o) rest ≡ true
opens_ends Op.Lt [] h = cc
opens_ends Op.Lt (b ∷ rest) h = h
opens_ends Op.Gt [] h = cc
opens_ends Op.Gt (b ∷ rest) h = (and_parts (not (b == 61)) (not (b == 62)) h).0
opens_ends Op.Add rest h = ends_always rest
opens_ends Op.Sub rest h = ends_always rest
opens_ends Op.Mul rest h = ends_always rest
opens_ends Op.Div rest h = ends_always rest
opens_ends Op.Join rest h = ends_always rest
opens_ends Op.Eq rest h = ends_always rest
opens_ends Op.Ne rest h = ends_always rest
opens_ends Op.Le rest h = ends_always rest
opens_ends Op.Ge rest h = ends_always rest

sign_lexeme : (names : List (List ℕ)) (s : Sign) (rest : List ℕ) → lexemes_in names 0 false (sign_text s ++ rest) ≡ Other (Token.Operator (sign_op s)) ∷ lexemes_in names 0 false rest
sign_lexeme names Sign.Minus rest = op_lexeme names false Op.Sub rest (ends_always rest)
sign_lexeme names Sign.Plus rest = op_lexeme names false Op.Add rest (ends_always rest)

sign_opens : (s : Sign) (rest : List ℕ) → opens (sign_text s ++ rest) ≡ true
sign_opens Sign.Minus rest = refl
sign_opens Sign.Plus rest = refl

name_opens : (f : Fun) (rest : List ℕ) → opens (function_name f ++ rest) ≡ true
name_opens Fun.If rest = refl
name_opens Fun.And rest = refl
name_opens Fun.Or rest = refl
name_opens Fun.Not rest = refl
name_opens Fun.Choose rest = refl
name_opens Fun.IfError rest = refl
name_opens Fun.IsError rest = refl
name_opens Fun.Sum rest = refl
name_opens Fun.Min rest = refl
name_opens Fun.Max rest = refl
name_opens Fun.Count rest = refl
name_opens Fun.Abs rest = refl
name_opens Fun.Mod rest = refl
name_opens Fun.Quotient rest = refl
name_opens Fun.Index rest = refl
name_opens Fun.Match rest = refl
name_opens Fun.VLookup rest = refl
name_opens Fun.HLookup rest = refl
name_opens Fun.Left rest = refl
name_opens Fun.Right rest = refl
name_opens Fun.Mid rest = refl
name_opens Fun.Len rest = refl

-- the tokens of lexemes on both sides of one
pub tokens_around : (ts : Texts) (xs ys : List Lexeme) (t : Token) (us vs : List Token) → map (token_of ts) xs ≡ us → map (token_of ts) ys ≡ vs → map (token_of ts) (xs ++ Other t ∷ ys) ≡ us ++ t ∷ vs
tokens_around ts xs ys t us vs e f = map-append (token_of ts) xs (Other t ∷ ys) ∙ ap₂ (λ (fs bs : List Token). fs ++ t ∷ bs) e f

module _ (names : List (List ℕ)) (ts : Texts) where
  abbrev after : List ℕ → List Lexeme
  after rest = lexemes_in names 0 false rest

  -- one token that is a node
  pub one : (e : Expr) (text : List ℕ) (F : Type 0) (l : Lexeme) (t : Token) (x : Expr) → F → x ≡ e → token_of ts l ≡ t → HoldsLiteral ts l → ((rest : List ℕ) → closes rest ≡ true → lexemes_in names 0 false (text ++ rest) ≡ l ∷ lexemes_in names 0 false rest) → opens text ≡ true → own_fault t ≡ None → named_fault t ≡ None
      → Part names ts Expr e 1 0 text F (t ∷ []) (λ d. node ∷ []) x
  one e text F l t x f m n h r o k i = record {
    allowed = f;
    means = m;
    lexed = l ∷ [];
    reads = r;
    tokens = ap (λ u. u ∷ []) n;
    held = (h, tt);
    begins = o;
    known = (k, tt);
    inside = (i, tt);
    total = λ d. refl;
    low = λ d h. (omega arith, tt);
    small = λ d. (omega arith, tt);
  }

  pub of_kind : (K : Type 0) → K → (e : Expr) (n i : ℕ) (text : List ℕ) (F : Type 0) (s : List Token) (m : ℕ → List Mark) (x : Expr) → Part names ts Expr e n i text F s m x → Part names ts Expr e n i text (K × F) s m x
  of_kind K k e n i text F s m x p = record {
    allowed = (k, p.allowed);
    means = p.means;
    lexed = p.lexed;
    reads = p.reads;
    tokens = p.tokens;
    held = p.held;
    begins = p.begins;
    known = p.known;
    inside = p.inside;
    total = p.total;
    low = p.low;
    small = p.small;
  }

  -- what stands in parentheses
  enclosed_reads : (text rest : List ℕ) (s : List Lexeme) → ((rest : List ℕ) → closes rest ≡ true → after (text ++ rest) ≡ s ++ after rest) → after (40 ∷ ((text ++ 41 ∷ []) ++ rest)) ≡ Other Token.LeftParen ∷ ((s ++ Other Token.RightParen ∷ []) ++ after rest)
  enclosed_reads text rest s r =
      ap (λ us. Other Token.LeftParen ∷ us) (ap after (append_assoc text (41 ∷ []) rest) ∙ r (41 ∷ rest) refl ∙ sym (append_assoc s (Other Token.RightParen ∷ []) (after rest)))

  pub grouped : (e : Expr) (n i : ℕ) (text : List ℕ) (F : Type 0) (s : List Token) (m : ℕ → List Mark) (x : Expr) → Part names ts Expr e n i text F s m x
      → Part names ts Expr e n (suc i) (codes "(" ++ (text ++ codes ")")) F (Token.LeftParen ∷ (s ++ Token.RightParen ∷ [])) (λ d. opening (suc d) ∷ (m (suc d) ++ quiet ∷ [])) x
  grouped e n i text F s m x p = record {
    allowed = p.allowed;
    means = p.means;
    begins = refl;
    lexed = Other Token.LeftParen ∷ (p.lexed ++ Other Token.RightParen ∷ []);
    reads = λ rest c. enclosed_reads text rest p.lexed p.reads;
    tokens = ap (λ us. Token.LeftParen ∷ us) (tokens_around ts p.lexed [] Token.RightParen s [] p.tokens refl);
    held = (tt, all_join _ p.lexed (Other Token.RightParen ∷ []) p.held (tt, tt));
    known = (refl, all_join _ s (Token.RightParen ∷ []) p.known (refl, tt));
    inside = (refl, all_join _ s (Token.RightParen ∷ []) p.inside (refl, tt));
    total = λ d. let j = total_join (m (suc d)) (quiet ∷ []) in let k = p.total (suc d) in omega arith;
    low = λ d h. (omega arith, all_join _ (m (suc d)) (quiet ∷ []) (p.low (suc d) (omega arith)) (omega arith, tt));
    small = λ d. (omega arith, all_join _ (m (suc d)) (quiet ∷ []) (p.small (suc d)) (omega arith, tt));
  }

  pub under_sign : (g : Sign) (e : Expr) (n i : ℕ) (text : List ℕ) (F : Type 0) (s : List Token) (m : ℕ → List Mark) (x : Expr) → Part names ts Expr e n i text F s m x
      → Part names ts Expr (Unary g e) (suc n) (suc i) (sign_text g ++ text) F (Token.Operator (sign_op g) ∷ s) (λ d. signing (suc d) ∷ m (suc d)) (Unary g x)
  under_sign g e n i text F s m x p = record {
    allowed = p.allowed;
    means = ap (Unary g) p.means;
    begins = sign_opens g text;
    lexed = Other (Token.Operator (sign_op g)) ∷ p.lexed;
    reads = λ rest c. ap after (append_assoc (sign_text g) text rest) ∙ sign_lexeme names g (text ++ rest) ∙ ap (λ us. Other (Token.Operator (sign_op g)) ∷ us) (p.reads rest c);
    tokens = ap (λ us. Token.Operator (sign_op g) ∷ us) p.tokens;
    held = (tt, p.held);
    known = (refl, p.known);
    inside = (refl, p.inside);
    total = λ d. let k = p.total (suc d) in omega arith;
    low = λ d h. (omega arith, p.low (suc d) (omega arith));
    small = λ d. (omega arith, p.small (suc d));
  }

  pub between : (o : Op) (F : Type 0) → F → (a : Expr) (n i : ℕ) (text : List ℕ) (A : Type 0) (s : List Token) (m : ℕ → List Mark) (x : Expr) → (b : Expr) (k j : ℕ) (more : List ℕ) (B : Type 0) (u : List Token) (w : ℕ → List Mark) (y : Expr)
      → Part names ts Expr a n i text A s m x → Part names ts Expr b k j more B u w y
      → Part names ts Expr (Binary o a b) (suc (n + k)) (max i j) (text ++ (op_text o ++ more)) (A × F × B) (s ++ Token.Operator o ∷ u) (λ d. m d ++ node ∷ w d) (Binary o x y)
  between o F f a n i text A s m x b k j more B u w y p q = record {
    allowed = (p.allowed, f, q.allowed);
    means = ap₂ (Binary o) p.means q.means;
    begins = opens_more text (op_text o ++ more) p.begins;
    lexed = p.lexed ++ Other (Token.Operator o) ∷ q.lexed;
    reads = λ rest c.
        ap after (append_assoc text (op_text o ++ more) rest ∙ ap (λ bs. text ++ bs) (append_assoc (op_text o) more rest))
        ∙ p.reads (op_text o ++ (more ++ rest)) (op_closes o (more ++ rest))
        ∙ ap (λ us. p.lexed ++ us) (op_lexeme names false o (more ++ rest) (opens_ends o (more ++ rest) (opens_more more rest q.begins)) ∙ ap (λ us. Other (Token.Operator o) ∷ us) (q.reads rest c))
        ∙ sym (append_assoc p.lexed (Other (Token.Operator o) ∷ q.lexed) (after rest));
    tokens = tokens_around ts p.lexed q.lexed (Token.Operator o) s u p.tokens q.tokens;
    held = all_join _ p.lexed (Other (Token.Operator o) ∷ q.lexed) p.held (tt, q.held);
    known = all_join _ s (Token.Operator o ∷ u) p.known (refl, q.known);
    inside = all_join _ s (Token.Operator o ∷ u) p.inside (refl, q.inside);
    total = λ d. let l = total_join (m d) (node ∷ w d) in let g = p.total d in let h = q.total d in omega arith;
    low = λ d h. all_join _ (m d) (node ∷ w d) (p.low d (omega arith)) (omega arith, q.low d (omega arith));
    small = λ d. all_join _ (m d) (node ∷ w d) (p.small d) (omega arith, q.small d);
  }

  call_reads : (f : Fun) (text rest : List ℕ) (s : List Lexeme) → ((rest : List ℕ) → closes rest ≡ true → after (text ++ rest) ≡ s ++ after rest)
      → after ((function_name f ++ (codes "(" ++ (text ++ codes ")"))) ++ rest) ≡ Other (Token.Function (Some f)) ∷ Other Token.LeftParen ∷ ((s ++ Other Token.RightParen ∷ []) ++ after rest)
  call_reads f text rest s r =
      ap after (append_assoc (function_name f) (codes "(" ++ (text ++ codes ")")) rest) ∙ function_lexeme names f ((text ++ codes ")") ++ rest)
      ∙ ap (λ us. Other (Token.Function (Some f)) ∷ us) (enclosed_reads text rest s r)

  pub called_none : (f : Fun) (F : Type 0) → F → Part names ts Expr (Call f End) 1 1 (function_name f ++ (codes "(" ++ ([] ++ codes ")"))) F (Token.Function (Some f) ∷ Token.LeftParen ∷ Token.RightParen ∷ []) (λ d. node ∷ opening (suc d) ∷ quiet ∷ []) (Call f End)
  called_none f F h = record {
    allowed = h;
    means = refl;
    begins = name_opens f (codes "(" ++ ([] ++ codes ")"));
    lexed = Other (Token.Function (Some f)) ∷ Other Token.LeftParen ∷ Other Token.RightParen ∷ [];
    reads = λ rest c. call_reads f [] rest [] (λ r d. refl);
    tokens = refl;
    held = (tt, (tt, (tt, tt)));
    known = (refl, (refl, (refl, tt)));
    inside = (refl, (refl, (refl, tt)));
    total = λ d. refl;
    low = λ d l. (omega arith, (omega arith, (omega arith, tt)));
    small = λ d. (omega arith, (omega arith, (omega arith, tt)));
  }

  pub called : (f : Fun) (args : Exprs) (n i : ℕ) (text : List ℕ) (F : Type 0) (s : List Token) (m : ℕ → List Mark) (x : Exprs) → Part names ts Exprs args n i text F s m x
      → Part names ts Expr (Call f args) (suc n) (suc i) (function_name f ++ (codes "(" ++ (text ++ codes ")"))) F (Token.Function (Some f) ∷ Token.LeftParen ∷ (s ++ Token.RightParen ∷ [])) (λ d. node ∷ opening (suc d) ∷ (m (suc d) ++ quiet ∷ [])) (Call f x)
  called f args n i text F s m x p = record {
    allowed = p.allowed;
    means = ap (Call f) p.means;
    begins = name_opens f (codes "(" ++ (text ++ codes ")"));
    lexed = Other (Token.Function (Some f)) ∷ Other Token.LeftParen ∷ (p.lexed ++ Other Token.RightParen ∷ []);
    reads = λ rest c. call_reads f text rest p.lexed p.reads;
    tokens = ap (λ us. Token.Function (Some f) ∷ Token.LeftParen ∷ us) (tokens_around ts p.lexed [] Token.RightParen s [] p.tokens refl);
    held = (tt, (tt, all_join _ p.lexed (Other Token.RightParen ∷ []) p.held (tt, tt)));
    known = (refl, (refl, all_join _ s (Token.RightParen ∷ []) p.known (refl, tt)));
    inside = (refl, (refl, all_join _ s (Token.RightParen ∷ []) p.inside (refl, tt)));
    total = λ d. let j = total_join (m (suc d)) (quiet ∷ []) in let k = p.total (suc d) in omega arith;
    low = λ d h. (omega arith, (omega arith, all_join _ (m (suc d)) (quiet ∷ []) (p.low (suc d) (omega arith)) (omega arith, tt)));
    small = λ d. (omega arith, (omega arith, all_join _ (m (suc d)) (quiet ∷ []) (p.small (suc d)) (omega arith, tt)));
  }

  -- arguments
  pub ended : (K A C : Type 0) (e : Expr) (n i : ℕ) (text : List ℕ) (s : List Token) (m : ℕ → List Mark) (x : Expr) → C → Part names ts Expr e n i text (K × A) s m x
      → Part names ts Exprs (More e End) (n + 0) (max i 0) (text ++ []) (K × A × C) s m (More x End)
  ended K A C e n i text s m x c p = record {
    allowed = (p.allowed.0, p.allowed.1, c);
    means = ap (λ y. More y End) p.means;
    begins = opens_more text [] p.begins;
    lexed = p.lexed;
    reads = λ rest k. ap (λ bs. after (bs ++ rest)) (append-nil text) ∙ p.reads rest k;
    tokens = p.tokens;
    held = p.held;
    known = p.known;
    inside = p.inside;
    total = λ d. p.total d ∙ omega arith;
    low = λ d h. p.low d (omega arith);
    small = p.small;
  }

  pub followed : (K A C : Type 0) (e : Expr) (n i : ℕ) (text : List ℕ) (s : List Token) (m : ℕ → List Mark) (x : Expr) → C → Part names ts Expr e n i text (K × A) s m x
      → (args : Exprs) (k j : ℕ) (more : List ℕ) (B : Type 0) (u : List Token) (w : ℕ → List Mark) (y : Exprs) → Part names ts Exprs args k j more B u w y
      → Part names ts Exprs (More e args) (n + k) (max i j) (text ++ (codes "," ++ more)) (K × A × C × B) (s ++ Token.Comma ∷ u) (λ d. m d ++ quiet ∷ w d) (More x y)
  followed K A C e n i text s m x c p args k j more B u w y q = record {
    allowed = (p.allowed.0, p.allowed.1, c, q.allowed);
    means = ap₂ More p.means q.means;
    begins = opens_more text (codes "," ++ more) p.begins;
    lexed = p.lexed ++ Other Token.Comma ∷ q.lexed;
    reads = λ rest h.
        ap after (append_assoc text (codes "," ++ more) rest) ∙ p.reads (codes "," ++ (more ++ rest)) refl
        ∙ ap (λ us. p.lexed ++ Other Token.Comma ∷ us) (q.reads rest h) ∙ sym (append_assoc p.lexed (Other Token.Comma ∷ q.lexed) (after rest));
    tokens = tokens_around ts p.lexed q.lexed Token.Comma s u p.tokens q.tokens;
    held = all_join _ p.lexed (Other Token.Comma ∷ q.lexed) p.held (tt, q.held);
    known = all_join _ s (Token.Comma ∷ u) p.known (refl, q.known);
    inside = all_join _ s (Token.Comma ∷ u) p.inside (refl, q.inside);
    total = λ d. let l = total_join (m d) (quiet ∷ w d) in let g = p.total d in let h = q.total d in omega arith;
    low = λ d h. all_join _ (m d) (quiet ∷ w d) (p.low d (omega arith)) (omega arith, q.low d (omega arith));
    small = λ d. all_join _ (m d) (quiet ∷ w d) (p.small d) (omega arith, q.small d);
  }
