-- What is printed of a sound formula is read as the same tree.
use Rattle.std.proofs.Common.{◌≡◌, ℕ, suc, ◌<◌, true, false, not, List, [], ◌∷◌, length, map, refl, ap, sym, subst, ◌∙◌, arith, Some, None}
use Rattle.std.specs.Prelude.{ℤ, pos, IsTrue}
use Rattle.std.specs.List.{AllByRecursion}
use Rattle.std.proofs.lemmas.List.{append-nil}
use Rattle.cell_values.specs.declared.address.Addr.{Addr}
use Rattle.cell_values.specs.Interned.{AreDistinct}
use Rattle.cell_values.specs.Names.{AreSheetNames}
use Rattle.cell_values.specs.Texts.{Texts}
use Rattle.formula_trees.specs.declared.tree.Fun.{Fun}
use Rattle.formula_trees.specs.declared.tree.Op.{Op}
use Rattle.formula_trees.specs.Expr.{Expr, Exprs, Number, Text, Truth, Ref, Range, RefError, Unary, Binary, Call, End, More}
use Rattle.formula_trees.specs.declared.functions.Kind.{Kind}
use Rattle.formula_trees.specs.declared.functions.Kind.TheVariants.{Plain, Place, Many, Exact}
use Rattle.formula_trees.specs.Functions.{kind_of, enough, takes_more}
use Rattle.formula_trees.specs.SheetNumbers.{SheetsBelow, AllSheetsBelow}
use Rattle.formula_trees.specs.declared.levels.TheConstants.{COMPARISON_LEVEL, JOIN_LEVEL, SUM_LEVEL, TERM_LEVEL}
use Rattle.formula_trees.specs.Sound.{IsLiteral, IsExpression, HasArguments, OfKind, nodes, nodes_of, levels, levels_of, level_of, op_level}
use Rattle.formula_trees.specs.TextNumbers.{TextsBelow, AllTextsBelow}
use Rattle.formula_tokens.specs.declared.token.Literal.{Literal}
use Rattle.formula_tokens.specs.declared.token.Token.{Token}
use Rattle.formula_tokens.specs.Tokens.{token_of, spots_of, HoldsLiteral, HoldsLiterals}
use Rattle.formula_grammar.specs.Printed.{printed, text_of, arguments_text}
use Rattle.formula_grammar.specs.Syntax.{compare, join, add, multiply, signed, literal, reference, call_none, call, Arguments, last, more, Argument, value, cell, area, lone, IsOfKind, is_exact, ArgumentsFit, ArgumentFits, spelling, arguments_spelling, argument_spelling, arguments_marks, argument_marks, arguments_meaning, argument_meaning}
use Rattle.formula_grammar.specs.Fault.{own_fault, named_fault, tokens_of}
use Rattle.formula_grammar.specs.RoundTrip.{PrintedReadsBack, PrintedInternsNothing}
use Rattle.formula_tokens.proofs.Lexed.{lexemes_in, whole_tokens, whole_held}
use Rattle.formula_tokens.proofs.Held.{held_stay}
use Rattle.formula_grammar.proofs.PrintedParts.{Part, of_kind, under_sign, between, called_none, called, ended, followed}
use Rattle.formula_grammar.proofs.PrintedReferences.{target_of, reference_part, range_part}
use Rattle.formula_grammar.proofs.PrintedViews.{Views, from_expression, from_joins, from_sums, from_term, from_signed, from_primary, number_part, text_part, truth_part, ref_error_part}

module _ (names : List (List ℕ)) (ts : Texts) (at : Addr) (good : AreSheetNames names) (distinct : AreDistinct ts) where
  abbrev Right : Expr → Type 0
  Right e = Views names ts at e (nodes e) (levels e) (level_of e) (text_of names ts at e)

  record RightArgument (k : Kind) (e : Expr) : Type 0 where
    node : Argument
    part : Part names ts Expr e (nodes e) (levels e) (text_of names ts at e) (IsOfKind k node × ArgumentFits true node) (argument_spelling node) (argument_marks node) (argument_meaning at node)

  record RightArguments (f : Fun) (n : ℕ) (args : Exprs) : Type 0 where
    nodes : Arguments
    part : Part names ts Exprs args (nodes_of args) (levels_of args) (arguments_text names ts at args) (ArgumentsFit true (Some f) n nodes) (arguments_spelling nodes) (arguments_marks nodes) (arguments_meaning at nodes)

  right_binary : (o : Op) (a b : Expr) → Right a → Right b → Right (Binary o a b)
  right_binary Op.Add a b v w = from_sums names ts at _ _ _ _ (add v.sums Op.Add w.term) (between names ts Op.Add (op_level Op.Add ≡ SUM_LEVEL) refl a _ _ _ _ _ _ _ b _ _ _ _ _ _ _ v.third w.fourth)
  right_binary Op.Sub a b v w = from_sums names ts at _ _ _ _ (add v.sums Op.Sub w.term) (between names ts Op.Sub (op_level Op.Sub ≡ SUM_LEVEL) refl a _ _ _ _ _ _ _ b _ _ _ _ _ _ _ v.third w.fourth)
  right_binary Op.Mul a b v w = from_term names ts at _ _ _ _ (multiply v.term Op.Mul w.signed) (between names ts Op.Mul (op_level Op.Mul ≡ TERM_LEVEL) refl a _ _ _ _ _ _ _ b _ _ _ _ _ _ _ v.fourth w.fifth)
  right_binary Op.Div a b v w = from_term names ts at _ _ _ _ (multiply v.term Op.Div w.signed) (between names ts Op.Div (op_level Op.Div ≡ TERM_LEVEL) refl a _ _ _ _ _ _ _ b _ _ _ _ _ _ _ v.fourth w.fifth)
  right_binary Op.Join a b v w = from_joins names ts at _ _ _ _ (join v.joins Op.Join w.sums) (between names ts Op.Join (op_level Op.Join ≡ JOIN_LEVEL) refl a _ _ _ _ _ _ _ b _ _ _ _ _ _ _ v.second w.third)
  right_binary Op.Eq a b v w = from_expression names ts at _ _ _ _ (compare v.expression Op.Eq w.joins) (between names ts Op.Eq (op_level Op.Eq ≡ COMPARISON_LEVEL) refl a _ _ _ _ _ _ _ b _ _ _ _ _ _ _ v.first w.second)
  right_binary Op.Ne a b v w = from_expression names ts at _ _ _ _ (compare v.expression Op.Ne w.joins) (between names ts Op.Ne (op_level Op.Ne ≡ COMPARISON_LEVEL) refl a _ _ _ _ _ _ _ b _ _ _ _ _ _ _ v.first w.second)
  right_binary Op.Lt a b v w = from_expression names ts at _ _ _ _ (compare v.expression Op.Lt w.joins) (between names ts Op.Lt (op_level Op.Lt ≡ COMPARISON_LEVEL) refl a _ _ _ _ _ _ _ b _ _ _ _ _ _ _ v.first w.second)
  right_binary Op.Le a b v w = from_expression names ts at _ _ _ _ (compare v.expression Op.Le w.joins) (between names ts Op.Le (op_level Op.Le ≡ COMPARISON_LEVEL) refl a _ _ _ _ _ _ _ b _ _ _ _ _ _ _ v.first w.second)
  right_binary Op.Gt a b v w = from_expression names ts at _ _ _ _ (compare v.expression Op.Gt w.joins) (between names ts Op.Gt (op_level Op.Gt ≡ COMPARISON_LEVEL) refl a _ _ _ _ _ _ _ b _ _ _ _ _ _ _ v.first w.second)
  right_binary Op.Ge a b v w = from_expression names ts at _ _ _ _ (compare v.expression Op.Ge w.joins) (between names ts Op.Ge (op_level Op.Ge ≡ COMPARISON_LEVEL) refl a _ _ _ _ _ _ _ b _ _ _ _ _ _ _ v.first w.second)

  right_value : (k : Kind) (e : Expr) (v : Right e) → IsOfKind k (value v.expression) → RightArgument k e
  right_value k e v h = record { node = value v.expression; part = of_kind names ts (IsOfKind k (value v.expression)) h _ _ _ _ _ _ _ _ v.whole }

  right_many : (e : Expr) → (IsExpression at e → Right e) → OfKind at Many e (IsExpression at e) → SheetsBelow (length names) e → RightArgument Many e
  right_many (Range r s) f h below =
      let p = range_part names ts good at r s h below in
      record { node = area (target_of r.sheet p.0) p.1; part = of_kind names ts (Unit {0}) tt _ _ _ _ _ _ _ _ p.2 }
  right_many e f h below = right_value Many e (f h) tt

  right_place : (e : Expr) → OfKind at Place e (IsExpression at e) → SheetsBelow (length names) e → RightArgument Place e
  right_place (Ref r) h below =
      let p = reference_part names ts good at r h below in
      record { node = cell (target_of r.sheet p.0); part = of_kind names ts (Unit {0}) tt _ _ _ _ _ _ _ _ p.1 }
  right_place (Range r s) h below =
      let p = range_part names ts good at r s h below in
      record { node = area (target_of r.sheet p.0) p.1; part = of_kind names ts (Unit {0}) tt _ _ _ _ _ _ _ _ p.2 }
  right_place RefError h below = record { node = lone Literal.RefError; part = ref_error_part names ts (IsOfKind Place (lone Literal.RefError) × Unit {0}) (refl, tt) }
  right_place e h below = absurd h

  exact_number : (n : ℤ) → n ≡ pos 0 → (IsLiteral n) × (IsTrue (is_exact (Literal.Number n)))
  exact_number n h = subst (λ (m : ℤ). (IsLiteral m) × (IsTrue (is_exact (Literal.Number m)))) (sym h) (refl, refl)

  right_exact : (e : Expr) → OfKind at Exact e (IsExpression at e) → RightArgument Exact e
  right_exact (Number n) h =
      let exact = exact_number n h in
      record { node = lone (Literal.Number n); part = number_part names ts (IsOfKind Exact (lone (Literal.Number n)) × Unit {0}) (exact.1, tt) n exact.0 }
  right_exact (Truth b) h = record { node = lone (Literal.Truth b); part = truth_part names ts (IsOfKind Exact (lone (Literal.Truth b)) × Unit {0}) (ap not h, tt) b }
  right_exact e h = absurd h

  right_at : (k : Kind) (e : Expr) → (IsExpression at e → Right e) → OfKind at k e (IsExpression at e) → SheetsBelow (length names) e → RightArgument k e
  right_at Plain e f h below = right_value Plain e (f h) tt
  right_at Place e f h below = right_place e h below
  right_at Many e f h below = right_many e f h below
  right_at Exact e f h below = right_exact e h

  mutual
    right : (e : Expr) → IsExpression at e → TextsBelow (λ i. i < length ts) e → SheetsBelow (length names) e → Right e
    right (Number n) h texts sheets = from_primary names ts at _ _ _ _ (literal (Literal.Number n)) (number_part names ts (Unit {0}) tt n h)
    right (Text t) h texts sheets = from_primary names ts at _ _ _ _ (literal (Literal.Text t)) (text_part names ts (Unit {0}) tt distinct t texts)
    right (Truth b) h texts sheets = from_primary names ts at _ _ _ _ (literal (Literal.Truth b)) (truth_part names ts (Unit {0}) tt b)
    right (Ref r) h texts sheets = let p = reference_part names ts good at r h sheets in from_primary names ts at _ _ _ _ (reference (target_of r.sheet p.0)) p.1
    right (Range r s) h texts sheets = absurd h
    right RefError h texts sheets = from_primary names ts at _ _ _ _ (literal Literal.RefError) (ref_error_part names ts (Unit {0}) tt)
    right (Unary g a) h texts sheets = let v = right a h texts sheets in from_signed names ts at _ _ _ _ (signed g v.signed) (under_sign names ts g a _ _ _ _ _ _ _ v.fifth)
    right (Binary o a b) h texts sheets = right_binary o a b (right a h.0 texts.0 sheets.0) (right b h.1 texts.1 sheets.1)
    right (Call f End) h texts sheets = from_primary names ts at _ _ _ _ (call_none (Some f)) (called_none names ts f (IsTrue (enough f 0)) h)
    right (Call f (More a rest)) h texts sheets =
        let args = right_rest rest f 0 a (right_at (kind_of f 0) a (λ k. right a k texts.0 sheets.0) h.1 sheets.0) h.2 texts.1 sheets.1 in
        from_primary names ts at _ _ _ _ (call (Some f) args.nodes) (called names ts f (More a rest) _ _ _ _ _ _ _ args.part)

    right_rest : (rest : Exprs) (f : Fun) (n : ℕ) (a : Expr) → RightArgument (kind_of f n) a → HasArguments at f (suc n) rest → AllTextsBelow (λ i. i < length ts) rest → AllSheetsBelow (length names) rest → RightArguments f n (More a rest)
    right_rest End f n a x h texts sheets = record {
      nodes = last x.node;
      part = ended names ts (IsOfKind (kind_of f n) x.node) (ArgumentFits true x.node) (IsTrue (enough f (suc n))) a _ _ _ _ _ _ h x.part;
    }
    right_rest (More b rest) f n a x h texts sheets =
        let tail = right_rest rest f (suc n) b (right_at (kind_of f (suc n)) b (λ k. right b k texts.0 sheets.0) h.1 sheets.0) h.2 texts.1 sheets.1 in
        record {
          nodes = more x.node tail.nodes;
          part = followed names ts (IsOfKind (kind_of f n) x.node) (ArgumentFits true x.node) (IsTrue (takes_more f (suc n))) a _ _ _ _ _ _ h.0 x.part (More b rest) _ _ _ _ _ _ _ tail.part;
        }

pub printed_reads_back : PrintedReadsBack
printed_reads_back names ts at e good distinct on sound texts sheets short =
    let v = right names ts at good distinct e sound.shape texts sheets in
    let text : List ℕ = text_of names ts at e in
    let lexed : lexemes_in names 0 false text ≡ v.whole.lexed = ap (lexemes_in names 0 false) (sym (append-nil text)) ∙ v.whole.reads [] refl ∙ append-nil v.whole.lexed in
    let spelled : spelling v.expression ≡ tokens_of (spots_of names ts (61 ∷ text)) =
    sym (whole_tokens names ts (61 ∷ text) ∙ ap (map (token_of ts)) lexed ∙ v.whole.tokens) in
    let literals : HoldsLiterals names ts (61 ∷ text) = whole_held names ts (61 ∷ text) (subst (AllByRecursion (HoldsLiteral ts)) (sym lexed) v.whole.held) in
    record {
      formula = refl;
      short = short;
      literals = literals;
      reads = record {
        expression = v.expression;
        fits = v.whole.allowed;
        spelled = spelled;
        known = subst (λ (us : List Token). AllByRecursion (λ t. own_fault t ≡ None) us) spelled v.whole.known;
        inside = subst (λ (us : List Token). AllByRecursion (λ t. named_fault t ≡ None) us) spelled v.whole.inside;
        low = v.whole.low 0 (omega (arith, sound.flat));
        few = let n = v.whole.total 0 in let most = sound.small in omega arith;
        small = v.whole.small 0;
        means = v.whole.means;
      };
    }

-- and interns nothing
pub printed_interns_nothing : PrintedInternsNothing
printed_interns_nothing names ts at e good distinct on sound texts sheets short = held_stay names ts (printed names ts at e) (printed_reads_back names ts at e good distinct on sound texts sheets short).literals
