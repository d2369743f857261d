-- A formula whose texts have other numbers: how it is printed, and what its text is read as.
use Rattle.std.proofs.Common.{◌≡◌, ℕ, suc, ◌<◌, ◌≤◌, cond, nat_lt, List, [], ◌++◌, length, map, get_or, codes, Some, unwrap_or, ◌⊎◌, inl, inr, refl, sym, ap, subst, ◌∙◌}
use Rattle.std.proofs.lemmas.List.{get_or-take}
use Rattle.cell_values.specs.declared.address.Addr.{Addr}
use Rattle.cell_values.specs.declared.interned.TextId.{TextId}
use Rattle.cell_values.specs.Addresses.{IsOnSheet}
use Rattle.cell_values.specs.Interned.{AreDistinct, KeepsTexts, number_of}
use Rattle.cell_values.specs.Names.{AreSheetNames}
use Rattle.cell_values.specs.Texts.{Texts, text_at}
use Rattle.cell_values.proofs.Numbering.{number_has_text, number_is_there}
use Rattle.formula_trees.specs.declared.TheConstants.{MAX_FORMULA_BYTES}
use Rattle.formula_trees.specs.declared.levels.TheConstants.{SIGN_LEVEL}
use Rattle.formula_trees.specs.Expr.{Expr, Exprs, Number, Text, Truth, Ref, Range, RefError, Unary, Binary, Call, End, More}
use Rattle.formula_trees.specs.Mapped.{all_mapped}
use Rattle.formula_trees.specs.SheetNumbers.{SheetsBelow}
use Rattle.formula_trees.specs.Sound.{IsSound, level_of, op_level}
use Rattle.formula_trees.specs.TextNumbers.{AllTextsBelow, TextsBelow}
use Rattle.formula_trees.proofs.Mappings.{Repoints, leaf_range, leaf_ref, sheets_mapped, sound_mapped, texts_mapped}
use Rattle.formula_tokens.proofs.Held.{interned_are_held, numbered}
use Rattle.formula_tokens.specs.Spelling.{op_text, quoted}
use Rattle.formula_tokens.specs.Tokens.{with_literals, with_texts}
use Rattle.formula_tokens.specs.Words.{function_name}
use Rattle.formula_grammar.specs.declared.faults.FaultKind.{FaultKind}
use Rattle.formula_grammar.specs.Printed.{arguments_text, enclosed, further_text, printed, sign_text, text_of}
use Rattle.formula_grammar.specs.Reading.{HasFault, Means}
use Rattle.formula_grammar.proofs.Alike.{faults_stay}
use Rattle.formula_grammar.proofs.Answered.{longer_mean, tree_or_fault_of_text}
use Rattle.formula_grammar.proofs.ReadBack.{printed_reads_back}
use Rattle.demand_spec.specs.Edits.{Cells}
use Rattle.book_save.specs.Loaded.{HasNumber, renumbered, renumbered_text, renumbered_tree}
use Rattle.book_save.proofs.Interning.{grows_literals, grows_texts, number_kept, texts_there}
use Rattle.book_save.proofs.Meant.{meant_texts}

-- ---- numbers

-- a text that has a number there has the same bytes under it
pub same_text : (ts us : Texts) (t : TextId) (n : ℕ) → number_of us (text_at ts t) ≡ Some n → text_at us (renumbered_text ts us t) ≡ text_at ts t
same_text ts us t n e = ap (λ o. get_or us (unwrap_or o 0) []) e ∙ number_has_text us (text_at ts t) n e

-- the numbers of all texts among others that have them all
record HoldsTexts (ts us : Texts) : Type 0 where
  number : (t : TextId) → t.0 < length ts → (n : ℕ) × (number_of us (text_at ts t) ≡ Some n)

holds : (ts us : Texts) → HoldsTexts ts (with_texts us ts)
holds ts us = record { number = λ t h. texts_there us ts t.0 h }

pub text_kept : (ts us : Texts) (t : TextId) (n : ℕ) → number_of us (text_at ts t) ≡ Some n → (renumbered_text ts us t).0 < length us
text_kept ts us t n e = subst (λ o. unwrap_or o 0 < length us) (sym e) (number_is_there us (text_at ts t) n e)

-- ---- printing

level_same : (ts us : Texts) (e : Expr) → level_of (renumbered_tree ts us e) ≡ level_of e
level_same ts us (Number n) = refl
level_same ts us (Text t) = refl
level_same ts us (Truth b) = refl
level_same ts us (Ref r) = refl
level_same ts us (Range r s) = refl
level_same ts us RefError = refl
level_same ts us (Unary s a) = refl
level_same ts us (Binary o a b) = refl
level_same ts us (Call f args) = refl

around : (ts us : Texts) (least : ℕ) (e : Expr) (x y : List ℕ) → x ≡ y → enclosed least (renumbered_tree ts us e) x ≡ enclosed least e y
around ts us least e x y p = λ i. cond (nat_lt (level_same ts us e i) least) (codes "(" ++ (p i ++ codes ")")) (p i)

mutual
  text_same : (names : List (List ℕ)) (ts us : Texts) (at : Addr) → HoldsTexts ts us → (e : Expr) → TextsBelow (λ i. i < length ts) e → text_of names us at (renumbered_tree ts us e) ≡ text_of names ts at e
  text_same names ts us at h (Number n) k = refl
  text_same names ts us at h (Text t) k = (let n = h.number t k in ap quoted (same_text ts us t n.0 n.1))
  text_same names ts us at h (Truth b) k = refl
  text_same names ts us at h (Ref r) k = refl
  text_same names ts us at h (Range r s) k = refl
  text_same names ts us at h RefError k = refl
  text_same names ts us at h (Unary s a) k =
      ap (λ (x : List ℕ). sign_text s ++ x) (around ts us SIGN_LEVEL a (text_of names us at (renumbered_tree ts us a)) (text_of names ts at a) (text_same names ts us at h a k))
  text_same names ts us at h (Binary o a b) k =
      let l = around ts us (op_level o) a (text_of names us at (renumbered_tree ts us a)) (text_of names ts at a) (text_same names ts us at h a k.0) in
      let r = around ts us (suc (op_level o)) b (text_of names us at (renumbered_tree ts us b)) (text_of names ts at b) (text_same names ts us at h b k.1) in
      λ i. l i ++ (op_text o ++ r i)
  text_same names ts us at h (Call f args) k = ap (λ (x : List ℕ). function_name f ++ (codes "(" ++ (x ++ codes ")"))) (arguments_same names ts us at h args k)

  arguments_same : (names : List (List ℕ)) (ts us : Texts) (at : Addr) → HoldsTexts ts us → (args : Exprs) → AllTextsBelow (λ i. i < length ts) args →
      arguments_text names us at (all_mapped (λ r. Ref r) (λ r s. Range r s) (renumbered_text ts us) args) ≡ arguments_text names ts at args
  arguments_same names ts us at h End k = refl
  arguments_same names ts us at h (More a rest) k = λ i. text_same names ts us at h a k.0 i ++ further_same names ts us at h rest k.1 i

  further_same : (names : List (List ℕ)) (ts us : Texts) (at : Addr) → HoldsTexts ts us → (args : Exprs) → AllTextsBelow (λ i. i < length ts) args →
      further_text names us at (all_mapped (λ r. Ref r) (λ r s. Range r s) (renumbered_text ts us) args) ≡ further_text names ts at args
  further_same names ts us at h End k = refl
  further_same names ts us at h (More a rest) k = λ i. codes "," ++ (text_same names ts us at h a k.0 i ++ further_same names ts us at h rest k.1 i)

printed_same : (names : List (List ℕ)) (ts us : Texts) (at : Addr) (e : Expr) → HoldsTexts ts us → TextsBelow (λ i. i < length ts) e → printed names us at (renumbered_tree ts us e) ≡ printed names ts at e
printed_same names ts us at e h k = ap (λ (x : List ℕ). codes "=" ++ x) (text_same names ts us at h e k)

-- ---- what is known of a formula of a book

pub record IsFormulaAt (names : List (List ℕ)) (ts : Texts) (at : Addr) (e : Expr) : Type 0 where
  pub on_sheet : IsOnSheet at
  pub sound : IsSound at e
  pub texts : TextsBelow (λ i. i < length ts) e
  pub sheets : SheetsBelow (length names) e
  pub short : length (printed names ts at e) ≤ MAX_FORMULA_BYTES

repoints : (at : Addr) → Repoints at at (λ r. Ref r) (λ r s. Range r s)
repoints at = record { cell_leaf = leaf_ref; range_leaf = leaf_range; cell_there = λ r h. h; range_there = λ r s h. h }

-- the same under the numbers among texts that have all of them
formula_over : (names : List (List ℕ)) (ts us : Texts) (at : Addr) (e : Expr) → HoldsTexts ts us → IsFormulaAt names ts at e → IsFormulaAt names us at (renumbered_tree ts us e)
formula_over names ts us at e h f = record {
  on_sheet = f.on_sheet;
  sound = sound_mapped at at (λ r. Ref r) (λ r s. Range r s) (renumbered_text ts us) (repoints at) e f.sound;
  texts = texts_mapped (λ i. i < length ts) (λ i. i < length us) (λ r. Ref r) (λ r s. Range r s) (renumbered_text ts us) (λ t k. text_kept ts us t (h.number t k).0 (h.number t k).1) (λ r. tt) (λ r s. tt) e f.texts;
  sheets = sheets_mapped (length names) (length names) (λ r. Ref r) (λ r s. Range r s) (renumbered_text ts us) (λ r k. k) (λ r s k. k) e f.sheets;
  short = subst (λ (x : List ℕ). length x ≤ MAX_FORMULA_BYTES) (sym (printed_same names ts us at e h f.texts)) f.short;
}

means_over : (names : List (List ℕ)) (ts us : Texts) (at : Addr) (e : Expr) → AreSheetNames names → AreDistinct us → HoldsTexts ts us → IsFormulaAt names ts at e → Means names us at (printed names ts at e) (renumbered_tree ts us e)
means_over names ts us at e good d h f =
    let g = formula_over names ts us at e h f in
    subst (λ (x : List ℕ). Means names us at x (renumbered_tree ts us e)) (printed_same names ts us at e h f.texts)
    (printed_reads_back names us at (renumbered_tree ts us e) good d g.on_sheet g.sound g.texts g.sheets g.short)

-- ---- reading

-- a text whose number among more texts is one of the first has it among the first
first_number : (ts us more : Texts) (t : TextId) (n : ℕ) → KeepsTexts us more → AreDistinct us → number_of more (text_at ts t) ≡ Some n → (renumbered_text ts more t).0 < length us → HasNumber ts us t.0
first_number ts us more t n k d e l =
    let low : n < length us = subst (λ o. unwrap_or o 0 < length us) e l in
    let there : get_or us n [] ≡ text_at ts t = ap (λ (z : Texts). get_or z n []) (sym k) ∙ get_or-take (length us) more n [] low ∙ number_has_text more (text_at ts t) n e in
    record { number = n; is = ap (number_of us) (sym there) ∙ numbered us d n low }

mutual
  first_numbers : (ts us more : Texts) → KeepsTexts us more → AreDistinct us → HoldsTexts ts more → (e : Expr) → TextsBelow (λ i. i < length ts) e → TextsBelow (λ i. i < length us) (renumbered_tree ts more e) → TextsBelow (HasNumber ts us) e
  first_numbers ts us more k d h (Number n) p q = tt
  first_numbers ts us more k d h (Text t) p q = first_number ts us more t (h.number t p).0 k d (h.number t p).1 q
  first_numbers ts us more k d h (Truth b) p q = tt
  first_numbers ts us more k d h (Ref r) p q = tt
  first_numbers ts us more k d h (Range r s) p q = tt
  first_numbers ts us more k d h RefError p q = tt
  first_numbers ts us more k d h (Unary s a) p q = first_numbers ts us more k d h a p q
  first_numbers ts us more k d h (Binary o a b) p q = (first_numbers ts us more k d h a p.0 q.0, first_numbers ts us more k d h b p.1 q.1)
  first_numbers ts us more k d h (Call f args) p q = all_first_numbers ts us more k d h args p q

  all_first_numbers : (ts us more : Texts) → KeepsTexts us more → AreDistinct us → HoldsTexts ts more → (args : Exprs) → AllTextsBelow (λ i. i < length ts) args →
      AllTextsBelow (λ i. i < length us) (all_mapped (λ r. Ref r) (λ r s. Range r s) (renumbered_text ts more) args) → AllTextsBelow (HasNumber ts us) args
  all_first_numbers ts us more k d h End p q = tt
  all_first_numbers ts us more k d h (More a rest) p q = (first_numbers ts us more k d h a p.0 q.0, all_first_numbers ts us more k d h rest p.1 q.1)

-- and keeps it among longer texts

pub number_stays : (ts us more : Texts) (i : ℕ) → KeepsTexts us more → HasNumber ts us i → HasNumber ts more i
number_stays ts us more i k h = record { number = h.number; is = number_kept us more (get_or ts i []) h.number k h.is }

mutual
  pub have_numbers : (ts us more : Texts) → KeepsTexts us more → (e : Expr) → TextsBelow (HasNumber ts us) e → TextsBelow (HasNumber ts more) e
  have_numbers ts us more k (Number n) h = tt
  have_numbers ts us more k (Text t) h = number_stays ts us more t.0 k h
  have_numbers ts us more k (Truth b) h = tt
  have_numbers ts us more k (Ref r) h = tt
  have_numbers ts us more k (Range r s) h = tt
  have_numbers ts us more k RefError h = tt
  have_numbers ts us more k (Unary s a) h = have_numbers ts us more k a h
  have_numbers ts us more k (Binary o a b) h = (have_numbers ts us more k a h.0, have_numbers ts us more k b h.1)
  have_numbers ts us more k (Call f args) h = all_have_numbers ts us more k args h

  all_have_numbers : (ts us more : Texts) → KeepsTexts us more → (args : Exprs) → AllTextsBelow (HasNumber ts us) args → AllTextsBelow (HasNumber ts more) args
  all_have_numbers ts us more k End h = tt
  all_have_numbers ts us more k (More a rest) h = (have_numbers ts us more k a h.0, all_have_numbers ts us more k rest h.1)

pub one_stays : (ts us more : Texts) (t : TextId) → KeepsTexts us more → HasNumber ts us t.0 → renumbered_text ts us t ≡ renumbered_text ts more t
one_stays ts us more t k h = λ i. record { 0 = unwrap_or ((h.is ∙ sym (number_kept us more (text_at ts t) h.number k h.is)) i) 0 }

mutual
  pub numbers_stay : (ts us more : Texts) → KeepsTexts us more → (e : Expr) → TextsBelow (HasNumber ts us) e → renumbered_tree ts us e ≡ renumbered_tree ts more e
  numbers_stay ts us more k (Number n) h = refl
  numbers_stay ts us more k (Text t) h = ap Text (one_stays ts us more t k h)
  numbers_stay ts us more k (Truth b) h = refl
  numbers_stay ts us more k (Ref r) h = refl
  numbers_stay ts us more k (Range r s) h = refl
  numbers_stay ts us more k RefError h = refl
  numbers_stay ts us more k (Unary s a) h = ap (Unary s) (numbers_stay ts us more k a h)
  numbers_stay ts us more k (Binary o a b) h = λ i. Binary o (numbers_stay ts us more k a h.0 i) (numbers_stay ts us more k b h.1 i)
  numbers_stay ts us more k (Call f args) h = ap (Call f) (all_numbers_stay ts us more k args h)

  all_numbers_stay : (ts us more : Texts) → KeepsTexts us more → (args : Exprs) → AllTextsBelow (HasNumber ts us) args →
      all_mapped (λ r. Ref r) (λ r s. Range r s) (renumbered_text ts us) args ≡ all_mapped (λ r. Ref r) (λ r s. Range r s) (renumbered_text ts more) args
  all_numbers_stay ts us more k End h = refl
  all_numbers_stay ts us more k (More a rest) h = λ i. More (numbers_stay ts us more k a h.0 i) (all_numbers_stay ts us more k rest h.1 i)

-- the formula's text means it over any texts with its literals, under their numbers there
pub record MeansOver (names : List (List ℕ)) (ts us : Texts) (at : Addr) (e : Expr) : Type 0 where
  pub numbers : TextsBelow (HasNumber ts us) e
  pub means : Means names us at (printed names ts at e) (renumbered_tree ts us e)

means_first : (names : List (List ℕ)) (ts us more : Texts) (at : Addr) (e tree : Expr) → AreDistinct us → KeepsTexts us more → HoldsTexts ts more → IsFormulaAt names ts at e →
    Means names more at (printed names ts at e) (renumbered_tree ts more e) → Means names us at (printed names ts at e) tree → MeansOver names ts us at e
means_first names ts us more at e tree d k h f m n =
    let text = printed names ts at e in
    let has = tree_or_fault_of_text names more at text m.formula m.literals in
    let same : tree ≡ renumbered_tree ts more e = has.one_tree tree (renumbered_tree ts more e) (longer_mean names us more at text tree k n) m in
    let mine = first_numbers ts us more k d h e f.texts (subst (TextsBelow (λ i. i < length us)) same (meant_texts names us at text tree n)) in
    record { numbers = mine; means = subst (Means names us at text) (same ∙ sym (numbers_stay ts us more k e mine)) n }

pub means_known : (names : List (List ℕ)) (ts us : Texts) (at : Addr) (e : Expr) → AreSheetNames names → AreDistinct us → IsFormulaAt names ts at e →
    MeansOver names ts (with_literals names us (printed names ts at e)) at e
means_known names ts us at e good d f =
    let text = printed names ts at e in
    let known = with_literals names us text in
    let more = with_texts known ts in
    let dk = (grows_literals names us text).distinct d in
    let also = grows_texts known ts in
    let h = holds ts known in
    let m = means_over names ts more at e good (also.distinct dk) h f in
    go (tree_or_fault_of_text names known at text m.formula (interned_are_held names us text)).one
  where
    go : ((tree : Expr) × Means names (with_literals names us (printed names ts at e)) at (printed names ts at e) tree) ⊎ ((place : ℕ) × (k : FaultKind) × HasFault names (with_literals names us (printed names ts at e)) (printed names ts at e) place k) →
        MeansOver names ts (with_literals names us (printed names ts at e)) at e
    go (inl (tree, n)) =
        let known = with_literals names us (printed names ts at e) in
        let dk = (grows_literals names us (printed names ts at e)).distinct d in
        let also = grows_texts known ts in
        means_first names ts known (with_texts known ts) at e tree dk also.keeps (holds ts known) f (means_over names ts (with_texts known ts) at e good (also.distinct dk) (holds ts known) f) n
    go (inr (place, k, n)) =
        let known = with_literals names us (printed names ts at e) in
        let more = with_texts known ts in
        let dk = (grows_literals names us (printed names ts at e)).distinct d in
        let m = means_over names ts more at e good ((grows_texts known ts).distinct dk) (holds ts known) f in
        absurd ((tree_or_fault_of_text names more at (printed names ts at e) m.formula m.literals).not_both (renumbered_tree ts more e) place k m (faults_stay names known more (printed names ts at e) place k n))

-- ---- contents

-- the cells under other numbers of texts
abbrev pub renumbered_cells : Texts → Texts → Cells → Cells
renumbered_cells ts us cs = map (λ c. (c.0, renumbered ts us c.1)) cs
