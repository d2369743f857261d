-- What formulas read as, over texts and over longer ones.
use Rattle.std.proofs.Common.{◌≡◌, ℕ, List, [], ◌∷◌, Some, true, Result, Ok, Err, refl, sym, ap, ◌∙◌, subst}
use Rattle.std.specs.Result.{result_map_both}
use Rattle.cell_values.specs.declared.address.Addr.{Addr}
use Rattle.cell_values.specs.declared.fields.Raw.{Raw}
use Rattle.cell_values.specs.Interned.{KeepsTexts}
use Rattle.cell_values.specs.Texts.{Texts}
use Rattle.formula_trees.specs.Expr.{Expr}
use Rattle.formula_tokens.specs.Tokens.{with_literals, HoldsLiterals}
use Rattle.formula_tokens.proofs.Held.{interned_are_held}
use Rattle.formula_tokens.specs.Words.{begins_with}
use Rattle.formula_grammar.specs.declared.faults.FaultKind.{FaultKind}
use Rattle.formula_grammar.specs.Reading.{Reading, IsReading, IsReadAs, Means, HasFault}
use Rattle.formula_grammar.proofs.Answered.{tree_or_fault_of_text, longer_mean}
use Rattle.demand_spec.specs.Book.{Content}
use Rattle.demand_spec.specs.Edits.{with_cell}
use Rattle.sheet_loading.specs.declared.faults.LoadFault.{LoadFault}
use Rattle.sheet_loading.specs.declared.faults.SheetRefusal.{SheetRefusal}
use Rattle.sheet_loading.specs.Contents.{Names, content_read}
use Rattle.sheet_loading.specs.Steps.{ReadsField, IsFieldFault}
use Rattle.sheet_loading.specs.Loaded.{HasTree, HaveTrees, held_by, held_tree, cells_in}

-- a text that means a tree reads as it
pub reads_tree : (names : Names) (ts : Texts) (at : Addr) (text : List ℕ) (tree : Expr) → Means names ts at text tree → (read : Reading) → IsReading names read → read ts at text ≡ Ok tree
reads_tree names ts at text tree m read right = go (read ts at text) (right ts at text m.formula m.literals)
  where
    go : (r : Result Expr (ℕ × FaultKind)) → IsReadAs names ts at text r → r ≡ Ok tree
    go (Ok e) k = ap Ok ((tree_or_fault_of_text names ts at text m.formula m.literals).one_tree e tree k m)
    go (Err f) k = absurd ((tree_or_fault_of_text names ts at text m.formula m.literals).not_both tree f.0 f.1 m k)

-- a text with a fault reads as it
pub reads_fault : (names : Names) (ts : Texts) (at : Addr) (text : List ℕ) (place : ℕ) (kind : FaultKind) → begins_with 61 text ≡ true → HoldsLiterals names ts text →
    HasFault names ts text place kind → (read : Reading) → IsReading names read → read ts at text ≡ Err (place, kind)
reads_fault names ts at text place kind formula literals h read right = go (read ts at text) (right ts at text formula literals)
  where
    go : (r : Result Expr (ℕ × FaultKind)) → IsReadAs names ts at text r → r ≡ Err (place, kind)
    go (Ok e) k = absurd ((tree_or_fault_of_text names ts at text formula literals).not_both e place kind k h)
    go (Err f) k = (let same = (tree_or_fault_of_text names ts at text formula literals).one_fault f.0 place f.1 kind k h in λ i. Err (same.0 i, same.1 i))

-- over longer texts a field has its tree still, and makes the same of its cell

pub tree_stays : (names : Names) (ts us : Texts) (at : Addr) (raw : Raw) → KeepsTexts ts us → HasTree names ts at raw → HasTree names us at raw
tree_stays names ts us at Raw.Nothing k h = tt
tree_stays names ts us at (Raw.Number n) k h = tt
tree_stays names ts us at (Raw.Text t) k h = tt
tree_stays names ts us at (Raw.Bool b) k h = tt
tree_stays names ts us at (Raw.Formula text) k h = (h.0, longer_mean names ts us at text h.0 k h.1)

pub trees_stay : (names : Names) (ts us : Texts) (fields : List (Addr × Raw)) → KeepsTexts ts us → HaveTrees names ts fields → HaveTrees names us fields
trees_stay names ts us [] k h = tt
trees_stay names ts us (c ∷ rest) k h = (tree_stays names ts us c.0 c.1 k h.0, trees_stay names ts us rest k h.1)

pub held_stays : (names : Names) (ts us : Texts) (at : Addr) (raw : Raw) → KeepsTexts ts us → HasTree names ts at raw → (read : Reading) → IsReading names read → held_by read us at raw ≡ held_by read ts at raw
held_stays names ts us at Raw.Nothing k h read right = refl
held_stays names ts us at (Raw.Number n) k h read right = refl
held_stays names ts us at (Raw.Text t) k h read right = refl
held_stays names ts us at (Raw.Bool b) k h read right = refl
held_stays names ts us at (Raw.Formula text) k h read right =
    ap held_tree (reads_tree names us at text h.0 (longer_mean names ts us at text h.0 k h.1) read right ∙ sym (reads_tree names ts at text h.0 h.1 read right))

pub cells_stay : (names : Names) (ts us : Texts) (fields : List (Addr × Raw)) → KeepsTexts ts us → HaveTrees names ts fields → (read : Reading) → IsReading names read → cells_in read us fields ≡ cells_in read ts fields
unfolding cells_in
cells_stay names ts us [] k h read right = refl
cells_stay names ts us (c ∷ rest) k h read right =
    λ i. with_cell c.0 (held_stays names ts us c.0 c.1 k h.0 read right i) (cells_stay names ts us rest k h.1 read right i)

-- what single fields are read as

pub plain_reads : (names : Names) (ts : Texts) (at : Addr) (raw : Raw) → ((text : List ℕ) → raw ≡ Raw.Formula text → ⊥) → ReadsField names ts ts at raw
unfolding content_read
plain_reads names ts at Raw.Nothing n = record { made = λ read right. refl; tree = tt }
plain_reads names ts at (Raw.Number k) n = record { made = λ read right. refl; tree = tt }
plain_reads names ts at (Raw.Text t) n = record { made = λ read right. refl; tree = tt }
plain_reads names ts at (Raw.Bool b) n = record { made = λ read right. refl; tree = tt }
plain_reads names ts at (Raw.Formula text) n = absurd (n text refl)

pub formula_reads : (names : Names) (ts us : Texts) (at : Addr) (text bytes : List ℕ) (tree : Expr) → bytes ≡ text → us ≡ with_literals names ts bytes → Means names us at bytes tree → ReadsField names ts us at (Raw.Formula text)
unfolding content_read
formula_reads names ts us at text bytes tree same k m = subst (λ t. ReadsField names ts us at (Raw.Formula t)) same whole
  where
    whole : ReadsField names ts us at (Raw.Formula bytes)
    whole = record {
      made = λ read right.
          let is : read us at bytes ≡ Ok tree = reads_tree names us at bytes tree m read right in
          (λ i. result_map_both (λ t. (sym k i, Some (Content.Formula t))) (λ fault. fault) (read (sym k i) at bytes))
          ∙ ap (result_map_both (λ t. (us, Some (Content.Formula t))) (λ fault. fault)) is ∙ ap (λ r. Ok (us, held_tree r)) (sym is);
      tree = (tree, m);
    }

pub formula_refused : (names : Names) (ts : Texts) (at : Addr) (text bytes : List ℕ) (place : ℕ) (kind : FaultKind) → bytes ≡ text → begins_with 61 text ≡ true →
    HasFault names (with_literals names ts bytes) bytes place kind → IsFieldFault names ts at (Raw.Formula text) (LoadFault.Refused (SheetRefusal.Formula at place kind))
unfolding content_read
formula_refused names ts at text bytes place kind same formula h = subst (λ t. begins_with 61 t ≡ true → IsFieldFault names ts at (Raw.Formula t) (LoadFault.Refused (SheetRefusal.Formula at place kind))) same whole formula
  where
    whole : begins_with 61 bytes ≡ true → IsFieldFault names ts at (Raw.Formula bytes) (LoadFault.Refused (SheetRefusal.Formula at place kind))
    whole f = λ read right. (
      (place, kind),
      ap (result_map_both (λ t. (with_literals names ts bytes, Some (Content.Formula t))) (λ fault. fault)) (reads_fault names (with_literals names ts bytes) at bytes place kind f (interned_are_held names ts bytes) h read right),
      refl,
    )
