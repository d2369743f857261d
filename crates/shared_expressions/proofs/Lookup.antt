-- The index of a store.
use Rattle.std.proofs.Common.{◌≡◌, ℕ, suc, ◌+◌, ◌<◌, ◌≤◌, ◌⊎◌, ⊎_elim, inl, inr, ℤ, Bool, true, false, Option, Some, None, List, [], ◌∷◌, ◌++◌, length, refl, sym, ap, ◌∙◌, subst, arith, length-append}
use Rattle.std.specs.Ordering.{int_cmp, is_eq, ordering_then}
use Rattle.std.specs.declared.cmp.Ordering.{Ordering}
use Rattle.std.specs.declared.cmp.Ordering.TheVariants.{Less, Equal, Greater}
use Rattle.std.specs.Cmp.Lexicographic.{slice_cmp}
use Rattle.std.specs.Map.{KeepsOthers, AreApart, IsKeyTest, lookup}
use Rattle.std.specs.BTreeMap.{UpdatesBy}
use Rattle.std.proofs.lemmas.Cmp.{int_cmp_total, lists_total, eq_by_cmp_equiv, tied_itself}
use Rattle.std.proofs.lemmas.Map.Lookups.{exact_signed}
use Rattle.formula_trees.specs.declared.tree.Sign.{Sign}
use Rattle.formula_trees.specs.declared.tree.Op.{Op}
use Rattle.formula_trees.specs.declared.tree.Fun.{Fun}
use Rattle.shared_expressions.specs.declared.nodes.Node.{Node}
use Rattle.shared_expressions.specs.declared.store.Entry.{Entry}
use Rattle.shared_expressions.specs.declared.store.Store.{Store}
use Rattle.shared_expressions.specs.Trees.{Trees, expr_at, KeepsTrees, StandsFor}
use Rattle.shared_expressions.specs.Keys.{key_of}
use Rattle.shared_expressions.specs.Stored.{leaf, seen, grown, parts, entry_at, trees, HasCount, AllBelow, key_at, number_of, IsIndexed, IsStore, deepest, Stands, Grows}
use Rattle.shared_expressions.proofs.Spelling.{key_apart}
use Rattle.shared_expressions.proofs.Entries.{IsSame, lt_or_le, length-grown, parts_more, pooled, length-parts, counted_parts, found_stands, more_children, same_trees, grown_same, new_pool, new_kept, new_stands, old_entry, new_entry_at, new_entry_parts}

-- Keys in order

abbrev key_cmp : List ℤ → List ℤ → Ordering
key_cmp = slice_cmp int_cmp

then_equal : (o s : Ordering) → ordering_then o s ≡ Equal → (o ≡ Equal) × (s ≡ Equal)
then_equal Equal s h = (refl, h)
then_equal Less s h = cc
then_equal Greater s h = cc

equal_keys : (q k : List ℤ) → key_cmp q k ≡ Equal → q ≡ k
equal_keys [] [] h = refl
equal_keys [] (y ∷ k) h = cc
equal_keys (x ∷ q) [] h = cc
equal_keys (x ∷ q) (y ∷ k) h = (let b = then_equal (int_cmp x y) (key_cmp q k) h in λ i. exact_signed x y b.0 i ∷ equal_keys q k b.1 i)

is_eq_equal : (o : Ordering) → is_eq o ≡ true → o ≡ Equal
is_eq_equal Equal h = refl
is_eq_equal Less h = cc
is_eq_equal Greater h = cc

same_key : (q k : List ℤ) → is_eq (key_cmp q k) ≡ true → q ≡ k
same_key q k h = equal_keys q k (is_eq_equal (key_cmp q k) h)

true_or_false : (b : Bool) → (b ≡ true) ⊎ (b ≡ false)
true_or_false true = inl refl
true_or_false false = inr refl

module _ {K X : Type 0} (eq : K → K → Bool) (test : K → Bool) where
  other_entries : (old new : List (K × X)) → KeepsOthers eq test old new → (other : K → Bool) → IsKeyTest eq other → AreApart test other → lookup other new ≡ lookup other old
  unfolding KeepsOthers
  other_entries old new h = h

apart_keys : (p q k : List ℤ) → is_eq (key_cmp p q) ≡ false → is_eq (key_cmp p k) ≡ true → is_eq (key_cmp q k) ≡ false
apart_keys p q k n y = ⊎_elim
    (λ (h : is_eq (key_cmp q k) ≡ true). let e : p ≡ q = same_key p k y ∙ sym (same_key q k h) in let t : is_eq (key_cmp p q) ≡ true = ap (λ z. is_eq (key_cmp p z)) (sym e) ∙ ap is_eq (tied_itself (lists_total int_cmp_total) p) in absurd (cc))
    (λ (h : is_eq (key_cmp q k) ≡ false). h)
    (true_or_false (is_eq (key_cmp q k)))

other_number : (s t : Store) (p q : List ℤ) (w : Option ℕ) → UpdatesBy (λ x y. slice_cmp int_cmp x.items y.items) (λ k. slice_cmp int_cmp p k.items) s.index t.index w → is_eq (key_cmp p q) ≡ false → number_of t q ≡ number_of s q
other_number s t p q w h e = other_entries _ _ _ _ h.3 _ (λ x y. (eq_by_cmp_equiv (lists_total int_cmp_total)).congr q x.items y.items) (λ k. apart_keys p q k.items e)

-- A node that is there

pub found_entry : (cs : List ℕ) (es : List Entry) (f : List ℤ → Option ℕ) (n : Node) (ps : List ℕ) (i : ℕ) → IsIndexed cs es f → f (key_of n ps) ≡ Some i → (i < length es) × StandsFor (grown cs [] es) (record { 0 = i }) (seen (grown cs [] es) n ps)
found_entry cs es f n ps i h e =
    let k = h.found (key_of n ps) i e in
    let b = key_apart (entry_at es i).node n (parts cs (entry_at es i)) ps k.1 in
    (k.0, found_stands cs es n ps i h.pool k.0 (record { node = b.0; children = b.1 }))

pub none_same : (cs : List ℕ) (es : List Entry) (f : List ℤ → Option ℕ) (n : Node) (ps : List ℕ) → IsIndexed cs es f → f (key_of n ps) ≡ None → (i : ℕ) → i < length es → IsSame cs (entry_at es i) n ps → ⊥
none_same cs es f n ps h e i l s =
    let k : key_at cs es i ≡ key_of n ps = (λ z. key_of (s.node z) (s.children z)) in
    let a : f (key_of n ps) ≡ Some i = ap f (sym k) ∙ h.there i l in
    cc

-- A node that is not there yet

abbrev pub entry_of : List ℕ → Node → List ℕ → ℕ → Entry
entry_of cs n ps d = record { node = n; first = length cs; count = length ps; depth = d }

module _ (cs : List ℕ) (es : List Entry) (f : List ℤ → Option ℕ) (n : Node) (ps : List ℕ) (d : ℕ) (h : IsIndexed cs es f) (e : f (key_of n ps) ≡ None) where
  old_key : (i : ℕ) → i < length es → key_at (cs ++ ps) (es ++ entry_of cs n ps d ∷ []) i ≡ key_at cs es i
  old_key i l = ap (λ (z : Entry). key_of z.node (parts (cs ++ ps) z)) (old_entry cs es n ps d i l) ∙ ap (key_of (entry_at es i).node) (parts_more cs ps (entry_at es i) (h.pool.entries i).within)

  new_key : key_at (cs ++ ps) (es ++ entry_of cs n ps d ∷ []) (length es) ≡ key_of n ps
  new_key = ap (λ (z : Entry). key_of z.node (parts (cs ++ ps) z)) (new_entry_at cs es n ps d) ∙ ap (key_of n) (new_entry_parts cs n ps d)

  apart_from_old : (i : ℕ) → i < length es → is_eq (key_cmp (key_of n ps) (key_at cs es i)) ≡ false
  apart_from_old i l = ⊎_elim
      (λ (y : is_eq (key_cmp (key_of n ps) (key_at cs es i)) ≡ true). let a : f (key_of n ps) ≡ Some i = ap f (same_key (key_of n ps) (key_at cs es i) y) ∙ h.there i l in absurd (cc))
      (λ (y : is_eq (key_cmp (key_of n ps) (key_at cs es i)) ≡ false). y)
      (true_or_false (is_eq (key_cmp (key_of n ps) (key_at cs es i))))

  pub new_indexed : (g : List ℤ → Option ℕ) → HasCount n (length ps) → AllBelow (length es) ps → d ≡ suc (deepest es ps) → ((q : List ℤ) → is_eq (key_cmp (key_of n ps) q) ≡ false → g q ≡ f q) → g (key_of n ps) ≡ Some (length es) → IsIndexed (cs ++ ps) (es ++ entry_of cs n ps d ∷ []) g
  new_indexed g c b k other here =
      let more : length (es ++ entry_of cs n ps d ∷ []) ≡ length es + 1 = length-append es (entry_of cs n ps d ∷ []) in
      record {
        pool = new_pool cs es n ps d h.pool c b k (none_same cs es f n ps h e);
        there = λ i l. ⊎_elim
            (λ (m : i < length es). ap g (old_key i m) ∙ other (key_at cs es i) (apart_from_old i m) ∙ h.there i m)
            (λ (m : length es ≤ i). let same : i ≡ length es = omega arith in subst (λ z. g (key_at (cs ++ ps) (es ++ entry_of cs n ps d ∷ []) z) ≡ Some z) (sym same) (ap g new_key ∙ here))
            (lt_or_le i (length es));
        found = λ q i w. ⊎_elim
            (λ (y : is_eq (key_cmp (key_of n ps) q) ≡ true).
            let same : key_of n ps ≡ q = same_key (key_of n ps) q y in
            let at : Some i ≡ Some (length es) = sym w ∙ ap g (sym same) ∙ here in
            let is : i ≡ length es = cc in
            (omega arith, ap (key_at (cs ++ ps) (es ++ entry_of cs n ps d ∷ [])) is ∙ new_key ∙ same))
            (λ (y : is_eq (key_cmp (key_of n ps) q) ≡ false).
            let old = h.found q i (sym (other q y) ∙ w) in
            (omega (arith, old.0), old_key i old.0 ∙ old.1))
            (true_or_false (is_eq (key_cmp (key_of n ps) q)));
      }

-- In a store

pub stored : (s t : Store) (n : Node) (ps : List ℕ) (d : ℕ) → IsStore s → number_of s (key_of n ps) ≡ None → HasCount n (length ps) → AllBelow (length s.entries.items) ps → d ≡ suc (deepest s.entries.items ps) → t.children.items ≡ s.children.items ++ ps → t.entries.items ≡ s.entries.items ++ entry_of s.children.items n ps d ∷ [] → UpdatesBy (λ x y. slice_cmp int_cmp x.items y.items) (λ k. slice_cmp int_cmp (key_of n ps) k.items) s.index t.index (Some (length s.entries.items)) → IsStore t × Stands t (length s.entries.items) (seen (trees s) n ps) × Grows s t
stored s t n ps d h e c b k cs es u =
    let more : length t.entries.items ≡ length s.entries.items + 1 = ap length es ∙ length-append s.entries.items (entry_of s.children.items n ps d ∷ []) in
    let whole : trees t ≡ grown (s.children.items ++ ps) [] (s.entries.items ++ entry_of s.children.items n ps d ∷ []) = (λ i. grown (cs i) [] (es i)) in (
      subst (λ z. IsIndexed z t.entries.items (number_of t)) (sym cs) (subst (λ z. IsIndexed (s.children.items ++ ps) z (number_of t)) (sym es) (new_indexed s.children.items s.entries.items (number_of s) n ps d h e (number_of t) c b k (λ q f. other_number s t (key_of n ps) q (Some (length s.entries.items)) u f) u.1)),
      record {
        entry = omega arith;
        number = subst (λ z. StandsFor z (record { 0 = length s.entries.items }) (seen (trees s) n ps)) (sym whole) (new_stands s.children.items s.entries.items n ps d h.pool c b (none_same s.children.items s.entries.items (number_of s) n ps h e));
      },
      record {
        longer = omega arith;
        trees = subst (KeepsTrees (trees s)) (sym whole) (new_kept s.children.items s.entries.items n ps d h.pool);
      },
    )

-- further children that no entry has
pub still_stored : (s t : Store) (ps : List ℕ) → IsStore s → t.children.items ≡ s.children.items ++ ps → t.entries.items ≡ s.entries.items → number_of t ≡ number_of s → IsStore t × Grows s t
still_stored s t ps h cs es f =
    let whole : trees t ≡ trees s = (λ i. grown (cs i) [] (es i)) ∙ same_trees s.children.items ps s.entries.items h.pool in
    let old : IsIndexed (s.children.items ++ ps) s.entries.items (number_of s) = record {
      pool = more_children s.children.items ps s.entries.items h.pool;
      there = λ i l. ap (λ z. number_of s (key_of (entry_at s.entries.items i).node z)) (parts_more s.children.items ps (entry_at s.entries.items i) (h.pool.entries i).within) ∙ h.there i l;
      found = λ q i w. (let k = h.found q i w in (k.0, ap (key_of (entry_at s.entries.items i).node) (parts_more s.children.items ps (entry_at s.entries.items i) (h.pool.entries i).within) ∙ k.1));
    } in (
      subst (λ z. IsIndexed z t.entries.items (number_of t)) (sym cs) (subst (λ z. IsIndexed (s.children.items ++ ps) z (number_of t)) (sym es) (subst (IsIndexed (s.children.items ++ ps) s.entries.items) (sym f) old)),
      record { longer = (let l : length t.entries.items ≡ length s.entries.items = ap length es in omega arith); trees = grown_same (trees s) (trees t) whole },
    )

-- What an entry says of its expression

pub from_entry : (s : Store) (i : ℕ) (es : List Entry) (e : Entry) (m : Node) → IsStore s → e ≡ entry_at es i → es ≡ s.entries.items → e.node ≡ m → seen (trees s) m (parts s.children.items (entry_at s.entries.items i)) ≡ expr_at (trees s) i
from_entry s i es e m h at same node =
    let found : e ≡ entry_at s.entries.items i = at ∙ ap (λ z. entry_at z i) same in
    ap (λ z. seen (trees s) z (parts s.children.items (entry_at s.entries.items i))) (sym node ∙ ap (λ (z : Entry). z.node) found)
    ∙ sym (pooled s.children.items s.entries.items i h.pool.entries)

pub length-parts_at : (s : Store) (i : ℕ) (es : List Entry) (e : Entry) → IsStore s → e ≡ entry_at es i → es ≡ s.entries.items → length (parts s.children.items (entry_at s.entries.items i)) ≡ e.count
length-parts_at s i es e h at same =
    let found : e ≡ entry_at s.entries.items i = at ∙ ap (λ z. entry_at z i) same in
    length-parts s.children.items (entry_at s.entries.items i) (h.pool.entries i).within ∙ ap (λ (z : Entry). z.count) (sym found)

pub count_at : (s : Store) (i : ℕ) (es : List Entry) (e : Entry) (m : Node) → IsStore s → e ≡ entry_at es i → es ≡ s.entries.items → e.node ≡ m → HasCount m (length (parts s.children.items (entry_at s.entries.items i)))
count_at s i es e m h at same node =
    let found : e ≡ entry_at s.entries.items i = at ∙ ap (λ z. entry_at z i) same in
    subst (λ z. HasCount z (length (parts s.children.items (entry_at s.entries.items i)))) (ap (λ (z : Entry). z.node) (sym found) ∙ node) (counted_parts s.children.items i (entry_at s.entries.items i) (h.pool.entries i))

pub leaf_seen : (p : Trees) (n : Node) (xs : List ℕ) → ((s : Sign) → n ≡ Node.Unary s → ⊥) → ((o : Op) → n ≡ Node.Binary o → ⊥) → ((f : Fun) → n ≡ Node.Call f → ⊥) → leaf n ≡ seen p n xs
leaf_seen p (Node.Unary s) xs u b c = absurd (u s refl)
leaf_seen p (Node.Binary o) xs u b c = absurd (b o refl)
leaf_seen p (Node.Call f) xs u b c = absurd (c f refl)
leaf_seen p n xs u b c = refl

pub count_trees : (s : Store) → length (trees s) ≡ length s.entries.items
count_trees s = omega (arith, length-grown s.children.items [] s.entries.items)
