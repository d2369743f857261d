-- A tree that is there has its parts there.
use Rattle.std.proofs.Common.{◌≡◌, ℕ, zero, suc, ◌<◌, ◌≤◌, ⊎_elim, Some, None, List, length, get_or, refl, sym, ap, ◌∙◌, subst, arith}
use Rattle.formula_trees.specs.declared.tree.Sign.{Sign}
use Rattle.formula_trees.specs.declared.tree.Op.{Op}
use Rattle.formula_trees.specs.declared.tree.Fun.{Fun}
use Rattle.formula_trees.specs.Expr.{Expr, Exprs, End, More}
use Rattle.shared_expressions.specs.declared.nodes.Node.{Node}
use Rattle.shared_expressions.specs.declared.store.Store.{Store}
use Rattle.shared_expressions.specs.Trees.{Trees, expr_at, nth, child_of, IsThere}
use Rattle.shared_expressions.specs.Keys.{key_of}
use Rattle.shared_expressions.specs.Stored.{row, seen, parts, entry_at, trees, HasCount, AllBelow, number_of, IsStore, AllThere}
use Rattle.shared_expressions.proofs.Entries.{lt_or_le, pooled, counted_parts, all_below_more, seen_apart, child_there, child_none, part_below}
use Rattle.shared_expressions.proofs.Lookup.{count_trees, none_same}

-- a node over children that is there has its key in the index
pub not_there : (s : Store) (n : Node) (ps : List ℕ) → IsStore s → HasCount n (length ps) → AllBelow (length s.entries.items) ps → number_of s (key_of n ps) ≡ None → IsThere (trees s) (seen (trees s) n ps) → ⊥
not_there s n ps h c b e t =
    let many : length (trees s) ≡ length s.entries.items = count_trees s in
    let here : t.number < length s.entries.items = omega (arith, many, t.within) in
    let mine : AllBelow (length (trees s)) (parts s.children.items (entry_at s.entries.items t.number)) = all_below_more t.number (length (trees s)) (parts s.children.items (entry_at s.entries.items t.number)) (omega (arith, t.within)) (h.pool.entries t.number).children in
    let its : AllBelow (length (trees s)) ps = all_below_more (length s.entries.items) (length (trees s)) ps (omega (arith, many)) b in
    let apart = seen_apart (trees s) (entry_at s.entries.items t.number).node n (parts s.children.items (entry_at s.entries.items t.number)) ps h.pool.single (counted_parts s.children.items t.number (entry_at s.entries.items t.number) (h.pool.entries t.number)) c mine its (sym (pooled s.children.items s.entries.items t.number h.pool.entries) ∙ t.same) in
    none_same s.children.items s.entries.items (number_of s) n ps h e t.number here (record { node = apart.0; children = apart.1 })

same_some : (a b : Expr) → Some a ≡ Some b → a ≡ b
same_some a b h = cc

child_in : (s : Store) → IsStore s → (k : ℕ) (e a : Expr) → IsThere (trees s) e → child_of k e ≡ Some a → IsThere (trees s) a
child_in s h k e a t c = ⊎_elim
    (λ (l : k < (entry_at s.entries.items t.number).count). record {
      number = get_or (parts s.children.items (entry_at s.entries.items t.number)) k 0;
      within = omega (arith, part_below s.children.items s.entries.items t.number k h.pool l, t.within);
      same = same_some (expr_at (trees s) (get_or (parts s.children.items (entry_at s.entries.items t.number)) k 0)) a (sym (child_there s.children.items s.entries.items t.number k h.pool l) ∙ ap (child_of k) t.same ∙ c);
    })
    (λ (l : (entry_at s.entries.items t.number).count ≤ k). let none : None ≡ Some a = sym (child_none s.children.items s.entries.items t.number k h.pool l) ∙ ap (child_of k) t.same ∙ c in absurd (cc))
    (lt_or_le k (entry_at s.entries.items t.number).count)

all_in : (p : Trees) (args : Exprs) → ((k : ℕ) (a : Expr) → nth k args ≡ Some a → IsThere p a) → AllThere p args
all_in p End f = tt
all_in p (More a rest) f = (f zero a refl, all_in p rest (λ k b h. f (suc k) b h))

-- what an intern of a part leaves, and then the intern of the whole

pub unary_there : (s : Store) → IsStore s → (g : Sign) (a : Expr) → IsThere (trees s) (Expr.Unary g a) → IsThere (trees s) a
unary_there s h g a t = child_in s h 0 (Expr.Unary g a) a t refl

pub left_there : (s : Store) → IsStore s → (o : Op) (a b : Expr) → IsThere (trees s) (Expr.Binary o a b) → IsThere (trees s) a
left_there s h o a b t = child_in s h 0 (Expr.Binary o a b) a t refl

pub right_there : (s : Store) → IsStore s → (o : Op) (a b : Expr) → IsThere (trees s) (Expr.Binary o a b) → IsThere (trees s) b
right_there s h o a b t = child_in s h 1 (Expr.Binary o a b) b t refl

pub call_there : (s : Store) → IsStore s → (f : Fun) (args : Exprs) → IsThere (trees s) (Expr.Call f args) → AllThere (trees s) args
call_there s h f args t = all_in (trees s) args (λ k a e. child_in s h k (Expr.Call f args) a t e)

pub there_same : (p q : Trees) (e f : Expr) → q ≡ p → f ≡ e → IsThere p e → IsThere q f
there_same p q e f h k t = subst (IsThere q) (sym k) (subst (λ r. IsThere r e) (sym h) t)

pub all_same : (p q : Trees) (args : Exprs) → q ≡ p → AllThere p args → AllThere q args
all_same p q args h t = subst (λ r. AllThere r args) (sym h) t

pub unary_part : (s : Store) → IsStore s → (g : Sign) (a d e : Expr) (q : Trees) → e ≡ Expr.Unary g a → d ≡ a → (IsThere (trees s) d → q ≡ trees s) → IsThere (trees s) e → q ≡ trees s
unary_part s h g a d e q k j f t = f (there_same (trees s) (trees s) a d refl j (unary_there s h g a (subst (IsThere (trees s)) k t)))

pub unary_adds : (s : Store) → IsStore s → (g : Sign) (a d e : Expr) (q r : Trees) (x : ℕ) → e ≡ Expr.Unary g a → d ≡ a → (IsThere (trees s) d → q ≡ trees s) → expr_at q x ≡ d → (IsThere q (Expr.Unary g (expr_at q x)) → r ≡ q) → IsThere (trees s) e → r ≡ trees s
unary_adds s h g a d e q r x k j f y n t =
    let same : q ≡ trees s = unary_part s h g a d e q k j f t in
    n (there_same (trees s) q e (Expr.Unary g (expr_at q x)) same (ap (Expr.Unary g) (y ∙ j) ∙ sym k) t) ∙ same

pub left_part : (s : Store) → IsStore s → (o : Op) (a b d e : Expr) (q : Trees) → e ≡ Expr.Binary o a b → d ≡ a → (IsThere (trees s) d → q ≡ trees s) → IsThere (trees s) e → q ≡ trees s
left_part s h o a b d e q k j f t = f (there_same (trees s) (trees s) a d refl j (left_there s h o a b (subst (IsThere (trees s)) k t)))

pub right_part : (s : Store) → IsStore s → (o : Op) (a b d c e : Expr) (q r : Trees) → e ≡ Expr.Binary o a b → d ≡ a → c ≡ b → (IsThere (trees s) d → q ≡ trees s) → (IsThere q c → r ≡ q) → IsThere (trees s) e → r ≡ trees s
right_part s h o a b d c e q r k j i f g t =
    let same : q ≡ trees s = left_part s h o a b d e q k j f t in
    g (there_same (trees s) q b c same i (right_there s h o a b (subst (IsThere (trees s)) k t))) ∙ same

pub binary_adds : (s : Store) → IsStore s → (o : Op) (a b d c e : Expr) (q r w : Trees) (x y : ℕ) → e ≡ Expr.Binary o a b → d ≡ a → c ≡ b → (IsThere (trees s) d → q ≡ trees s) → (IsThere q c → r ≡ q) → expr_at q x ≡ d → expr_at r y ≡ c → (IsThere r (Expr.Binary o (expr_at r x) (expr_at r y)) → w ≡ r) → IsThere (trees s) e → w ≡ trees s
binary_adds s h o a b d c e q r w x y k j i f g l m n t =
    let first : q ≡ trees s = left_part s h o a b d e q k j f t in
    let both : r ≡ trees s = right_part s h o a b d c e q r k j i f g t in
    let left : expr_at r x ≡ a = ap (λ z. expr_at z x) (both ∙ sym first) ∙ l ∙ j in
    let right : expr_at r y ≡ b = m ∙ i in
    n (there_same (trees s) r e (Expr.Binary o (expr_at r x) (expr_at r y)) both ((λ z. Expr.Binary o (left z) (right z)) ∙ sym k) t) ∙ both

pub call_part : (s : Store) → IsStore s → (f : Fun) (args : Exprs) (e : Expr) (q : Trees) → e ≡ Expr.Call f args → (AllThere (trees s) args → q ≡ trees s) → IsThere (trees s) e → q ≡ trees s
call_part s h f args e q k g t = g (call_there s h f args (subst (IsThere (trees s)) k t))

pub call_adds : (s : Store) → IsStore s → (f : Fun) (args : Exprs) (e : Expr) (q r : Trees) (xs : List ℕ) → e ≡ Expr.Call f args → (AllThere (trees s) args → q ≡ trees s) → row q xs ≡ args → (IsThere q (Expr.Call f (row q xs)) → r ≡ q) → IsThere (trees s) e → r ≡ trees s
call_adds s h f args e q r xs k g y n t =
    let same : q ≡ trees s = call_part s h f args e q k g t in
    n (there_same (trees s) q e (Expr.Call f (row q xs)) same (ap (Expr.Call f) y ∙ sym k) t) ∙ same
