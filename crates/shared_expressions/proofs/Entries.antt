-- A pool's entries and the expressions that they stand for.
use Rattle.std.proofs.Common.{◌≡◌, ℕ, zero, suc, ◌+◌, ◌<◌, ◌≤◌, ◌⊎◌, ⊎_elim, max, Option, Some, None, Result, Ok, Err, IfOk, option_map, List, [], ◌∷◌, ◌++◌, length, take, drop, get_or, refl, sym, ap, ◌∙◌, subst, arith, length-append}
use Rattle.std.proofs.lemmas.List.{get_or_append_left, get_or_at, get_or-take, get_or-drop, length-take-le, length-drop, take-append-drop, drop-append-le, take-append-le, drop_at, take_all}
use Rattle.formula_trees.specs.Expr.{Expr, Exprs, End, More}
use Rattle.shared_expressions.specs.declared.nodes.Node.{Node}
use Rattle.shared_expressions.specs.declared.store.Entry.{Entry}
use Rattle.shared_expressions.specs.Trees.{Trees, expr_at, root_of, nth, child_of, depth, depth_all, KeepsTrees, StandsFor}
use Rattle.shared_expressions.specs.Stored.{joined, row, seen, grown, no_entry, entry_at, parts, HasCount, AllBelow, IsEntry, IsOneToOne, IsPool, deepest}

-- an entry is this node over these children
pub record IsSame (cs : List ℕ) (e : Entry) (n : Node) (xs : List ℕ) : Type 0 where
  pub node : e.node ≡ n
  pub children : parts cs e ≡ xs

abbrev number_at : List ℕ → ℕ → Option ℕ
number_at [] k = None
number_at (x ∷ xs) zero = Some x
number_at (x ∷ xs) (suc k) = number_at xs k

pub lt_or_le : (i n : ℕ) → (i < n) ⊎ (n ≤ i)
lt_or_le i n = grind arith

pub length-grown : (cs : List ℕ) (p : Trees) (es : List Entry) → length (grown cs p es) ≡ length p + length es
length-grown cs p [] = omega arith
length-grown cs p (e ∷ es) =
    let one : length (p ++ seen p e.node (parts cs e) ∷ []) ≡ length p + 1 = length-append p (seen p e.node (parts cs e) ∷ []) in
    omega (arith, one, length-grown cs (p ++ seen p e.node (parts cs e) ∷ []) es)

-- what stands stays
pub grown_keeps : (cs : List ℕ) (p : Trees) (es : List Entry) (i : ℕ) → i < length p → expr_at (grown cs p es) i ≡ expr_at p i
grown_keeps cs p [] i h = refl
grown_keeps cs p (e ∷ es) i h =
    let one : length (p ++ seen p e.node (parts cs e) ∷ []) ≡ length p + 1 = length-append p (seen p e.node (parts cs e) ∷ []) in
    grown_keeps cs (p ++ seen p e.node (parts cs e) ∷ []) es i (omega arith) ∙ get_or_append_left p (seen p e.node (parts cs e) ∷ []) Expr.RefError i h

grown_split : (cs : List ℕ) (p : Trees) (xs ys : List Entry) → grown cs p (xs ++ ys) ≡ grown cs (grown cs p xs) ys
grown_split cs p [] ys = refl
grown_split cs p (x ∷ xs) ys = grown_split cs (p ++ seen p x.node (parts cs x) ∷ []) xs ys

-- the expressions of the first entries
below_same : (cs : List ℕ) (es : List Entry) (i j : ℕ) → i ≤ length es → j < i → expr_at (grown cs [] (take i es)) j ≡ expr_at (grown cs [] es) j
below_same cs es i j h l =
    let long : length (grown cs [] (take i es)) ≡ 0 + length (take i es) = length-grown cs [] (take i es) in
    let cut : length (take i es) ≡ i = length-take-le i es h in
    sym (ap (λ z. expr_at (grown cs [] z) j) (sym (take-append-drop i es)) ∙ ap (λ z. expr_at z j) (grown_split cs [] (take i es) (drop i es)) ∙ grown_keeps cs (grown cs [] (take i es)) (drop i es) j (omega arith))

drop_at_entry : (es : List Entry) (i : ℕ) → i < length es → drop i es ≡ entry_at es i ∷ drop (suc i) es
drop_at_entry [] i h = absurd (omega arith)
drop_at_entry (e ∷ es) zero h = refl
drop_at_entry (e ∷ es) (suc i) h = drop_at_entry es i (omega arith)

entry_seen : (cs : List ℕ) (es : List Entry) (i : ℕ) → i < length es → expr_at (grown cs [] es) i ≡ seen (grown cs [] (take i es)) (entry_at es i).node (parts cs (entry_at es i))
entry_seen cs es i h =
    let e : Entry = entry_at es i in
    let q : Trees = grown cs [] (take i es) in
    let long : length q ≡ 0 + length (take i es) = length-grown cs [] (take i es) in
    let cut : length (take i es) ≡ i = length-take-le i es (omega arith) in
    let s : Expr = seen q e.node (parts cs e) in
    let more : length (q ++ s ∷ []) ≡ length q + 1 = length-append q (s ∷ []) in
    ap (λ z. expr_at (grown cs [] z) i) (sym (take-append-drop i es))
    ∙ ap (λ z. expr_at z i) (grown_split cs [] (take i es) (drop i es))
    ∙ ap (λ z. expr_at (grown cs q z) i) (drop_at_entry es i h)
    ∙ grown_keeps cs (q ++ s ∷ []) (drop (suc i) es) i (omega arith)
    ∙ get_or_at q s [] Expr.RefError i (omega arith)

pub row_same : (p q : Trees) (xs : List ℕ) (i : ℕ) → ((j : ℕ) → j < i → expr_at p j ≡ expr_at q j) → AllBelow i xs → row p xs ≡ row q xs
row_same p q [] i h b = refl
row_same p q (x ∷ xs) i h b = λ z. More (h x b.0 z) (row_same p q xs i h b.1 z)

pub length-parts : (cs : List ℕ) (e : Entry) → e.first + e.count ≤ length cs → length (parts cs e) ≡ e.count
length-parts cs e h = length-take-le e.count (drop e.first cs) (omega (arith, length-drop e.first cs))

pub seen_same : (p q : Trees) (n : Node) (xs : List ℕ) (i : ℕ) → HasCount n (length xs) → AllBelow i xs → ((j : ℕ) → j < i → expr_at p j ≡ expr_at q j) → seen p n xs ≡ seen q n xs
seen_same p q (Node.Unary s) [] i c b h = absurd (omega arith)
seen_same p q (Node.Unary s) (x ∷ xs) i c b h = ap (Expr.Unary s) (h x b.0)
seen_same p q (Node.Binary o) [] i c b h = absurd (omega arith)
seen_same p q (Node.Binary o) (x ∷ []) i c b h = absurd (omega arith)
seen_same p q (Node.Binary o) (x ∷ (y ∷ xs)) i c b h = λ z. Expr.Binary o (h x b.0 z) (h y b.1.0 z)
seen_same p q (Node.Call f) xs i c b h = ap (Expr.Call f) (row_same p q xs i h b)
seen_same p q n xs i c b h = refl

past : (es : List Entry) (i : ℕ) → length es ≤ i → entry_at es i ≡ no_entry
past [] i h = refl
past (e ∷ es) zero h = absurd (omega arith)
past (e ∷ es) (suc i) h = past es i (omega arith)

past_trees : (p : Trees) (i : ℕ) → length p ≤ i → expr_at p i ≡ Expr.RefError
past_trees [] i h = refl
past_trees (e ∷ p) zero h = absurd (omega arith)
past_trees (e ∷ p) (suc i) h = past_trees p i (omega arith)

pub counted_parts : (cs : List ℕ) (i : ℕ) (e : Entry) → IsEntry cs i e → HasCount e.node (length (parts cs e))
counted_parts cs i e h = subst (HasCount e.node) (sym (length-parts cs e h.within)) h.counted

-- each number stands for its entry over the whole pool
pub pooled : (cs : List ℕ) (es : List Entry) (i : ℕ) → ((i : ℕ) → IsEntry cs i (entry_at es i)) → expr_at (grown cs [] es) i ≡ seen (grown cs [] es) (entry_at es i).node (parts cs (entry_at es i))
pooled cs es i h = ⊎_elim (λ (l : i < length es). entry_seen cs es i l ∙ seen_same (grown cs [] (take i es)) (grown cs [] es) (entry_at es i).node (parts cs (entry_at es i)) i (counted_parts cs i (entry_at es i) (h i)) (h i).children (λ j m. below_same cs es i j (omega arith) m)) (λ (l : length es ≤ i). past_trees (grown cs [] es) i (omega (arith, length-grown cs [] es)) ∙ ap (λ (e : Entry). seen (grown cs [] es) e.node (parts cs e)) (sym (past es i l))) (lt_or_le i (length es))

root_seen : (p : Trees) (n : Node) (xs : List ℕ) → root_of (seen p n xs) ≡ n
root_seen p (Node.Number z) xs = refl
root_seen p (Node.Text z) xs = refl
root_seen p (Node.Bool z) xs = refl
root_seen p (Node.Ref z) xs = refl
root_seen p (Node.Range r s) xs = refl
root_seen p Node.RefError xs = refl
root_seen p (Node.Unary z) xs = refl
root_seen p (Node.Binary z) xs = refl
root_seen p (Node.Call z) xs = refl

pub root_is : (cs : List ℕ) (es : List Entry) (i : ℕ) → IsPool cs es → root_of (expr_at (grown cs [] es) i) ≡ (entry_at es i).node
root_is cs es i h = ap root_of (pooled cs es i h.entries) ∙ root_seen (grown cs [] es) (entry_at es i).node (parts cs (entry_at es i))

nth_row : (p : Trees) (xs : List ℕ) (k : ℕ) → option_map (expr_at p) (number_at xs k) ≡ nth k (row p xs)
nth_row p [] k = refl
nth_row p (x ∷ xs) zero = refl
nth_row p (x ∷ xs) (suc k) = nth_row p xs k

child_seen : (p : Trees) (n : Node) (xs : List ℕ) (k : ℕ) → HasCount n (length xs) → option_map (expr_at p) (number_at xs k) ≡ child_of k (seen p n xs)
child_seen p (Node.Unary s) [] k c = absurd (omega arith)
child_seen p (Node.Unary s) (x ∷ []) zero c = refl
child_seen p (Node.Unary s) (x ∷ []) (suc k) c = refl
child_seen p (Node.Unary s) (x ∷ (y ∷ xs)) k c = absurd (omega arith)
child_seen p (Node.Binary o) [] k c = absurd (omega arith)
child_seen p (Node.Binary o) (x ∷ []) k c = absurd (omega arith)
child_seen p (Node.Binary o) (x ∷ (y ∷ [])) zero c = refl
child_seen p (Node.Binary o) (x ∷ (y ∷ [])) (suc zero) c = refl
child_seen p (Node.Binary o) (x ∷ (y ∷ [])) (suc (suc k)) c = refl
child_seen p (Node.Binary o) (x ∷ (y ∷ (z ∷ xs))) k c = absurd (omega arith)
child_seen p (Node.Call f) xs k c = nth_row p xs k
child_seen p n [] k c = refl
child_seen p n (x ∷ xs) k c = absurd (omega arith)

number_or : (xs : List ℕ) (k : ℕ) → k < length xs → number_at xs k ≡ Some (get_or xs k 0)
number_or [] k h = absurd (omega arith)
number_or (x ∷ xs) zero h = refl
number_or (x ∷ xs) (suc k) h = number_or xs k (omega arith)

number_none : (xs : List ℕ) (k : ℕ) → length xs ≤ k → number_at xs k ≡ None
number_none [] k h = refl
number_none (x ∷ xs) zero h = absurd (omega arith)
number_none (x ∷ xs) (suc k) h = number_none xs k (omega arith)

pub child_there : (cs : List ℕ) (es : List Entry) (i k : ℕ) → IsPool cs es → k < (entry_at es i).count → child_of k (expr_at (grown cs [] es) i) ≡ Some (expr_at (grown cs [] es) (get_or (parts cs (entry_at es i)) k 0))
child_there cs es i k h l =
    let e : Entry = entry_at es i in
    let long : length (parts cs e) ≡ e.count = length-parts cs e (h.entries i).within in
    ap (child_of k) (pooled cs es i h.entries)
    ∙ sym (child_seen (grown cs [] es) e.node (parts cs e) k (counted_parts cs i e (h.entries i)))
    ∙ ap (option_map (expr_at (grown cs [] es))) (number_or (parts cs e) k (omega arith))

pub child_none : (cs : List ℕ) (es : List Entry) (i k : ℕ) → IsPool cs es → (entry_at es i).count ≤ k → child_of k (expr_at (grown cs [] es) i) ≡ None
child_none cs es i k h l =
    let e : Entry = entry_at es i in
    let long : length (parts cs e) ≡ e.count = length-parts cs e (h.entries i).within in
    ap (child_of k) (pooled cs es i h.entries)
    ∙ sym (child_seen (grown cs [] es) e.node (parts cs e) k (counted_parts cs i e (h.entries i)))
    ∙ ap (option_map (expr_at (grown cs [] es))) (number_none (parts cs e) k (omega arith))

pub all_below_at : (i k : ℕ) (xs : List ℕ) → AllBelow i xs → k < length xs → get_or xs k 0 < i
all_below_at i k [] b l = absurd (omega arith)
all_below_at i zero (x ∷ xs) b l = b.0
all_below_at i (suc k) (x ∷ xs) b l = all_below_at i k xs b.1 (omega arith)

-- where a child's number stands
pub part_read : (cs : List ℕ) (es : List Entry) (i k : ℕ) → IsPool cs es → k < (entry_at es i).count → get_or cs ((entry_at es i).first + k) 0 ≡ get_or (parts cs (entry_at es i)) k 0
part_read cs es i k h l = sym (get_or-take (entry_at es i).count (drop (entry_at es i).first cs) k 0 l ∙ get_or-drop (entry_at es i).first cs k 0)

pub part_below : (cs : List ℕ) (es : List Entry) (i k : ℕ) → IsPool cs es → k < (entry_at es i).count → get_or (parts cs (entry_at es i)) k 0 < i
part_below cs es i k h l = (let long : length (parts cs (entry_at es i)) ≡ (entry_at es i).count = length-parts cs (entry_at es i) (h.entries i).within in all_below_at i k (parts cs (entry_at es i)) (h.entries i).children (omega arith))

-- Depths

depth_seen : (p : Trees) (n : Node) (xs : List ℕ) → HasCount n (length xs) → depth (seen p n xs) ≡ suc (depth_all (row p xs))
depth_seen p (Node.Unary s) [] c = absurd (omega arith)
depth_seen p (Node.Unary s) (x ∷ []) c = omega arith
depth_seen p (Node.Unary s) (x ∷ (y ∷ xs)) c = absurd (omega arith)
depth_seen p (Node.Binary o) [] c = absurd (omega arith)
depth_seen p (Node.Binary o) (x ∷ []) c = absurd (omega arith)
depth_seen p (Node.Binary o) (x ∷ (y ∷ [])) c = omega arith
depth_seen p (Node.Binary o) (x ∷ (y ∷ (z ∷ xs))) c = absurd (omega arith)
depth_seen p (Node.Call f) xs c = refl
depth_seen p n [] c = refl
depth_seen p n (x ∷ xs) c = absurd (omega arith)

deepest_is : (cs : List ℕ) (es : List Entry) (xs : List ℕ) → ((i : ℕ) → (entry_at es i).depth ≡ depth (expr_at (grown cs [] es) i)) → deepest es xs ≡ depth_all (row (grown cs [] es) xs)
deepest_is cs es [] h = refl
deepest_is cs es (x ∷ xs) h = λ i. max (h x i) (deepest_is cs es xs h i)

pub deepest_few : (cs : List ℕ) (es : List Entry) (n : ℕ) (xs : List ℕ) → ((i : ℕ) → IsEntry cs i (entry_at es i)) → AllBelow n xs → deepest es xs ≤ n
deepest_few cs es n [] h b = omega arith
deepest_few cs es n (x ∷ xs) h b = omega (arith, b.0, (h x).shallow, deepest_few cs es n xs h b.1)

-- Equal expressions have equal children

same_numbers : (p : Trees) (xs ys : List ℕ) → IsOneToOne p → AllBelow (length p) xs → AllBelow (length p) ys → ((k : ℕ) → option_map (expr_at p) (number_at xs k) ≡ option_map (expr_at p) (number_at ys k)) → xs ≡ ys
same_numbers p [] [] o b d h = refl
same_numbers p [] (y ∷ ys) o b d h = (let e = h zero in cc)
same_numbers p (x ∷ xs) [] o b d h = (let e = h zero in cc)
same_numbers p (x ∷ xs) (y ∷ ys) o b d h =
    let e = h zero in
    let t : expr_at p x ≡ expr_at p y = cc in
    λ i. o x y b.0 d.0 t i ∷ same_numbers p xs ys o b.1 d.1 (λ k. h (suc k)) i

pub seen_apart : (p : Trees) (m n : Node) (xs ys : List ℕ) → IsOneToOne p → HasCount m (length xs) → HasCount n (length ys) → AllBelow (length p) xs → AllBelow (length p) ys → seen p m xs ≡ seen p n ys → (m ≡ n) × (xs ≡ ys)
seen_apart p m n xs ys o c d a b h = (sym (root_seen p m xs) ∙ ap root_of h ∙ root_seen p n ys, same_numbers p xs ys o a b (λ k. child_seen p m xs k c ∙ ap (child_of k) h ∙ sym (child_seen p n ys k d)))

pub all_below_more : (i j : ℕ) (xs : List ℕ) → i ≤ j → AllBelow i xs → AllBelow j xs
all_below_more i j [] h b = tt
all_below_more i j (x ∷ xs) h b = (omega (arith, b.0), all_below_more i j xs h b.1)

-- A new entry

pub parts_more : (cs ds : List ℕ) (e : Entry) → e.first + e.count ≤ length cs → parts (cs ++ ds) e ≡ parts cs e
parts_more cs ds e h = ap (take e.count) (drop-append-le e.first cs ds (omega arith)) ∙ take-append-le e.count (drop e.first cs) ds (omega (arith, length-drop e.first cs))

grown_more : (cs ds : List ℕ) (p : Trees) (es : List Entry) → ((i : ℕ) → (entry_at es i).first + (entry_at es i).count ≤ length cs) → grown (cs ++ ds) p es ≡ grown cs p es
grown_more cs ds p [] h = refl
grown_more cs ds p (e ∷ es) h = ap (λ z. grown (cs ++ ds) (p ++ seen p e.node z ∷ []) es) (parts_more cs ds e (h zero)) ∙ grown_more cs ds (p ++ seen p e.node (parts cs e) ∷ []) es (λ i. h (suc i))

entry_more : (cs ds : List ℕ) (i : ℕ) (e : Entry) → IsEntry cs i e → IsEntry (cs ++ ds) i e
entry_more cs ds i e h = record {
  within = omega (arith, h.within, length-append cs ds);
  counted = h.counted;
  children = subst (AllBelow i) (sym (parts_more cs ds e h.within)) h.children;
  shallow = h.shallow;
}

-- further children that no entry has
pub more_children : (cs ds : List ℕ) (es : List Entry) → IsPool cs es → IsPool (cs ++ ds) es
more_children cs ds es h = record {
  entries = λ i. entry_more cs ds i (entry_at es i) (h.entries i);
  single = subst IsOneToOne (sym (grown_more cs ds [] es (λ i. (h.entries i).within))) h.single;
  depths = λ i. h.depths i ∙ ap (λ z. depth (expr_at z i)) (sym (grown_more cs ds [] es (λ i. (h.entries i).within)));
}

pub same_trees : (cs ds : List ℕ) (es : List Entry) → IsPool cs es → grown (cs ++ ds) [] es ≡ grown cs [] es
same_trees cs ds es h = grown_more cs ds [] es (λ i. (h.entries i).within)

pub grown_same : (p q : Trees) → q ≡ p → KeepsTrees p q
grown_same p q e = subst (KeepsTrees p) (sym e) (record { longer = omega arith; keeps = λ i h. refl })

-- an entry that is there
pub found_stands : (cs : List ℕ) (es : List Entry) (n : Node) (ps : List ℕ) (i : ℕ) → IsPool cs es → i < length es → IsSame cs (entry_at es i) n ps → StandsFor (grown cs [] es) (record { 0 = i }) (seen (grown cs [] es) n ps)
found_stands cs es n ps i h l s =
    let long : length (grown cs [] es) ≡ 0 + length es = length-grown cs [] es in
    let same : expr_at (grown cs [] es) i ≡ seen (grown cs [] es) n ps = pooled cs es i h.entries ∙ (λ k. seen (grown cs [] es) (s.node k) (s.children k)) in
    record { there = omega arith; same = same; alone = λ j m e. h.single j i m (omega arith) (e ∙ sym same) }

new_entry : (cs : List ℕ) (n : Node) (ps : List ℕ) (d : ℕ) → Entry
new_entry cs n ps d = record { node = n; first = length cs; count = length ps; depth = d }

new_parts : (cs : List ℕ) (n : Node) (ps : List ℕ) (d : ℕ) → parts (cs ++ ps) (new_entry cs n ps d) ≡ ps
unfolding new_entry
new_parts cs n ps d = ap (take (length ps)) (drop_at cs ps (length cs) refl) ∙ take_all (length ps) ps (omega arith)

new_trees : (cs : List ℕ) (es : List Entry) (n : Node) (ps : List ℕ) (d : ℕ) → IsPool cs es → grown (cs ++ ps) [] (es ++ new_entry cs n ps d ∷ []) ≡ grown cs [] es ++ seen (grown cs [] es) n ps ∷ []
unfolding new_entry
new_trees cs es n ps d h =
    grown_split (cs ++ ps) [] es (new_entry cs n ps d ∷ [])
    ∙ ap (λ z. grown (cs ++ ps) z (new_entry cs n ps d ∷ [])) (same_trees cs ps es h)
    ∙ ap (λ z. grown cs [] es ++ seen (grown cs [] es) n z ∷ []) (new_parts cs n ps d)

-- no other entry stands for it
not_there : (cs : List ℕ) (es : List Entry) (n : Node) (ps : List ℕ) → IsPool cs es → HasCount n (length ps) → AllBelow (length es) ps → ((i : ℕ) → i < length es → IsSame cs (entry_at es i) n ps → ⊥) → (i : ℕ) → i < length es → expr_at (grown cs [] es) i ≡ seen (grown cs [] es) n ps → ⊥
not_there cs es n ps h c b none i l e =
    let long : length (grown cs [] es) ≡ 0 + length es = length-grown cs [] es in
    let two = seen_apart (grown cs [] es) (entry_at es i).node n (parts cs (entry_at es i)) ps h.single (counted_parts cs i (entry_at es i) (h.entries i)) c (all_below_more i (length (grown cs [] es)) (parts cs (entry_at es i)) (omega arith) (h.entries i).children) (all_below_more (length es) (length (grown cs [] es)) ps (omega arith) b) (sym (pooled cs es i h.entries) ∙ e) in
    none i l (record { node = two.0; children = two.1 })

single_more : (p : Trees) (s : Expr) → IsOneToOne p → ((i : ℕ) → i < length p → expr_at p i ≡ s → ⊥) → IsOneToOne (p ++ s ∷ [])
single_more p s o none i j l m e =
    let long : length (p ++ s ∷ []) ≡ length p + 1 = length-append p (s ∷ []) in
    ⊎_elim
    (λ (a : i < length p). ⊎_elim
    (λ (b : j < length p). o i j a b (sym (get_or_append_left p (s ∷ []) Expr.RefError i a) ∙ e ∙ get_or_append_left p (s ∷ []) Expr.RefError j b))
    (λ (b : length p ≤ j). absurd (none i a (sym (get_or_append_left p (s ∷ []) Expr.RefError i a) ∙ e ∙ get_or_at p s [] Expr.RefError j (omega arith))))
    (lt_or_le j (length p)))
    (λ (a : length p ≤ i). ⊎_elim
    (λ (b : j < length p). absurd (none j b (sym (get_or_append_left p (s ∷ []) Expr.RefError j b) ∙ sym e ∙ get_or_at p s [] Expr.RefError i (omega arith))))
    (λ (b : length p ≤ j). omega arith)
    (lt_or_le j (length p)))
    (lt_or_le i (length p))

entries_more : (cs : List ℕ) (es : List Entry) (e : Entry) → ((i : ℕ) → IsEntry cs i (entry_at es i)) → IsEntry cs (length es) e → (i : ℕ) → IsEntry cs i (entry_at (es ++ e ∷ []) i)
entries_more cs es e h n i =
    ⊎_elim
    (λ (a : i < length es). subst (IsEntry cs i) (sym (get_or_append_left es (e ∷ []) no_entry i a)) (h i))
    (λ (a : length es ≤ i). ⊎_elim
    (λ (b : i < suc (length es)). let same : i ≡ length es = omega arith in subst (λ z. IsEntry cs z (entry_at (es ++ e ∷ []) z)) (sym same) (subst (IsEntry cs (length es)) (sym (get_or_at es e [] no_entry (length es) refl)) n))
    (λ (b : suc (length es) ≤ i). subst (IsEntry cs i) (past es i a ∙ sym (past (es ++ e ∷ []) i (omega (arith, length-append es (e ∷ []))))) (h i))
    (lt_or_le i (suc (length es))))
    (lt_or_le i (length es))

depth_at_new : (cs : List ℕ) (es : List Entry) (n : Node) (ps : List ℕ) (d : ℕ) → IsPool cs es → HasCount n (length ps) → d ≡ suc (deepest es ps) → (i : ℕ) → (entry_at (es ++ new_entry cs n ps d ∷ []) i).depth ≡ depth (expr_at (grown cs [] es ++ seen (grown cs [] es) n ps ∷ []) i)
unfolding new_entry
depth_at_new cs es n ps d h c e i =
    let q : Trees = grown cs [] es in
    let s : Expr = seen q n ps in
    let f : Entry = new_entry cs n ps d in
    let long : length q ≡ 0 + length es = length-grown cs [] es in
    ⊎_elim
    (λ (a : i < length es). ap (λ (z : Entry). z.depth) (get_or_append_left es (f ∷ []) no_entry i a) ∙ h.depths i ∙ sym (ap depth (get_or_append_left q (s ∷ []) Expr.RefError i (omega arith))))
    (λ (a : length es ≤ i). ⊎_elim
    (λ (b : i < suc (length es)). ap (λ (z : Entry). z.depth) (get_or_at es f [] no_entry i (omega arith)) ∙ e ∙ ap suc (deepest_is cs es ps h.depths) ∙ sym (depth_seen q n ps c) ∙ sym (ap depth (get_or_at q s [] Expr.RefError i (omega arith))))
    (λ (b : suc (length es) ≤ i). ap (λ (z : Entry). z.depth) (past (es ++ f ∷ []) i (omega (arith, length-append es (f ∷ [])))) ∙ sym (ap depth (past_trees (q ++ s ∷ []) i (omega (arith, length-append q (s ∷ []))))))
    (lt_or_le i (suc (length es))))
    (lt_or_le i (length es))

pub new_pool : (cs : List ℕ) (es : List Entry) (n : Node) (ps : List ℕ) (d : ℕ) → IsPool cs es → HasCount n (length ps) → AllBelow (length es) ps → d ≡ suc (deepest es ps) → ((i : ℕ) → i < length es → IsSame cs (entry_at es i) n ps → ⊥) → IsPool (cs ++ ps) (es ++ record { node = n; first = length cs; count = length ps; depth = d } ∷ [])
unfolding new_entry
new_pool cs es n ps d h c b e none =
    let long : length (grown cs [] es) ≡ 0 + length es = length-grown cs [] es in
    record {
      entries = entries_more (cs ++ ps) es (new_entry cs n ps d) (λ i. entry_more cs ps i (entry_at es i) (h.entries i)) (record {
        within = omega (arith, length-append cs ps);
        counted = c;
        children = subst (AllBelow (length es)) (sym (new_parts cs n ps d)) b;
        shallow = omega (arith, deepest_few cs es (length es) ps h.entries b);
      });
      single = subst IsOneToOne (sym (new_trees cs es n ps d h)) (single_more (grown cs [] es) (seen (grown cs [] es) n ps) h.single (λ i l e. not_there cs es n ps h c b none i (omega arith) e));
      depths = λ i. depth_at_new cs es n ps d h c e i ∙ ap (λ z. depth (expr_at z i)) (sym (new_trees cs es n ps d h));
    }

pub new_kept : (cs : List ℕ) (es : List Entry) (n : Node) (ps : List ℕ) (d : ℕ) → IsPool cs es → KeepsTrees (grown cs [] es) (grown (cs ++ ps) [] (es ++ record { node = n; first = length cs; count = length ps; depth = d } ∷ []))
unfolding new_entry
new_kept cs es n ps d h = subst (KeepsTrees (grown cs [] es)) (sym (new_trees cs es n ps d h)) (record {
  longer = omega (arith, length-append (grown cs [] es) (seen (grown cs [] es) n ps ∷ []));
  keeps = λ i l. get_or_append_left (grown cs [] es) (seen (grown cs [] es) n ps ∷ []) Expr.RefError i l;
})

pub new_stands : (cs : List ℕ) (es : List Entry) (n : Node) (ps : List ℕ) (d : ℕ) → IsPool cs es → HasCount n (length ps) → AllBelow (length es) ps → ((i : ℕ) → i < length es → IsSame cs (entry_at es i) n ps → ⊥) → StandsFor (grown (cs ++ ps) [] (es ++ record { node = n; first = length cs; count = length ps; depth = d } ∷ [])) (record { 0 = length es }) (seen (grown cs [] es) n ps)
unfolding new_entry
new_stands cs es n ps d h c b none =
    let q : Trees = grown cs [] es in
    let s : Expr = seen q n ps in
    let long : length q ≡ 0 + length es = length-grown cs [] es in
    let more : length (q ++ s ∷ []) ≡ length q + 1 = length-append q (s ∷ []) in
    let same : expr_at (q ++ s ∷ []) (length es) ≡ s = get_or_at q s [] Expr.RefError (length es) (omega arith) in
    let one : IsOneToOne (q ++ s ∷ []) = single_more q s h.single (λ i l e. not_there cs es n ps h c b none i (omega arith) e) in
    subst (λ z. StandsFor z (record { 0 = length es }) s) (sym (new_trees cs es n ps d h)) (record { there = omega arith; same = same; alone = λ j m e. one j (length es) m (omega arith) (e ∙ sym same) })

-- the parts of each entry, with a new one
pub old_entry : (cs : List ℕ) (es : List Entry) (n : Node) (ps : List ℕ) (d i : ℕ) → i < length es → entry_at (es ++ record { node = n; first = length cs; count = length ps; depth = d } ∷ []) i ≡ entry_at es i
old_entry cs es n ps d i l = get_or_append_left es (record { node = n; first = length cs; count = length ps; depth = d } ∷ []) no_entry i l

pub new_entry_at : (cs : List ℕ) (es : List Entry) (n : Node) (ps : List ℕ) (d : ℕ) → entry_at (es ++ record { node = n; first = length cs; count = length ps; depth = d } ∷ []) (length es) ≡ record { node = n; first = length cs; count = length ps; depth = d }
new_entry_at cs es n ps d = get_or_at es (record { node = n; first = length cs; count = length ps; depth = d }) [] no_entry (length es) refl

pub new_entry_parts : (cs : List ℕ) (n : Node) (ps : List ℕ) (d : ℕ) → parts (cs ++ ps) (record { node = n; first = length cs; count = length ps; depth = d }) ≡ ps
unfolding new_entry
new_entry_parts = new_parts

pub all_below_push : (i x : ℕ) (xs : List ℕ) → AllBelow i xs → x < i → AllBelow i (xs ++ x ∷ [])
all_below_push i x [] b h = (h, tt)
all_below_push i x (y ∷ xs) b h = (b.0, all_below_push i x xs b.1 h)

-- Arguments one after another

pub joined_end : (xs : Exprs) → xs ≡ joined xs End
joined_end End = refl
joined_end (More x xs) = ap (More x) (joined_end xs)

joined_more : (xs ys : Exprs) (y : Expr) → joined (joined xs (More y End)) ys ≡ joined xs (More y ys)
joined_more End ys y = refl
joined_more (More x xs) ys y = ap (More x) (joined_more xs ys y)

row_push : (p : Trees) (xs : List ℕ) (x : ℕ) → row p (xs ++ x ∷ []) ≡ joined (row p xs) (More (expr_at p x) End)
row_push p [] x = refl
row_push p (y ∷ xs) x = ap (More (expr_at p y)) (row_push p xs x)

-- an argument more
pub row_more : (p q r : Trees) (xs zs : List ℕ) (x : ℕ) (a : Expr) (rest : Exprs) → KeepsTrees p q → AllBelow (length p) xs → expr_at q x ≡ a → row r zs ≡ joined (row q (xs ++ x ∷ [])) rest → row r zs ≡ joined (row p xs) (More a rest)
row_more p q r xs zs x a rest g b e h =
    h
    ∙ ap (λ z. joined z rest) (row_push q xs x)
    ∙ joined_more (row q xs) rest (expr_at q x)
    ∙ (λ i. joined (row_same q p xs (length p) (λ j l. g.keeps j l) b i) (More (e i) rest))

pub if_ok_then : {A E : Type 0} (P Q : A → Type 0) (r : Result A E) → ((x : A) → P x → Q x) → IfOk r P → IfOk r Q
if_ok_then P Q (Ok x) f h = f x h
if_ok_then P Q (Err e) f h = tt

pub below_pushed : (i j x : ℕ) (xs ys : List ℕ) → i ≤ j → AllBelow i xs → x < j → ys ≡ xs ++ x ∷ [] → AllBelow j ys
below_pushed i j x xs ys h b l e = subst (AllBelow j) (sym e) (all_below_push j x xs (all_below_more i j xs h b) l)
