use Rattle.std.proofs.Common.{◌≡◌, ◌≤◌, ◌+◌, ◌++◌, ◌∷◌, [], List, Some, suc, length, ℕ, refl, sym, ap, ◌∙◌, subst, arith}
use Rattle.std.proofs.lemmas.List.{append-nil}
use Rattle.std.specs.Map.{lookup}
use Rattle.std.specs.Ordering.{int_cmp, is_eq}
use Rattle.std.specs.Cmp.Lexicographic.{slice_cmp}
use Rattle.std.specs.BTreeMap.{UpdatesBy}
use Rattle.shared_expressions.specs.declared.store.Entry.{Entry}
use Rattle.shared_expressions.specs.Stored.{seen, trees, Stands, deepest}
use Rattle.shared_expressions.proofs.Entries.{deepest_few}
use Rattle.shared_expressions.proofs.Lookup.{stored, still_stored}
use Rattle.shared_expressions.proofs.store.add_new.Goals as goal

first_is : (n l m : ℕ) → n ≡ l → l ≡ m → n ≡ m
first_is n l m h k = omega arith

depth_is : (d : ℕ) (es fs : List Entry) (ps : List ℕ) → fs ≡ es → d ≡ deepest fs ps → d + 1 ≡ suc (deepest es ps)
depth_is d es fs ps e h = (let same : d ≡ deepest es ps = h ∙ ap (λ z. deepest z ps) e in omega arith)

pub overflow_add-entry : goal.overflow_add-entry
overflow_add-entry c =
    let d : c.deepest.result ≡ deepest c.args.store.now.entries.items c.args.parts.now = c.deepest.ensures ∙ ap (λ z. deepest z c.args.parts.now) c.deref.ensures.value in
    let few : deepest c.args.store.now.entries.items c.args.parts.now ≤ length c.args.store.now.entries.items = deepest_few c.args.store.now.children.items c.args.store.now.entries.items (length c.args.store.now.entries.items) c.args.parts.now c.requires.store.pool.entries c.requires.below in
    omega (arith, c.args.store.now.entries.small)

pub returns-in_err-extend_from_slice-clause-store :
    goal.returns-in_err-extend_from_slice-clause-store
returns-in_err-extend_from_slice-clause-store c = (still_stored c.args.store.now (record { entries = c.args.store.now.entries; children = c.extend_from_slice.new.self; index = c.args.store.now.index }) [] c.requires.store (c.in_err-extend_from_slice.ensures.items ∙ sym (append-nil c.args.store.now.children.items)) refl refl).0

pub returns-in_err-reserve-clause-store : goal.returns-in_err-reserve-clause-store
returns-in_err-reserve-clause-store c = (still_stored c.args.store.now (record { entries = c.reserve.new.self; children = c.extend_from_slice.new.self; index = c.args.store.now.index }) c.args.parts.now c.requires.store c.in_ok-extend_from_slice.ensures.items c.reserve.ensures.items refl).0

pub returns-in_err-reserve-clause-grows : goal.returns-in_err-reserve-clause-grows
returns-in_err-reserve-clause-grows c = (still_stored c.args.store.now (record { entries = c.reserve.new.self; children = c.extend_from_slice.new.self; index = c.args.store.now.index }) c.args.parts.now c.requires.store c.in_ok-extend_from_slice.ensures.items c.reserve.ensures.items refl).1

pub returns-in_err-insert-clause-store : goal.returns-in_err-insert-clause-store
returns-in_err-insert-clause-store c = (still_stored c.args.store.now (record { entries = c.reserve.new.self; children = c.extend_from_slice.new.self; index = c.insert.new.self }) c.args.parts.now c.requires.store c.in_ok-extend_from_slice.ensures.items c.reserve.ensures.items (λ i q. lookup (λ k. is_eq (slice_cmp int_cmp q k.items)) (c.in_err-insert.ensures.err i))).0

pub returns-in_err-insert-clause-grows : goal.returns-in_err-insert-clause-grows
returns-in_err-insert-clause-grows c = (still_stored c.args.store.now (record { entries = c.reserve.new.self; children = c.extend_from_slice.new.self; index = c.insert.new.self }) c.args.parts.now c.requires.store c.in_ok-extend_from_slice.ensures.items c.reserve.ensures.items (λ i q. lookup (λ k. is_eq (slice_cmp int_cmp q k.items)) (c.in_err-insert.ensures.err i))).1

pub returns-clause-store : goal.returns-clause-store
returns-clause-store c =
    (stored c.args.store.now (record { entries = c.push_reserved.new.self; children = c.extend_from_slice.new.self; index = c.insert.new.self }) c.args.node c.args.parts.now (c.deepest.result + 1) c.requires.store c.requires.none c.requires.count c.requires.below
    (depth_is c.deepest.result c.args.store.now.entries.items c.deref.result.now c.args.parts.now c.deref.ensures.value c.deepest.ensures)
    c.in_ok-extend_from_slice.ensures.items
    (c.push_reserved.ensures.items ∙ (λ i. c.reserve.ensures.items i ++ record { node = c.args.node; first = first_is c.len.result c.args.store.now.children.len (length c.args.store.now.children.items) c.len.ensures c.args.store.now.children.ok.0 i; count = length c.args.parts.now; depth = c.deepest.result + 1 } ∷ []))
    (subst (λ q. UpdatesBy (λ x y. slice_cmp int_cmp x.items y.items) (λ k. slice_cmp int_cmp q k.items) c.args.store.now.index c.insert.new.self (Some (length c.args.store.now.entries.items))) c.requires.key
    (subst (λ v. UpdatesBy (λ x y. slice_cmp int_cmp x.items y.items) (λ k. slice_cmp int_cmp c.args.key.items k.items) c.args.store.now.index c.insert.new.self (Some v)) (first_is c.len-number.result c.args.store.now.entries.len (length c.args.store.now.entries.items) c.len-number.ensures c.args.store.now.entries.ok.0) c.in_ok-insert.ensures.updates))).0

pub returns-clause-ok : goal.returns-clause-ok
returns-clause-ok c =
    subst (λ n. Stands (record { entries = c.push_reserved.new.self; children = c.extend_from_slice.new.self; index = c.insert.new.self }) n (seen (trees c.args.store.now) c.args.node c.args.parts.now)) (sym (first_is c.len-number.result c.args.store.now.entries.len (length c.args.store.now.entries.items) c.len-number.ensures c.args.store.now.entries.ok.0))
    (stored c.args.store.now (record { entries = c.push_reserved.new.self; children = c.extend_from_slice.new.self; index = c.insert.new.self }) c.args.node c.args.parts.now (c.deepest.result + 1) c.requires.store c.requires.none c.requires.count c.requires.below
    (depth_is c.deepest.result c.args.store.now.entries.items c.deref.result.now c.args.parts.now c.deref.ensures.value c.deepest.ensures)
    c.in_ok-extend_from_slice.ensures.items
    (c.push_reserved.ensures.items ∙ (λ i. c.reserve.ensures.items i ++ record { node = c.args.node; first = first_is c.len.result c.args.store.now.children.len (length c.args.store.now.children.items) c.len.ensures c.args.store.now.children.ok.0 i; count = length c.args.parts.now; depth = c.deepest.result + 1 } ∷ []))
    (subst (λ q. UpdatesBy (λ x y. slice_cmp int_cmp x.items y.items) (λ k. slice_cmp int_cmp q k.items) c.args.store.now.index c.insert.new.self (Some (length c.args.store.now.entries.items))) c.requires.key
    (subst (λ v. UpdatesBy (λ x y. slice_cmp int_cmp x.items y.items) (λ k. slice_cmp int_cmp c.args.key.items k.items) c.args.store.now.index c.insert.new.self (Some v)) (first_is c.len-number.result c.args.store.now.entries.len (length c.args.store.now.entries.items) c.len-number.ensures c.args.store.now.entries.ok.0) c.in_ok-insert.ensures.updates))).1

pub returns-clause-grows : goal.returns-clause-grows
returns-clause-grows c =
    (stored c.args.store.now (record { entries = c.push_reserved.new.self; children = c.extend_from_slice.new.self; index = c.insert.new.self }) c.args.node c.args.parts.now (c.deepest.result + 1) c.requires.store c.requires.none c.requires.count c.requires.below
    (depth_is c.deepest.result c.args.store.now.entries.items c.deref.result.now c.args.parts.now c.deref.ensures.value c.deepest.ensures)
    c.in_ok-extend_from_slice.ensures.items
    (c.push_reserved.ensures.items ∙ (λ i. c.reserve.ensures.items i ++ record { node = c.args.node; first = first_is c.len.result c.args.store.now.children.len (length c.args.store.now.children.items) c.len.ensures c.args.store.now.children.ok.0 i; count = length c.args.parts.now; depth = c.deepest.result + 1 } ∷ []))
    (subst (λ q. UpdatesBy (λ x y. slice_cmp int_cmp x.items y.items) (λ k. slice_cmp int_cmp q k.items) c.args.store.now.index c.insert.new.self (Some (length c.args.store.now.entries.items))) c.requires.key
    (subst (λ v. UpdatesBy (λ x y. slice_cmp int_cmp x.items y.items) (λ k. slice_cmp int_cmp c.args.key.items k.items) c.args.store.now.index c.insert.new.self (Some v)) (first_is c.len-number.result c.args.store.now.entries.len (length c.args.store.now.entries.items) c.len-number.ensures c.args.store.now.entries.ok.0) c.in_ok-insert.ensures.updates))).2
