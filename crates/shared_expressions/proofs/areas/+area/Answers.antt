use Rattle.std.proofs.Common.{◌≡◌, ℕ, List, length, refl, ap, ◌∙◌, subst, arith}
use Rattle.std.specs.Prelude.{option_to_list}
use Rattle.formula_trees.specs.Mentions.{areas}
use Rattle.shared_expressions.specs.declared.nodes.Node.{Node}
use Rattle.shared_expressions.specs.declared.store.Store.{Store}
use Rattle.shared_expressions.specs.Stored.{trees, parts, entry_at, Picks}
use Rattle.shared_expressions.proofs.Named.{is_inner, inner_areas, picks_child, picks_on, picks_end}
use Rattle.shared_expressions.proofs.Lookup.{from_entry, length-parts_at, count_at}
use Rattle.shared_expressions.proofs.areas.+area.Goals as goal

pub area_below-returns-in-Ok : goal.area_below-returns-in-Ok
area_below-returns-in-Ok t c =
    let xs : List ℕ = parts c.args.store.now.children.items (entry_at c.args.store.now.entries.items c.args.id) in
    let long : length xs ≡ c.entry_at-j-end.result.count = length-parts_at c.args.store.now c.args.id c.deref.result.now c.entry_at-j-end.result c.requires c.entry_at-j-end.ensures c.deref.ensures.value in
    record { picked = picks_child c.args.at (trees c.args.store.now) xs c.args.k c.loop-j.j c.loop-j.left c.part.result c.in-Ok.area c.loop-j.invariant (omega (arith, c.loop-j-test.true)) c.part.ensures.same c.in-Ok.ensures.picked; within = c.in-Ok.ensures.within }

pub area_below-loop-j-preserved : goal.area_below-loop-j-preserved
area_below-loop-j-preserved t c =
    let xs : List ℕ = parts c.args.store.now.children.items (entry_at c.args.store.now.entries.items c.args.id) in
    let long : length xs ≡ c.entry_at-j-end.result.count = length-parts_at c.args.store.now c.args.id c.deref.result.now c.entry_at-j-end.result c.requires c.entry_at-j-end.ensures c.deref.ensures.value in
    picks_on c.args.at (trees c.args.store.now) xs c.args.k c.loop-j.j c.loop-j.left c.part.result c.in-Err.further c.loop-j.invariant (omega (arith, c.loop-j-test.true)) c.part.ensures.same c.in-Err.ensures.picked

pub area_below-returns : goal.area_below-returns
area_below-returns t c =
    let xs : List ℕ = parts c.args.store.now.children.items (entry_at c.args.store.now.entries.items c.args.id) in
    let long : length xs ≡ c.entry_at-j-end.result.count = length-parts_at c.args.store.now c.args.id c.deref.result.now c.entry_at-j-end.result c.requires c.entry_at-j-end.ensures c.deref.ensures.value in
    record { picked = picks_end c.args.at (trees c.args.store.now) xs c.args.k c.loop-j.j c.loop-j.left c.loop-j.invariant (omega (arith, c.loop-j-test.false)); within = tt }

pub area_from-returns-in-Ref : goal.area_from-returns-in-Ref
area_from-returns-in-Ref t c =
    record { picked = subst (λ z. Picks z c.args.k c.pick.result) (ap option_to_list c.area_of.ensures.same ∙ ap (areas c.args.at) (from_entry c.args.store.now c.args.id c.deref.result.now c.entry_at.result (Node.Ref c.in-Ref.r) c.requires c.entry_at.ensures c.deref.ensures.value c.in-Ref.is)) c.pick.ensures.picked; within = c.pick.ensures.within }

pub area_from-returns-in-Range : goal.area_from-returns-in-Range
area_from-returns-in-Range t c =
    record { picked = subst (λ z. Picks z c.args.k c.pick-in-Range.result) (ap option_to_list c.area_of-in-Range.ensures.same ∙ ap (areas c.args.at) (from_entry c.args.store.now c.args.id c.deref.result.now c.entry_at.result (Node.Range c.in-Range.r c.in-Range.s) c.requires c.entry_at.ensures c.deref.ensures.value c.in-Range.is)) c.pick-in-Range.ensures.picked; within = c.pick-in-Range.ensures.within }

pub area_from-returns-in_default : goal.area_from-returns-in_default
area_from-returns-in_default t c =
    let s : Store = c.args.store.now in
    let xs : List ℕ = parts s.children.items (entry_at s.entries.items c.args.id) in
    record { picked = subst (λ z. Picks z c.args.k c.area_below.result) (inner_areas c.args.at (trees s) c.entry_at.result.node xs (is_inner c.entry_at.result.node c.in_default.not-Ref c.in_default.not-Range) (count_at s c.args.id c.deref.result.now c.entry_at.result c.entry_at.result.node c.requires c.entry_at.ensures c.deref.ensures.value refl) ∙ ap (areas c.args.at) (from_entry s c.args.id c.deref.result.now c.entry_at.result c.entry_at.result.node c.requires c.entry_at.ensures c.deref.ensures.value refl)) c.area_below.ensures.picked; within = c.area_below.ensures.within }
