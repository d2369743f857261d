use Rattle.std.proofs.Common.{◌≡◌, ◌++◌, refl, ℕ, List, OnOk, length, ap, ◌∙◌, subst, arith}
use Rattle.std.specs.Prelude.{option_to_list}
use Rattle.cell_values.specs.declared.address.Area.{Area}
use Rattle.formula_trees.specs.Mentions.{areas}
use Rattle.shared_expressions.specs.declared.nodes.Node.{Node}
use Rattle.shared_expressions.specs.declared.store.Store.{Store}
use Rattle.shared_expressions.specs.Stored.{trees, parts, entry_at, areas_below}
use Rattle.shared_expressions.proofs.Named.{is_inner, inner_areas, one_child_more, no_child_left}
use Rattle.shared_expressions.proofs.Lookup.{from_entry, length-parts_at, count_at}
use Rattle.shared_expressions.proofs.areas.+areas.Goals as goal

pub push_areas-returns-in-Ref-clause-items : goal.push_areas-returns-in-Ref-clause-items
push_areas-returns-in-Ref-clause-items t c =
    subst (λ (z : List Area). OnOk c.push_one.result (c.push_one.new.out.items ≡ c.args.out.now.items ++ z))
    (ap option_to_list c.area_of.ensures.same ∙ ap (areas c.args.at) (from_entry c.args.store.now c.args.id c.deref.result.now c.entry_at.result (Node.Ref c.in-Ref.r) c.requires c.entry_at.ensures c.deref.ensures.value c.in-Ref.is)) c.push_one.ensures.items

pub push_areas-returns-in-Range-clause-items : goal.push_areas-returns-in-Range-clause-items
push_areas-returns-in-Range-clause-items t c =
    subst (λ (z : List Area). OnOk c.push_one-in-Range.result (c.push_one-in-Range.new.out.items ≡ c.args.out.now.items ++ z))
    (ap option_to_list c.area_of-in-Range.ensures.same ∙ ap (areas c.args.at) (from_entry c.args.store.now c.args.id c.deref.result.now c.entry_at.result (Node.Range c.in-Range.r c.in-Range.s) c.requires c.entry_at.ensures c.deref.ensures.value c.in-Range.is)) c.push_one-in-Range.ensures.items

pub push_areas-returns-in_default : goal.push_areas-returns-in_default
push_areas-returns-in_default t c =
    let s : Store = c.args.store.now in
    let xs : List ℕ = parts s.children.items (entry_at s.entries.items c.args.id) in
    record {
      items = subst (λ (z : List Area). OnOk c.push_below.result (c.push_below.new.out.items ≡ c.args.out.now.items ++ z))
          (inner_areas c.args.at (trees s) c.entry_at.result.node xs (is_inner c.entry_at.result.node c.in_default.not-Ref c.in_default.not-Range) (count_at s c.args.id c.deref.result.now c.entry_at.result c.entry_at.result.node c.requires c.entry_at.ensures c.deref.ensures.value refl)
          ∙ ap (areas c.args.at) (from_entry s c.args.id c.deref.result.now c.entry_at.result c.entry_at.result.node c.requires c.entry_at.ensures c.deref.ensures.value refl)) c.push_below.ensures.items;
      within = c.push_below.ensures.within;
    }

pub push_below-loop-j-preserved : goal.push_below-loop-j-preserved
push_below-loop-j-preserved t c =
    let xs : List ℕ = parts c.args.store.now.children.items (entry_at c.args.store.now.entries.items c.args.id) in
    let long : length xs ≡ c.entry_at-j-end.result.count = length-parts_at c.args.store.now c.args.id c.deref.result.now c.entry_at-j-end.result c.requires c.entry_at-j-end.ensures c.deref.ensures.value in
    record {
      items = one_child_more c.args.at (trees c.args.store.now) xs c.loop-j.j c.part.result c.loop-j.out.items c.push_areas.new.out.items (c.args.out.now.items ++ areas_below c.args.at (trees c.args.store.now) xs) (omega (arith, c.loop-j-test.true)) c.part.ensures.same c.in_ok-push_areas.ensures.items c.loop-j.invariant.items;
      within = λ h. c.in_ok-push_areas.ensures.within (c.loop-j.invariant.within h);
    }

pub push_below-returns-clause-items : goal.push_below-returns-clause-items
push_below-returns-clause-items t c =
    let xs : List ℕ = parts c.args.store.now.children.items (entry_at c.args.store.now.entries.items c.args.id) in
    let long : length xs ≡ c.entry_at-j-end.result.count = length-parts_at c.args.store.now c.args.id c.deref.result.now c.entry_at-j-end.result c.requires c.entry_at-j-end.ensures c.deref.ensures.value in
    no_child_left c.args.at (trees c.args.store.now) xs c.loop-j.j c.loop-j.out.items (c.args.out.now.items ++ areas_below c.args.at (trees c.args.store.now) xs) (omega (arith, c.loop-j-test.false)) c.loop-j.invariant.items
