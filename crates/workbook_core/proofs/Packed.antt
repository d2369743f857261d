-- Cells laid out anew are the same.
use Rattle.std.proofs.Common.{◌≡◌, List, None, is_some, refl, sym, ap, subst, ◌∙◌, map, map-id}
use Rattle.std.specs.BTreeMap.{BTreeMap}
use Rattle.std.specs.BTreeMap as tree
use Rattle.std.specs.Cmp.{eq_by_cmp_equiv}
use Rattle.std.specs.List.{list_any}
use Rattle.std.specs.List.Sorted.{IsStrictlySortedBy}
use Rattle.std.specs.Map.{keys_of, update_all}
use Rattle.std.specs.Ordering.{eq_by_cmp}
use Rattle.std.proofs.lemmas.Map.Keys.{IsDistinct-from_sorted}
use Rattle.std.proofs.lemmas.Map.Made.{update_all_none}
use Rattle.cell_values.specs.declared.address.Addr.{Addr}
use Rattle.cell_values.specs.Order.{InOrder, addresses, entry_at}
use Rattle.cell_values.proofs.Order.{cmp, addr_total, entries_in_order, lookup_is}
use Rattle.demand_spec.proofs.OneList.{one_map}
use Rattle.workbook_core.specs.declared.Content.{Content as Held}
use Rattle.workbook_core.specs.declared.cells.ColumnFirst.{ColumnFirst}
use Rattle.workbook_core.specs.Held.{turned, same_turned, AreIndexed}

-- a map made of entries in order has these entries
pub packed_entries : (es : List (Addr × Held)) (m : BTreeMap Addr Held) → IsStrictlySortedBy cmp (keys_of es) → tree.IsFromIterResult cmp (map (λ e. e) es) m → m.entries ≡ es
packed_entries es m s h =
    one_map m.entries es (entries_in_order m.entries h.1) (entries_in_order es s)
    (λ a. sym (lookup_is m.entries a) ∙ h.0 a ∙ ap (λ l. update_all (eq_by_cmp cmp) (λ _. None) l a) (map-id es)
    ∙ update_all_none (eq_by_cmp_equiv addr_total) (eq_by_cmp cmp) (λ _ _. refl) es a (IsDistinct-from_sorted cmp (keys_of es) s) ∙ lookup_is es a)

pub indexed_packed : (old new : List (Addr × Held)) (ks ls : List ColumnFirst) → new ≡ old → ((k : ColumnFirst) → list_any (same_turned k) ls ≡ list_any (same_turned k) ks) → AreIndexed old ks → AreIndexed new ls
indexed_packed old new ks ls e p h = record {
  order = subst (λ es. InOrder (addresses es)) (sym e) h.order;
  same = λ a. p (turned a) ∙ h.same a ∙ ap (λ es. is_some (entry_at es a)) (sym e);
}
