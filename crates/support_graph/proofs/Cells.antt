-- A map of cells and areas as a list, and what a change of it does to the index.
use Rattle.std.proofs.Common.{◌≡◌, Bool, true, false, cond, ◌&&◌, List, [], ◌∷◌, is_eq, refl, sym, ap, ◌∙◌, subst, Option, Some, None, is_some, IfSome, All}
use Rattle.std.specs.Prelude.{option_map}
use Rattle.std.specs.Global.{Vec}
use Rattle.std.specs.Map.{lookup, keys_of}
use Rattle.std.specs.List.Sorted.{IsStrictlySortedBy}
use Rattle.cell_values.specs.declared.address.Addr.{Addr}
use Rattle.cell_values.specs.declared.address.Area.{Area}
use Rattle.cell_values.specs.Addresses.{same_addr}
use Rattle.cell_values.specs.Areas.{IsArea}
use Rattle.cell_values.proofs.Order.{cmp, same_cmp, same_addr-true, entries_in_order}
use Rattle.cell_values.specs.Order.{InOrder, addresses, entry_at}
use Rattle.support_graph.specs.declared.block.Key.{Key}
use Rattle.support_graph.specs.declared.block.Reader.{Reader}
use Rattle.support_graph.specs.Blocks.{has_reader}
use Rattle.support_graph.specs.Support.{CellAreas, is_area_in, is_area_of, listed, AreCut, IsIndexed}
use Rattle.support_graph.specs.Steps.{SetsReaders, is_cell_reader}

abbrev pub Entries : Type 0
Entries = List (Addr × Vec Area)

-- what the map finds
abbrev pub found : Entries → Addr → Option (Vec Area)
found es a = lookup (λ k. is_eq (cmp a k)) es

pub found_listed : (es : Entries) (a : Addr) → option_map (λ (v : Vec Area). v.items) (found es a) ≡ entry_at (listed es) a
found_listed [] a = refl
found_listed (e ∷ es) a = go (is_eq (cmp a e.0)) ∙ (λ i. cond (same_cmp a e.0 i) (Some e.1.items) (found_listed es a i))
  where
    go : (q : Bool) → option_map (λ (v : Vec Area). v.items) (cond q (Some e.1) (found es a)) ≡ cond q (Some e.1.items) (option_map (λ (v : Vec Area). v.items) (found es a))
    go true = refl
    go false = refl

is_some-map : {X Y : Type 0} (f : X → Y) (o : Option X) → is_some o ≡ is_some (option_map f o)
is_some-map f None = refl
is_some-map f (Some x) = refl

pub found_some : (es : Entries) (a : Addr) → is_some (found es a) ≡ is_some (entry_at (listed es) a)
found_some es a = is_some-map (λ (v : Vec Area). v.items) (found es a) ∙ ap is_some (found_listed es a)

-- the list after a cell was put in, or taken out
pub changed_listed : (m n : Entries) (at : Addr) (w : Option (Vec Area)) → ((q : Addr) → found n q ≡ cond (is_eq (cmp at q)) w (found m q)) → (q : Addr) → entry_at (listed n) q ≡ cond (same_addr at q) (option_map (λ (v : Vec Area). v.items) w) (entry_at (listed m) q)
changed_listed m n at w h q =
    sym (found_listed n q) ∙ ap (option_map (λ (v : Vec Area). v.items)) (h q) ∙ go (is_eq (cmp at q))
    ∙ (λ i. cond (same_cmp at q i) (option_map (λ (v : Vec Area). v.items) w) (found_listed m q i))
  where
    go : (b : Bool) → option_map (λ (v : Vec Area). v.items) (cond b w (found m q)) ≡ cond b (option_map (λ (v : Vec Area). v.items) w) (option_map (λ (v : Vec Area). v.items) (found m q))
    go true = refl
    go false = refl

pub addresses_listed : (es : Entries) → addresses es ≡ addresses (listed es)
addresses_listed [] = refl
addresses_listed (e ∷ es) = λ i. e.0 ∷ addresses_listed es i

pub order_listed : (es : Entries) → IsStrictlySortedBy cmp (keys_of es) → InOrder (addresses (listed es))
order_listed es h = subst InOrder (addresses_listed es) (entries_in_order es h)

-- the index follows where a cell was put in with areas
pub indexed_put : (s t : CellAreas) (old new : List Key) (x y : List Reader) (cell : Addr) (areas : List Area) → entry_at s cell ≡ None → IsIndexed s old x → All IsArea areas → InOrder (addresses t) → ((q : Addr) → entry_at t q ≡ cond (same_addr cell q) (Some areas) (entry_at s q))
    → SetsReaders (is_cell_reader cell areas) true true x y → AreCut new y → IsIndexed t new y
indexed_put s t old new x y cell areas absent indexed good order h sets cut = record {
  in_order = order;
  areas = λ q. subst (λ (o : Option (List Area)). IfSome o (All IsArea)) (sym (h q)) (each q (same_addr cell q));
  reads = λ k. at k (same_addr cell k.cell) refl;
  cut = cut;
}
  where
    each : (q : Addr) (b : Bool) → IfSome (cond b (Some areas) (entry_at s q)) (All IsArea)
    each q true = good
    each q false = indexed.areas q

    there : (k : Reader) → same_addr cell k.cell ≡ true → (b : Bool) → is_area_in areas k.area ≡ b → has_reader y k ≡ b
    there k e true f = sets.done refl k (λ i. e i && f i)
    there k e false f = sets.others k (λ i. e i && f i) ∙ indexed.reads k ∙ (λ i. is_area_of (entry_at s (sym (same_addr-true cell k.cell e) i)) k.area) ∙ (λ i. is_area_of (absent i) k.area)

    at : (k : Reader) (b : Bool) → same_addr cell k.cell ≡ b → has_reader y k ≡ is_area_of (entry_at t k.cell) k.area
    at k true e = there k e (is_area_in areas k.area) refl ∙ sym ((λ i. is_area_of (h k.cell i) k.area) ∙ (λ i. is_area_of (cond (e i) (Some areas) (entry_at s k.cell)) k.area))
    at k false e = sets.others k (λ i. e i && is_area_in areas k.area) ∙ indexed.reads k ∙ sym ((λ i. is_area_of (h k.cell i) k.area) ∙ (λ i. is_area_of (cond (e i) (Some areas) (entry_at s k.cell)) k.area))

-- and where it was taken out
pub indexed_take : (s t : CellAreas) (old new : List Key) (x y : List Reader) (cell : Addr) (areas : List Area) → entry_at s cell ≡ Some areas → IsIndexed s old x → InOrder (addresses t) → ((q : Addr) → entry_at t q ≡ cond (same_addr cell q) None (entry_at s q))
    → SetsReaders (is_cell_reader cell areas) false true x y → AreCut new y → IsIndexed t new y
indexed_take s t old new x y cell areas there indexed order h sets cut = record {
  in_order = order;
  areas = λ q. subst (λ (o : Option (List Area)). IfSome o (All IsArea)) (sym (h q)) (each q (same_addr cell q));
  reads = λ k. at k (same_addr cell k.cell) refl;
  cut = cut;
}
  where
    each : (q : Addr) (b : Bool) → IfSome (cond b None (entry_at s q)) (All IsArea)
    each q true = tt
    each q false = indexed.areas q

    gone : (k : Reader) → same_addr cell k.cell ≡ true → (b : Bool) → is_area_in areas k.area ≡ b → has_reader y k ≡ false
    gone k e true f = sets.done refl k (λ i. e i && f i)
    gone k e false f = sets.others k (λ i. e i && f i) ∙ indexed.reads k ∙ (λ i. is_area_of (entry_at s (sym (same_addr-true cell k.cell e) i)) k.area) ∙ (λ i. is_area_of (there i) k.area) ∙ f

    at : (k : Reader) (b : Bool) → same_addr cell k.cell ≡ b → has_reader y k ≡ is_area_of (entry_at t k.cell) k.area
    at k true e = gone k e (is_area_in areas k.area) refl ∙ sym ((λ i. is_area_of (h k.cell i) k.area) ∙ (λ i. is_area_of (cond (e i) None (entry_at s k.cell)) k.area))
    at k false e = sets.others k (λ i. e i && is_area_in areas k.area) ∙ indexed.reads k ∙ sym ((λ i. is_area_of (h k.cell i) k.area) ∙ (λ i. is_area_of (cond (e i) None (entry_at s k.cell)) k.area))
