-- The support of a workbook, by a walk over its cells.
use Rattle.std.proofs.Common.{◌≡◌, ℕ, zero, suc, ◌<◌, ◌≤◌, ◌%◌, ◌==◌, Bool, true, false, not, ◌&&◌, ◌||◌, cond, inl, inr, List, [], ◌∷◌, length, Option, Some, None, option_map, refl, sym, ap, ◌∙◌, subst, arith}
use Rattle.std.specs.List.{filter}
use Rattle.std.proofs.lemmas.Nat.{mod_below}
use Rattle.cell_values.specs.declared.address.Addr.{Addr}
use Rattle.cell_values.specs.declared.address.Area.{Area}
use Rattle.cell_values.specs.Addresses.{same_addr, IsBefore}
use Rattle.cell_values.specs.Order.{InOrder, addresses, entry_at}
use Rattle.cell_values.proofs.Order.{same_addr-true, same_addr-sym, before_trans}
use Rattle.formula_trees.specs.Mentions.{areas}
use Rattle.demand_spec.specs.Book.{Book, Content, formula_of, formula_at}
use Rattle.demand_spec.specs.Edits.{Cells, is_before}
use Rattle.demand_spec.specs.Laws.{Set}
use Rattle.demand_spec.proofs.OneList.{before_found}
use Rattle.support_graph.specs.Support.{CellAreas, IsSupportOf}
use Rattle.workbook_core.specs.Books.{lies_after, next_in}
use Rattle.recalculation.specs.Standing.{areas_at, with_half, Links, LinksAlone}

-- the order of addresses, as a test

before_itself : (a : Addr) → is_before a a ≡ false
before_itself a = grind arith

pub before_of : (a b : Addr) → is_before a b ≡ true → IsBefore a b
before_of a b h = grind (arith, h)

before_is : (a b : Addr) → IsBefore a b → is_before a b ≡ true
before_is a b (inl h) = grind (arith, h)
before_is a b (inr (e, inl h)) = grind (arith, e, h)
before_is a b (inr (e, inr (f, h))) = grind (arith, e, f, h)

before_through : (a b c : Addr) → is_before a b ≡ true → is_before b c ≡ true → is_before a c ≡ true
before_through a b c h k = before_is a c (before_trans a b c (before_of a b h) (before_of b c k))

pub after_through : (o : Option Addr) (x c : Addr) → lies_after o x ≡ true → is_before x c ≡ true → lies_after o c ≡ true
after_through None x c h k = refl
after_through (Some a) x c h k = before_through a x c h k

-- the next cell

pub next_after : (cells : Cells) (o : Option Addr) (x : Addr) → next_in cells o ≡ Some x → lies_after o x ≡ true
next_after [] o x e = cc
next_after (y ∷ cells) o x e = go (lies_after o y.0) refl e (next_after cells o x)
  where
    go : (q : Bool) → lies_after o y.0 ≡ q → cond q (Some y.0) (next_in cells o) ≡ Some x → (next_in cells o ≡ Some x → lies_after o x ≡ true) → lies_after o x ≡ true
    go true h k rest = (let same : y.0 ≡ x = cc in subst (λ z. lies_after o z ≡ true) same h)
    go false h k rest = rest k

-- no cell lies behind the last one
pub next_none : (cells : Cells) (o : Option Addr) → next_in cells o ≡ None → (c : Addr) → lies_after o c ≡ true → entry_at cells c ≡ None
next_none [] o e c l = refl
next_none (y ∷ cells) o e c l = go (lies_after o y.0) refl e (same_addr c y.0) refl (λ k. next_none cells o k c l)
  where
    go : (q : Bool) → lies_after o y.0 ≡ q → cond q (Some y.0) (next_in cells o) ≡ None → (r : Bool) → same_addr c y.0 ≡ r → (next_in cells o ≡ None → entry_at cells c ≡ None) → cond r (Some y.1) (entry_at cells c) ≡ None
    go true h k r f rest = cc
    go false h k true f rest = (let m : lies_after o y.0 ≡ true = subst (λ z. lies_after o z ≡ true) (same_addr-true c y.0 f) l in absurd (let z : true ≡ false = sym m ∙ h in cc))
    go false h k false f rest = rest k

none_here : (o : Option Content) → ((d : Content) → o ≡ Some d → ⊥) → o ≡ None
none_here None h = refl
none_here (Some d) h = absurd (h d refl)

-- nor between an address and the next cell
pub none_between : (cells : Cells) → InOrder (addresses cells) → (o : Option Addr) (x : Addr) → next_in cells o ≡ Some x → (c : Addr) → lies_after o c ≡ true → is_before x c ≡ false → same_addr x c ≡ false → entry_at cells c ≡ None
none_between [] order o x e c l n m = refl
none_between (y ∷ cells) order o x e c l n m = go (lies_after o y.0) refl e (same_addr c y.0) refl (λ k. none_between cells order.1 o x k c l n m)
  where
    away : y.0 ≡ x → (d : Content) → entry_at cells c ≡ Some d → ⊥
    away same d f = (let t : is_before x c ≡ true = subst (λ z. is_before z c ≡ true) same (before_is y.0 c (before_found y.0 cells c d order.0 f)) in let z : true ≡ false = sym t ∙ n in absurd cc)

    apart : y.0 ≡ x → same_addr c y.0 ≡ false
    apart same = ap (same_addr c) same ∙ same_addr-sym c x ∙ m

    go : (q : Bool) → lies_after o y.0 ≡ q → cond q (Some y.0) (next_in cells o) ≡ Some x → (r : Bool) → same_addr c y.0 ≡ r → (next_in cells o ≡ Some x → entry_at cells c ≡ None) → cond r (Some y.1) (entry_at cells c) ≡ None
    go true h k true f rest = (let same : y.0 ≡ x = cc in let z : true ≡ false = sym f ∙ apart same in absurd cc)
    go true h k false f rest = (let same : y.0 ≡ x = cc in none_here (entry_at cells c) (away same))
    go false h k true f rest = (let t : lies_after o y.0 ≡ true = subst (λ z. lies_after o z ≡ true) (same_addr-true c y.0 f) l in let z : true ≡ false = sym t ∙ h in absurd cc)
    go false h k false f rest = rest k

-- how many cells lie behind an address

abbrev pub behind : Option Addr → Cells → Cells
behind o cells = filter (λ e. lies_after o e.0) cells

fewer_pass : (p q : Addr × Content → Bool) (cells : Cells) → ((e : Addr × Content) → q e ≡ true → p e ≡ true) → length (filter q cells) ≤ length (filter p cells)
fewer_pass p q [] h = omega arith
fewer_pass p q (y ∷ cells) h = go (q y) refl (p y) refl (fewer_pass p q cells h)
  where
    go : (u : Bool) → q y ≡ u → (v : Bool) → p y ≡ v → length (filter q cells) ≤ length (filter p cells) → length (cond u (y ∷ filter q cells) (filter q cells)) ≤ length (cond v (y ∷ filter p cells) (filter p cells))
    go true e true f k = omega (arith, k)
    go true e false f k = (let z : true ≡ false = sym (h y e) ∙ f in absurd cc)
    go false e true f k = omega (arith, k)
    go false e false f k = k

pub fewer_behind : (cells : Cells) (o : Option Addr) (x : Addr) → next_in cells o ≡ Some x → length (behind (Some x) cells) < length (behind o cells)
fewer_behind cells o x e = count cells e
  where
    through : (y : Addr × Content) → is_before x y.0 ≡ true → lies_after o y.0 ≡ true
    through y h = after_through o x y.0 (next_after cells o x e) h

    count : (ys : Cells) → next_in ys o ≡ Some x → length (behind (Some x) ys) < length (behind o ys)
    count [] k = cc
    count (y ∷ ys) k = go (lies_after o y.0) refl k (is_before x y.0) refl (count ys)
      where
        rest : length (behind (Some x) ys) ≤ length (behind o ys)
        rest = fewer_pass (λ z. lies_after o z.0) (λ z. is_before x z.0) ys through

        go : (u : Bool) → lies_after o y.0 ≡ u → cond u (Some y.0) (next_in ys o) ≡ Some x → (v : Bool) → is_before x y.0 ≡ v → (next_in ys o ≡ Some x → length (behind (Some x) ys) < length (behind o ys)) →
            length (cond v (y ∷ behind (Some x) ys) (behind (Some x) ys)) < length (cond u (y ∷ behind o ys) (behind o ys))
        go true h m true f later = (let same : y.0 ≡ x = cc in let z : false ≡ true = sym (before_itself x) ∙ ap (is_before x) (sym same) ∙ f in absurd cc)
        go true h m false f later = (let l = rest in omega (arith, l))
        go false h m true f later = (let z : false ≡ true = sym h ∙ through y f in absurd cc)
        go false h m false f later = later m

-- a pass over every second row

-- the cells of a set, and those in every second row up to an address
abbrev pub walked_to : ℕ → Set → Option Addr → Set
walked_to rest cells o c = cells c || ((c.row % 2 == rest) && not (lies_after o c))

no_areas : (b : Book) (c : Addr) → entry_at b.cells c ≡ None → areas_at b c ≡ None
unfolding formula_at
no_areas b c e = ap (λ x. option_map (areas c) (formula_of x)) e

nothing_either : (u v : Bool) (o : Option (List Area)) → o ≡ None → cond u o None ≡ cond v o None
nothing_either true true o e = refl
nothing_either true false o e = e
nothing_either false true o e = sym e
nothing_either false false o e = refl

or_true : (t : Bool) → (t || true) ≡ true
or_true true = refl
or_true false = refl

and_true : (t : Bool) → (t && true) ≡ t
and_true true = refl
and_true false = refl

or_nothing : (u t : Bool) → (u || (t && false)) ≡ u
or_nothing true t = refl
or_nothing false true = refl
or_nothing false false = refl

pub walk_starts : (b : Book) (rest : ℕ) (cells : Set) (s : CellAreas) → LinksAlone b cells s → LinksAlone b (walked_to rest cells None) s
walk_starts b rest cells s k c = k c ∙ ap (λ u. cond u (areas_at b c) None) (sym (or_nothing (cells c) (c.row % 2 == rest)))

module _ (b : Book) (rest : ℕ) (cells : Set) (o : Option Addr) (x : Addr) (order : InOrder (addresses b.cells)) (e : next_in b.cells o ≡ Some x) where
  -- another cell than the next one
  still : (c : Addr) → same_addr x c ≡ false → cond (walked_to rest cells o c) (areas_at b c) None ≡ cond (walked_to rest cells (Some x) c) (areas_at b c) None
  still c f = go (lies_after o c) (is_before x c) refl refl
    where
      go : (p q : Bool) → lies_after o c ≡ p → is_before x c ≡ q →
          cond (cells c || ((c.row % 2 == rest) && not p)) (areas_at b c) None ≡ cond (cells c || ((c.row % 2 == rest) && not q)) (areas_at b c) None
      go true true h i = refl
      go true false h i =
          nothing_either (cells c || ((c.row % 2 == rest) && false)) (cells c || ((c.row % 2 == rest) && true)) (areas_at b c) (no_areas b c (none_between b.cells order o x e c h i f))
      go false true h i = (let z : true ≡ false = sym (after_through o x c (next_after b.cells o x e) i) ∙ h in absurd cc)
      go false false h i = refl

  pub walk_links : (s t : CellAreas) → x.row % 2 ≡ rest → Links b x s t → LinksAlone b (walked_to rest cells o) s → LinksAlone b (walked_to rest cells (Some x)) t
  walk_links s t is l k c = l c ∙ go (same_addr x c) refl
    where
      here : (x.row % 2 == rest) ≡ true
      here = grind (arith, is)

      taken : walked_to rest cells (Some x) x ≡ true
      taken = ap (λ u. cells x || (u && not (is_before x x))) here ∙ ap (λ u. cells x || not u) (before_itself x) ∙ or_true (cells x)

      go : (q : Bool) → same_addr x c ≡ q → cond q (areas_at b x) (entry_at s c) ≡ cond (walked_to rest cells (Some x) c) (areas_at b c) None
      go true f = subst (λ z. areas_at b x ≡ cond (walked_to rest cells (Some x) z) (areas_at b z) None) (same_addr-true x c f) (ap (λ q. cond q (areas_at b x) None) (sym taken))
      go false f = k c ∙ still c f

  pub walk_passes : (s : CellAreas) → (x.row % 2 ≡ rest → ⊥) → LinksAlone b (walked_to rest cells o) s → LinksAlone b (walked_to rest cells (Some x)) s
  walk_passes s isnt k c = k c ∙ go (same_addr x c) refl
    where
      here : (x.row % 2 == rest) ≡ false
      here = grind (arith, isnt)

      neither : walked_to rest cells o x ≡ walked_to rest cells (Some x) x
      neither = ap (λ u. cells x || (u && not (lies_after o x))) here ∙ sym (ap (λ u. cells x || (u && not (is_before x x))) here)

      go : (q : Bool) → same_addr x c ≡ q → cond (walked_to rest cells o c) (areas_at b c) None ≡ cond (walked_to rest cells (Some x) c) (areas_at b c) None
      go true f = subst (λ z. cond (walked_to rest cells o z) (areas_at b z) None ≡ cond (walked_to rest cells (Some x) z) (areas_at b z) None) (same_addr-true x c f) (ap (λ q. cond q (areas_at b x) None) neither)
      go false f = still c f

pub walk_ends : (b : Book) (rest : ℕ) (cells : Set) (o : Option Addr) (s : CellAreas) → next_in b.cells o ≡ None → LinksAlone b (walked_to rest cells o) s → LinksAlone b (with_half rest cells) s
walk_ends b rest cells o s e k c = k c ∙ go (lies_after o c) refl
  where
    go : (p : Bool) → lies_after o c ≡ p → cond (cells c || ((c.row % 2 == rest) && not p)) (areas_at b c) None ≡ cond (cells c || (c.row % 2 == rest)) (areas_at b c) None
    go true h = nothing_either (cells c || ((c.row % 2 == rest) && false)) (cells c || (c.row % 2 == rest)) (areas_at b c) (no_areas b c (next_none b.cells o e c h))
    go false h = ap (λ u. cond (cells c || u) (areas_at b c) None) (and_true (c.row % 2 == rest))

-- both passes go over all rows

one_rest : (n : ℕ) → n < 2 → ((n == 0) || (n == 1)) ≡ true
one_rest zero l = refl
one_rest (suc zero) l = refl
one_rest (suc (suc n)) l = absurd (omega (arith, l))

pub both_halves : (b : Book) (s t u : CellAreas) → s ≡ [] → ((cells : Set) → LinksAlone b cells s → LinksAlone b (with_half 0 cells) t) → ((cells : Set) → LinksAlone b cells t → LinksAlone b (with_half 1 cells) u) → IsSupportOf b u
both_halves b s t u e h k c =
    k (with_half 0 (λ a. false)) (h (λ a. false) (λ a. ap (λ z. entry_at z a) e)) c ∙ ap (λ q. cond q (areas_at b c) None) (one_rest (c.row % 2) (mod_below c.row 2 (omega arith)))
