-- What puts something into a list, or takes it out, one after the other.
use Rattle.std.proofs.Common.{◌≡◌, Bool, true, false, cond, ◌||◌, List, Ordering, is_eq, refl, sym, ◌∙◌}
use Rattle.std.specs.List.{list_any}
use Rattle.support_graph.specs.Steps.{Changes}
use Rattle.support_graph.proofs.Truths.{any_same, or_false}

-- one in, or out
pub changes_one : {K : Type 0} (cmp : K → K → Ordering) (same : K → K → Bool) → ((a b : K) → is_eq (cmp a b) ≡ same a b) → (k : K) (present ok : Bool) (old new : List K)
    → ((q : K) → list_any (λ x. is_eq (cmp q x)) new ≡ cond (is_eq (cmp k q)) present (list_any (λ x. is_eq (cmp q x)) old)) → Changes (λ keys q. list_any (same q) keys) (same k) present ok old new
changes_one {K} cmp same alike k present ok old new h = record { others = others; done = λ _ q p. done q p }
  where
    turned : (q : K) → list_any (same q) new ≡ cond (same k q) present (list_any (same q) old)
    turned q = sym (any_same cmp same alike q new) ∙ h q ∙ (λ i. cond (alike k q i) present (any_same cmp same alike q old i))

    others : (q : K) → same k q ≡ false → list_any (same q) new ≡ list_any (same q) old
    others q p = turned q ∙ (λ i. cond (p i) present (list_any (same q) old))

    done : (q : K) → same k q ≡ true → list_any (same q) new ≡ present
    done q p = turned q ∙ (λ i. cond (p i) present (list_any (same q) old))

pub changes_nothing : {K : Type 0} (has : List K → K → Bool) (test : K → Bool) (present ok : Bool) (keys : List K) → ((k : K) → test k ≡ false) → Changes has test present ok keys keys
changes_nothing {K} has test present ok keys h = record { others = λ k p. refl; done = λ o k p. absurd (none k p) }
  where
    none : (k : K) → test k ≡ true → ⊥
    none k p = (let q : true ≡ false = sym p ∙ h k in cc)

-- one step and then another
pub changes_then : {K : Type 0} (has : List K → K → Bool) (t u v : K → Bool) (present ok : Bool) (x y z : List K) → ((k : K) → v k ≡ (t k || u k)) → Changes has t present true x y → Changes has u present ok y z → Changes has v present ok x z
changes_then {K} has t u v present ok x y z e a b = record { others = others; done = λ o k p. done o k p (u k) refl }
  where
    others : (k : K) → v k ≡ false → has z k ≡ has x k
    others k p = (let q = or_false (t k) (u k) (sym (e k) ∙ p) in b.others k q.1 ∙ a.others k q.0)

    done : ok ≡ true → (k : K) → v k ≡ true → (q : Bool) → u k ≡ q → has z k ≡ present
    done o k p true s = b.done o k s
    done o k p false s = b.others k s ∙ a.done refl k (first (t k) (u k) (sym (e k) ∙ p) s)
      where
        first : (m n : Bool) → (m || n) ≡ true → n ≡ false → m ≡ true
        first true n g h = refl
        first false n g h = absurd (let q : true ≡ false = sym g ∙ h in cc)

-- where a step fails, what the later ones would change is left alone too
pub changes_failed : {K : Type 0} (has : List K → K → Bool) (t v : K → Bool) (present : Bool) (x y : List K) → ((k : K) → v k ≡ false → t k ≡ false) → Changes has t present false x y → Changes has v present false x y
changes_failed has t v present x y e a = record { others = λ k p. a.others k (e k p); done = λ o. absurd cc }

-- another spelling of the test
pub changes_as : {K : Type 0} (has : List K → K → Bool) (t v : K → Bool) (present ok : Bool) (x y : List K) → ((k : K) → v k ≡ t k) → Changes has t present ok x y → Changes has v present ok x y
changes_as has t v present ok x y e a = record { others = λ k p. a.others k (sym (e k) ∙ p); done = λ o k p. a.done o k (sym (e k) ∙ p) }

-- what was tried, or done, and taken out again
pub changes_undone : {K : Type 0} (has : List K → K → Bool) (t : K → Bool) (present ok : Bool) (x y z : List K) → Changes has t present ok x y → Changes has t false true y z → Changes has t false true x z
changes_undone has t present ok x y z a b = record { others = λ k p. b.others k p ∙ a.others k p; done = b.done }
