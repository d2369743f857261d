-- What is kept beside a workbook is right for an edited one but for the area of the edit.
use Rattle.std.proofs.Common.{◌≡◌, ℕ, ◌<◌, true, false, ◌⊎◌, inl, inr, ⊎_elim, Some, IsSome, option_map, refl, sym, ap, ◌∙◌, subst}
use Rattle.std.proofs.lemmas.Bool.{cases_Bool}
use Rattle.cell_values.specs.declared.address.Addr.{Addr}
use Rattle.formula_trees.specs.Mentions.{areas}
use Rattle.demand_spec.specs.Book.{Book, formula_at}
use Rattle.demand_spec.specs.Laws.{In, Mentions, Reached, start, step, Set, OfSet, SameOutside, TextsStay}
use Rattle.demand_spec.proofs.Local.{shows_same}
use Rattle.recalculation.specs.declared.progress.Progress.{Progress}
use Rattle.recalculation.specs.Calculations.{has_result}
use Rattle.recalculation.specs.Standing.{IsProgressBut, IsProgress}
use Rattle.recalculation.proofs.Results.{result_formula, result_settled, result_there}

pub never_reached : (b : Book) (c : Addr) → Reached b (OfSet (λ _. false)) c → ⊥
never_reached b c (start c' h) = cc
never_reached b c (step a c' r m) = never_reached b a r

pub never_false : {X : Type 0} → false ≡ true → X
never_false e = absurd cc

pub progress_moved : (b b' : Book) (n : ℕ) (A : Set) (p : Progress) → SameOutside (OfSet A) b b' → TextsStay (λ i. i < n) b b' → IsProgress b p → IsProgressBut b' A p
progress_moved b b' n A p s ts k = record {
  unbuilt = k.unbuilt;
  linked = λ h c e. k.linked h c refl ∙ ap (option_map (areas c)) (same c e);
  in_order = k.in_order;
  are_formulas = λ c m. formulas_stay c m (cases_Bool (A c));
  closed = λ a c m d. stays_closed a c m d (cases_Bool (A c));
  results = λ h c free r.
      let l = shows_same b b' n A s ts c free in
      let there : has_result b p.stale c ≡ true = result_there b p.stale c (subst IsSome (sym l.0) (result_formula b' p.stale c r)) (result_settled b' p.stale c r) in
      k.results h c (never_reached b c) there ∙ ap Some l.1;
}
  where
    same : (c : Addr) → A c ≡ false → formula_at b c ≡ formula_at b' c
    same c e = s.formula c (λ (f : A c ≡ true). cc)

    formulas_stay : (c : Addr) → In c p.stale → (A c ≡ true) ⊎ (A c ≡ false) → IsSome (formula_at b' c) ⊎ (A c ≡ true)
    formulas_stay c m (inl e) = inr e
    formulas_stay c m (inr e) = inl (subst IsSome (same c e) (⊎_elim (λ (f : IsSome (formula_at b c)). f) (λ (f : false ≡ true). never_false f) (k.are_formulas c m)))

    before : (a c : Addr) → A c ≡ false → Mentions b' c a → Mentions b c a
    before a c e d = record { tree = d.tree; is_formula = same c e ∙ d.is_formula; named = d.named }

    stays_closed : (a c : Addr) → In a p.stale → Mentions b' c a → (A c ≡ true) ⊎ (A c ≡ false) → In c p.stale ⊎ (A c ≡ true)
    stays_closed a c m d (inl e) = inr e
    stays_closed a c m d (inr e) = ⊎_elim (λ (f : In c p.stale). inl f) (λ (f : false ≡ true). never_false f) (k.closed a c m (before a c e d))
