-- Which cells have results.
use Rattle.std.proofs.Common.{◌≡◌, Bool, true, false, not, ◌&&◌, List, Option, Some, None, is_some, IsSome, refl, sym, ap, ◌∙◌}
use Rattle.cell_values.specs.declared.address.Addr.{Addr}
use Rattle.formula_trees.specs.Expr.{Expr}
use Rattle.demand_spec.specs.Book.{Book, formula_at, formulas}
use Rattle.demand_spec.specs.Laws.{In}
use Rattle.demand_spec.proofs.Members.{member_found, found_member}
use Rattle.demand_spec.proofs.Rounds.{in_formulas}
use Rattle.support_graph.specs.Pending.{among}
use Rattle.recalculation.specs.Calculations.{has_result}
use Rattle.recalculation.proofs.Moved.{false_of}

both_of : (q r : Bool) → (q && not r) ≡ true → (q ≡ true) × (r ≡ false)
both_of true false h = (refl, refl)
both_of true true h = cc
both_of false r h = cc

pub result_formula : (b : Book) (P : List Addr) (c : Addr) → has_result b P c ≡ true → IsSome (formula_at b c)
result_formula b P c h = (both_of (is_some (formula_at b c)) (among P c) h).0

pub result_settled : (b : Book) (P : List Addr) (c : Addr) → has_result b P c ≡ true → In c P → ⊥
result_settled b P c h m = (let f = (both_of (is_some (formula_at b c)) (among P c) h).1 in let t = member_found c P m in absurd (let k : true ≡ false = sym t ∙ f in cc))

pub result_there : (b : Book) (P : List Addr) (c : Addr) → IsSome (formula_at b c) → (In c P → ⊥) → has_result b P c ≡ true
result_there b P c f n = ap (λ q. q && not (among P c)) f ∙ ap not (false_of (among P c) (λ e. n (found_member c P e)))

pub some_tree : (o : Option Expr) → IsSome o → (t : Expr) × (o ≡ Some t)
some_tree (Some t) h = (t, refl)
some_tree None h = cc

-- where all formula cells are pending, no cell has one
pub none_settled : (b : Book) (c : Addr) → has_result b (formulas b) c ≡ false
none_settled b c = false_of (has_result b (formulas b) c) (λ h. let t = some_tree (formula_at b c) (result_formula b (formulas b) c h) in result_settled b (formulas b) c h (in_formulas b c t.0 t.1))
