-- Lists that were lent, and the passes of a round.
use Rattle.std.proofs.Common.{◌≡◌, ◌∙◌, ◌+◌, ℕ, zero, suc, true, Some, None, Option, List, [], ◌∷◌, ◌++◌, length, map, take, drop, reverse, append_assoc, refl, sym, ap, subst, arith}
use Rattle.std.proofs.lemmas.List.{length-map, reverse-append, ext_get_or, get_or-map}
use Rattle.std.proofs.lemmas.List.Elements.{All-append, All-take, All-drop}
use Rattle.cell_values.specs.declared.address.Addr.{Addr}
use Rattle.cell_values.specs.declared.values.Shown.{Shown}
use Rattle.demand_spec.specs.Book.{shown}
use Rattle.claim_core.specs.Table.{count_from}
use Rattle.claim_core.specs.Passes.{RoundSeen, PassSeen, IsFresh, number}
use Rattle.worker_machine.specs.Jobs.{Pending}
use Rattle.worker_machine.specs.Evaluation.{KnowsAll}
use Rattle.speculative_eval.specs.Hinted.{HintsSeen, hints_with}
use Rattle.speculative_eval.specs.Workers.{IsWorkerOf, begun}
use Rattle.parallel_evaluation.specs.Workers.{begun_in}
use Rattle.std.specs.List.{All, zip}
use Rattle.std.proofs.Math.Seq.{take-append_seam}

-- a list that was lent whole and came back
pub come_back : {A : Type 0} (xs ys : List A) (n : ℕ) → length xs ≡ n → take n (xs ++ drop (length xs) ys) ≡ xs
come_back xs ys n e = subst (λ n. take n (xs ++ drop (length xs) ys) ≡ xs) e (take-append_seam xs (drop (length xs) ys))

pub length-count_from : (n a : ℕ) → length (count_from n a) ≡ n
length-count_from zero a = refl
length-count_from (suc n) a = ap suc (length-count_from n (a + 1))

-- there is a pass for each worker
pub passes_counted : (n : ℕ) (ps : List PassSeen) → map number ps ≡ count_from n 0 → length ps ≡ n
passes_counted n ps e = sym (length-map ps number) ∙ (ap length e ∙ length-count_from n 0)

-- the workers of a round that was just opened may step, whatever their hints are
pub workers_fresh : {H : Type 0} (r : RoundSeen) (seen : H → HintsSeen) (ps : List PassSeen) (hs : List H) → All (IsFresh r) ps → All (IsWorkerOf r) (map (λ p. begun r p.0 (seen p.1)) (zip ps hs))
workers_fresh r seen [] hs all = λ k d low. absurd (omega arith)
workers_fresh r seen (p ∷ ps) [] all = λ k d low. absurd (omega arith)
workers_fresh {H} r seen (p ∷ ps) (h ∷ hs) all = each (workers_fresh r seen ps hs (λ k d low. all (suc k) d (omega arith)))
  where
    first : IsWorkerOf r (begun r p (seen h))
    first = ((all 0 p (omega arith)).0, refl)

    each : All (IsWorkerOf r) (map (λ p. begun r p.0 (seen p.1)) (zip ps hs)) → All (IsWorkerOf r) (map (λ p. begun r p.0 (seen p.1)) (zip (p ∷ ps) (h ∷ hs)))
    each rest zero d low = first
    each rest (suc k) d low = rest k d (omega arith)

-- workers that get no hints are told by their passes
pub without_hints : {H : Type 0} (r : RoundSeen) (ps : List PassSeen) (hs : List H) → length hs ≡ length ps → map (λ p. begun r p.0 (hints_with 0 None true)) (zip ps hs) ≡ map (begun_in r) ps
without_hints r [] hs e = refl
without_hints r (p ∷ ps) [] e = absurd (omega arith)
without_hints r (p ∷ ps) (h ∷ hs) e = ap (λ ws. begun_in r p ∷ ws) (without_hints r ps hs (omega arith))

-- one pass and its hints less, the last, and one worker more
pub hired_next : {A B C : Type 0} (f : A × C → B) (ws ws' : List B) (ps rest : List A) (hs left : List C) (p : A) (h : C) (w : B)
    → ps ≡ rest ++ p ∷ [] → hs ≡ left ++ h ∷ [] → ws' ≡ ws ++ w ∷ [] → w ≡ f (p, h)
    → ws' ++ map f (zip (reverse rest) (reverse left)) ≡ ws ++ map f (zip (reverse ps) (reverse hs))
hired_next {A} {B} {C} f ws ws' ps rest hs left p h w popped taken pushed made =
    let turned : p ∷ reverse rest ≡ reverse ps = sym (ap reverse popped ∙ reverse-append rest (p ∷ [])) in
    let turned_hints : h ∷ reverse left ≡ reverse hs = sym (ap reverse taken ∙ reverse-append left (h ∷ [])) in
    (λ i. pushed i ++ map f (zip (reverse rest) (reverse left))) ∙ (append_assoc ws (w ∷ []) (map f (zip (reverse rest) (reverse left)))
    ∙ ((λ i. ws ++ (made i ∷ map f (zip (reverse rest) (reverse left)))) ∙ (λ i. ws ++ map f (zip (turned i) (turned_hints i)))))

-- what holds of each element holds of each but one
pub but_one : {A : Type 0} (P : A → Type 0) (xs : List A) (k : ℕ) → All P xs → All P (take k xs ++ drop (k + 1) xs)
but_one P xs k h = All-append P (take k xs) (drop (k + 1) xs) (All-take P k xs h) (All-drop P (k + 1) xs h)

-- where each cell is known, the list says what the book shows at each
pub all_known : (ps : Pending) (known : List (Option Shown)) → length known ≡ length ps.cells → KnowsAll ps known → known ≡ map (λ (a : Addr). Some (shown ps.book a)) ps.cells
all_known ps known sized all =
    ext_get_or None known (map (λ (a : Addr). Some (shown ps.book a)) ps.cells) (sized ∙ sym (length-map ps.cells (λ (a : Addr). Some (shown ps.book a))))
    (λ i low. all i (omega arith) ∙ sym (get_or-map (λ (a : Addr). Some (shown ps.book a)) ps.cells i (record { sheet = 0; row = 0; col = 0 }) None (omega arith)))
