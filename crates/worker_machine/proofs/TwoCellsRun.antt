-- The run of the example.
use Rattle.std.proofs.Common.{◌≡◌, ℕ, zero, suc, inl, inr, Some, None, [], ◌∷◌, refl, sym, subst, IsSome, arith}
use mathlib.Core.Option.{some-injective, some-ne-none}
use Rattle.cell_values.specs.declared.address.Addr.{Addr}
use Rattle.cell_values.specs.declared.values.Shown.{Shown}
use Rattle.cell_words.specs.declared.cell_word.CellWord.{CellWord}
use Rattle.cell_words.specs.Records.{IsShown, tag_of, stored_words}
use Rattle.formula_trees.specs.References.{resolve}
use Rattle.demand_spec.specs.Book.{formula_at, own, ask_cell, formulas, finished, need, shown}
use Rattle.demand_spec.specs.Laws.{In, Mentions}
use Rattle.demand_spec.proofs.Rounds.{in_formulas}
use Rattle.claim_core.specs.declared.event.Claim.{Claim}
use Rattle.claim_core.specs.declared.event.Publish.{Publish}
use Rattle.claim_core.specs.declared.event.Event.{Event}
use Rattle.claim_core.specs.declared.view.View.{View}
use Rattle.claim_core.specs.Rule.{SeenDone, ShowsDone, shown_at}
use Rattle.claim_core.specs.Steps.{grown, made}
use Rattle.worker_machine.specs.declared.action.Action.{Action}
use Rattle.worker_machine.specs.Jobs.{IsJob, cell_number}
use Rattle.worker_machine.specs.States.{State, start}
use Rattle.worker_machine.specs.Machine.{next, settle, begins_at, action, after}
use Rattle.worker_machine.specs.RoundSteps.{IsStep}
use Rattle.worker_machine.specs.Runs.{IsRun, at_start, further}
use Rattle.worker_machine.specs.TwoCells.{cell, two_cells, first_view, its_events, view_after, state_after, at_end, TwoCellsRun}

-- the job

has_formula : (a : Addr) → In a two_cells.pending.cells → IsSome (formula_at two_cells.pending.book a)
unfolding formula_at
has_formula a (inl e) = subst (λ z. IsSome (formula_at two_cells.pending.book z)) (sym e) refl
has_formula a (inr (inl e)) = subst (λ z. IsSome (formula_at two_cells.pending.book z)) (sym e) refl
has_formula a (inr (inr k)) = absurd k

all_formulas : (c a : Addr) → Mentions two_cells.pending.book c a → In c two_cells.pending.cells
unfolding formulas
all_formulas c a m = in_formulas two_cells.pending.book c m.tree m.is_formula

is_job : IsJob two_cells
is_job = record {
  pending = record {
    one_at_least = omega arith;
    not_too_many = omega arith;
    are_formulas = has_formula;
    in_order = ((inr (refl, inr (refl, omega arith)), tt), (tt, tt));
    closed = λ c a p m. all_formulas c a m;
  };
  worker = omega arith;
}

shows_cycle : shown two_cells.pending.book (cell 2) ≡ Shown.Cycle 2
unfolding resolve formula_at own ask_cell formulas finished need shown
shows_cycle = refl

-- the states and views

abbrev s1 : State
s1 = after two_cells (settle two_cells (start two_cells)) (Event.Look 0 CellWord.Stale)

abbrev v1 : View
v1 = grown (Event.Look 0 CellWord.Stale) first_view

abbrev s2 : State
s2 = after two_cells (settle two_cells s1) (Event.Claim 0 Claim.Won)

abbrev v2 : View
v2 = grown (Event.Claim 0 Claim.Won) v1

abbrev s3 : State
s3 = after two_cells (settle two_cells s2) (Event.Look 1 (CellWord.Done 1 1 1))

abbrev v3 : View
v3 = grown (Event.Look 1 (CellWord.Done 1 1 1)) v2

abbrev s4 : State
s4 = after two_cells (settle two_cells s3) (Event.LoadTag 1 6)

abbrev v4 : View
v4 = grown (Event.LoadTag 1 6) v3

abbrev s5 : State
s5 = after two_cells (settle two_cells s4) (Event.TakeRecord 2)

abbrev v5 : View
v5 = grown (Event.TakeRecord 2) v4

abbrev s6 : State
s6 = after two_cells (settle two_cells s5) (Event.StoreValue 2 0 2)

abbrev v6 : View
v6 = grown (Event.StoreValue 2 0 2) v5

abbrev s7 : State
s7 = after two_cells (settle two_cells s6) (Event.StoreTag 2 6)

abbrev v7 : View
v7 = grown (Event.StoreTag 2 6) v6

-- the steps

step_1 : IsStep two_cells first_view (settle two_cells (start two_cells)) (Event.Look 0 CellWord.Stale)
unfolding resolve formula_at own ask_cell tag_of stored_words cell_number next settle begins_at
step_1 = record { hint = None; new = tt; act = Action.Look 0; called = refl; made = refl; told = tt }

step_2 : IsStep two_cells v1 (settle two_cells s1) (Event.Claim 0 Claim.Won)
unfolding resolve formula_at own ask_cell tag_of stored_words cell_number next settle begins_at
step_2 = record { hint = None; new = tt; act = Action.Claim 0; called = refl; made = refl; told = tt }

step_3 : IsStep two_cells v2 (settle two_cells s2) (Event.Look 1 (CellWord.Done 1 1 1))
unfolding resolve formula_at own ask_cell tag_of stored_words cell_number next settle begins_at
step_3 = record { hint = None; new = tt; act = Action.Look 1; called = refl; made = refl; told = (omega arith, omega arith, omega arith) }

-- only B1 was seen done
seen_b1 : (i : ℕ) → SeenDone v3 i 1 → 1 ≡ i
seen_b1 i (zero, m, e, d) = absurd ((subst (λ z. ShowsDone z i 1) (sym (some-injective (made 0 (Event.Look 0 CellWord.Stale)) m e)) d).1)
seen_b1 i (suc zero, m, e, d) = absurd ((subst (λ z. ShowsDone z i 1) (sym (some-injective (made 0 (Event.Claim 0 Claim.Won)) m e)) d).1)
seen_b1 i (suc (suc zero), m, e, d) = (subst (λ z. ShowsDone z i 1) (sym (some-injective (made 0 (Event.Look 1 (CellWord.Done 1 1 1))) m e)) d).0
seen_b1 i (suc (suc (suc n)), m, e, d) = absurd (some-ne-none m (sym e))

cycle_told : (s : Shown) → s ≡ Shown.Cycle 2 → (6 ≡ tag_of s) × IsShown s
unfolding tag_of
cycle_told s e = subst (λ z. (6 ≡ tag_of z) × IsShown z) (sym e) (refl, omega arith)

tag_told : (i : ℕ) → SeenDone v3 i 1 → (6 ≡ tag_of (shown_at v3 i)) × IsShown (shown_at v3 i)
tag_told i seen = subst (λ z. (6 ≡ tag_of (shown_at v3 z)) × IsShown (shown_at v3 z)) (seen_b1 i seen) (cycle_told (shown two_cells.pending.book (cell 2)) shows_cycle)

step_4 : IsStep two_cells v3 (settle two_cells s3) (Event.LoadTag 1 6)
unfolding resolve formula_at own ask_cell tag_of stored_words cell_number next settle begins_at
step_4 = record { hint = None; new = tt; act = Action.LoadTag 1; called = refl; made = refl; told = tag_told }

step_5 : IsStep two_cells v4 (settle two_cells s4) (Event.TakeRecord 2)
unfolding resolve formula_at own ask_cell tag_of stored_words cell_number next settle begins_at
step_5 = record { hint = None; new = tt; act = Action.TakeRecord; called = refl; made = refl; told = tt }

step_6 : IsStep two_cells v5 (settle two_cells s5) (Event.StoreValue 2 0 2)
unfolding resolve formula_at own ask_cell tag_of stored_words cell_number next settle begins_at
step_6 = record { hint = None; new = tt; act = Action.StoreValue 2 0 2; called = refl; made = refl; told = tt }

step_7 : IsStep two_cells v6 (settle two_cells s6) (Event.StoreTag 2 6)
unfolding resolve formula_at own ask_cell tag_of stored_words cell_number next settle begins_at
step_7 = record { hint = None; new = tt; act = Action.StoreTag 2 6; called = refl; made = refl; told = omega arith }

step_8 : IsStep two_cells v7 (settle two_cells s7) (Event.Publish 0 2 (Publish.Lost 1 0 0))
unfolding resolve formula_at own ask_cell tag_of stored_words cell_number next settle begins_at
step_8 = record { hint = None; new = tt; act = Action.Publish 0 2 0; called = refl; made = refl; told = tt }

run : IsRun two_cells (view_after first_view its_events) (state_after two_cells (start two_cells) its_events)
run =
    let r0 : IsRun two_cells first_view (start two_cells) = at_start first_view (record { view = record { of_round = refl; number = refl }; no_events = refl; holds_none = refl }) in
    let r1 : IsRun two_cells v1 s1 = further first_view (start two_cells) (Event.Look 0 CellWord.Stale) r0 step_1 in
    let r2 : IsRun two_cells v2 s2 = further v1 s1 (Event.Claim 0 Claim.Won) r1 step_2 in
    let r3 : IsRun two_cells v3 s3 = further v2 s2 (Event.Look 1 (CellWord.Done 1 1 1)) r2 step_3 in
    let r4 : IsRun two_cells v4 s4 = further v3 s3 (Event.LoadTag 1 6) r3 step_4 in
    let r5 : IsRun two_cells v5 s5 = further v4 s4 (Event.TakeRecord 2) r4 step_5 in
    let r6 : IsRun two_cells v6 s6 = further v5 s5 (Event.StoreValue 2 0 2) r5 step_6 in
    let r7 : IsRun two_cells v7 s7 = further v6 s6 (Event.StoreTag 2 6) r6 step_7 in
    further v7 s7 (Event.Publish 0 2 (Publish.Lost 1 0 0)) r7 step_8

ends : action two_cells at_end None ≡ None
unfolding resolve formula_at own ask_cell tag_of stored_words cell_number next settle begins_at
ends = refl

knows_both : at_end.known ≡ Some (Shown.Cycle 2) ∷ Some (Shown.Cycle 2) ∷ []
unfolding resolve formula_at own ask_cell tag_of stored_words cell_number next settle begins_at
knows_both = refl

pub two_cells_run : TwoCellsRun
two_cells_run = (is_job, run, ends, knows_both)
