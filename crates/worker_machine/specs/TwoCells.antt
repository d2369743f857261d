-- An example: `=B1` at A1 and `=A1` at B1, and the run of the first of two workers, where the other one finishes first.
use Rattle.std.specs.Prelude.{◌≡◌, ℕ, Some, None, List, [], ◌∷◌}
use Rattle.cell_values.specs.declared.address.Addr.{Addr}
use Rattle.cell_values.specs.declared.values.Shown.{Shown}
use Rattle.cell_words.specs.declared.cell_word.CellWord.{CellWord}
use Rattle.formula_trees.specs.declared.tree.Part.{Part}
use Rattle.formula_trees.specs.Expr.{Expr, Ref}
use Rattle.demand_spec.specs.Book.{Content}
use Rattle.claim_core.specs.declared.event.Claim.{Claim}
use Rattle.claim_core.specs.declared.event.Publish.{Publish}
use Rattle.claim_core.specs.declared.event.Event.{Event}
use Rattle.claim_core.specs.declared.view.View.{View}
use Rattle.claim_core.specs.Steps.{grown}
use Rattle.worker_machine.specs.Jobs.{Job, IsJob}
use Rattle.worker_machine.specs.States.{State, start}
use Rattle.worker_machine.specs.Machine.{settle, action, after}
use Rattle.worker_machine.specs.Runs.{IsRun}

-- the cell of the first row in this column
abbrev pub cell : ℕ → Addr
cell c = record { sheet = 0; row = 1; col = c }

-- a reference to it
abbrev pub to : ℕ → Expr
to c = Ref (record { sheet = None; col = Part.At c; row = Part.At 1 })

-- the two cells, both pending, and worker 0 of two
abbrev pub two_cells : Job
two_cells = record {
  pending = record {
    book = record { cells = (cell 1, Content.Formula (to 2)) ∷ (cell 2, Content.Formula (to 1)) ∷ []; texts = [] };
    cells = cell 1 ∷ cell 2 ∷ [];
  };
  worker = 0;
  workers = 2;
}

-- its view at first
abbrev pub first_view : View
first_view = record {
  book = two_cells.pending.book;
  cells = two_cells.pending.cells;
  workers = 2;
  numbers = 0 ∷ [];
  events = [];
  held = [];
  parts = 1;
  words = record { counter = 0; cells = []; tags = []; values = [] };
}

-- it claims A1, finds B1 done as a cell of a cycle, walks B1 itself, and publishes A1 too late
abbrev pub its_events : List Event
its_events =
    Event.Look 0 CellWord.Stale
    ∷ Event.Claim 0 Claim.Won
    ∷ Event.Look 1 (CellWord.Done 1 1 1)
    ∷ Event.LoadTag 1 6
    ∷ Event.TakeRecord 2
    ∷ Event.StoreValue 2 0 2
    ∷ Event.StoreTag 2 6
    ∷ Event.Publish 0 2 (Publish.Lost 1 0 0)
    ∷ []

-- the view after these events
abbrev pub view_after : View → List Event → View
view_after v [] = v
view_after v (e ∷ rest) = view_after (grown e v) rest

-- the state after these events, each behind a settled state
abbrev pub state_after : Job → State → List Event → State
state_after j s [] = s
state_after j s (e ∷ rest) = state_after j (after j (settle j s) e) rest

-- where the worker then is
abbrev pub at_end : State
at_end = settle two_cells (state_after two_cells (start two_cells) its_events)

-- these are a run of it; no step is left, and both cells are known as a cycle of two
abbrev pub TwoCellsRun : Type 0
TwoCellsRun =
    IsJob two_cells
    × IsRun two_cells (view_after first_view its_events) (state_after two_cells (start two_cells) its_events)
    × (action two_cells at_end None ≡ None)
    × (at_end.known ≡ Some (Shown.Cycle 2) ∷ Some (Shown.Cycle 2) ∷ [])
