-- The lines that are still to come, before and after one is taken.
use Rattle.std.proofs.Common.{◌≡◌, ℕ, ◌+◌, ◌<◌, List, ◌∷◌, ◌++◌, Option, Some, None, option_to_list, map, drop, length, get_or, refl}
use Rattle.std.proofs.lemmas.List.{drop_more}
use Rattle.cell_values.specs.declared.address.Addr.{Addr}
use Rattle.parallel_evaluation.specs.declared.trace.Traced.{Traced}
use Rattle.trace_text.specs.TraceText.{event_line, finished_line, end_lines, trace_lines}

-- the line of the first event is taken: what follows is the end of its worker, if it has come, and the lines of the later ones
pub event_taken : (cells : List Addr) (stopped : List ℕ) (events : List Traced) (i : ℕ) (d : Traced) (before after : Option ℕ) → ((w : ℕ) → before ≡ Some w → ⊥) → i < length events →
    ((t : Traced) (later : List Traced) → drop i events ≡ t ∷ later → map finished_line (option_to_list after) ≡ end_lines stopped t.worker later) →
    map finished_line (option_to_list before) ++ trace_lines cells stopped (drop i events)
    ≡ event_line cells (get_or events i d) ∷ (map finished_line (option_to_list after) ++ trace_lines cells stopped (drop (i + 1) events))
event_taken cells stopped events i d (Some w) after none below ends = absurd (none w refl)
event_taken cells stopped events i d None after none below ends =
    let cut : drop i events ≡ get_or events i d ∷ drop (i + 1) events = drop_more events i d below in
    rw cut (rw (ends (get_or events i d) (drop (i + 1) events) cut) refl)
