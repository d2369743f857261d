-- The lines that tell of a run in a given order.
use Rattle.std.specs.Prelude.{ℕ, ◌||◌, ◌==◌, nat_lt, List, [], ◌∷◌, ◌++◌, codes, get_or, if◌then◌else◌}
use Rattle.std.specs.List.{count_by}
use Rattle.std.specs.Fmt.{decimal}
use Rattle.cell_values.specs.declared.address.Addr.{Addr}
use Rattle.cell_values.specs.CellText.{cell_text}
use Rattle.cell_words.specs.declared.cell_word.CellWord.{CellWord}
use Rattle.cell_words.specs.declared.cell_word.CellWord.TheVariants.{Stale, Claimed, Done}
use Rattle.claim_core.specs.declared.event.Event.{Event}
use Rattle.claim_core.specs.declared.event.Event.TheVariants.{Look, Claim, TakeRecord, StoreValue, StoreTag, Publish, LoadTag, LoadValue}
use Rattle.claim_core.specs.declared.event.Claim.{Claim as ClaimAnswer}
use Rattle.claim_core.specs.declared.event.Claim.TheVariants as claim
use Rattle.claim_core.specs.declared.event.Publish.{Publish as PublishAnswer}
use Rattle.claim_core.specs.declared.event.Publish.TheVariants as publish
use Rattle.parallel_evaluation.specs.declared.trace.Traced.{Traced}
use Rattle.parallel_evaluation.specs.Order.{is_stopped}

-- numbers in decimal, with a space between
abbrev pub numbers : List ℕ → List ℕ
numbers [] = []
numbers (n ∷ []) = decimal n
numbers (n ∷ m ∷ rest) = decimal n ++ (codes " " ++ numbers (m ∷ rest))

-- what a cell's word says: of a claimed one who claimed it, of a done one the publisher, the claimer and the record
abbrev pub word_text : CellWord → List ℕ
word_text Stale = codes " stale"
word_text (Claimed c) = codes " claimed " ++ decimal c
word_text (Done p c r) = codes " done " ++ numbers (p ∷ c ∷ r ∷ [])

-- what a claim found
abbrev pub claim_text : ClaimAnswer → List ℕ
claim_text claim.Won = codes " won"
claim_text (claim.Found word) = word_text word

-- what a publish found: where the cell was done, its publisher, its claimer and its record
abbrev pub publish_text : PublishAnswer → List ℕ
publish_text publish.Won = codes " won"
publish_text (publish.Lost p c r) = codes " lost " ++ numbers (p ∷ c ∷ r ∷ [])

-- the cell with this number; A1 stands for one that there is not
abbrev pub cell_at : List Addr → ℕ → Addr
cell_at cells i = get_or cells i (record { sheet = 0; row = 1; col = 1 })

-- the cell's name, between a word and what follows
abbrev pub at_cell : List ℕ → Addr → List ℕ → List ℕ
at_cell word at rest = word ++ (cell_text at ++ rest)

-- what was done, to which cell or which record, and what was found or written; which of a record's value words it is, is left out
abbrev pub event_text : List Addr → Event → List ℕ
event_text cells (Look i word) = at_cell (codes " look ") (cell_at cells i) (word_text word)
event_text cells (Claim i answer) = at_cell (codes " claim ") (cell_at cells i) (claim_text answer)
event_text cells (TakeRecord r) = codes " take " ++ decimal r
event_text cells (StoreValue r k x) = codes " value " ++ numbers (r ∷ x ∷ [])
event_text cells (StoreTag r x) = codes " tag " ++ numbers (r ∷ x ∷ [])
event_text cells (Publish i r answer) = at_cell (codes " publish ") (cell_at cells i) (codes " " ++ (decimal r ++ publish_text answer))
event_text cells (LoadTag r x) = codes " load-tag " ++ numbers (r ∷ x ∷ [])
event_text cells (LoadValue r k x) = codes " load-value " ++ numbers (r ∷ x ∷ [])

-- the line of a step: the worker, and what it did
unfoldable pub event_line : List Addr → Traced → List ℕ
event_line cells t = decimal t.worker ++ (event_text cells t.event ++ codes "\n")

-- the line of a worker that is finished
unfoldable pub finished_line : ℕ → List ℕ
finished_line w = decimal w ++ codes " finished\n"

-- how many of the events are the worker's
abbrev pub events_of : ℕ → List Traced → ℕ
events_of w events = count_by (λ t. t.worker == w) events

-- behind an event of the worker: it is finished where it has none among the later ones, unless it is stopped
abbrev pub end_lines : List ℕ → ℕ → List Traced → List (List ℕ)
end_lines stopped w later = if is_stopped stopped w || nat_lt 0 (events_of w later) then [] else finished_line w ∷ []

-- the lines of these events, over the round's cells and with these workers stopped
abbrev pub trace_lines : List Addr → List ℕ → List Traced → List (List ℕ)
trace_lines cells stopped [] = []
trace_lines cells stopped (t ∷ later) = event_line cells t ∷ (end_lines stopped t.worker later ++ trace_lines cells stopped later)
