-- The round as plain data, and its rule.
use Rattle.std.specs.Prelude.{◌≡◌, ℕ, ◌+◌, ◌*◌, ◌<◌, ◌≤◌, cond, eqb, ltb, List, [], ◌∷◌, ◌++◌, map, length, slice_index, slice_index_or, IfSome}
use mathlib.Core.Option.{Option, none, some}
use lib.ListN.{get_elem?}
use Rattle.cell_words.specs.declared.cell_word.CellWord.{CellWord}
use Rattle.cell_words.specs.declared.cell_word.CellWord.TheVariants.{Stale, Claimed, Done}
use Rattle.claim_core.specs.declared.event.Event.TheVariants as ev
use Rattle.claim_core.specs.declared.event.Claim.{Claim}
use Rattle.claim_core.specs.declared.event.Claim.TheVariants as claim
use Rattle.claim_core.specs.declared.event.Publish.{Publish}
use Rattle.claim_core.specs.declared.event.Publish.TheVariants as publish
use Rattle.claim_core.specs.declared.view.Made.{Made}
use Rattle.claim_core.specs.declared.view.Held.{Held}
use Rattle.claim_core.specs.declared.view.View.{View}
use Rattle.claim_core.specs.declared.view.RoundWords.{RoundWords}
use Rattle.cell_values.specs.declared.address.Addr.{Addr}
use Rattle.cell_values.specs.declared.values.Shown.{Shown}
use Rattle.cell_words.specs.declared.TheConstants.{WORDS}
use Rattle.cell_values.specs.declared.TheConstants.{MAX_BOOK_CELLS}
use Rattle.cell_words.specs.Words.{word_of}
use Rattle.cell_words.specs.Records.{tag_of, value_of, record_words, IsShown}
use Rattle.demand_spec.specs.Book.{Book, shown}
use Rattle.claim_core.specs.Words.{NotBehind, value_place}
use Rattle.claim_core.specs.HeldRecords.{stored_at}

-- f of each, added up
abbrev pub total : {A : Type 0} → (A → ℕ) → List A → ℕ
total f [] = 0
total f (x ∷ xs) = f x + total f xs

-- the book, the cells, and how many workers there are. It is fixed when the round is opened
pub record Setup : Type 0 where
  pub book : Book
  pub cells : List Addr
  pub workers : ℕ

-- what the round of a view is over
abbrev pub setup_of : View → Setup
setup_of v = record { book = v.book; cells = v.cells; workers = v.workers }

-- the address of the cell i
abbrev pub address : List Addr → ℕ → Addr
address cells i = slice_index_or cells i (record { sheet = 0; row = 0; col = 0 })

-- what the book shows at the cell i
abbrev pub shown_in : Setup → ℕ → Shown
shown_in setup i = shown setup.book (address setup.cells i)

-- the words as they lie in the table: counter, cells, tag words, value words
abbrev pub words_of : RoundWords → List ℕ
words_of r = r.counter ∷ (map word_of r.cells ++ (r.tags ++ r.values))

-- the word of the cell i
abbrev pub cell_in : RoundWords → ℕ → CellWord
cell_in r i = slice_index_or r.cells i Stale

-- the parts of the turn, more than there are workers: each step needs one
abbrev pub all_parts : ℕ
all_parts = 100

-- the view has all parts of the turn, so that no other pass can step
abbrev pub HasTurn : View → Type 0
HasTurn v = v.parts ≡ all_parts

-- 1 where the two numbers are equal
abbrev pub is : ℕ → ℕ → ℕ
is a b = cond (eqb a b) 1 0

-- 1 where k is below n
abbrev pub below : ℕ → ℕ → ℕ
below k n = cond (ltb k n) 1 0

-- 1 where the word is done
abbrev pub is_done : CellWord → ℕ
is_done (Done p c r) = 1
is_done _ = 0

-- 1 where the word names the record k
abbrev pub names : ℕ → CellWord → ℕ
names k (Done p c r) = is r k
names k _ = 0

-- 1 where the word names the worker w as claimer
abbrev pub claimer_is : ℕ → CellWord → ℕ
claimer_is w Stale = 0
claimer_is w (Claimed c) = is c w
claimer_is w (Done p c r) = is c w

-- 1 where the word names the worker w as publisher
abbrev pub publisher_is : ℕ → CellWord → ℕ
publisher_is w (Done p c r) = is p w
publisher_is w _ = 0

-- f of what stands there, 0 where nothing does
abbrev pub or_none : {A : Type 0} → (A → ℕ) → Option A → ℕ
or_none f (some x) = f x
or_none f none = 0

-- 1 where this is a claim of the cell i that w won
abbrev pub won_claim : ℕ → ℕ → Made → ℕ
won_claim w i m = elim m.event as (λ _. ℕ) [ ev.Claim j a ↦ elim a as (λ _. ℕ) [ claim.Won ↦ cond (eqb m.by w) (is j i) 0 | claim.Found c ↦ 0 ] | _ ↦ 0 ]

-- 1 where this is a publish of the cell i that w won
abbrev pub won_publish : ℕ → ℕ → Made → ℕ
won_publish w i m = elim m.event as (λ _. ℕ) [ ev.Publish j k a ↦ elim a as (λ _. ℕ) [ publish.Won ↦ cond (eqb m.by w) (is j i) 0 | publish.Lost p c r ↦ 0 ] | _ ↦ 0 ]

-- how many claims of the cell i the worker w won in this view
abbrev pub claims : ℕ → ℕ → View → ℕ
claims w i v = total (won_claim w i) v.events

-- how many publishes of the cell i the worker w won in this view
abbrev pub publishes : ℕ → ℕ → View → ℕ
publishes w i v = total (won_publish w i) v.events

-- how often the view has the worker's number w
abbrev pub has_number : ℕ → View → ℕ
has_number w v = total (λ x. is x w) v.numbers

-- how often the view holds the record k
abbrev pub holds_record : ℕ → View → ℕ
holds_record k v = total (λ (h : Held). is h.rec k) v.held

-- a cell's word stands, and P holds of it
abbrev pub At : List CellWord → ℕ → (CellWord → Type 0) → Type 0
At cells i P = (d : CellWord) × (get_elem? cells i ≡ some d) × P d

-- what a pass has seen by an event still stands
abbrev pub SeesAt : List CellWord → ℕ → CellWord → Type 0
SeesAt cells i c = At cells i (NotBehind c)

-- what the event found still stands, or the cell's word moved on from there
abbrev pub Fits : List CellWord → Made → Type 0
Fits cells m = elim m.event as (λ _. Type 0) [
  | ev.Look i c ↦ SeesAt cells i c
  | ev.Claim i a ↦ elim a as (λ _. Type 0) [ claim.Won ↦ SeesAt cells i (Claimed m.by) | claim.Found c ↦ SeesAt cells i c ]
  | ev.Publish i k a ↦ elim a as (λ _. Type 0) [ publish.Won ↦ (c : ℕ) × SeesAt cells i (Done m.by c k) | publish.Lost p c r ↦ SeesAt cells i (Done p c r) ]
  | _ ↦ Unit {0}
]

-- each element of a list, at its place
abbrev pub Each : {A : Type 0} → List A → (A → Type 0) → Type 0
Each {A} xs P = (n : ℕ) (x : A) → get_elem? xs n ≡ some x → P x

-- the record k has the words of this
abbrev pub HasWords : RoundWords → ℕ → Shown → Type 0
HasWords r k s = IsShown s × (slice_index r.tags k ≡ tag_of s) × ((j : ℕ) → j < record_words s → slice_index r.values (value_place k j) ≡ value_of s j)

-- where the cell i is done, its record has the words of what the book shows there
abbrev pub Spelt : Setup → RoundWords → ℕ → CellWord → Type 0
Spelt setup r i (Done p c k) = HasWords r k (shown_in setup i)
Spelt setup r i _ = Unit {0}

-- the words that were written to a held record stand there
abbrev pub Written : RoundWords → Held → Type 0
Written r h =
    IfSome h.tag (λ x. slice_index r.tags h.rec ≡ x)
    × ((j : ℕ) → IfSome (stored_at j h.values) (λ x. (j < WORDS) × (slice_index r.values (value_place h.rec j) ≡ x)))

-- the workers in a word are below n
abbrev pub WorkersBelow : ℕ → CellWord → Type 0
WorkersBelow n Stale = Unit {0}
WorkersBelow n (Claimed c) = c < n
WorkersBelow n (Done p c r) = (p < n) × (c < n)

-- the wins beside a number are those of a pass that has it
abbrev pub OwnEvents : View → Type 0
OwnEvents v = (w i : ℕ) → has_number w v ≡ 0 → (claims w i v ≡ 0) × (publishes w i v ≡ 0)

-- what a pass knows of itself
pub record Sound (v : View) : Type 0 where
  pub few_held : length v.held ≤ length v.numbers
  pub own_events : OwnEvents v

-- the words of the round as they stand, without the passes
pub record RuledWords (setup : Setup) (r : RoundWords) : Type 0 where
  pub few_cells : length setup.cells ≤ MAX_BOOK_CELLS
  pub few_workers : setup.workers ≤ 64
  pub cells_sized : length r.cells ≡ length setup.cells
  pub tags_sized : length r.tags ≡ length setup.cells + setup.workers
  pub values_sized : length r.values ≡ (length setup.cells + setup.workers) * WORDS
  pub spelt : (i : ℕ) (c : CellWord) → get_elem? r.cells i ≡ some c → Spelt setup r i c
  pub workers_below : Each r.cells (WorkersBelow setup.workers)

-- the round's rule, over the words and the views of all passes, between any two steps
pub record Ruled (setup : Setup) (r : RoundWords) (views : List View) : Type 0 where
  pub ruled_words : RuledWords setup r
  -- the counter is the number of done words and held records
  pub counted : r.counter ≡ total is_done r.cells + total (λ (v : View). length v.held) views
  -- each record below the counter has one place, a done word or a pass that holds it, and no other record has one
  pub placed : (k : ℕ) → total (names k) r.cells + total (holds_record k) views ≡ below k r.counter
  -- what was written to a held record stands there
  pub written : Each views (λ v. Each v.held (Written r))
  -- no word goes behind what a pass has seen there
  pub seen : Each views (λ v. Each v.events (Fits r.cells))
  -- each number below the number of workers belongs to one pass
  pub all_numbers : total (λ (v : View). length v.numbers) views ≡ setup.workers
  pub owned : (w : ℕ) → total (has_number w) views ≡ below w setup.workers
  -- a worker won as many claims of a cell as the cell's word names it as claimer: one or none
  pub claimed : (w i : ℕ) → total (claims w i) views ≡ or_none (claimer_is w) (get_elem? r.cells i)
  -- the same for publishes
  pub published : (w i : ℕ) → total (publishes w i) views ≡ or_none (publisher_is w) (get_elem? r.cells i)
  pub sound : Each views Sound
  -- parts of the turn may get lost, and who has all of them knows the words
  pub few_parts : total (λ (v : View). v.parts) views ≤ all_parts
  pub exact : Each views (λ v. HasTurn v → v.words ≡ r)

-- an event shows that the cell i had the word c
abbrev pub Shows : Made → ℕ → CellWord → Type 0
Shows m i c = elim m.event as (λ _. Type 0) [
  | ev.Look j d ↦ (j ≡ i) × (d ≡ c)
  | ev.Claim j a ↦ (j ≡ i) × elim a as (λ _. Type 0) [ claim.Won ↦ Claimed m.by ≡ c | claim.Found d ↦ d ≡ c ]
  | ev.Publish j k a ↦ (j ≡ i) × elim a as (λ _. Type 0) [ publish.Won ↦ ⊥ | publish.Lost p d r ↦ Done p d r ≡ c ]
  | _ ↦ ⊥
]

-- a view has seen the cell i at the word c
abbrev pub Seen : View → ℕ → CellWord → Type 0
Seen v i c = (n : ℕ) × (m : Made) × (get_elem? v.events n ≡ some m) × Shows m i c

-- the word is done, with the record k
abbrev pub IsDoneWith : ℕ → CellWord → Type 0
IsDoneWith k Stale = ⊥
IsDoneWith k (Claimed c) = ⊥
IsDoneWith k (Done p c r) = r ≡ k

-- an event shows that the cell i was done with the record k
abbrev pub ShowsDone : Made → ℕ → ℕ → Type 0
ShowsDone m i k = elim m.event as (λ _. Type 0) [
  | ev.Look j d ↦ (j ≡ i) × IsDoneWith k d
  | ev.Claim j a ↦ (j ≡ i) × elim a as (λ _. Type 0) [ claim.Won ↦ ⊥ | claim.Found d ↦ IsDoneWith k d ]
  | ev.Publish j r a ↦ (j ≡ i) × elim a as (λ _. Type 0) [ publish.Won ↦ r ≡ k | publish.Lost p d x ↦ x ≡ k ]
  | _ ↦ ⊥
]

-- a view has seen the cell i done with the record k
abbrev pub SeenDone : View → ℕ → ℕ → Type 0
SeenDone v i k = (n : ℕ) × (m : Made) × (get_elem? v.events n ≡ some m) × ShowsDone m i k

-- where an event is of the cell i, the word d does not go behind what it found there
abbrev pub Agrees : ℕ → CellWord → Made → Type 0
Agrees i d m = elim m.event as (λ _. Type 0) [
  | ev.Look j c ↦ j ≡ i → NotBehind c d
  | ev.Claim j a ↦ j ≡ i → elim a as (λ _. Type 0) [ claim.Won ↦ NotBehind (Claimed m.by) d | claim.Found c ↦ NotBehind c d ]
  | ev.Publish j k a ↦ j ≡ i → elim a as (λ _. Type 0) [ publish.Won ↦ (c : ℕ) × (d ≡ Done m.by c k) | publish.Lost p c r ↦ d ≡ Done p c r ]
  | _ ↦ Unit {0}
]

-- what the book shows at the cell i
abbrev pub shown_at : View → ℕ → Shown
shown_at v i = shown_in (setup_of v) i

-- the numbers in a word are those of this round
abbrev pub InRound : View → CellWord → Type 0
InRound v Stale = Unit {0}
InRound v (Claimed c) = c < v.workers
InRound v (Done p c k) = (p < v.workers) × (c < v.workers) × (k < length v.cells + v.workers)

-- the same for an answer to a claim, which never found a stale word
abbrev pub AnswerInRound : View → Claim → Type 0
AnswerInRound v claim.Won = Unit {0}
AnswerInRound v (claim.Found Stale) = ⊥
AnswerInRound v (claim.Found c) = InRound v c

-- the same as `Agrees`, for an answer to a claim
abbrev pub AgreesAfter : ℕ → Claim → Made → Type 0
AgreesAfter i claim.Won m = Agrees i Stale m
AgreesAfter i (claim.Found c) m = Agrees i c m

-- a lost publish found a word of this claimer, with numbers of this round
abbrev pub LostTo : ℕ → View → Publish → Type 0
LostTo claimer v publish.Won = Unit {0}
LostTo claimer v (publish.Lost p c r) = (c ≡ claimer) × InRound v (Done p c r)

-- no going back, for an answer to a publish
abbrev pub AgreesLost : ℕ → Publish → Made → Type 0
AgreesLost i publish.Won m = Unit {0}
AgreesLost i (publish.Lost p c r) m = Agrees i (Done p c r) m
