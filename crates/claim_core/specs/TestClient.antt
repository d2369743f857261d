-- What a client of a round says of its passes, and a book of two numbers for its tests.
use Rattle.std.specs.Prelude.{◌≡◌, ℕ, ◌-◌, ◌*◌, ◌<◌, pos, true, [], ◌∷◌, length, replicate, None}
use Rattle.cell_words.specs.declared.TheConstants.{WORDS}
use Rattle.cell_values.specs.declared.address.Addr.{Addr}
use Rattle.cell_values.specs.declared.values.Shown.{Shown}
use Rattle.cell_values.specs.Values.{IsShownOf}
use Rattle.cell_words.specs.declared.cell_word.CellWord.{CellWord}
use Rattle.cell_words.specs.declared.cell_word.CellWord.TheVariants.{Claimed}
use Rattle.formula_trees.specs.Expr as expr
use Rattle.demand_spec.specs.Book.{Book, Formula}
use Rattle.claim_core.specs.declared.view.View.{View}
use Rattle.claim_core.specs.declared.view.RoundWords.{RoundWords}
use Rattle.claim_core.specs.Rule.{Seen, SeenDone, shown_in}
use Rattle.claim_core.specs.Passes.{RoundSeen, PassSeen, TurnSeen, IsPassOf, Belongs, IsTurnOf}

-- what the one view has seen, the other has seen
abbrev pub SeesMore : View → View → Type 0
SeesMore v w = (i : ℕ) (c : CellWord) → Seen v i c → Seen w i c

-- the view has seen the cell claimed by this worker, one of n
abbrev pub IsClaimed : View → ℕ → ℕ → ℕ → Type 0
IsClaimed v i n c = Seen v i (Claimed c) × (c < n)

-- the view has seen the cell done
abbrev pub SawDone : View → ℕ → Type 0
SawDone v i = (k : ℕ) × SeenDone v i k

-- the pass is one of the round, and the book shows this at its cell i, a value of its texts or a mark
abbrev pub Carries : RoundSeen → PassSeen → ℕ → Shown → Type 0
Carries r p i s = IsPassOf r p × (i < length r.setup.cells) × (s ≡ shown_in r.setup i) × IsShownOf r.setup.book.texts s

-- A1
abbrev pub first_cell : Addr
first_cell = record { sheet = 0; row = 1; col = 1 }

-- A2
abbrev pub second_cell : Addr
second_cell = record { sheet = 0; row = 2; col = 1 }

-- `=7` in A1 and `=TRUE` in A2
abbrev pub two_cells : Book
two_cells = record { cells = (first_cell, Formula (expr.Number (pos 7))) ∷ (second_cell, Formula (expr.Truth true)) ∷ []; texts = [] }

-- a pass of a round with two cells and two workers, with this number, which holds no record
abbrev pub Starts : RoundSeen → PassSeen → ℕ → Type 0
Starts r p w = IsPassOf r p × (p.worker ≡ w) × (p.taken ≡ None) × (length r.setup.cells ≡ 2) × (r.setup.workers ≡ 2)

-- the same for a pass that steps only with the turn
abbrev pub Waits : RoundSeen → PassSeen → ℕ → Type 0
Waits r p w = Belongs r p × (p.worker ≡ w) × (length r.setup.cells ≡ 2) × (r.setup.workers ≡ 2)

-- the words of a round of two cells and two workers, of which no more than the first record is written, with these two value words
abbrev pub two_words : ℕ → CellWord → CellWord → ℕ → ℕ → ℕ → RoundWords
two_words counter first second tag low high = record {
  counter = counter;
  cells = first ∷ second ∷ [];
  tags = tag ∷ 0 ∷ 0 ∷ 0 ∷ [];
  values = low ∷ high ∷ replicate (4 * WORDS - 2) 0;
}

-- the turn of the round, with these words
abbrev pub Turns : RoundSeen → TurnSeen → RoundWords → Type 0
Turns r t words = IsTurnOf r t × (t.words ≡ words)
