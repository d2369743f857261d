-- What a run writes, the status that it ends with, and its last round.
use Rattle.std.specs.Prelude.{ℕ, List, [], ◌∷◌, ◌++◌, Option}
use Rattle.claim_core.specs.Rule.{Setup}
use Rattle.puncalc_program.specs.Refusals.{refusal_line}

-- a status, the pieces that are written one after the other, and what the last round was over, if there was one
pub record Output : Type 0 where
  pub status : ℕ
  pub pieces : List (List ℕ)
  pub last : Option Setup

-- the line of a refusal
abbrev pub refusal : ℕ → List ℕ → Option Setup → Output
refusal status what last = record { status = status; pieces = refusal_line what ∷ []; last = last }

-- these pieces, and then the others
abbrev pub behind : List (List ℕ) → Output → Output
behind pieces out = record out { pieces = pieces ++ out.pieces }
