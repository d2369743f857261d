-- What a list of results keeps, and what it means.
use Rattle.std.specs.Prelude.{ℕ, suc, ◌<◌, ◌≤◌, ⊤, Option, Some, None, List, [], ◌∷◌, length, get_or, map}
use Rattle.cell_values.specs.declared.short.ShortText.{ShortText}
use Rattle.cell_values.specs.declared.values.Value.{Value}
use Rattle.cell_values.specs.declared.values.Shown.{Shown}
use Rattle.result_list.specs.declared.list.Kept.{Kept}

-- a text, where there is none
abbrev pub no_text : ShortText
no_text = record { len = 0; bytes = [] }

-- the result that is kept so, with these short texts beside it
abbrev pub result_of : List ShortText → Kept → Option Shown
result_of ts Kept.Unknown = None
result_of ts (Kept.Number n) = Some (Shown.Val (Value.Number n))
result_of ts (Kept.Text t) = Some (Shown.Val (Value.Text t))
result_of ts (Kept.Short j) = Some (Shown.Val (Value.Short (get_or ts j no_text)))
result_of ts (Kept.Bool b) = Some (Shown.Val (Value.Bool b))
result_of ts Kept.Blank = Some (Shown.Val Value.Blank)
result_of ts (Kept.Error c) = Some (Shown.Val (Value.Error c))
result_of ts (Kept.Cycle n) = Some (Shown.Cycle n)
result_of ts Kept.ToCycle = Some Shown.ToCycle

-- the same of each cell
abbrev pub results_of : List ShortText → List Kept → List (Option Shown)
results_of ts ks = map (result_of ts) ks

-- a short text has one of these places
abbrev pub IsWithin : ℕ → Kept → Type 0
IsWithin n Kept.Unknown = ⊤
IsWithin n (Kept.Number z) = ⊤
IsWithin n (Kept.Text t) = ⊤
IsWithin n (Kept.Short j) = j < n
IsWithin n (Kept.Bool b) = ⊤
IsWithin n Kept.Blank = ⊤
IsWithin n (Kept.Error c) = ⊤
IsWithin n (Kept.Cycle m) = ⊤
IsWithin n Kept.ToCycle = ⊤

-- how many are known
abbrev pub known_count : List (Option Shown) → ℕ
known_count [] = 0
known_count (None ∷ rest) = known_count rest
known_count (Some r ∷ rest) = suc (known_count rest)

-- the short texts of all cells are there, there are no more of them than cells that are known, and there is room for one of each cell
pub record IsRoomy (ks : List Kept) (ts : List ShortText) (room : ℕ) : Type 0 where
  pub within : (i : ℕ) → IsWithin (length ts) (get_or ks i Kept.Unknown)
  pub few : length ts ≤ known_count (results_of ts ks)
  pub fits : length ks ≤ room
