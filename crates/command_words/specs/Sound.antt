-- What holds of each request that words ask for.
use Rattle.std.specs.Prelude.{◌≡◌, ℕ, ◌<◌, ◌≤◌, true, List, length, All}
use Rattle.command_words.specs.declared.TheConstants.{MAX_DEMO_CELLS, MAX_FILES, MAX_ORDERED, MAX_WORKERS}
use Rattle.command_words.specs.Numbers.{is_ascending}
use Rattle.command_words.specs.Asking.{Request, demo, edit, show, trace}

abbrev pub IsWithin : ℕ → ℕ → ℕ → Type 0
IsWithin low high n = (low ≤ n) × (n ≤ high)

-- each named worker is one of the workers, and not all stop
pub record IsTrace (workers : ℕ) (order stopped : List ℕ) : Type 0 where
  pub within : IsWithin 1 MAX_WORKERS workers
  pub order_few : length order ≤ MAX_ORDERED
  pub order_below : All (λ w. w < workers) order
  pub stopped_below : All (λ w. w < workers) stopped
  pub stopped_ascends : is_ascending stopped ≡ true
  pub stopped_fewer : length stopped < workers

abbrev pub IsSound : Request → Type 0
IsSound (show workers) = IsWithin 1 MAX_WORKERS workers
IsSound (edit workers files) = IsWithin 1 MAX_WORKERS workers × IsWithin 1 MAX_FILES (length files)
IsSound (trace workers order stopped) = IsTrace workers order stopped
IsSound (demo workers count) = IsWithin 1 MAX_WORKERS workers × IsWithin 1 MAX_DEMO_CELLS count
