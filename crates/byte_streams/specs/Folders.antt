-- Files by name, and what a fetch answers. `None` stands for a folder that does not tell its files.
use Rattle.std.specs.Prelude.{◌≡◌, ℕ, ◌<◌, List, [], ◌∷◌, length, Option, Some, None, IfSome, IsSomeAnd, if◌then◌else◌, map, string_bytes, String, Vec}
use Rattle.std.specs.Global.{Global}
use Rattle.std.specs.Str.{bytes_eq}
use Rattle.byte_streams.specs.Faults.{next_count, HasRisen}
use Rattle.byte_streams.specs.Memory.{Calls, after_call, after_fault}
use Rattle.byte_streams.specs.declared.faults.FetchFault.{FetchFault}
use Rattle.byte_streams.specs.declared.faults.FetchFault.TheVariants.{Failed, TooLong, NotThere}

-- a file of a folder
pub record StoredFile : Type 0 where
  pub name : List ℕ
  pub bytes : List ℕ

-- a name with bytes, as a program holds them
abbrev pub stored_file : String Global × Vec ℕ Global → StoredFile
stored_file file = record { name = string_bytes file.0; bytes = file.1.items }

-- the files that a program holds
abbrev pub stored_files : List (String Global × Vec ℕ Global) → List StoredFile
stored_files files = map stored_file files

-- the bytes of the first file of this name
abbrev pub file_named : List StoredFile → List ℕ → Option (List ℕ)
file_named [] name = None
file_named (file ∷ files) name = if bytes_eq file.name name then Some file.bytes else file_named files name

-- when a fetch may end with this fault: for TooLong, only where the file has more than `limit` bytes, and
-- for NotThere, only where the folder tells its files and has none of this name
abbrev pub ExplainsFetch : FetchFault → ℕ → List ℕ → Option (List StoredFile) → Type 0
ExplainsFetch TooLong limit name told =
    IfSome told (λ files. IsSomeAnd (file_named files name) (λ bytes. limit < length bytes))
ExplainsFetch NotThere limit name told = IsSomeAnd told (λ files. file_named files name ≡ None)
ExplainsFetch _ limit name told = Unit {0}

-- the count of faults after this fault: it rose with a failure of the device, and stayed with any other fault
abbrev pub CountsFetch : FetchFault → ℕ → ℕ → Type 0
CountsFetch Failed before now = HasRisen before now
CountsFetch _ before now = now ≡ before

-- the count of faults after a fetch that ended with this fault
abbrev pub counted_by : FetchFault → ℕ → ℕ
counted_by Failed faults = next_count faults
counted_by _ faults = faults

-- the calls of a folder in memory after a fetch that ended with this fault
abbrev pub calls_after : FetchFault → Calls → Calls
calls_after Failed calls = after_fault calls
calls_after _ calls = after_call calls

-- a folder in memory: its files, and its calls
pub record MemoryFiles : Type 0 where
  pub files : List StoredFile
  pub calls : Calls
