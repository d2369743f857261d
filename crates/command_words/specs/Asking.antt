-- What the words behind the program's name ask for.
use Rattle.std.specs.Prelude.{ℕ, ◌==◌, ◌&&◌, nat_le, List, [], ◌∷◌, map, length, Option, Some, None, option_map, option_and_then, codes, string_bytes, if◌then◌else◌}
use Rattle.std.specs.Str.{bytes_eq}
use Rattle.command_words.specs.declared.TheConstants.{MAX_DEMO_CELLS, MAX_FILES, MAX_ORDERED, MAX_STOPPED, MAX_WORKERS, USUAL_WORKERS}
use Rattle.command_words.specs.Sorting.{Text, sorted, value_of}
use Rattle.command_words.specs.Numbers.{list_below, number_in, some_of}
use Rattle.command_words.specs.declared.Asked.{Asked}

pub data Request : Type 0 where
  show : ℕ → Request
  edit : ℕ → List Text → Request
  trace : ℕ → List ℕ → List ℕ → Request
  demo : ℕ → ℕ → Request

-- the request without where it lies in memory
abbrev pub request_of : Asked → Request
request_of (Asked.Show workers) = show workers
request_of (Asked.Edit workers files) = edit workers (map string_bytes files.items)
request_of (Asked.Trace workers order stopped) = trace workers order.items stopped.items
request_of (Asked.Demo workers count) = demo workers count

-- the value of an option, read; or what stands for it
abbrev pub value_or : {X : Type 0} → X → (Text → Option X) → Option Text → Option X
value_or fallback read None = Some fallback
value_or fallback read (Some text) = read text

-- 1 to 64 workers, and 4 without the option
abbrev pub workers_in : Option Text → Option ℕ
workers_in value = value_or USUAL_WORKERS (number_in 1 MAX_WORKERS) value

-- ---- each command, by its other words and its options' values

abbrev pub shows : List Text → Option Text → Option Request
shows others workers = if length others == 0 then option_map show (workers_in workers) else None

abbrev pub edits : List Text → Option Text → Option Request
edits others workers = if nat_le 1 (length others) && nat_le (length others) MAX_FILES then option_map (λ w. edit w others) (workers_in workers) else None

abbrev pub demos : List Text → Option Text → Option Request
demos (count ∷ []) workers = option_and_then (λ w. option_map (demo w) (number_in 1 MAX_DEMO_CELLS count)) (workers_in workers)
demos _ workers = None

-- the order has 1 to 10,000 entries, or none without the option; of the workers some stop, or none without
-- the option
abbrev pub order_in : ℕ → Option Text → Option (List ℕ)
order_in workers value = value_or [] (list_below workers MAX_ORDERED) value

abbrev pub stopped_in : ℕ → Option Text → Option (List ℕ)
stopped_in workers value = value_or [] (λ text. option_and_then (some_of workers) (list_below workers MAX_STOPPED text)) value

abbrev pub traces : List Text → Option Text → Option Text → Option Text → Option Request
traces others workers order stop =
    if length others == 0 then option_and_then (λ w. option_and_then (λ o. option_map (trace w o) (stopped_in w stop)) (order_in w order)) (workers_in workers)
    else None

-- ---- all words

abbrev pub workers_name : Text
workers_name = codes "workers"

abbrev pub order_name : Text
order_name = codes "order"

abbrev pub stop_name : Text
stop_name = codes "stop"

-- what the words behind a command that has workers alone ask for
abbrev pub plainly : (List Text → Option Text → Option Request) → List Text → Option Request
plainly asks words = option_and_then (λ s. asks s.others (value_of workers_name s)) (sorted (workers_name ∷ []) words)

abbrev pub traced : List Text → Option Request
traced words = option_and_then (λ s. traces s.others (value_of workers_name s) (value_of order_name s) (value_of stop_name s)) (sorted (workers_name ∷ order_name ∷ stop_name ∷ []) words)

-- what a command and the words behind it ask for; None where they are refused
abbrev pub asked_of : Text → List Text → Option Request
asked_of command words =
    if bytes_eq command (codes "show") then plainly shows words
    else (if bytes_eq command (codes "edit") then plainly edits words
    else (if bytes_eq command (codes "trace") then traced words
    else (if bytes_eq command (codes "demo") then plainly demos words
    else None)))

-- what all the words ask for
unfoldable pub asked : List Text → Option Request
asked [] = None
asked (command ∷ words) = asked_of command words
