-- Sheets one after the other.
use Rattle.std.proofs.Common.{◌≡◌, ℕ, zero, suc, ◌+◌, ◌-◌, ◌<◌, ◌≤◌, get_or, drop, map, drop-cons, List, [], ◌∷◌, ◌++◌, length, arith, Result, Ok, Err, refl, sym, ap, ◌∙◌, subst}
use Rattle.formula_grammar.specs.Reading.{Reading, IsReading}
use Rattle.demand_spec.specs.Book.{Book}
use Rattle.sheet_loading.specs.declared.TheConstants.{SHEET_BYTES}
use Rattle.sheet_loading.specs.declared.faults.SheetRefusal.{SheetRefusal}
use Rattle.sheet_loading.specs.declared.faults.LoadFault.{LoadFault}
use Rattle.sheet_loading.specs.Contents.{Names}
use Rattle.sheet_loading.specs.Faults.{IsLoadFault, IsSheetsFault, sheets_fault_of}
use Rattle.sheet_loading.specs.Laws.{OthersFollow, FirstRefuses}
use Rattle.sheet_loading.specs.Loaded.{LoadedSheets, book_of, cells_in}
use Rattle.sheet_loading.specs.Sheets.{add_sheets, left_behind, sheet_added, sheets_read, then_sheets}

pub others_follow : OthersFollow
unfolding add_sheets
others_follow read names sheet left b c [] others h =
    let none : sheet ≡ sheet + 0 = omega arith in
    let same : b ≡ c = cc in
    λ i. add_sheets read names (none i) left (same i) others
others_follow read names sheet left b c (bytes ∷ rest) others h =
    go (sheet_added read names sheet left b bytes) h (λ d. others_follow read names (sheet + 1) (left - length bytes) d c rest others)
  where
    go : (r : Result Book SheetRefusal) → then_sheets sheet r (λ d. add_sheets read names (sheet + 1) (left - length bytes) d rest) ≡ Ok c →
        ((d : Book) → add_sheets read names (sheet + 1) (left - length bytes) d rest ≡ Ok c → add_sheets read names (sheet + 1) (left - length bytes) d (rest ++ others) ≡ add_sheets read names (sheet + 1 + length rest) (left_behind (left - length bytes) rest) c others) →
        then_sheets sheet r (λ d. add_sheets read names (sheet + 1) (left - length bytes) d (rest ++ others)) ≡ add_sheets read names (sheet + suc (length rest)) (left_behind (left - length bytes) rest) c others
    go (Ok d) k more =
        let one : sheet + 1 + length rest ≡ sheet + suc (length rest) = omega arith in
        more d k ∙ ap (λ n. add_sheets read names n (left_behind (left - length bytes) rest) c others) one
    go (Err why) k more = cc

pub first_refuses : FirstRefuses
unfolding add_sheets
first_refuses read names sheet left b c done others bytes why h k =
    others_follow read names sheet left b c done (bytes ∷ others) h
    ∙ ap (λ r. then_sheets (sheet + length done) r (λ d. add_sheets read names (sheet + length done + 1) (left_behind left done - length bytes) d others)) k

-- the sheets in front of `rest` are loaded, and what those of `rest` give decides
pub record Loads (known : Names) (sheets rest : List (List ℕ)) (l : LoadedSheets) : Type 0 where
  pub loads : (read : Reading) → IsReading known read → add_sheets read known l.sheet l.left (book_of read l) rest ≡ sheets_read read known sheets
  pub names : l.names ≡ known
  pub room : l.sheet + length rest ≤ length known

pub loads_start : (names : Names) (sheets : List (List ℕ)) (l : LoadedSheets) → l ≡ record { names = names; texts = []; fields = []; left = SHEET_BYTES; sheet = 0 } → length sheets ≤ length names → Loads names sheets sheets l
unfolding sheets_read book_of cells_in
loads_start names sheets l e few = subst (Loads names sheets sheets) (sym e) (record { loads = λ read right. refl; names = refl; room = omega (arith, few) })

-- one sheet more
loads_more : (names : Names) (sheets rest : List (List ℕ)) (bytes : List ℕ) (l m : LoadedSheets) → Loads names sheets (bytes ∷ rest) l →
    ((read : Reading) → IsReading l.names read → sheet_added read l.names l.sheet l.left (book_of read l) bytes ≡ Ok (book_of read m)) → m.names ≡ l.names → m.sheet ≡ l.sheet + 1 → m.left + length bytes ≡ l.left → Loads names sheets rest m
unfolding add_sheets
loads_more names sheets rest bytes l m h added same next left = record {
  loads = λ read right.
      (λ i. add_sheets read names (next i) (less i) (book_of read m) rest)
      ∙ sym (ap (λ r. then_sheets l.sheet r (λ c. add_sheets read names (l.sheet + 1) (l.left - length bytes) c rest)) (is read right)) ∙ h.loads read right;
  names = same ∙ h.names;
  room = (let old = h.room in omega (arith, old, next));
}
  where
    less : m.left ≡ l.left - length bytes
    less = omega (arith, left)

    is : (read : Reading) → IsReading names read → sheet_added read names l.sheet l.left (book_of read l) bytes ≡ Ok (book_of read m)
    is read right = subst (λ (ns : Names). IsReading ns read → sheet_added read ns l.sheet l.left (book_of read l) bytes ≡ Ok (book_of read m)) h.names (added read) right

-- where one stands
loads_at : (names : Names) (sheets : List (List ℕ)) (i : ℕ) (bytes : List ℕ) (l : LoadedSheets) → i < length sheets → bytes ≡ get_or sheets i bytes → Loads names sheets (drop i sheets) l → Loads names sheets (bytes ∷ drop (i + 1) sheets) l
loads_at names sheets i bytes l low e h =
    let cut : drop i sheets ≡ bytes ∷ drop (i + 1) sheets = drop-cons sheets i bytes low ∙ (λ j. sym e j ∷ drop (plus i j) sheets) in
    subst (λ rest. Loads names sheets rest l) cut h
  where
    plus : (i : ℕ) → suc i ≡ i + 1
    plus i = omega arith

pub loads_next : (names : Names) (sheets : List (List ℕ)) (i : ℕ) (bytes : List ℕ) (l m : LoadedSheets) → i < length sheets → bytes ≡ get_or sheets i bytes → Loads names sheets (drop i sheets) l →
    ((read : Reading) → IsReading l.names read → sheet_added read l.names l.sheet l.left (book_of read l) bytes ≡ Ok (book_of read m)) → m.names ≡ l.names → m.sheet ≡ l.sheet + 1 → m.left + length bytes ≡ l.left → Loads names sheets (drop (i + 1) sheets) m
loads_next names sheets i bytes l m low e h added same next left = loads_more names sheets (drop (i + 1) sheets) bytes l m (loads_at names sheets i bytes l low e h) added same next left

pub one_refused : (fault : LoadFault) (names : Names) (sheets : List (List ℕ)) (i : ℕ) (bytes : List ℕ) (l : LoadedSheets) → i < length sheets → bytes ≡ get_or sheets i bytes → Loads names sheets (drop i sheets) l →
    ((read : Reading) → IsReading l.names read → IsLoadFault fault (sheet_added read l.names l.sheet l.left (book_of read l) bytes)) → (read : Reading) → IsReading names read →
    IsSheetsFault (sheets_fault_of l.sheet fault) (sheets_read read names sheets)
unfolding add_sheets
one_refused LoadFault.OutOfMemory names sheets i bytes l low e h refused read right = tt
one_refused (LoadFault.Refused why) names sheets i bytes l low e h refused read right =
    let k = loads_at names sheets i bytes l low e h in
    let is : sheet_added read names l.sheet l.left (book_of read l) bytes ≡ Err why = subst (λ (ns : Names). IsReading ns read → sheet_added read ns l.sheet l.left (book_of read l) bytes ≡ Err why) k.names (refused read) right in
    sym (k.loads read right) ∙ ap (λ r. then_sheets l.sheet r (λ c. add_sheets read names (l.sheet + 1) (l.left - length bytes) c (drop (i + 1) sheets))) is

pub all_loaded : (names : Names) (sheets : List (List ℕ)) (l : LoadedSheets) → Loads names sheets [] l → (read : Reading) → IsReading names read → sheets_read read names sheets ≡ Ok (book_of read l)
unfolding add_sheets
all_loaded names sheets l h read right = sym (h.loads read right)

-- what stands at a place, and what is made of it
pub item_of : {A : Type 0} (f : A → List ℕ) (xs : List A) (i : ℕ) (x : A) → i < length xs → x ≡ get_or xs i x → f x ≡ get_or (map f xs) i (f x)
item_of f [] i x low e = absurd (omega arith)
item_of f (y ∷ ys) zero x low e = ap f e
item_of f (y ∷ ys) (suc i) x low e = item_of f ys i x (omega (arith, low)) e
