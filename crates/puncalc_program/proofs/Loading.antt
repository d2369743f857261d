-- Sheets that are added one after the other.
use Rattle.std.proofs.Common.{◌≡◌, ◌⊎◌, inl, inr, ℕ, zero, suc, ◌+◌, ◌-◌, ◌<◌, ◌≤◌, List, [], ◌∷◌, map, length, drop, drop-cons, get_or, Option, Some, None, Ok, codes, string_bytes, refl, sym, subst, ap, ◌∙◌, arith}
use Rattle.std.specs.Prelude.{Result, Err, IfSome, IsSomeAnd, String}
use Rattle.std.specs.Global.{Global}
use Rattle.byte_streams.specs.Folders.{StoredFile, file_named, ExplainsFetch}
use Rattle.byte_streams.specs.declared.faults.FetchFault.{FetchFault}
use Rattle.cell_values.specs.Names.{sheet_name}
use Rattle.demand_spec.specs.Book.{Book}
use Rattle.formula_grammar.specs.Reading.{Reading, IsReading}
use Rattle.sheet_loading.specs.declared.TheConstants.{SHEET_BYTES}
use Rattle.sheet_loading.specs.declared.faults.LoadFault.{LoadFault}
use Rattle.sheet_loading.specs.declared.faults.SheetRefusal.{SheetRefusal}
use Rattle.sheet_loading.specs.Faults.{IsLoadFault}
use Rattle.sheet_loading.specs.Contents.{Names}
use Rattle.sheet_loading.specs.Loaded.{LoadedSheets, book_of, cells_in}
use Rattle.sheet_loading.specs.Sheets.{no_cells, sheet_added}
use Rattle.sheet_loading.proofs.Adding.{too_long}
use Rattle.workbook_core.specs.Books.{SharedBook}
use Rattle.byte_streams.specs.Faults.{HasRisen}
use Rattle.puncalc_program.specs.declared.files.Loaded.{Loaded}
use Rattle.puncalc_program.specs.declared.stop.Stop.{Stop}
use Rattle.puncalc_program.specs.Files.{Load, Whole, Refused, Lacking, add_files, with_file, of_sheet, files_loaded, AddsFile, RefusesFile, IsLoadOf, IsSheetOf, LacksFile, LacksFiles, StopsReading}
use Rattle.puncalc_program.specs.Refusals.{sheet_refused}

-- the name of the only sheet, as it is given
pub only_name : sheet_name (codes "Sheet1") ≡ codes "Sheet1"
unfolding sheet_name
only_name = refl

-- a loader without sheets has no cells
pub fresh_book : (read : Reading) (names : Names) (left sheet : ℕ) → book_of read (record { names = names; texts = []; fields = []; left = left; sheet = sheet }) ≡ no_cells
unfolding book_of cells_in
fresh_book read names left sheet = refl

-- what is left to add gives the whole
abbrev pub Adds : Reading → List StoredFile → Load → LoadedSheets → List (List ℕ) → Type 0
Adds read folder due l files = add_files read l.names folder l.sheet l.left (book_of read l) files ≡ due

-- a loader without sheets
abbrev pub fresh : Names → LoadedSheets
fresh names = record { names = names; texts = []; fields = []; left = SHEET_BYTES; sheet = 0 }

-- one sheet was loaded, or refused

fresh_reads : (read : Reading) (names : Names) (old : LoadedSheets) → old ≡ fresh names → IsReading names read → IsReading old.names read
fresh_reads read names old is right = subst (λ (l : LoadedSheets). IsReading l.names read) (sym is) right

fresh_added : (read : Reading) (names : Names) (old : LoadedSheets) (bytes : List ℕ) (r : Result Book SheetRefusal) → old ≡ fresh names →
    sheet_added read old.names old.sheet old.left (book_of read old) bytes ≡ r → sheet_added read names 0 SHEET_BYTES no_cells bytes ≡ r
fresh_added read names old bytes r is added =
    ap (λ b. sheet_added read names 0 SHEET_BYTES b bytes) (sym (fresh_book read names SHEET_BYTES 0))
    ∙ ap (λ (l : LoadedSheets). sheet_added read l.names l.sheet l.left (book_of read l) bytes) (sym is) ∙ added

pub sheet_whole : (read : Reading) (names : Names) (old new : LoadedSheets) (bytes : List ℕ) (w : SharedBook) → IsReading names read → old ≡ fresh names → new.names ≡ old.names →
    (IsReading old.names read → sheet_added read old.names old.sheet old.left (book_of read old) bytes ≡ Ok (book_of read new)) → (IsReading new.names read → w.book ≡ book_of read new) → w.names ≡ new.names →
    IsSheetOf names (sheet_added read names 0 SHEET_BYTES no_cells bytes) (Loaded.Whole w)
sheet_whole read names old new bytes w right is kept added book are =
    let there : IsReading old.names read = fresh_reads read names old is right in
    subst (λ d. IsSheetOf names d (Loaded.Whole w)) (sym (fresh_added read names old bytes (Ok (book_of read new)) is (added there)))
    (book (subst (λ ns. IsReading ns read) (sym kept) there), are ∙ kept ∙ ap (λ (l : LoadedSheets). l.names) is)

pub sheet_refuses : (read : Reading) (names : Names) (old new : LoadedSheets) (bytes : List ℕ) (fault : LoadFault) (why : SheetRefusal) (what : String Global) → IsReading names read → old ≡ fresh names →
    new ≡ record old { texts = new.texts } → fault ≡ LoadFault.Refused why →
    (IsReading old.names read → IsLoadFault fault (sheet_added read old.names old.sheet old.left (book_of read old) bytes)) → string_bytes what ≡ sheet_refused new.names new.sheet why →
    IsSheetOf names (sheet_added read names 0 SHEET_BYTES no_cells bytes) (Loaded.Refused what)
sheet_refuses read names old new bytes fault why what right is kept same added text =
    let due : sheet_added read old.names old.sheet old.left (book_of read old) bytes ≡ Err why =
    subst (λ f. IsLoadFault f (sheet_added read old.names old.sheet old.left (book_of read old) bytes)) same (added (fresh_reads read names old is right)) in
    subst (λ d. IsSheetOf names d (Loaded.Refused what)) (sym (fresh_added read names old bytes (Err why) is due))
    (text ∙ ap (λ (l : LoadedSheets). sheet_refused l.names l.sheet why) (kept ∙ ap (λ (l : LoadedSheets). record l { texts = new.texts }) is))

-- a file has more bytes than may come
pub long_file : (read : Reading) (folder : List StoredFile) (file : List ℕ) (l : LoadedSheets) (limit : ℕ) (told : Option (List StoredFile)) (fault : FetchFault) (what : List ℕ) → told ≡ Some folder →
    fault ≡ FetchFault.TooLong → ExplainsFetch fault limit file told → limit ≡ l.left → what ≡ sheet_refused l.names l.sheet SheetRefusal.TooLong → RefusesFile read folder file l what
long_file read folder file l limit told fault what is long cause same text =
    go (file_named folder file) refl (subst (λ o. IfSome o (λ files. IsSomeAnd (file_named files file) (λ bytes. limit < length bytes))) is (subst (λ f. ExplainsFetch f limit file told) long cause))
  where
    go : (o : Option (List ℕ)) → file_named folder file ≡ o → IsSomeAnd (file_named folder file) (λ bytes. limit < length bytes) → RefusesFile read folder file l what
    go None e h = absurd (subst (λ o. IsSomeAnd o (λ bytes. limit < length bytes)) e h)
    go (Some bytes) e h =
        let many : limit < length bytes = subst (λ o. IsSomeAnd o (λ bytes. limit < length bytes)) e h in
        record { bytes = bytes; there = e; why = SheetRefusal.TooLong; refused = too_long read l.names l.sheet l.left (book_of read l) bytes (omega (arith, many, same)); text = text }

-- ---- files in order

pub adds_start : (read : Reading) (folder : List StoredFile) (names : Names) (l : LoadedSheets) (files : List (List ℕ)) → l ≡ fresh names → Adds read folder (files_loaded read names folder files) l files
adds_start read folder names l files is =
    ap (λ (m : LoadedSheets). add_files read m.names folder m.sheet m.left (book_of read m) files) is
    ∙ ap (λ b. add_files read names folder 0 SHEET_BYTES b files) (fresh_book read names SHEET_BYTES 0)

first_file : (read : Reading) (names : Names) (folder : List StoredFile) (sheet left : ℕ) (b : Book) (file : List ℕ) (files : List (List ℕ)) →
    add_files read names folder sheet left b (file ∷ files)
    ≡ with_file (file_named folder file) (λ bytes. of_sheet sheet (sheet_added read names sheet left b bytes) (λ more. add_files read names folder (sheet + 1) (left - length bytes) more files))
unfolding add_files
first_file read names folder sheet left b file files = refl

no_file : (read : Reading) (names : Names) (folder : List StoredFile) (sheet left : ℕ) (b : Book) → add_files read names folder sheet left b [] ≡ Whole b
unfolding add_files
no_file read names folder sheet left b = refl

pub adds_more : (read : Reading) (folder : List StoredFile) (due : Load) (old new : LoadedSheets) (file : List ℕ) (files : List (List ℕ)) → new.names ≡ old.names →
    Adds read folder due old (file ∷ files) → AddsFile read folder file old new → Adds read folder due new files
adds_more read folder due old new file files names h a =
    let next : List ℕ → Load = λ bytes. of_sheet old.sheet (sheet_added read old.names old.sheet old.left (book_of read old) bytes) (λ more. add_files read old.names folder (old.sheet + 1) (old.left - length bytes) more files) in
    let left : old.left - length a.bytes ≡ new.left = (let l = a.left in omega (arith, l)) in
    (λ i. add_files read (names i) folder (a.sheet i) (sym left i) (book_of read new) files)
    ∙ ap (λ r. of_sheet old.sheet r (λ more. add_files read old.names folder (old.sheet + 1) (old.left - length a.bytes) more files)) (sym a.added)
    ∙ ap (λ o. with_file o next) (sym a.there) ∙ sym (first_file read old.names folder old.sheet old.left (book_of read old) file files) ∙ h

pub adds_refused : (read : Reading) (folder : List StoredFile) (due : Load) (old : LoadedSheets) (file : List ℕ) (files : List (List ℕ)) (names : Names) (what : String Global) → old.names ≡ names →
    Adds read folder due old (file ∷ files) → RefusesFile read folder file old (string_bytes what) → IsLoadOf names due (Loaded.Refused what)
adds_refused read folder due old file files names what are h r =
    let next : List ℕ → Load = λ bytes. of_sheet old.sheet (sheet_added read old.names old.sheet old.left (book_of read old) bytes) (λ more. add_files read old.names folder (old.sheet + 1) (old.left - length bytes) more files) in
    let is : Refused old.sheet r.why ≡ due =
    ap (λ z. of_sheet old.sheet z (λ more. add_files read old.names folder (old.sheet + 1) (old.left - length r.bytes) more files)) (sym r.refused)
    ∙ ap (λ o. with_file o next) (sym r.there) ∙ sym (first_file read old.names folder old.sheet old.left (book_of read old) file files) ∙ h in
    subst (λ d. IsLoadOf names d (Loaded.Refused what)) is (r.text ∙ ap (λ ns. sheet_refused ns old.sheet r.why) are)

pub adds_end : (read : Reading) (folder : List StoredFile) (due : Load) (l : LoadedSheets) (names : Names) (w : SharedBook) → Adds read folder due l [] → w.book ≡ book_of read l → w.names ≡ names → IsLoadOf names due (Loaded.Whole w)
adds_end read folder due l names w h book are =
    subst (λ d. IsLoadOf names d (Loaded.Whole w)) (sym (no_file read l.names folder l.sheet l.left (book_of read l)) ∙ h) (book, are)

pub adds_lacks : (read : Reading) (folder : List StoredFile) (due : Load) (old : LoadedSheets) (file : List ℕ) (files : List (List ℕ)) → Adds read folder due old (file ∷ files) → file_named folder file ≡ None → due ≡ Lacking
adds_lacks read folder due old file files h none =
    let next : List ℕ → Load = λ bytes. of_sheet old.sheet (sheet_added read old.names old.sheet old.left (book_of read old) bytes) (λ more. add_files read old.names folder (old.sheet + 1) (old.left - length bytes) more files) in
    sym h ∙ first_file read old.names folder old.sheet old.left (book_of read old) file files ∙ ap (λ o. with_file o next) none

-- the files behind the first ones
pub files_from : (files : List (String Global)) (i : ℕ) (d : String Global) → i < length files → map string_bytes (drop i files) ≡ string_bytes (get_or files i d) ∷ map string_bytes (drop (i + 1) files)
files_from files i d low =
    let p : suc i ≡ i + 1 = omega arith in
    ap (map string_bytes) (drop-cons files i d low ∙ ap (λ n. get_or files i d ∷ drop n files) p)

-- the file that is added next is the first of those that are left
pub next_file : (read : Reading) (folder : List StoredFile) (due : Load) (l : LoadedSheets) (files : List (String Global)) (i : ℕ) (item : String Global) (file : List ℕ) → i < length files → get_or files i item ≡ item → file ≡ string_bytes item →
    Adds read folder due l (map string_bytes (drop i files)) → Adds read folder due l (file ∷ map string_bytes (drop (i + 1) files))
next_file read folder due l files i item file low is same h =
    subst (λ fs. Adds read folder due l fs) (files_from files i item low ∙ ap (λ z. z ∷ map string_bytes (drop (i + 1) files)) (ap string_bytes is ∙ sym same)) h

pub none_left : (read : Reading) (folder : List StoredFile) (due : Load) (l : LoadedSheets) (files : List (String Global)) (i : ℕ) → length files ≤ i → Adds read folder due l (map string_bytes (drop i files)) → Adds read folder due l []
none_left read folder due l files i far h = subst (λ fs. Adds read folder due l (map string_bytes fs)) (drop_whole files i far) h
  where
    drop_whole : {A : Type 0} (xs : List A) (i : ℕ) → length xs ≤ i → drop i xs ≡ []
    drop_whole [] zero h = refl
    drop_whole [] (suc i) h = refl
    drop_whole (x ∷ xs) zero h = absurd (omega arith)
    drop_whole (x ∷ xs) (suc i) h = drop_whole xs i (omega arith)

-- why a file could not be added, as why all could not
pub lacks_more : (names : Names) (told told' : Option (List StoredFile)) (files : List (List ℕ)) (file : List ℕ) (rest : List (List ℕ)) (l : LoadedSheets) (a b c : ℕ) (stop : Stop) → told' ≡ told → a ≤ b →
    ((read : Reading) → IsReading names read → (folder : List StoredFile) → told ≡ Some folder → Adds read folder (files_loaded read names folder files) l (file ∷ rest)) →
    StopsReading {A = Option (String Global)} (HasRisen b c ⊎ LacksFile told' file) (Err stop) → StopsReading {A = Loaded} (HasRisen a c ⊎ LacksFiles names told files) (Err stop)
lacks_more names told told' files file rest l a b c Stop.Read same low adds (inl h) = inl (omega (arith, h, low))
lacks_more names told told' files file rest l a b c Stop.Read same low adds (inr h) = inr (go told refl (subst (λ o. LacksFile o file) same h))
  where
    go : (o : Option (List StoredFile)) → told ≡ o → LacksFile o file → LacksFiles names o files
    go (Some folder) e h = λ read right. adds_lacks read folder (files_loaded read names folder files) l file rest (adds read right folder e) h
    go None e h = h
lacks_more names told told' files file rest l a b c Stop.Write same low adds h = h
lacks_more names told told' files file rest l a b c Stop.Memory same low adds h = tt
