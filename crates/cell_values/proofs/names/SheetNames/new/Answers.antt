-- Each file's name is the next of the names, or the first bad one.
use Rattle.std.proofs.Common.{◌≡◌, ◌<◌, ℕ, List, [], length, map, get_or, String, Global, string_bytes, ap, sym, ◌∙◌, arith}
use Rattle.std.proofs.lemmas.List.{get_or-map, length-map}
use Rattle.std.proofs.lemmas.Result.{err_from_is_err_and}
use Rattle.cell_values.specs.Names.{sheet_name}
use Rattle.cell_values.proofs.NamesSoFar.{names_more, names_refused}
use Rattle.cell_values.proofs.names.SheetNames.new.Goals as goal

-- the name that is read of a file is the one at its place
name_at : (files : List (String Global)) (i : ℕ) (file : String Global) (text name : List ℕ) → name ≡ sheet_name text → text ≡ string_bytes file → file ≡ get_or files i file → i < length files → name ≡ get_or (map (λ f. sheet_name (string_bytes f)) files) i []
name_at files i file text name n t f l =
    n ∙ ap sheet_name t ∙ ap (λ (g : String Global). sheet_name (string_bytes g)) f ∙ sym (get_or-map (λ f. sheet_name (string_bytes f)) files i file [] l)

pub returns-in_err-add_name-clause-bad : goal.returns-in_err-add_name-clause-bad
returns-in_err-add_name-clause-bad c =
    let all : List (List ℕ) = map (λ file. sheet_name (string_bytes file)) c.args.files.now in
    let here = name_at c.args.files.now c.loop-file.file-index c.file-item.result c.as_str.result.now c.read_name.result.now c.read_name.ensures c.as_str.ensures.value c.file-item.is c.loop-file-test.true in
    let len = length-map c.args.files.now (λ file. sheet_name (string_bytes file)) in
    let refused = names_refused all (map string_bytes c.loop-file.names.items) c.loop-file.file-index c.read_name.result.now c.loop-file.invariant (omega (arith, c.loop-file-test.true, len)) here c.in_err-add_name.field-0.0 c.in_err-add_name.ensures.err in
    let p = err_from_is_err_and c.from_residual.result c.from_residual.ensures.1 in
    rw (p.1, p.2) refused

pub loop-file-preserved : goal.loop-file-preserved
loop-file-preserved c =
    let all : List (List ℕ) = map (λ file. sheet_name (string_bytes file)) c.args.files.now in
    let here = name_at c.args.files.now c.loop-file.file-index c.file-item.result c.as_str.result.now c.read_name.result.now c.read_name.ensures c.as_str.ensures.value c.file-item.is c.loop-file-test.true in
    let len = length-map c.args.files.now (λ file. sheet_name (string_bytes file)) in
    rw c.in_ok-add_name.ensures.ok
    (names_more all (map string_bytes c.loop-file.names.items) c.loop-file.file-index c.read_name.result.now c.loop-file.invariant (omega (arith, c.loop-file-test.true, len)) here c.in_ok-add_name.ensures.new)
