use Rattle.std.proofs.Common.{◌≡◌, map, drop, ◌+◌, string_bytes, ap, refl, sym, ◌∙◌, subst, arith}
use Rattle.std.proofs.lemmas.Result.{err_from_is_err_and}
use Rattle.formula_grammar.specs.Reading.{IsReading}
use Rattle.sheet_loading.specs.Loaded.{LoadedSheets}
use Rattle.std.specs.Prelude.{MatchOption, IfNone}
use Rattle.puncalc_program.specs.Files.{files_loaded, AddsFile, RefusesFile}
use Rattle.puncalc_program.proofs.Loading.{adds_start, adds_more, adds_refused, adds_end, next_file, none_left, lacks_more}
use Rattle.puncalc_program.proofs.files.load_files.Goals as goal

pub loop-file-init : goal.loop-file-init
loop-file-init g c = record {
  adds = λ read right told is. adds_start read told c.args.names c.new-loader.result (map string_bytes c.args.files.now) c.new-loader.ensures;
  sheet = ap (λ (l : LoadedSheets). l.sheet) c.new-loader.ensures;
  names = ap (λ (l : LoadedSheets). l.names) c.new-loader.ensures;
  files = refl;
  faults = omega arith;
}

pub returns-in_err-what-clause-causes : goal.returns-in_err-what-clause-causes
returns-in_err-what-clause-causes g c =
    let p = err_from_is_err_and c.from_residual.result c.from_residual.ensures.1 in
    rw (p.1, p.2)
    (lacks_more c.args.names (g.D.Folder.files c.args.folder.now) (g.D.Folder.files c.loop-file.folder) (map string_bytes c.args.files.now) c.deref.result.now (map string_bytes (drop (c.loop-file.file-index + 1) c.args.files.now)) c.loop-file.loader
    (g.D.Folder.faults c.args.folder.now) (g.D.Folder.faults c.loop-file.folder) (g.D.Folder.faults c.add_file.new.folder) c.in_err-what.field-0.0 c.loop-file.invariant.files c.loop-file.invariant.faults
    (λ read right told is. next_file read told (files_loaded read c.args.names told (map string_bytes c.args.files.now)) c.loop-file.loader c.args.files.now c.loop-file.file-index c.file-item.result c.deref.result.now c.loop-file-test.true (sym c.file-item.is) c.deref.ensures (c.loop-file.invariant.adds read right told is))
    c.in_err-what.ensures.causes)

pub returns-in-Some-clause-loaded : goal.returns-in-Some-clause-loaded
returns-in-Some-clause-loaded g c = λ read right told is.
    adds_refused read told (files_loaded read c.args.names told (map string_bytes c.args.files.now)) c.loop-file.loader c.deref.result.now (map string_bytes (drop (c.loop-file.file-index + 1) c.args.files.now)) c.args.names c.in-Some.what c.loop-file.invariant.names
    (next_file read told (files_loaded read c.args.names told (map string_bytes c.args.files.now)) c.loop-file.loader c.args.files.now c.loop-file.file-index c.file-item.result c.deref.result.now c.loop-file-test.true (sym c.file-item.is) c.deref.ensures (c.loop-file.invariant.adds read right told is))
    (subst (λ o. MatchOption o (AddsFile read told c.deref.result.now c.loop-file.loader c.add_file.new.loader) (λ what. RefusesFile read told c.deref.result.now c.loop-file.loader (string_bytes what))) c.in-Some.is
    (c.in_ok-what.ensures.added read (subst (λ ns. IsReading ns read) (sym c.loop-file.invariant.names) right) told (c.loop-file.invariant.files ∙ is)))

pub loop-file-preserved : goal.loop-file-preserved
loop-file-preserved g c = record {
  adds = λ read right told is.
      adds_more read told (files_loaded read c.args.names told (map string_bytes c.args.files.now)) c.loop-file.loader c.add_file.new.loader c.deref.result.now (map string_bytes (drop (c.loop-file.file-index + 1) c.args.files.now)) c.in_ok-what.ensures.names
      (next_file read told (files_loaded read c.args.names told (map string_bytes c.args.files.now)) c.loop-file.loader c.args.files.now c.loop-file.file-index c.file-item.result c.deref.result.now c.loop-file-test.true (sym c.file-item.is) c.deref.ensures (c.loop-file.invariant.adds read right told is))
      (subst (λ o. MatchOption o (AddsFile read told c.deref.result.now c.loop-file.loader c.add_file.new.loader) (λ what. RefusesFile read told c.deref.result.now c.loop-file.loader (string_bytes what))) c.in-None.is
      (c.in_ok-what.ensures.added read (subst (λ ns. IsReading ns read) (sym c.loop-file.invariant.names) right) told (c.loop-file.invariant.files ∙ is)));
  sheet = subst (λ o. IfNone o (c.add_file.new.loader.sheet ≡ c.loop-file.loader.sheet + 1)) c.in-None.is c.in_ok-what.ensures.sheet ∙ ap (λ n. n + 1) c.loop-file.invariant.sheet;
  names = c.in_ok-what.ensures.names ∙ c.loop-file.invariant.names;
  files = c.in_ok-what.ensures.files ∙ c.loop-file.invariant.files;
  faults = (let before = c.loop-file.invariant.faults in let now = c.in_ok-what.ensures.never_falls in omega (arith, before, now));
}

pub returns-clause-loaded : goal.returns-clause-loaded
returns-clause-loaded g c = λ read right told is.
    adds_end read told (files_loaded read c.args.names told (map string_bytes c.args.files.now)) c.loop-file.loader c.args.names c.in_ok-finish.field-0
    (none_left read told (files_loaded read c.args.names told (map string_bytes c.args.files.now)) c.loop-file.loader c.args.files.now c.loop-file.file-index c.loop-file-test.false (c.loop-file.invariant.adds read right told is))
    (c.in_ok-finish.ensures.book read (subst (λ ns. IsReading ns read) (sym c.loop-file.invariant.names) right)) (c.in_ok-finish.ensures.names ∙ c.loop-file.invariant.names)
