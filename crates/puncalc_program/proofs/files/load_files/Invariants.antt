use Rattle.std.proofs.Common.{◌≡◌, ◌≤◌, List, Some, drop, map, string_bytes}
use Rattle.byte_streams.specs.Folders.{StoredFile}
use Rattle.formula_grammar.specs.Reading.{Reading, IsReading}
use Rattle.puncalc_program.specs.Files.{files_loaded}
use Rattle.puncalc_program.proofs.Loading.{Adds}
use Rattle.puncalc_program.proofs.files.load_files.Given as goal

abbrev pub invariant-loop-file : goal.invariant-loop-file
invariant-loop-file g l =
    record {
      adds : (read : Reading) → IsReading l.fn.names read → (told : List StoredFile) → g.D.Folder.files l.fn.folder ≡ Some told →
          Adds read told (files_loaded read l.fn.names told (map string_bytes l.files)) l.loader (map string_bytes (drop l.file-index l.files));
      sheet : l.loader.sheet ≡ l.file-index;
      names : l.loader.names ≡ l.fn.names;
      files : g.D.Folder.files l.folder ≡ g.D.Folder.files l.fn.folder;
      faults : g.D.Folder.faults l.fn.folder ≤ g.D.Folder.faults l.folder;
    }
