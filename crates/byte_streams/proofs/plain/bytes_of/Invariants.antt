use Rattle.std.proofs.Common.{◌≡◌, drop}
use Rattle.byte_streams.specs.Folders.{stored_files, file_named}
use Rattle.byte_streams.proofs.plain.bytes_of.Given as goal

-- No file before this one has the name.
abbrev pub invariant-loop-file : goal.invariant-loop-file
invariant-loop-file l = file_named (stored_files (drop l.file-index l.files)) l.name ≡ file_named (stored_files l.files) l.name
