use Rattle.std.proofs.Common.{string_bytes}
use Rattle.puncalc_program.proofs.Loading.{long_file}
use Rattle.puncalc_program.proofs.files.add_file.Goals as goal

pub returns-in-Err-TooLong-clause-added : goal.returns-in-Err-TooLong-clause-added
returns-in-Err-TooLong-clause-added g c = λ read right told is.
    long_file read told c.args.file.now c.args.loader.now c.left.result (g.D.Folder.files c.args.folder.now) c.in-Err-TooLong.field-0 (string_bytes c.in_ok-tell_refusal-in-Err-TooLong.field-0) is c.in-Err-TooLong.field-0-is
    c.in-Err-TooLong.ensures.cause c.left.ensures.left c.in_ok-tell_refusal-in-Err-TooLong.ensures
