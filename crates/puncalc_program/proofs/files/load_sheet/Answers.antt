use Rattle.std.proofs.Common.{◌∙◌, ap}
use Rattle.puncalc_program.specs.Refusals.{sheet_refused}
use Rattle.puncalc_program.proofs.Loading.{sheet_whole, sheet_refuses}
use Rattle.puncalc_program.proofs.files.load_sheet.Goals as goal

pub returns-in-Ok-clause-loaded : goal.returns-in-Ok-clause-loaded
returns-in-Ok-clause-loaded c = λ read right.
    sheet_whole read c.args.names c.new-loader.result c.add.new.self c.args.bytes.now c.in_ok-finish-in-Ok.field-0 right c.new-loader.ensures c.in-Ok.ensures.names (c.in-Ok.ensures.added read) (c.in_ok-finish-in-Ok.ensures.book read) c.in_ok-finish-in-Ok.ensures.names

pub returns-in-Err-Refused-clause-loaded : goal.returns-in-Err-Refused-clause-loaded
returns-in-Err-Refused-clause-loaded c = λ read right.
    sheet_refuses read c.args.names c.new-loader.result c.add.new.self c.args.bytes.now c.in-Err-Refused.field-0 c.in-Err-Refused.why c.in_ok-tell_refusal-in-Err-Refused.field-0 right c.new-loader.ensures c.in-Err-Refused.ensures.err c.in-Err-Refused.field-0-is (c.in-Err-Refused.ensures.added read) (c.in_ok-tell_refusal-in-Err-Refused.ensures ∙ ap (sheet_refused c.add.new.self.names c.add.new.self.sheet) c.in-Err-Refused.why-is)
