use Rattle.cell_values.proofs.Shorts.{some_short, bad_none, text_is_short, short_is}
use Rattle.std.proofs.Common.{arith}
use Rattle.std.proofs.lemmas.Str.{is_utf8-from_IsUtf8}
use Rattle.cell_values.proofs.short.ShortText.of.Goals as goal

pub returns-in-Err-clause-value : goal.returns-in-Err-clause-value
returns-in-Err-clause-value c = bad_none _ c.in-Err.ensures.cases.0

pub returns-in-Ok-clause-value : goal.returns-in-Ok-clause-value
returns-in-Ok-clause-value c = rw c.padded_bytes.ensures (some_short _ (omega arith) c.in-Ok.ensures.cases.1)

pub returns-in-Ok-clause-short : goal.returns-in-Ok-clause-short
returns-in-Ok-clause-short c = rw c.padded_bytes.ensures (text_is_short _ (short_is _ (omega arith) (is_utf8-from_IsUtf8 _ c.in-Ok.ensures.cases.1)))
