use Rattle.builtin_functions.proofs.OrderLaws.{texts_by_bytes}
use Rattle.builtin_functions.proofs.laws.law_texts_compare_by_bytes.Goals as goal

pub returns : goal.returns
returns c = texts_by_bytes
