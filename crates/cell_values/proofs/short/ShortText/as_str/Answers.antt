use Rattle.cell_values.proofs.Shorts.{text_bytes}
use Rattle.cell_values.proofs.short.ShortText.as_str.Goals as goal

pub from_utf8_unchecked-requires : goal.from_utf8_unchecked-requires
from_utf8_unchecked-requires c = text_bytes _ c.requires
