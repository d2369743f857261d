use Rattle.cell_values.proofs.Shorts.{zeros_behind}
use Rattle.cell_values.proofs.short.padded_bytes.Goals as goal

pub returns : goal.returns
returns c = zeros_behind _ _ c.copy_from_slice.ensures.after c.requires
