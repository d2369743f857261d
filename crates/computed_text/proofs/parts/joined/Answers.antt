use Rattle.std.proofs.Common.{◌∙◌, ap, arith}
use Rattle.cell_values.specs.ShortTexts.{short_of}
use Rattle.computed_text.proofs.Cuts.{both_bytes}
use Rattle.computed_text.proofs.parts.joined.Goals as goal

pub returns-clause-value : goal.returns-clause-value
returns-clause-value c =
    c.of.ensures.value
    ∙ ap short_of
    (both_bytes c.args.front.now c.args.back.now c.copy_from_slice.new.self c.copy_from_slice-2.new.self _ _ _ (c.copy_from_slice.ensures.after ∙ c.as_bytes.ensures.value) (c.copy_from_slice-2.ensures.after ∙ c.as_bytes-2.ensures.value) (omega arith))
