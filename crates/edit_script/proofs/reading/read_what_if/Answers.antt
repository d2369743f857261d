use Rattle.std.proofs.Common.{◌∙◌}
use Rattle.edit_script.proofs.WhatIf.{parts_told}
use Rattle.edit_script.proofs.reading.read_what_if.Goals as goal

pub returns-clause-same : goal.returns-clause-same
returns-clause-same c = c.what_if.ensures.same ∙ parts_told c.args.sheets.now c.args.text.now c.split_target-at.result.0 c.split_target-at.result.1.now c.split_at_mark.result.0.now c.split_at_mark.result.1.now c.split_at_mark-2.result.0.now c.split_at_mark-2.result.1.now c.read_range.result c.read_target.result
    c.split_target-at.ensures.cell c.split_target-at.ensures.rest c.split_at_mark.ensures.front c.split_at_mark.ensures.back c.split_at_mark-2.ensures.front c.split_at_mark-2.ensures.back c.read_range.ensures.same c.read_target.ensures.same
