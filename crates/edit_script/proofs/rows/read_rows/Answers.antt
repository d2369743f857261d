use Rattle.std.proofs.Common.{◌∙◌}
use Rattle.edit_script.proofs.RowParts.{rows_told}
use Rattle.edit_script.proofs.rows.read_rows.Goals as goal

pub returns-clause-same : goal.returns-clause-same
returns-clause-same c = c.rows_of.ensures.same ∙ rows_told c.args.sheets.now c.args.text.now c.split_at_mark.result.0.now c.split_at_mark.result.1.now c.split_at_mark-2.result.0.now c.split_at_mark-2.result.1.now c.read_row.result c.read_row-2.result c.read_sheet.result
    c.split_at_mark.ensures.front c.split_at_mark.ensures.back c.split_at_mark-2.ensures.front c.split_at_mark-2.ensures.back c.read_row.ensures.same c.read_row-2.ensures.same c.read_sheet.ensures.same
