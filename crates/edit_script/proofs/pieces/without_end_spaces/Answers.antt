use Rattle.edit_script.proofs.Cuts.{end_spaces_cut}
use Rattle.edit_script.proofs.pieces.without_end_spaces.Goals as goal

pub returns : goal.returns
returns c = end_spaces_cut c.args.text.now c.trim_end_matches.result.now c.trim_end_matches.ensures.matches
