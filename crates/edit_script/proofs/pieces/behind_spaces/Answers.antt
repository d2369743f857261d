use Rattle.edit_script.proofs.Cuts.{spaces_cut}
use Rattle.edit_script.proofs.pieces.behind_spaces.Goals as goal

pub returns : goal.returns
returns c = spaces_cut c.args.text.now c.trim_start_matches.result.now c.trim_start_matches.ensures.matches
