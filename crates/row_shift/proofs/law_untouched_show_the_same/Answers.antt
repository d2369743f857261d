use Rattle.row_shift.proofs.Untouched.{untouched_show_the_same}
use Rattle.row_shift.proofs.law_untouched_show_the_same.Goals as goal

pub returns : goal.returns
returns c = untouched_show_the_same
