use Rattle.row_shift.proofs.Closed.{moved_pending_closed}
use Rattle.row_shift.proofs.law_moved_pending_is_closed.Goals as goal

pub returns : goal.returns
returns c = moved_pending_closed
