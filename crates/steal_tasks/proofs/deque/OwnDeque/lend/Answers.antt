use Rattle.steal_tasks.proofs.Sharing.{opens}
use Rattle.steal_tasks.proofs.deque.OwnDeque.lend.Goals as goal

pub another-pass-requires : goal.another-pass-requires
another-pass-requires c = opens _ _
