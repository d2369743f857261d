use Rattle.std.proofs.Common.{◌≡◌}
use Rattle.std.proofs.lemmas.Result.{on_ok_weaker}
use Rattle.row_shift.specs.MovedBook.{moved_book}
use Rattle.recalculation.proofs.Shifted.{unbuilt_shifted}
use Rattle.recalculation.proofs.shift.shift_both.Goals as goal

pub returns-else-progress-clause-pending : goal.returns-else-progress-clause-pending
returns-else-progress-clause-pending c = on_ok_weaker c.shift_book.result
    (λ (is : c.shift_book.new.book.book ≡ moved_book c.args.change c.args.book.now.book). unbuilt_shifted c.args.change c.args.book.now.book c.shift_book.new.book.book c.args.progress.now c.known.ensures.order c.if-progress.false is)
    c.shift_book.ensures.ok
