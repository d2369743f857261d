-- A worker's stack is no higher than the cells are many.
use Rattle.std.proofs.Common.{◌≡◌, suc, ◌+◌, ◌<◌, List, [], ◌∷◌, length, refl, ap, arith}
use Rattle.cell_words.specs.declared.TheConstants.{WORDS}
use Rattle.cell_words.proofs.Counts.{one_word_at_least, tag_words_small}
use Rattle.claim_core.specs.declared.view.View.{View}
use Rattle.worker_machine.specs.declared.state.Entry.{Entry}
use Rattle.worker_machine.specs.Jobs.{Job}
use Rattle.worker_machine.specs.Evaluation.{cells_of}
use Rattle.worker_machine.specs.States.{Phase, Free, Claiming, ReadingTag, ReadingValue}
use Rattle.worker_machine.specs.Invariant.{open_cells, ReadsDone}
use Rattle.worker_machine.specs.Runs.{looked_at, words_of, StaysSmall}
use Rattle.worker_machine.proofs.Evaluating.{few_numbers}

length_cells : (fs : List Entry) → length (cells_of fs) ≡ length fs
length_cells [] = refl
length_cells (f ∷ fs) = ap suc (length_cells fs)

length_open : (p : Phase) (fs : List Entry) → length (open_cells p (cells_of fs)) ≡ length fs + looked_at p
length_open Free fs = omega (arith, length_cells fs)
length_open (Claiming i) fs = omega (arith, length_cells fs)
length_open (ReadingTag i r) fs = omega (arith, length_cells fs)
length_open (ReadingValue i r t words) fs = omega (arith, length_cells fs)

few_words_read : (j : Job) (v : View) (p : Phase) → ReadsDone j v p → length (words_of p) < WORDS
few_words_read j v Free o = omega (arith, one_word_at_least)
few_words_read j v (Claiming i) o = omega (arith, one_word_at_least)
few_words_read j v (ReadingTag i r) o = omega (arith, one_word_at_least)
few_words_read j v (ReadingValue i r t words) o = (let more = o.1.more in omega (arith, more, tag_words_small t))

pub stays_small : StaysSmall
stays_small j v s h =
    let o = h.state.evaluation in
    let few = few_numbers j.pending h.job.pending (open_cells s.phase (cells_of s.stack)) o.below o.differ in
    (omega (arith, length_open s.phase s.stack, few), few_words_read j v s.phase h.state.tied.reading)
