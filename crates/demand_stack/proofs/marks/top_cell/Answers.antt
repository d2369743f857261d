use Rattle.std.proofs.Common.{◌≡◌, ◌<◌, ◌∷◌, List, length, reverse, ap, arith}
use Rattle.std.proofs.lemmas.List.{length-reverse}
use Rattle.worker_machine.specs.declared.state.Entry.{Entry}
use Rattle.demand_stack.proofs.Downward.{no_entry, cells_from, top_is_last}
use Rattle.demand_stack.proofs.marks.top_cell.Goals as goal

some : (xs : List Entry) (f : Entry) (rest : List Entry) → reverse xs ≡ f ∷ rest → 0 < length xs
some xs f rest e = (let a = length-reverse xs in let b : length (reverse xs) ≡ length (f ∷ rest) = ap length e in omega arith)

pub returns : goal.returns
returns c = (cells_from 1 c.args.stack.now, top_is_last c.args.stack.now no_entry (some c.args.stack.now c.requires.0 c.requires.1 c.requires.2))
