use Rattle.std.proofs.Common.{Some, ap, ◌∙◌, arith}
use Rattle.demand_spec.specs.declared.Asked.TheVariants.{Needs}
use Rattle.cycle_finder.proofs.Told.{chain_more}
use Rattle.cycle_finder.proofs.tests.ask_ring.Goals as goal

pub loop-i-preserved : goal.loop-i-preserved
loop-i-preserved g c = chain_more c.args.book.now.book c.args.told.now.entries c.args.ring.now c.loop-i.i c.args.first _ (omega arith) c.requires c.loop-i.invariant (c.ask_need.ensures ∙ ap (λ z. Some (Needs z)) c.next_of-next.ensures)
