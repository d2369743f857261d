use Rattle.std.proofs.Common.{true, false, sym, subst, Bool}
use Rattle.support_graph.specs.Blocks.{same_key}
use Rattle.support_graph.specs.Steps.{Sets}
use Rattle.support_graph.proofs.Orders.{key_cmp, is_eq-key}
use Rattle.support_graph.proofs.Changes.{changes_one}
use Rattle.support_graph.proofs.index.set_key.Goals as goal

pub returns-in_ok-insert-clause-sets : goal.returns-in_ok-insert-clause-sets
returns-in_ok-insert-clause-sets c = subst (λ (b : Bool). Sets (same_key c.args.key) b true c.args.blocks.now.keys c.insert.new.self.keys) (sym c.if-present.true) (changes_one key_cmp same_key is_eq-key c.args.key true true c.args.blocks.now.keys c.insert.new.self.keys c.in_ok-insert.ensures.updates.0)

pub returns-else-present-clause-sets : goal.returns-else-present-clause-sets
returns-else-present-clause-sets c = subst (λ (b : Bool). Sets (same_key c.args.key) b true c.args.blocks.now.keys c.remove.new.self.keys) (sym c.if-present.false) (changes_one key_cmp same_key is_eq-key c.args.key false true c.args.blocks.now.keys c.remove.new.self.keys c.remove.ensures.updates.0)
