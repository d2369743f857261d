use Rattle.trace_text.proofs.Counted.{counted_less_at}
use Rattle.trace_text.proofs.counting.ended_with.Goals as goal

pub returns-then-contains-clause-counts : goal.returns-then-contains-clause-counts
returns-then-contains-clause-counts c = λ t later e. counted_less_at _ c.args.events.now c.args.at _ t later e c.requires.counts

pub returns-else-contains-clause-counts : goal.returns-else-contains-clause-counts
returns-else-contains-clause-counts c = λ t later e. counted_less_at _ c.args.events.now c.args.at _ t later e c.requires.counts
