use Rattle.speculative_eval.proofs.Becoming.{tag_learns, tag_pushes}
use Rattle.speculative_eval.proofs.machine.Machine.note_tag.Goals as goal

pub learn-requires : goal.learn-requires
learn-requires c = tag_learns c.args.self.now c.in-ReadingTag.cell c.in-ReadingTag.rec c.args.tag c.in-ReadingTag.is c.if-tag-eq-TO_CYCLE.true c.requires

pub push-requires : goal.push-requires
push-requires c = tag_pushes c.args.self.now c.in-ReadingTag.cell c.in-ReadingTag.rec c.args.tag c.in-ReadingTag.is c.if-tag-eq-CYCLE.true c.requires
