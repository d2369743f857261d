use Rattle.std.proofs.Common.{◌∙◌, sym}
use Rattle.trace_text.proofs.Taken.{event_taken}
use Rattle.trace_text.proofs.lines.TraceText.next_line.Goals as goal

pub returns-clause-line : goal.returns-clause-line
returns-clause-line c = sym c.self.view_is ∙ rw c.in_ok-line-2.ensures (event_taken _ _ _ _ _ _ _ c.in_default.not-Some c.if-self.false c.ended_with-self-inside.ensures.ended)
