use Rattle.std.proofs.Common.{◌≡◌}
use Rattle.demand_spec.specs.Book.{look}
use Rattle.formula_eval.specs.Machine.{Fits, left}
use Rattle.formula_eval.specs.Evaluations.{Along}
use Rattle.formula_eval.proofs.site.Site.run.Given as goal

abbrev pub invariant-loop-next : goal.invariant-loop-next
invariant-loop-next g l = record {
  along : Along l.self.pool.now l.self.texts.now l.self.at (look (g.K.Known.book l.initial.known) (g.K.Known.values l.initial.known)) l.initial.step l.initial.frames.frames l.step l.frames.frames (g.K.Known.looks l.initial.known) (g.K.Known.looks l.known);
  fits : Fits l.self.pool.now l.self.texts.now l.self.at l.frames.room l.step l.frames.frames;
  room : l.frames.room ≡ l.initial.frames.room;
  book : g.K.Known.book l.known ≡ g.K.Known.book l.initial.known;
  values : g.K.Known.values l.known ≡ g.K.Known.values l.initial.known;
}

abbrev pub decreases-loop-next : goal.decreases-loop-next
decreases-loop-next g l = left l.self.pool.now l.self.at l.step l.frames.frames
