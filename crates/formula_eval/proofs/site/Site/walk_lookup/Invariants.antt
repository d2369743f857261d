use Rattle.std.proofs.Common.{◌≡◌, ◌∷◌, ◌-◌, length}
use Rattle.demand_spec.specs.Book.{look}
use Rattle.formula_eval.specs.declared.work.Work.TheVariants.{Lookup}
use Rattle.formula_eval.specs.declared.work.Frame.TheVariants.{At}
use Rattle.formula_eval.specs.declared.work.Step.{Step}
use Rattle.formula_eval.specs.Machine.{line_of, Fits}
use Rattle.formula_eval.specs.Evaluations.{Along}
use Rattle.formula_eval.proofs.site.Site.walk_lookup.Given as goal

abbrev pub invariant-loop-v : goal.invariant-loop-v
invariant-loop-v g l = record {
  along : Along l.self.pool.now l.self.texts.now l.self.at (look (g.K.Known.book l.initial.known) (g.K.Known.values l.initial.known)) (Step.Give l.initial.v) (At l.on.call.id (Lookup l.on.m l.initial.n l.on.key) ∷ l.initial.frames.frames) (Step.Give l.v) (At l.on.call.id (Lookup l.on.m l.n l.on.key) ∷ l.frames.frames) (g.K.Known.looks l.initial.known) (g.K.Known.looks l.known);
  fits : Fits l.self.pool.now l.self.texts.now l.self.at l.frames.room (Step.Give l.v) (At l.on.call.id (Lookup l.on.m l.n l.on.key) ∷ l.frames.frames);
  room : l.frames.room ≡ l.initial.frames.room;
  book : g.K.Known.book l.known ≡ g.K.Known.book l.initial.known;
  values : g.K.Known.values l.known ≡ g.K.Known.values l.initial.known;
}

abbrev pub decreases-loop-v : goal.decreases-loop-v
decreases-loop-v g l = length (line_of l.on.call.fun l.on.area) - l.n
