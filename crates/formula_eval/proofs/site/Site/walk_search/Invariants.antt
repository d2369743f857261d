use Rattle.std.proofs.Common.{◌≡◌, ◌∷◌, ◌-◌, length}
use Rattle.cell_values.specs.Areas.{walk}
use Rattle.demand_spec.specs.Book.{look}
use Rattle.formula_eval.specs.declared.work.Work.TheVariants.{Search}
use Rattle.formula_eval.specs.declared.work.Frame.TheVariants.{At}
use Rattle.formula_eval.specs.declared.work.Step.{Step}
use Rattle.formula_eval.specs.Machine.{Fits}
use Rattle.formula_eval.specs.Evaluations.{Along}
use Rattle.formula_eval.proofs.site.Site.walk_search.Given as goal

abbrev pub invariant-loop-n : goal.invariant-loop-n
invariant-loop-n g l = record {
  along : Along l.self.pool.now l.self.texts.now l.self.at (look (g.K.Known.book l.initial.known) (g.K.Known.values l.initial.known)) (Step.Give l.initial.v) (At l.on.id (Search l.initial.n l.on.key) ∷ l.initial.frames.frames) (Step.Give l.v) (At l.on.id (Search l.n l.on.key) ∷ l.frames.frames) (g.K.Known.looks l.initial.known) (g.K.Known.looks l.known);
  fits : Fits l.self.pool.now l.self.texts.now l.self.at l.frames.room (Step.Give l.v) (At l.on.id (Search l.n l.on.key) ∷ l.frames.frames);
  room : l.frames.room ≡ l.initial.frames.room;
  book : g.K.Known.book l.known ≡ g.K.Known.book l.initial.known;
  values : g.K.Known.values l.known ≡ g.K.Known.values l.initial.known;
}

abbrev pub decreases-loop-n : goal.decreases-loop-n
decreases-loop-n g l = length (walk l.on.area) - l.n
