use Rattle.std.proofs.Common.{◌∷◌, refl}
use Rattle.demand_spec.specs.Book.{look}
use Rattle.formula_eval.specs.declared.work.Frame.TheVariants.{At}
use Rattle.formula_eval.proofs.Turns.{advance_give}
use Rattle.formula_eval.proofs.site.Site.take_value.Goals as goal

pub returns-in-None-clause-turns : goal.returns-in-None-clause-turns
returns-in-None-clause-turns g c = advance_give c.args.self.now.pool.now c.args.self.now.texts.now c.args.self.now.at (look (g.K.Known.book c.args.known.now) (g.K.Known.values c.args.known.now)) c.args.id c.args.work c.args.v c.args.frames.now.frames (At c.args.id c.args.work ∷ c.args.frames.now.frames) c.go_on.result c.go_on.new.frames.frames (g.K.Known.looks c.args.known.now) refl c.go_on.ensures.goes
