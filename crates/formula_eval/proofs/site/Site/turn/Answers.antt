use Rattle.std.proofs.Common.{sym, subst, arith}
use Rattle.cell_values.specs.declared.address.Addr.{Addr}
use Rattle.cell_values.specs.Values.{IsValueOf}
use Rattle.demand_spec.specs.declared.Asked.{Asked}
use Rattle.demand_spec.specs.declared.Asked.TheVariants.{Needs}
use Rattle.demand_spec.specs.Book.{look}
use Rattle.formula_eval.specs.declared.work.Step.{Step}
use Rattle.formula_eval.specs.Evaluations.{Advances, Comes, Turns}
use Rattle.formula_eval.proofs.Turns.{advance_eval, advance_look, along_none, along_stops, fits_eval, fits_look, fits_given}
use Rattle.formula_eval.proofs.site.Site.turn.Goals as goal

pub start-requires : goal.start-requires
start-requires g c = fits_eval c.args.self.now.pool.now c.args.self.now.texts.now c.args.self.now.at c.args.frames.now.room c.args.step c.args.frames.now.frames c.in-Eval.id c.requires.fits c.in-Eval.is

pub take_value-requires-clause-fits : goal.take_value-requires-clause-fits
take_value-requires-clause-fits g c = fits_given c.args.self.now.pool.now c.args.self.now.texts.now c.args.self.now.at c.args.frames.now.room c.pop.new.self.room c.args.step c.args.frames.now.frames c.pop.new.self.frames c.in-Some.id c.in-Some.work c.in-Give.v c.requires.fits c.in-Give.is c.in-Some.ensures.some c.pop.ensures.room

pub push-requires : goal.push-requires
push-requires g c = fits_look c.args.self.now.pool.now c.args.self.now.texts.now c.args.self.now.at c.args.frames.now.room c.args.step c.args.frames.now.frames c.in-Look.a c.requires.fits c.in-Look.is

pub returns-in-Eval-clause-turns : goal.returns-in-Eval-clause-turns
returns-in-Eval-clause-turns g c =
    let l : Addr → Asked = look (g.K.Known.book c.args.known.now) (g.K.Known.values c.args.known.now) in
    subst (λ z. Advances c.args.self.now.pool.now c.args.self.now.texts.now c.args.self.now.at l z c.args.frames.now.frames c.start.result c.start.new.frames.frames (g.K.Known.looks c.args.known.now) (g.K.Known.looks c.args.known.now)) (sym c.in-Eval.is)
    (advance_eval c.args.self.now.pool.now c.args.self.now.texts.now c.args.self.now.at l c.in-Eval.id c.args.frames.now.frames c.start.result c.start.new.frames.frames (g.K.Known.looks c.args.known.now) (c.start.ensures.starts))

pub returns-in-Some-clause-turns : goal.returns-in-Some-clause-turns
returns-in-Some-clause-turns g c =
    let l : Addr → Asked = look (g.K.Known.book c.args.known.now) (g.K.Known.values c.args.known.now) in
    subst (λ z. Turns c.args.self.now.pool.now c.args.self.now.texts.now c.args.self.now.at l z c.args.frames.now.frames c.take_value.result c.take_value.new.frames.frames (g.K.Known.looks c.args.known.now) (g.K.Known.looks c.take_value.new.known)) (sym c.in-Give.is)
    (subst (λ z. Turns c.args.self.now.pool.now c.args.self.now.texts.now c.args.self.now.at l (Step.Give c.in-Give.v) z c.take_value.result c.take_value.new.frames.frames (g.K.Known.looks c.args.known.now) (g.K.Known.looks c.take_value.new.known)) (sym c.in-Some.ensures.some) c.take_value.ensures.turns)

pub returns-in-Missing-clause-turns : goal.returns-in-Missing-clause-turns
returns-in-Missing-clause-turns g c =
    let l : Addr → Asked = look (g.K.Known.book c.args.known.now) (g.K.Known.values c.args.known.now) in
    subst (λ z. Comes c.args.self.now.pool.now c.args.self.now.texts.now c.args.self.now.at l z c.args.frames.now.frames (Needs c.in-Look.a) c.push.new.self.frames (g.K.Known.looks c.args.known.now) (g.K.Known.looks c.look.new.self)) (sym c.in-Look.is)
    (along_stops c.args.self.now.pool.now c.args.self.now.texts.now c.args.self.now.at l (Step.Look c.in-Look.a) c.args.frames.now.frames c.in-Look.a c.args.frames.now.frames c.push.new.self.frames (g.K.Known.looks c.args.known.now) (g.K.Known.looks c.args.known.now) (g.K.Known.looks c.look.new.self)
    (along_none c.args.self.now.pool.now c.args.self.now.texts.now c.args.self.now.at l (Step.Look c.in-Look.a) c.args.frames.now.frames (g.K.Known.looks c.args.known.now))
    c.in-Missing.ensures.found c.push.ensures.frames (omega (arith, c.look.ensures.looks)))

pub returns-in-Val-clause-turns : goal.returns-in-Val-clause-turns
returns-in-Val-clause-turns g c =
    let l : Addr → Asked = look (g.K.Known.book c.args.known.now) (g.K.Known.values c.args.known.now) in
    subst (λ z. Advances c.args.self.now.pool.now c.args.self.now.texts.now c.args.self.now.at l z c.args.frames.now.frames (Step.Give c.in-Val.v) c.args.frames.now.frames (g.K.Known.looks c.args.known.now) (g.K.Known.looks c.look.new.self)) (sym c.in-Look.is)
    (advance_look c.args.self.now.pool.now c.args.self.now.texts.now c.args.self.now.at l c.in-Look.a c.in-Val.v c.args.frames.now.frames (g.K.Known.looks c.args.known.now) (g.K.Known.looks c.look.new.self) c.in-Val.ensures.found (subst (λ z. IsValueOf z c.in-Val.v) (sym c.requires.texts) c.in-Val.ensures.texts) (omega (arith, c.look.ensures.looks)))
