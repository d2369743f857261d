use Rattle.std.proofs.Common.{◌≡◌, refl, sym, ap, ◌∙◌, subst}
use Rattle.cell_values.specs.declared.address.Addr.{Addr}
use Rattle.demand_spec.specs.declared.Asked.{Asked}
use Rattle.demand_spec.specs.Book.{look}
use Rattle.formula_eval.specs.Machine.{Fits}
use Rattle.formula_eval.specs.Evaluations.{Advances, Comes}
use Rattle.formula_eval.proofs.Turns.{along_none, along_more, along_comes}
use Rattle.formula_eval.proofs.site.Site.run.Goals as goal

pub loop-next-init : goal.loop-next-init
loop-next-init g c = record {
  along = along_none c.args.self.now.pool.now c.args.self.now.texts.now c.args.self.now.at (look (g.K.Known.book c.args.known.now) (g.K.Known.values c.args.known.now)) c.args.first c.args.frames.now.frames (g.K.Known.looks c.args.known.now);
  fits = c.requires.fits;
  room = refl;
  book = refl;
  values = refl;
}

pub turn-requires-clause-texts : goal.turn-requires-clause-texts
turn-requires-clause-texts g c = c.requires.texts ∙ ap (λ z. z.texts) (sym c.loop-next.invariant.book)

pub loop-next-preserved : goal.loop-next-preserved
loop-next-preserved g c =
    let l : Addr → Asked = look (g.K.Known.book c.args.known.now) (g.K.Known.values c.args.known.now) in
    let same : look (g.K.Known.book c.loop-next.known) (g.K.Known.values c.loop-next.known) ≡ l = (λ i. look (c.loop-next.invariant.book i) (c.loop-next.invariant.values i)) in
    let t : Advances c.args.self.now.pool.now c.args.self.now.texts.now c.args.self.now.at l c.loop-next.step c.loop-next.frames.frames c.in-Ok.next c.turn.new.frames.frames (g.K.Known.looks c.loop-next.known) (g.K.Known.looks c.turn.new.known) = subst (λ z. Advances c.args.self.now.pool.now c.args.self.now.texts.now c.args.self.now.at z c.loop-next.step c.loop-next.frames.frames c.in-Ok.next c.turn.new.frames.frames (g.K.Known.looks c.loop-next.known) (g.K.Known.looks c.turn.new.known)) same c.in-Ok.ensures.turns in
    record {
      along = along_more c.args.self.now.pool.now c.args.self.now.texts.now c.args.self.now.at l c.args.first c.args.frames.now.frames c.loop-next.step c.loop-next.frames.frames c.in-Ok.next c.turn.new.frames.frames (g.K.Known.looks c.args.known.now) (g.K.Known.looks c.loop-next.known) (g.K.Known.looks c.turn.new.known) c.loop-next.invariant.along t;
      fits = subst (λ z. Fits c.args.self.now.pool.now c.args.self.now.texts.now c.args.self.now.at z c.in-Ok.next c.turn.new.frames.frames) (sym c.turn.ensures.room) (t.fits c.loop-next.frames.room c.loop-next.invariant.fits);
      room = c.turn.ensures.room ∙ c.loop-next.invariant.room;
      book = c.turn.ensures.book ∙ c.loop-next.invariant.book;
      values = c.turn.ensures.values ∙ c.loop-next.invariant.values;
    }

pub returns-in-Err-clause-comes : goal.returns-in-Err-clause-comes
returns-in-Err-clause-comes g c =
    let l : Addr → Asked = look (g.K.Known.book c.args.known.now) (g.K.Known.values c.args.known.now) in
    let same : look (g.K.Known.book c.loop-next.known) (g.K.Known.values c.loop-next.known) ≡ l = (λ i. look (c.loop-next.invariant.book i) (c.loop-next.invariant.values i)) in
    along_comes c.args.self.now.pool.now c.args.self.now.texts.now c.args.self.now.at l c.args.first c.args.frames.now.frames c.loop-next.step c.loop-next.frames.frames c.in-Err.answer c.turn.new.frames.frames (g.K.Known.looks c.args.known.now) (g.K.Known.looks c.loop-next.known) (g.K.Known.looks c.turn.new.known) c.loop-next.invariant.along
    (subst (λ z. Comes c.args.self.now.pool.now c.args.self.now.texts.now c.args.self.now.at z c.loop-next.step c.loop-next.frames.frames c.in-Err.answer c.turn.new.frames.frames (g.K.Known.looks c.loop-next.known) (g.K.Known.looks c.turn.new.known)) same c.in-Err.ensures.turns)
