use Rattle.std.proofs.Common.{◌≡◌, ◌∷◌, ◌+◌, refl, sym, ap, ◌∙◌, subst, arith}
use Rattle.cell_values.specs.declared.address.Addr.{Addr}
use Rattle.cell_values.specs.Values.{IsValueOf}
use Rattle.demand_spec.specs.declared.Asked.{Asked}
use Rattle.demand_spec.specs.declared.Asked.TheVariants.{Val, Needs}
use Rattle.demand_spec.specs.Book.{look}
use Rattle.formula_eval.specs.declared.work.Work.TheVariants.{Search}
use Rattle.formula_eval.specs.declared.work.Frame.TheVariants.{At}
use Rattle.formula_eval.specs.declared.work.Step.{Step}
use Rattle.formula_eval.specs.Machine.{GoesOn}
use Rattle.formula_eval.specs.Evaluations.{Along}
use Rattle.formula_eval.proofs.Turns.{along_none}
use Rattle.formula_eval.proofs.Visits.{visit_found, visit_stops, visit_ends, match_next}
use Rattle.formula_eval.proofs.site.Site.walk_search.Goals as goal

pub loop-n-init : goal.loop-n-init
loop-n-init g c = record {
  along = along_none c.args.self.now.pool.now c.args.self.now.texts.now c.args.self.now.at (look (g.K.Known.book c.args.known.now) (g.K.Known.values c.args.known.now)) (Step.Give c.args.first) (At c.args.on.id (Search c.args.on.n c.args.on.key) ∷ c.args.frames.now.frames) (g.K.Known.looks c.args.known.now);
  fits = c.requires.fits;
  room = refl;
  book = refl;
  values = refl;
}

pub loop-n-preserved : goal.loop-n-preserved
loop-n-preserved g c =
    let l : Addr → Asked = look (g.K.Known.book c.args.known.now) (g.K.Known.values c.args.known.now) in
    let same : look (g.K.Known.book c.loop-n.known) (g.K.Known.values c.loop-n.known) ≡ l = (λ i. look (c.loop-n.invariant.book i) (c.loop-n.invariant.values i)) in
    let found : Val c.in-Val.next ≡ l c.nth-a.result = c.in-Val.ensures.found ∙ ap (λ z. z c.nth-a.result) same in
    let meant : IsValueOf c.args.self.now.texts.now c.in-Val.next = subst (λ z. IsValueOf z c.in-Val.next) (sym (c.requires.texts ∙ ap (λ z. z.texts) (sym c.loop-n.invariant.book))) c.in-Val.ensures.texts in
    let goes : GoesOn c.args.self.now.pool.now c.args.self.now.texts.now c.args.self.now.at c.args.on.id (Search c.loop-n.n c.args.on.key) c.loop-n.v c.loop-n.frames.frames (Step.Look c.nth-a.result) (At c.args.on.id (Search (c.loop-n.n + 1) c.args.on.key) ∷ c.loop-n.frames.frames) = match_next c.args.self.now.pool.now c.args.self.now.texts.now c.args.self.now.at c.args.on c.loop-n.n c.loop-n.v c.nth-a.result c.loop-n.frames.frames c.requires.walk c.loop-n.invariant.fits.frames.2 (sym c.is_found.ensures ∙ c.if-is_found.false) c.nth-a.ensures in
    let along : Along c.args.self.now.pool.now c.args.self.now.texts.now c.args.self.now.at l (Step.Give c.args.first) (At c.args.on.id (Search c.args.on.n c.args.on.key) ∷ c.args.frames.now.frames) (Step.Give c.in-Val.next) (At c.args.on.id (Search (c.loop-n.n + 1) c.args.on.key) ∷ c.loop-n.frames.frames) (g.K.Known.looks c.args.known.now) (g.K.Known.looks c.look.new.self) =
    visit_found c.args.self.now.pool.now c.args.self.now.texts.now c.args.self.now.at l c.args.on.id (Search c.loop-n.n c.args.on.key) (Search (c.loop-n.n + 1) c.args.on.key) c.loop-n.v c.in-Val.next c.nth-a.result (Step.Give c.args.first) (At c.args.on.id (Search c.args.on.n c.args.on.key) ∷ c.args.frames.now.frames) c.loop-n.frames.frames (g.K.Known.looks c.args.known.now) (g.K.Known.looks c.loop-n.known) (g.K.Known.looks c.look.new.self) goes found meant (omega (arith, c.look.ensures.looks)) c.loop-n.invariant.along in
    record {
      along = along;
      fits = record { step = meant; frames = c.loop-n.invariant.fits.frames };
      room = c.loop-n.invariant.room;
      book = c.look.ensures.book ∙ c.loop-n.invariant.book;
      values = c.look.ensures.values ∙ c.loop-n.invariant.values;
    }

pub returns-in-Missing-clause-turns : goal.returns-in-Missing-clause-turns
returns-in-Missing-clause-turns g c =
    let l : Addr → Asked = look (g.K.Known.book c.args.known.now) (g.K.Known.values c.args.known.now) in
    let same : look (g.K.Known.book c.loop-n.known) (g.K.Known.values c.loop-n.known) ≡ l = (λ i. look (c.loop-n.invariant.book i) (c.loop-n.invariant.values i)) in
    let lacks : Needs c.nth-a.result ≡ l c.nth-a.result = c.in-Missing.ensures.found ∙ ap (λ z. z c.nth-a.result) same in
    let goes : GoesOn c.args.self.now.pool.now c.args.self.now.texts.now c.args.self.now.at c.args.on.id (Search c.loop-n.n c.args.on.key) c.loop-n.v c.loop-n.frames.frames (Step.Look c.nth-a.result) (At c.args.on.id (Search (c.loop-n.n + 1) c.args.on.key) ∷ c.loop-n.frames.frames) = match_next c.args.self.now.pool.now c.args.self.now.texts.now c.args.self.now.at c.args.on c.loop-n.n c.loop-n.v c.nth-a.result c.loop-n.frames.frames c.requires.walk c.loop-n.invariant.fits.frames.2 (sym c.is_found.ensures ∙ c.if-is_found.false) c.nth-a.ensures in
    visit_stops c.args.self.now.pool.now c.args.self.now.texts.now c.args.self.now.at l c.args.on.id (Search c.loop-n.n c.args.on.key) (Search (c.loop-n.n + 1) c.args.on.key) c.loop-n.v c.nth-a.result (Step.Give c.args.first) (At c.args.on.id (Search c.args.on.n c.args.on.key) ∷ c.args.frames.now.frames) c.loop-n.frames.frames c.push.new.self.frames c.push-in-Missing.new.self.frames (g.K.Known.looks c.args.known.now) (g.K.Known.looks c.loop-n.known) (g.K.Known.looks c.look.new.self) goes lacks c.push.ensures.frames c.push-in-Missing.ensures.frames (omega (arith, c.look.ensures.looks)) c.loop-n.invariant.along

pub returns-then-size-n-clause-turns : goal.returns-then-size-n-clause-turns
returns-then-size-n-clause-turns g c = visit_ends c.args.self.now.pool.now c.args.self.now.texts.now c.args.self.now.at (look (g.K.Known.book c.args.known.now) (g.K.Known.values c.args.known.now)) c.args.on.id (Search c.loop-n.n c.args.on.key) c.loop-n.v (Step.Give c.args.first) (At c.args.on.id (Search c.args.on.n c.args.on.key) ∷ c.args.frames.now.frames) c.loop-n.frames.frames c.go_on.result c.go_on.new.frames.frames (g.K.Known.looks c.args.known.now) (g.K.Known.looks c.loop-n.known) c.go_on.ensures.goes c.loop-n.invariant.along
