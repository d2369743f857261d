use Rattle.std.proofs.Common.{◌≡◌, ◌∷◌, ◌+◌, ◌<◌, length, refl, sym, ap, ◌∙◌, subst, arith}
use Rattle.cell_values.specs.declared.address.Addr.{Addr}
use Rattle.cell_values.specs.Values.{IsValueOf}
use Rattle.demand_spec.specs.declared.Asked.{Asked}
use Rattle.demand_spec.specs.declared.Asked.TheVariants.{Val, Needs}
use Rattle.demand_spec.specs.Book.{look}
use Rattle.formula_eval.specs.declared.work.Work.TheVariants.{Lookup}
use Rattle.formula_eval.specs.declared.work.Frame.TheVariants.{At}
use Rattle.formula_eval.specs.declared.work.Step.{Step}
use Rattle.formula_eval.specs.Machine.{across, line_of, GoesOn, Fits}
use Rattle.formula_eval.specs.Evaluations.{Along}
use Rattle.formula_eval.proofs.Searches.{line_few}
use Rattle.formula_eval.proofs.Turns.{along_none}
use Rattle.formula_eval.proofs.Visits.{visit_found, visit_stops, visit_ends, line_is, line_next}
use Rattle.formula_eval.proofs.site.Site.walk_lookup.Goals as goal

pub loop-v-init : goal.loop-v-init
loop-v-init g c = record {
  along = along_none c.args.self.now.pool.now c.args.self.now.texts.now c.args.self.now.at (look (g.K.Known.book c.args.known.now) (g.K.Known.values c.args.known.now)) (Step.Give c.args.first) (At c.args.on.call.id (Lookup c.args.on.m c.args.on.n c.args.on.key) ∷ c.args.frames.now.frames) (g.K.Known.looks c.args.known.now);
  fits = c.requires.fits;
  room = refl;
  book = refl;
  values = refl;
}

pub loop-v-preserved : goal.loop-v-preserved
loop-v-preserved g c =
    let l : Addr → Asked = look (g.K.Known.book c.args.known.now) (g.K.Known.values c.args.known.now) in
    let same : look (g.K.Known.book c.loop-v.known) (g.K.Known.values c.loop-v.known) ≡ l = (λ i. look (c.loop-v.invariant.book i) (c.loop-v.invariant.values i)) in
    let found : Val c.in-Val.next ≡ l c.in-false-Some.a = c.in-Val.ensures.found ∙ ap (λ z. z c.in-false-Some.a) same in
    let meant : IsValueOf c.args.self.now.texts.now c.in-Val.next = subst (λ z. IsValueOf z c.in-Val.next) (sym (c.requires.texts ∙ ap (λ z. z.texts) (sym c.loop-v.invariant.book))) c.in-Val.ensures.texts in
    let goes : GoesOn c.args.self.now.pool.now c.args.self.now.texts.now c.args.self.now.at c.args.on.call.id (Lookup c.args.on.m c.loop-v.n c.args.on.key) c.loop-v.v c.loop-v.frames.frames (Step.Look c.in-false-Some.a) (At c.args.on.call.id (Lookup c.args.on.m (c.loop-v.n + 1) c.args.on.key) ∷ c.loop-v.frames.frames) = line_next c.args.self.now.pool.now c.args.self.now.texts.now c.args.self.now.at c.args.on c.args.on.m c.loop-v.n c.loop-v.v c.in-false-Some.a c.loop-v.frames.frames c.requires.walk c.loop-v.invariant.fits.frames.2.0 (line_is c.args.self.now.pool.now c.args.self.now.at c.args.on c.args.on.m c.loop-v.n c.requires.walk c.loop-v.invariant.fits.frames.2.1).0 (sym c.in-false-Some.ensures) c.in-false-Some.ensures'.same in
    let along : Along c.args.self.now.pool.now c.args.self.now.texts.now c.args.self.now.at l (Step.Give c.args.first) (At c.args.on.call.id (Lookup c.args.on.m c.args.on.n c.args.on.key) ∷ c.args.frames.now.frames) (Step.Give c.in-Val.next) (At c.args.on.call.id (Lookup c.args.on.m (c.loop-v.n + 1) c.args.on.key) ∷ c.loop-v.frames.frames) (g.K.Known.looks c.args.known.now) (g.K.Known.looks c.look.new.self) =
    visit_found c.args.self.now.pool.now c.args.self.now.texts.now c.args.self.now.at l c.args.on.call.id (Lookup c.args.on.m c.loop-v.n c.args.on.key) (Lookup c.args.on.m (c.loop-v.n + 1) c.args.on.key) c.loop-v.v c.in-Val.next c.in-false-Some.a (Step.Give c.args.first) (At c.args.on.call.id (Lookup c.args.on.m c.args.on.n c.args.on.key) ∷ c.args.frames.now.frames) c.loop-v.frames.frames (g.K.Known.looks c.args.known.now) (g.K.Known.looks c.loop-v.known) (g.K.Known.looks c.look.new.self) goes found meant (omega (arith, c.look.ensures.looks)) c.loop-v.invariant.along in
    record {
      along = along;
      fits = subst (λ z. Fits c.args.self.now.pool.now c.args.self.now.texts.now c.args.self.now.at z (Step.Give c.in-Val.next) (At c.args.on.call.id (Lookup c.args.on.m (c.loop-v.n + 1) c.args.on.key) ∷ c.loop-v.frames.frames)) (sym c.loop-v.invariant.room) (along.fits c.args.frames.now.room c.requires.fits);
      room = c.loop-v.invariant.room;
      book = c.look.ensures.book ∙ c.loop-v.invariant.book;
      values = c.look.ensures.values ∙ c.loop-v.invariant.values;
    }

pub returns-in-Missing-clause-turns : goal.returns-in-Missing-clause-turns
returns-in-Missing-clause-turns g c =
    let l : Addr → Asked = look (g.K.Known.book c.args.known.now) (g.K.Known.values c.args.known.now) in
    let same : look (g.K.Known.book c.loop-v.known) (g.K.Known.values c.loop-v.known) ≡ l = (λ i. look (c.loop-v.invariant.book i) (c.loop-v.invariant.values i)) in
    let lacks : Needs c.in-false-Some.a ≡ l c.in-false-Some.a = c.in-Missing.ensures.found ∙ ap (λ z. z c.in-false-Some.a) same in
    let goes : GoesOn c.args.self.now.pool.now c.args.self.now.texts.now c.args.self.now.at c.args.on.call.id (Lookup c.args.on.m c.loop-v.n c.args.on.key) c.loop-v.v c.loop-v.frames.frames (Step.Look c.in-false-Some.a) (At c.args.on.call.id (Lookup c.args.on.m (c.loop-v.n + 1) c.args.on.key) ∷ c.loop-v.frames.frames) = line_next c.args.self.now.pool.now c.args.self.now.texts.now c.args.self.now.at c.args.on c.args.on.m c.loop-v.n c.loop-v.v c.in-false-Some.a c.loop-v.frames.frames c.requires.walk c.loop-v.invariant.fits.frames.2.0 (line_is c.args.self.now.pool.now c.args.self.now.at c.args.on c.args.on.m c.loop-v.n c.requires.walk c.loop-v.invariant.fits.frames.2.1).0 (sym c.in-false-Some.ensures) c.in-false-Some.ensures'.same in
    visit_stops c.args.self.now.pool.now c.args.self.now.texts.now c.args.self.now.at l c.args.on.call.id (Lookup c.args.on.m c.loop-v.n c.args.on.key) (Lookup c.args.on.m (c.loop-v.n + 1) c.args.on.key) c.loop-v.v c.in-false-Some.a (Step.Give c.args.first) (At c.args.on.call.id (Lookup c.args.on.m c.args.on.n c.args.on.key) ∷ c.args.frames.now.frames) c.loop-v.frames.frames c.push.new.self.frames c.push-in-Missing.new.self.frames (g.K.Known.looks c.args.known.now) (g.K.Known.looks c.loop-v.known) (g.K.Known.looks c.look.new.self) goes lacks c.push.ensures.frames c.push-in-Missing.ensures.frames (omega (arith, c.look.ensures.looks)) c.loop-v.invariant.along

pub returns-in_default-clause-turns : goal.returns-in_default-clause-turns
returns-in_default-clause-turns g c = visit_ends c.args.self.now.pool.now c.args.self.now.texts.now c.args.self.now.at (look (g.K.Known.book c.args.known.now) (g.K.Known.values c.args.known.now)) c.args.on.call.id (Lookup c.args.on.m c.loop-v.n c.args.on.key) c.loop-v.v (Step.Give c.args.first) (At c.args.on.call.id (Lookup c.args.on.m c.args.on.n c.args.on.key) ∷ c.args.frames.now.frames) c.loop-v.frames.frames c.go_on.result c.go_on.new.frames.frames (g.K.Known.looks c.args.known.now) (g.K.Known.looks c.loop-v.known) c.go_on.ensures.goes c.loop-v.invariant.along

pub overflow_add-n : goal.overflow_add-n
overflow_add-n g c =
    let line : (c.args.on.m < across c.args.on.call.fun c.args.on.area) × (c.loop-v.n < length (line_of c.args.on.call.fun c.args.on.area)) = line_is c.args.self.now.pool.now c.args.self.now.at c.args.on c.args.on.m c.loop-v.n c.requires.walk c.loop-v.invariant.fits.frames.2.1 in
    omega (arith, line.1, line_few c.args.on.call.fun c.args.on.area c.requires.walk.within)
