use Rattle.std.proofs.Common.{◌≡◌, ◌∷◌, ◌+◌, ◌<◌, ◌≤◌, length, refl, sym, ap, ◌∙◌, subst, arith}
use Rattle.cell_values.specs.declared.address.Addr.{Addr}
use Rattle.cell_values.specs.declared.values.Value.{Value}
use Rattle.cell_values.specs.Areas.{walk}
use Rattle.cell_values.specs.Values.{IsValueOf}
use Rattle.demand_spec.specs.declared.Asked.{Asked}
use Rattle.demand_spec.specs.declared.Asked.TheVariants.{Val, Needs}
use Rattle.demand_spec.specs.Book.{look}
use Rattle.shared_expressions.specs.Trees.{tree_at}
use Rattle.formula_eval.specs.declared.work.Work.TheVariants.{Cell}
use Rattle.formula_eval.specs.declared.work.Frame.TheVariants.{At}
use Rattle.formula_eval.specs.declared.work.Step.{Step}
use Rattle.formula_eval.specs.Machine.{GoesOn}
use Rattle.formula_eval.specs.Evaluations.{Along}
use Rattle.formula_eval.proofs.Ranges.{few_arguments}
use Rattle.formula_eval.proofs.Turns.{along_none}
use Rattle.formula_eval.proofs.Visits.{visit_found, visit_stops, visit_ends, fold_next, fold_fails, fold_done}
use Rattle.formula_eval.proofs.site.Site.walk_fold.Goals as goal

pub loop-e-init : goal.loop-e-init
loop-e-init g c = record {
  along = along_none c.args.self.now.pool.now c.args.self.now.texts.now c.args.self.now.at (look (g.K.Known.book c.args.known.now) (g.K.Known.values c.args.known.now)) (Step.Give c.args.first) (At c.args.on.id (Cell c.args.on.k c.args.on.n c.args.on.total) ∷ c.args.frames.now.frames) (g.K.Known.looks c.args.known.now);
  fits = c.requires.fits;
  room = refl;
  book = refl;
  values = refl;
}

pub loop-e-preserved : goal.loop-e-preserved
loop-e-preserved g c =
    let l : Addr → Asked = look (g.K.Known.book c.args.known.now) (g.K.Known.values c.args.known.now) in
    let same : look (g.K.Known.book c.loop-e.known) (g.K.Known.values c.loop-e.known) ≡ l = (λ i. look (c.loop-e.invariant.book i) (c.loop-e.invariant.values i)) in
    let found : Val c.in-Val.next ≡ l c.nth-a.result = c.in-Val.ensures.found ∙ ap (λ z. z c.nth-a.result) same in
    let meant : IsValueOf c.args.self.now.texts.now c.in-Val.next = subst (λ z. IsValueOf z c.in-Val.next) (sym (c.requires.texts ∙ ap (λ z. z.texts) (sym c.loop-e.invariant.book))) c.in-Val.ensures.texts in
    let goes : GoesOn c.args.self.now.pool.now c.args.self.now.texts.now c.args.self.now.at c.args.on.id (Cell c.args.on.k c.loop-e.n c.loop-e.total) c.loop-e.v c.loop-e.frames.frames (Step.Look c.nth-a.result) (At c.args.on.id (Cell c.args.on.k (c.loop-e.n + 1) c.in-Ok.taken) ∷ c.loop-e.frames.frames) = fold_next c.args.self.now.pool.now c.args.self.now.texts.now c.args.self.now.at c.args.on c.loop-e.n c.loop-e.total c.in-Ok.taken c.loop-e.v c.nth-a.result c.loop-e.frames.frames c.requires.walk c.in-Ok.ensures c.nth-a.ensures in
    let along : Along c.args.self.now.pool.now c.args.self.now.texts.now c.args.self.now.at l (Step.Give c.args.first) (At c.args.on.id (Cell c.args.on.k c.args.on.n c.args.on.total) ∷ c.args.frames.now.frames) (Step.Give c.in-Val.next) (At c.args.on.id (Cell c.args.on.k (c.loop-e.n + 1) c.in-Ok.taken) ∷ c.loop-e.frames.frames) (g.K.Known.looks c.args.known.now) (g.K.Known.looks c.look.new.self) =
    visit_found c.args.self.now.pool.now c.args.self.now.texts.now c.args.self.now.at l c.args.on.id (Cell c.args.on.k c.loop-e.n c.loop-e.total) (Cell c.args.on.k (c.loop-e.n + 1) c.in-Ok.taken) c.loop-e.v c.in-Val.next c.nth-a.result (Step.Give c.args.first) (At c.args.on.id (Cell c.args.on.k c.args.on.n c.args.on.total) ∷ c.args.frames.now.frames) c.loop-e.frames.frames (g.K.Known.looks c.args.known.now) (g.K.Known.looks c.loop-e.known) (g.K.Known.looks c.look.new.self) goes found meant (omega (arith, c.look.ensures.looks)) c.loop-e.invariant.along in
    record {
      along = along;
      fits = record { step = meant; frames = c.loop-e.invariant.fits.frames };
      room = c.loop-e.invariant.room;
      book = c.look.ensures.book ∙ c.loop-e.invariant.book;
      values = c.look.ensures.values ∙ c.loop-e.invariant.values;
    }

pub returns-in-Missing-clause-turns : goal.returns-in-Missing-clause-turns
returns-in-Missing-clause-turns g c =
    let l : Addr → Asked = look (g.K.Known.book c.args.known.now) (g.K.Known.values c.args.known.now) in
    let same : look (g.K.Known.book c.loop-e.known) (g.K.Known.values c.loop-e.known) ≡ l = (λ i. look (c.loop-e.invariant.book i) (c.loop-e.invariant.values i)) in
    let lacks : Needs c.nth-a.result ≡ l c.nth-a.result = c.in-Missing.ensures.found ∙ ap (λ z. z c.nth-a.result) same in
    let goes : GoesOn c.args.self.now.pool.now c.args.self.now.texts.now c.args.self.now.at c.args.on.id (Cell c.args.on.k c.loop-e.n c.loop-e.total) c.loop-e.v c.loop-e.frames.frames (Step.Look c.nth-a.result) (At c.args.on.id (Cell c.args.on.k (c.loop-e.n + 1) c.in-Ok.taken) ∷ c.loop-e.frames.frames) = fold_next c.args.self.now.pool.now c.args.self.now.texts.now c.args.self.now.at c.args.on c.loop-e.n c.loop-e.total c.in-Ok.taken c.loop-e.v c.nth-a.result c.loop-e.frames.frames c.requires.walk c.in-Ok.ensures c.nth-a.ensures in
    visit_stops c.args.self.now.pool.now c.args.self.now.texts.now c.args.self.now.at l c.args.on.id (Cell c.args.on.k c.loop-e.n c.loop-e.total) (Cell c.args.on.k (c.loop-e.n + 1) c.in-Ok.taken) c.loop-e.v c.nth-a.result (Step.Give c.args.first) (At c.args.on.id (Cell c.args.on.k c.args.on.n c.args.on.total) ∷ c.args.frames.now.frames) c.loop-e.frames.frames c.push.new.self.frames c.push-in-Missing.new.self.frames (g.K.Known.looks c.args.known.now) (g.K.Known.looks c.loop-e.known) (g.K.Known.looks c.look.new.self) goes lacks c.push.ensures.frames c.push-in-Missing.ensures.frames (omega (arith, c.look.ensures.looks)) c.loop-e.invariant.along

pub returns-in-Err-clause-turns : goal.returns-in-Err-clause-turns
returns-in-Err-clause-turns g c = visit_ends c.args.self.now.pool.now c.args.self.now.texts.now c.args.self.now.at (look (g.K.Known.book c.args.known.now) (g.K.Known.values c.args.known.now)) c.args.on.id (Cell c.args.on.k c.loop-e.n c.loop-e.total) c.loop-e.v (Step.Give c.args.first) (At c.args.on.id (Cell c.args.on.k c.args.on.n c.args.on.total) ∷ c.args.frames.now.frames) c.loop-e.frames.frames (Step.Give (Value.Error c.in-Err.e)) c.loop-e.frames.frames (g.K.Known.looks c.args.known.now) (g.K.Known.looks c.loop-e.known) (fold_fails c.args.self.now.pool.now c.args.self.now.texts.now c.args.self.now.at c.args.on c.loop-e.n c.loop-e.total c.loop-e.v c.in-Err.e c.loop-e.frames.frames c.requires.walk c.in-Err.ensures) c.loop-e.invariant.along

pub returns-then-size-n-clause-turns : goal.returns-then-size-n-clause-turns
returns-then-size-n-clause-turns g c =
    let all : length (walk c.args.on.area) ≤ c.loop-e.n = omega (arith, c.size-size.ensures.count, c.if-size-n.true) in
    visit_ends c.args.self.now.pool.now c.args.self.now.texts.now c.args.self.now.at (look (g.K.Known.book c.args.known.now) (g.K.Known.values c.args.known.now)) c.args.on.id (Cell c.args.on.k c.loop-e.n c.loop-e.total) c.loop-e.v (Step.Give c.args.first) (At c.args.on.id (Cell c.args.on.k c.args.on.n c.args.on.total) ∷ c.args.frames.now.frames) c.loop-e.frames.frames c.fold_on.result c.fold_on.new.frames.frames (g.K.Known.looks c.args.known.now) (g.K.Known.looks c.loop-e.known) (fold_done c.args.self.now.pool.now c.args.self.now.texts.now c.args.self.now.at c.args.on c.loop-e.n c.loop-e.total c.in-Ok.taken c.loop-e.v c.loop-e.frames.frames c.fold_on.result c.fold_on.new.frames.frames c.requires.walk c.in-Ok.ensures all c.fold_on.ensures.goes) c.loop-e.invariant.along

pub overflow_add-on : goal.overflow_add-on
overflow_add-on g c = (let h : c.args.on.k < 512 = few_arguments c.loop-e.frames.room (length c.loop-e.frames.frames) c.args.on.k (tree_at c.args.self.now.pool.now c.args.on.id) (tree_at c.args.self.now.pool.now c.args.on.child) c.requires.walk.argument c.loop-e.invariant.fits.frames.0 in omega arith)
