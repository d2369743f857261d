use Rattle.std.proofs.Common.{◌≡◌, [], sym, subst}
use Rattle.demand_spec.specs.Book.{look}
use Rattle.demand_spec.specs.Formula.{plan}
use Rattle.shared_expressions.specs.Trees.{tree_at, depth}
use Rattle.formula_eval.specs.Laws.{IsKept}
use Rattle.formula_eval.specs.Evaluations.{Answered, Stands}
use Rattle.formula_eval.specs.Client.{Sight, book_of, look_on}
use Rattle.formula_eval.proofs.Turns.{stands_grows, stands_ready}
use Rattle.formula_eval.proofs.Client.{kept_push}
use Rattle.formula_eval.proofs.tests.go_on.Goals as goal

pub resume-requires-clause-open : goal.resume-requires-clause-open
resume-requires-clause-open g c = (stands_ready c.args.pool.now c.args.texts.now (look_on c.args.sheet.now) (depth (tree_at c.args.pool.now c.args.id)) c.args.frames.now.room c.args.at (plan c.args.texts.now c.args.at (tree_at c.args.pool.now c.args.id)) c.args.need c.args.frames.now.frames [] c.requires.goes.2 c.requires.room).1

pub returns-clause-goes : goal.returns-clause-goes
returns-clause-goes g c =
    let s : Sight = c.args.sheet.now in
    let t : Sight = c.tell.new.self in
    let u : Sight = c.resume.new.known in
    let kept : IsKept (look_on s) (look_on t) = subst (λ z. IsKept (look_on s) (look_on z)) (sym c.tell.ensures) (kept_push (book_of s) s.told (c.args.need, c.args.value)) in
    let stands : Stands c.args.pool.now c.args.texts.now (look_on t) (depth (tree_at c.args.pool.now c.args.id)) c.args.at (plan c.args.texts.now c.args.at (tree_at c.args.pool.now c.args.id)) c.args.need c.args.frames.now.frames [] = stands_grows c.args.pool.now c.args.texts.now (look_on s) (look_on t) (depth (tree_at c.args.pool.now c.args.id)) c.args.at (plan c.args.texts.now c.args.at (tree_at c.args.pool.now c.args.id)) c.args.need c.args.frames.now.frames [] kept c.requires.goes.2 in
    let same : look_on u ≡ look_on t = (λ i. look (c.resume.ensures.book i) (c.resume.ensures.values i)) in
    subst (λ l. Answered c.args.pool.now c.args.texts.now l (depth (tree_at c.args.pool.now c.args.id)) c.args.at (plan c.args.texts.now c.args.at (tree_at c.args.pool.now c.args.id)) [] c.resume.result c.resume.new.frames.frames) (sym same) (c.resume.ensures.open (depth (tree_at c.args.pool.now c.args.id)) c.args.at (plan c.args.texts.now c.args.at (tree_at c.args.pool.now c.args.id)) c.args.need [] stands)
