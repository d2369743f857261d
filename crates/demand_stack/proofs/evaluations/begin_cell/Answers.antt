use Rattle.std.proofs.Common.{◌≡◌, sym, ap, ◌∙◌, Some, None}
use Rattle.demand_spec.specs.Book.{formula_at}
use Rattle.shared_expressions.specs.Trees.{depth, tree_at}
use Rattle.demand_stack.specs.Open.{depth_of}
use Rattle.demand_stack.specs.Recall.{look_in}
use Rattle.demand_stack.proofs.Begins.{tree_is, formula_found, formula_cell, answers_cell}
use Rattle.demand_stack.proofs.evaluations.begin_cell.Goals as goal

pub begin-requires-clause-room : goal.begin-requires-clause-room
begin-requires-clause-room c =
    let f : formula_at c.args.book.now.book c.args.at ≡ Some (tree_at c.args.book.now.pool c.in-Some.id) = formula_found c.args.book.now.book c.args.at _ _ c.content.ensures.content (c.in-Some.ensures c.args.book.now.pool) in
    let same : depth_of c.args.book.now.book c.args.at ≡ depth (tree_at c.args.book.now.pool c.in-Some.id) = ap depth (tree_is c.args.book.now.book c.args.at _ f) in
    rw c.pool.ensures (rw same at c.requires.ready.1)

pub begin-requires-clause-sound : goal.begin-requires-clause-sound
begin-requires-clause-sound c =
    let f : formula_at c.args.book.now.book c.args.at ≡ Some (tree_at c.args.book.now.pool c.in-Some.id) = formula_found c.args.book.now.book c.args.at _ _ c.content.ensures.content (c.in-Some.ensures c.args.book.now.pool) in
    rw c.pool.ensures (formula_cell c.args.book.now c.args.at _ c.content.ensures.askable f).sound

pub begin-requires-clause-meant : goal.begin-requires-clause-meant
begin-requires-clause-meant c =
    let f : formula_at c.args.book.now.book c.args.at ≡ Some (tree_at c.args.book.now.pool c.in-Some.id) = formula_found c.args.book.now.book c.args.at _ _ c.content.ensures.content (c.in-Some.ensures c.args.book.now.pool) in
    rw (c.pool.ensures, c.texts.ensures.texts) (formula_cell c.args.book.now c.args.at _ c.content.ensures.askable f).meant

pub returns-in-Some-clause-answered : goal.returns-in-Some-clause-answered
returns-in-Some-clause-answered c =
    let f : formula_at c.args.book.now.book c.args.at ≡ Some (tree_at c.args.book.now.pool c.in-Some.id) = formula_found c.args.book.now.book c.args.at _ _ c.content.ensures.content (c.in-Some.ensures c.args.book.now.pool) in
    let h = rw (c.pool.ensures, c.texts.ensures.texts) at c.begin.ensures.open in
    answers_cell c.args.book.now (look_in c.args.known.now) c.args.at _ c.args.frames.now.frames c.begin.result c.begin.new.frames.frames f h

pub returns-in-None-clause-answered : goal.returns-in-None-clause-answered
returns-in-None-clause-answered c =
    let f : formula_at c.args.book.now.book c.args.at ≡ None = formula_found c.args.book.now.book c.args.at _ _ c.content.ensures.content (c.in-None.ensures c.args.book.now.pool) in
    let d : Some c.requires.formula.0 ≡ None = sym c.requires.formula.1 ∙ f in
    cc
