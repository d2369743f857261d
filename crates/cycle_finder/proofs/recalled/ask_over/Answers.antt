use Rattle.std.proofs.Common.{◌≤◌, option_map, length, sym, ap, ◌∙◌, arith}
use Rattle.formula_trees.specs.declared.TheConstants.{MAX_NODES}
use Rattle.shared_expressions.specs.Trees.{tree_at, depth}
use Rattle.demand_spec.specs.Book.{ask}
use Rattle.cycle_finder.specs.Search.{values_in}
use Rattle.cycle_finder.proofs.Recalls.{formula_found, formula_fits, cell_asked, none_asked}
use Rattle.cycle_finder.proofs.recalled.ask_over.Goals as goal

pub ask-requires-clause-room : goal.ask-requires-clause-room
ask-requires-clause-room c =
    let w = c.args.book.now in
    let f = formula_found w.book c.args.cell _ _ c.content.ensures.content (ap (option_map (tree_at w.pool)) (sym c.in-Some.is) ∙ c.expression.ensures w.pool) in
    let small : depth (tree_at w.pool c.in-Some.id) ≤ MAX_NODES = (formula_fits w c.args.cell _ c.content.ensures.workbook f).room in
    let none = ap length c.requires.idle in
    let room = c.requires.room in
    rw c.pool.ensures (omega (arith, small, none, room))

pub ask-requires-clause-sound : goal.ask-requires-clause-sound
ask-requires-clause-sound c =
    let w = c.args.book.now in
    let f = formula_found w.book c.args.cell _ _ c.content.ensures.content (ap (option_map (tree_at w.pool)) (sym c.in-Some.is) ∙ c.expression.ensures w.pool) in
    rw c.pool.ensures (formula_fits w c.args.cell _ c.content.ensures.workbook f).sound

pub ask-requires-clause-meant : goal.ask-requires-clause-meant
ask-requires-clause-meant c =
    let w = c.args.book.now in
    let f = formula_found w.book c.args.cell _ _ c.content.ensures.content (ap (option_map (tree_at w.pool)) (sym c.in-Some.is) ∙ c.expression.ensures w.pool) in
    rw (c.texts.ensures.texts, c.pool.ensures) (formula_fits w c.args.cell _ c.content.ensures.workbook f).meant

pub returns-in-Some-clause-asked : goal.returns-in-Some-clause-asked
returns-in-Some-clause-asked c =
    let w = c.args.book.now in
    let known = values_in c.args.results.now.entries in
    let f = formula_found w.book c.args.cell _ _ c.content.ensures.content (ap (option_map (tree_at w.pool)) (sym c.in-Some.is) ∙ c.expression.ensures w.pool) in
    cell_asked w.book known c.args.cell _ c.ask.result f (c.ask.ensures.answer ∙ ap (λ z. ask w.book known c.args.cell (tree_at z c.in-Some.id)) c.pool.ensures)

pub returns-in-None-clause-asked : goal.returns-in-None-clause-asked
returns-in-None-clause-asked c =
    let w = c.args.book.now in
    let f = formula_found w.book c.args.cell _ _ c.content.ensures.content (ap (option_map (tree_at w.pool)) (sym c.in-None.is) ∙ c.expression.ensures w.pool) in
    none_asked w.book (values_in c.args.results.now.entries) c.args.cell f
