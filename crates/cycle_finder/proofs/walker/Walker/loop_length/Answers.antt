use Rattle.std.proofs.Common.{option_map, sym, ap, ◌∙◌}
use Rattle.shared_expressions.specs.Trees.{tree_at}
use Rattle.cycle_finder.specs.Search.{length_of}
use Rattle.cycle_finder.proofs.Recalls.{formula_found, length_recalled, no_length}
use Rattle.cycle_finder.proofs.walker.Walker.loop_length.Goals as goal

pub returns-in-Some-clause-length : goal.returns-in-Some-clause-length
returns-in-Some-clause-length c =
    let p = c.self.inside.book.now.pool in
    let f = formula_found c.self.inside.book.now.book c.args.cell _ _ c.content.ensures.content (ap (option_map (tree_at p)) (sym c.in-Some.is) ∙ c.expression.ensures p) in
    rw (← c.self.view_is) (c.length_of.ensures ∙ ap length_of c.result_of.ensures ∙ length_recalled c.self.inside.book.now.book c.self.inside.results.now.entries c.args.cell _ c.self.invariant.holds f)

pub returns-in-None-clause-length : goal.returns-in-None-clause-length
returns-in-None-clause-length c =
    let p = c.self.inside.book.now.pool in
    let f = formula_found c.self.inside.book.now.book c.args.cell _ _ c.content.ensures.content (ap (option_map (tree_at p)) (sym c.in-None.is) ∙ c.expression.ensures p) in
    rw (← c.self.view_is) (no_length c.self.inside.book.now.book c.args.cell f)
