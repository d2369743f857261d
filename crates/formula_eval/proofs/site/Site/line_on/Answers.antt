use Rattle.std.proofs.Common.{◌≡◌, ◌∙◌, rules, to_z, of_z}
use mir.Syntax.{w128}
use Rattle.formula_eval.specs.Machine.{index_below}
use Rattle.formula_eval.proofs.Searches.{line_goes}
use Rattle.formula_eval.proofs.site.Site.line_on.Goals as goal

pub returns-in-Some-index_below-clause-goes : goal.returns-in-Some-index_below-clause-goes
returns-in-Some-index_below-clause-goes c =
    let back : to_z w128 (of_z w128 c.in-Some.j) ≡ c.in-Some.j = search rules in
    line_goes c.args.self.now.pool.now c.args.self.now.texts.now c.args.self.now.at c.args.call.id c.args.call.fun c.args.x c.args.v c.in-Some.j c.in-Cells.area c.in-Some-index_below.m c.args.frames.now.frames c.lookup_on.result c.lookup_on.new.frames.frames c.requires.call c.requires.lookup c.requires.line.1 c.in-Some.ensures c.in-Cells.ensures.same (c.in-Some-index_below.ensures.same ∙ (λ i. index_below (c.across.ensures.same i) (back i))) (c.lookup_on.ensures.goes)
