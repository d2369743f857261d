use Rattle.std.proofs.Common.{rules, ◌≡◌, [], length, sym, ap, ◌∙◌}
use Rattle.std.proofs.lemmas.List.{nil_from_length}
use Rattle.formula_trees.specs.Mentions.{areas}
use Rattle.shared_expressions.specs.Trees.{tree_at}
use Rattle.parallel_evaluation.proofs.TestBooks.{none_mentioned}
use Rattle.parallel_evaluation.proofs.tests.mentions_none.Goals as goal

pub returns : goal.returns
returns g c =
    let w = c.args.book.now in
    let n : length c.areas.new.out.items ≡ 0 = search rules in
    let e : c.areas.new.out.items ≡ areas c.args.at (tree_at w.pool c.in-Some.id) = search rules in
    none_mentioned w c.args.at c.in-Some.id (search rules) (sym e ∙ nil_from_length c.areas.new.out.items n)
