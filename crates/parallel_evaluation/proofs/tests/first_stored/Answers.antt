use Rattle.std.proofs.Common.{rules, ◌≡◌, ◌∷◌, [], sym, ap, ◌∙◌}
use Rattle.demand_spec.specs.Book.{shown}
use Rattle.parallel_evaluation.proofs.TestBooks.{all_but_first}
use Rattle.parallel_evaluation.proofs.tests.first_stored.Goals as goal

pub returns : goal.returns
returns g c =
    let w = c.args.book.now in
    let is : c.insert.new.self.entries ≡ (c.args.first, shown w.book c.args.first) ∷ [] = search rules in
    all_but_first w c.args.first c.args.rest.now c.insert.new.self.entries c.requires.cells c.in_ok-mentions_none.ensures is
