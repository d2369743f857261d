use Rattle.std.proofs.Common.{◌∙◌, sym, ap, subst, refl, get_or, arith}
use Rattle.std.specs.Map.{keys_of}
use Rattle.cell_values.specs.declared.address.Addr.{Addr}
use Rattle.demand_spec.specs.Book.{Content}
use Rattle.formula_trees.specs.Expr.{expr_of}
use Rattle.workbook_core.specs.declared.Content.{Content as Held}
use Rattle.workbook_core.specs.Copies.{AreCopies}
use Rattle.workbook_core.proofs.Copied.{keys_more, formulas_more, kept_twice}
use Rattle.workbook_core.proofs.SamePool.{no_more_trees}
use Rattle.workbook_core.proofs.copies.formula_copies.Goals as goal

abbrev no_address : Addr
no_address = record { sheet = 0; row = 0; col = 0 }

pub copy_of-requires-clause-there : goal.copy_of-requires-clause-there
copy_of-requires-clause-there c = (let a = c.requires.there in let b = c.loop-at.invariant.kept.longer in omega (arith, a, b))

pub copy_of-requires-clause-tree : goal.copy_of-requires-clause-tree
copy_of-requires-clause-tree c = c.loop-at.invariant.kept.keeps c.args.id.0 c.requires.there ∙ c.requires.tree

pub loop-at-preserved : goal.loop-at-preserved
loop-at-preserved c =
    let at : Addr = get_or c.args.addresses.now c.loop-at.at-index no_address in
    record {
      keys = ap keys_of c.in_ok-push.ensures.items ∙ keys_more c.loop-at.copies.items at (Held.Formula c.in_ok-copy.copy) c.args.addresses.now c.loop-at.at-index no_address c.loop-at-test.true c.loop-at.invariant.keys refl;
      copies = subst (AreCopies c.copy_of.new.pool (Content.Formula (expr_of c.args.tree.now))) (sym c.in_ok-push.ensures.items)
          (formulas_more c.loop-at.pool c.copy_of.new.pool (expr_of c.args.tree.now) c.loop-at.copies.items at c.in_ok-copy.copy c.copy_of.ensures.kept_trees c.loop-at.invariant.copies c.in_ok-copy.ensures.copy);
      kept = kept_twice c.args.pool.now c.loop-at.pool c.copy_of.new.pool c.loop-at.invariant.kept c.copy_of.ensures.kept_trees;
      there = no_more_trees c.args.pool.now c.loop-at.pool c.copy_of.new.pool (expr_of c.args.tree.now) c.args.addresses.now c.loop-at.at-index no_address at c.loop-at-test.true refl c.loop-at.invariant.there c.copy_of.ensures.there;
    }
