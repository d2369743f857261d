use Rattle.std.proofs.Common.{subst}
use Rattle.formula_tokens.specs.Tokens.{with_literals}
use Rattle.formula_trees.specs.Expr.{expr_of}
use Rattle.formula_grammar.specs.Reading.{IsFaultOf}
use Rattle.sheet_loading.proofs.Trees.{formula_reads, formula_refused}
use Rattle.sheet_loading.proofs.fields.read_tree.Goals as goal

pub returns-in-Ok-clause-ok : goal.returns-in-Ok-clause-ok
returns-in-Ok-clause-ok c =
    formula_reads c.args.names.now c.args.texts.now c.read_formula.new.texts c.args.at c.args.text.now c.as_str.result.now (expr_of c.in-Ok.tree)
    c.as_str.ensures c.in-Ok.ensures.texts c.in-Ok.ensures.tree

pub returns-in-Err-Bad-clause-fault : goal.returns-in-Err-Bad-clause-fault
returns-in-Err-Bad-clause-fault c =
    formula_refused c.args.names.now c.args.texts.now c.args.at c.args.text.now c.as_str.result.now c.in-Err-Bad.place c.in-Err-Bad.kind c.as_str.ensures c.requires.formula
    (subst (IsFaultOf c.args.names.now (with_literals c.args.names.now c.args.texts.now c.as_str.result.now) c.as_str.result.now) c.in-Err-Bad.field-0-is c.in-Err-Bad.ensures.fault)
