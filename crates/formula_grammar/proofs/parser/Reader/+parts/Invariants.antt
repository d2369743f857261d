use Rattle.std.proofs.Common.{◌<◌, ◌≤◌, ◌+◌, length, ◌*◌}
use Rattle.formula_trees.specs.declared.levels.TheConstants.{COMPARISON_LEVEL, JOIN_LEVEL, SUM_LEVEL}
use Rattle.formula_trees.specs.Expr.{expr_of}
use Rattle.formula_grammar.specs.Rest.{next_token, token_level}
use Rattle.formula_grammar.specs.Parts.{ReadsExpression, ReadsJoins, ReadsSums, ReadsTerm}
use Rattle.formula_grammar.proofs.parser.Reader.+parts.Given as goal

abbrev pub decreases-argument : goal.decreases-argument
decreases-argument l = 11 * length l.self.now.spots + 9

abbrev pub decreases-arguments : goal.decreases-arguments
decreases-arguments l = 11 * length l.self.now.spots + 10

abbrev pub decreases-call : goal.decreases-call
decreases-call l = 11 * length l.self.now.spots + 1

abbrev pub decreases-expression : goal.decreases-expression
decreases-expression l = 11 * length l.self.now.spots + 7

abbrev pub decreases-joins : goal.decreases-joins
decreases-joins l = 11 * length l.self.now.spots + 6

abbrev pub decreases-primary : goal.decreases-primary
decreases-primary l = 11 * length l.self.now.spots + 2

abbrev pub decreases-signed : goal.decreases-signed
decreases-signed l = 11 * length l.self.now.spots + 3

abbrev pub decreases-sums : goal.decreases-sums
decreases-sums l = 11 * length l.self.now.spots + 5

abbrev pub decreases-term : goal.decreases-term
decreases-term l = 11 * length l.self.now.spots + 4

-- what has been read so far is an expression, and no operand of a comparison goes on
abbrev pub invariant-expression-loop-op : goal.invariant-expression-loop-op
invariant-expression-loop-op l = record {
  read : ReadsExpression l.at l.depth l.fn.self l.self (expr_of l.left);
  next : token_level (next_token l.self) ≤ COMPARISON_LEVEL;
  shorter : length l.self.spots < length l.fn.self.spots;
}

abbrev pub decreases-expression-loop-op : goal.decreases-expression-loop-op
decreases-expression-loop-op l = length l.self.spots

abbrev pub invariant-joins-loop-op : goal.invariant-joins-loop-op
invariant-joins-loop-op l = record {
  read : ReadsJoins l.at l.depth l.fn.self l.self (expr_of l.left);
  next : token_level (next_token l.self) ≤ JOIN_LEVEL;
  shorter : length l.self.spots < length l.fn.self.spots;
}

abbrev pub decreases-joins-loop-op : goal.decreases-joins-loop-op
decreases-joins-loop-op l = length l.self.spots

abbrev pub invariant-sums-loop-op : goal.invariant-sums-loop-op
invariant-sums-loop-op l = record {
  read : ReadsSums l.at l.depth l.fn.self l.self (expr_of l.left);
  next : token_level (next_token l.self) ≤ SUM_LEVEL;
  shorter : length l.self.spots < length l.fn.self.spots;
}

abbrev pub decreases-sums-loop-op : goal.decreases-sums-loop-op
decreases-sums-loop-op l = length l.self.spots

abbrev pub invariant-term-loop-op : goal.invariant-term-loop-op
invariant-term-loop-op l = record {
  read : ReadsTerm l.at l.depth l.fn.self l.self (expr_of l.left);
  shorter : length l.self.spots < length l.fn.self.spots;
}

abbrev pub decreases-term-loop-op : goal.decreases-term-loop-op
decreases-term-loop-op l = length l.self.spots
