use Rattle.formula_tokens.proofs.Runs.{digits_end}
use Rattle.formula_tokens.proofs.Numbers.{digits_cut}
use Rattle.formula_tokens.proofs.lexemes.read_number.Goals as goal

pub range-digits-requires-clause-end_boundary : goal.range-digits-requires-clause-end_boundary
range-digits-requires-clause-end_boundary c = digits_end c.args.text.now c.utf8.text c.digit_count.result c.digit_count.ensures

pub number_literal-requires-clause-digits : goal.number_literal-requires-clause-digits
number_literal-requires-clause-digits c = digits_cut c.args.text.now c.range-digits.result.now c.digit_count.result c.range-digits.ensures.value c.digit_count.ensures
