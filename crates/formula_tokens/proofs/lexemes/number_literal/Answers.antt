use Rattle.formula_tokens.proofs.Numbers.{huge_number}
use Rattle.formula_tokens.proofs.lexemes.number_literal.Goals as goal

pub returns-in-Err : goal.returns-in-Err
returns-in-Err c = huge_number c.args.digits.now c.parse.result c.in-Err.field-0 c.parse.ensures.value.0 c.in-Err.is c.requires.digits c.requires.some
