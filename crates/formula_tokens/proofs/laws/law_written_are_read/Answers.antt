use Rattle.formula_tokens.proofs.Written.{written_are_read, blanks_may_follow}
use Rattle.formula_tokens.proofs.Capitals.{capitals_agree}
use Rattle.formula_tokens.proofs.laws.law_written_are_read.Goals as goal

pub returns-clause-read : goal.returns-clause-read
returns-clause-read c = written_are_read

pub returns-clause-blanks : goal.returns-clause-blanks
returns-clause-blanks c = blanks_may_follow

pub returns-clause-capitals : goal.returns-clause-capitals
returns-clause-capitals c = capitals_agree
