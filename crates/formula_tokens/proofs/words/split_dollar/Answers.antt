use Rattle.std.proofs.Common.{lit<, sym}
use Rattle.std.proofs.lemmas.Option.{MatchOption-at_none}
use Rattle.std.proofs.lemmas.Str.Pattern.{strip_prefix_char}
use Rattle.formula_tokens.proofs.Runs.{no_dollar, stays_bare}
use Rattle.formula_tokens.proofs.words.split_dollar.Goals as goal

pub returns-in-None-clause-dollar : goal.returns-in-None-clause-dollar
returns-in-None-clause-dollar c =
    sym (no_dollar c.args.text.now (MatchOption-at_none _ _ c.in-None.is (strip_prefix_char 36 c.args.text.now c.strip_prefix.result c.strip_prefix.ensures.cases (lit< tt))))

pub returns-in-None-clause-bare : goal.returns-in-None-clause-bare
returns-in-None-clause-bare c =
    sym (stays_bare c.args.text.now (no_dollar c.args.text.now (MatchOption-at_none _ _ c.in-None.is (strip_prefix_char 36 c.args.text.now c.strip_prefix.result c.strip_prefix.ensures.cases (lit< tt)))))
