use Rattle.std.proofs.Common.{lit<}
use Rattle.std.proofs.lemmas.Option.{MatchOption-at_none}
use Rattle.std.proofs.lemmas.Str.Pattern.{strip_prefix_char}
use Rattle.formula_tokens.proofs.Literals.{not_quoted}
use Rattle.formula_tokens.proofs.lexer.read_token.Goals as goal

pub read_plain-requires-clause-plain : goal.read_plain-requires-clause-plain
read_plain-requires-clause-plain c =
    let rest = c.in-Some.rest.now in
    not_quoted rest (MatchOption-at_none _ _ c.in-None.is (strip_prefix_char 34 rest c.strip_prefix.result c.strip_prefix.ensures.cases (lit< tt)))
