use Rattle.std.proofs.Common.{Some, None, sym, ◌∙◌, arith}
use Rattle.std.proofs.lemmas.Str.Pattern.{strip_prefix_char}
use Rattle.puncalc_program.proofs.BareNames.{plain_name, quoted_name}
use Rattle.puncalc_program.proofs.names.bare_name.Goals as goal

pub returns-in-Some : goal.returns-in-Some
returns-in-Some c = λ name e.
    c.without_end.ensures name
    (quoted_name name c.in-Some.quoted.now (sym (strip_prefix_char 39 c.args.prefix.now (Some c.in-Some.quoted) c.in-Some.ensures.cases (omega arith)) ∙ e))

pub returns-in-None : goal.returns-in-None
returns-in-None c = λ name e.
    c.without_end-in-None.ensures name
    (plain_name name c.args.prefix.now (strip_prefix_char 39 c.args.prefix.now None c.in-None.ensures.cases (omega arith)) e)
