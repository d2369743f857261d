use Rattle.std.proofs.Common.{◌≡◌, get_or, ap, sym, ◌∙◌, arith}
use Rattle.std.proofs.lemmas.Str.{IsCharBoundary-after_ascii}
use Rattle.formula_tokens.proofs.Runs.{sign_first}
use Rattle.formula_tokens.proofs.lexemes.read_plain.Goals as goal

pub range_from-requires : goal.range_from-requires
range_from-requires c =
    let first : get_or c.args.text.now 0 0 ≡ 39 = ap (λ bs. get_or bs 0 0) (sym c.as_bytes.ensures.value) ∙ c.if-first-eq39.true in
    λ h. IsCharBoundary-after_ascii c.args.text.now 0 c.utf8.text c.requires.some (omega arith)

pub returns-else-first-eq39-clause-cut : goal.returns-else-first-eq39-clause-cut
returns-else-first-eq39-clause-cut c =
    sign_first c.args.sheets.now c.args.prefixed c.args.text.now c.as_bytes.result.now c.as_bytes.ensures.value c.requires.some (sym c.is_ascii_digit.ensures.value ∙ c.if-is_ascii_digit.false)
    (sym c.begins_word.ensures ∙ c.if-begins_word.false) c.requires.plain c.if-first-eq39.false
    ∙ c.read_sign.ensures.cut
