use Rattle.std.proofs.Common.{ℕ, String, Global, ap, sym, ◌∙◌, option_map, string_bytes}
use Rattle.cell_values.specs.Interned.{interned}
use Rattle.formula_tokens.specs.Lexemes.{literal_from}
use Rattle.formula_tokens.proofs.Reading.{literal_token}
use Rattle.formula_tokens.proofs.lexer.read_text.Goals as goal

pub returns-clause-token : goal.returns-clause-token
returns-clause-token c =
    let read = ap (option_map (λ (p : String Global × ℕ). (string_bytes p.0, p.1))) (sym c.in-Some.is) ∙ c.in_ok-literal.ensures.exact in
    literal_token c.args.texts.now c.intern.new.self c.in_ok-id.id (string_bytes c.in-Some.literal) c.in-Some.size (literal_from c.args.text.now)
    (c.in_ok-id.ensures.ok ∙ ap (interned c.args.texts.now) c.as_str.ensures.value) read
