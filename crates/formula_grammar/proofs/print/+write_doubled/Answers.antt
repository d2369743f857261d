use Rattle.std.proofs.Common.{◌≡◌, ◌++◌, ◌∷◌, List, ℕ, subst, string_bytes}
use Rattle.std.specs.Option.{MatchOption}
use Rattle.formula_tokens.specs.Spelling.{doubled}
use Rattle.formula_grammar.proofs.Quotes.{doubled_parts, pushed_last, pushed_parts}
use Rattle.formula_grammar.proofs.print.+write_doubled.Goals as goal

pub returns-in_ok-push_str-in-Some-2 : goal.returns-in_ok-push_str-in-Some-2
returns-in_ok-push_str-in-Some-2 t c =
    let text : List ℕ = c.args.text.now in
    let d = subst (λ r. MatchOption r (doubled text ≡ text) (λ x. doubled text ≡ x.0.now ++ (34 ∷ 34 ∷ doubled x.1.now))) c.in-Some.is (doubled_parts text c.split_once.result c.split_once.ensures.cases) in
    pushed_parts c.write_doubled.result (string_bytes c.args.out.now) (string_bytes c.push_str.new.self) (string_bytes c.push_str-in-Some.new.self) (string_bytes c.write_doubled.new.out) c.in-Some.before.now (doubled c.in-Some.after.now) (doubled text) d c.in_ok-push_str-in-Some.ensures.bytes c.in_ok-push_str-in-Some-2.ensures.bytes c.write_doubled.ensures

pub returns-in-None : goal.returns-in-None
returns-in-None t c =
    let text : List ℕ = c.args.text.now in
    let d = subst (λ r. MatchOption r (doubled text ≡ text) (λ x. doubled text ≡ x.0.now ++ (34 ∷ 34 ∷ doubled x.1.now))) c.in-None.is (doubled_parts text c.split_once.result c.split_once.ensures.cases) in
    pushed_last c.push_str-in-None.result (string_bytes c.args.out.now) (string_bytes c.push_str-in-None.new.self) text (doubled text) d c.push_str-in-None.ensures.bytes
