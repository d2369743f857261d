-- Each piece up to a quote stands for itself, and the quote ends the literal unless another one follows.
use Rattle.std.proofs.Common.{◌≡◌, ◌+◌, ◌++◌, ◌∷◌, [], ℕ, List, false, true, ap, ◌∙◌, arith, lit<, drop, Some, string_bytes}
use Rattle.std.proofs.lemmas.Option.{MatchOption-at_none, MatchOption-at_some}
use Rattle.std.proofs.lemmas.Str.{IsCharBoundary-start}
use Rattle.std.proofs.lemmas.Str.Pattern.{find_char}
use Rattle.formula_tokens.specs.Lexemes.{literal_from}
use Rattle.formula_tokens.proofs.Literals.{before, literal_start, literal_more, literal_done, literal_never, behind_quotes, byte_there}
use Rattle.formula_tokens.proofs.lexemes.read_literal.Goals as goal

pub loop-length-init : goal.loop-length-init
loop-length-init c = (IsCharBoundary-start c.args.text.now c.utf8.text, literal_start c.args.text.now _ c.new-literal.ensures.bytes)

pub returns-then-not-begins_with-clause-exact : goal.returns-then-not-begins_with-clause-exact
returns-then-not-begins_with-clause-exact c =
    let rest = c.range_from.result.now in
    let n = c.in-Some.length in
    let start = c.loop-length.start in
    let found = MatchOption-at_some _ _ n c.in-Some.is (find_char 34 rest c.find.result c.find.ensures.cases (lit< tt)) in
    let next = byte_there c.args.text.now c.as_bytes.result.now (start + n + 1) c.begins_with.result c.as_bytes.ensures.value c.begins_with.ensures false c.if-not-begins_with.true in
    let done = literal_done c.args.text.now (string_bytes c.loop-length.literal) c.range.result.now rest start n c.range_from.ensures.value found c.range.ensures.value c.loop-length.invariant.1 next in
    ap (λ (bs : List ℕ). Some (bs, start + n + 1)) c.in_ok-push_str.ensures.bytes ∙ done

pub loop-length-preserved : goal.loop-length-preserved
loop-length-preserved c =
    let rest = c.range_from.result.now in
    let n = c.in-Some.length in
    let start = c.loop-length.start in
    let found = MatchOption-at_some _ _ n c.in-Some.is (find_char 34 rest c.find.result c.find.ensures.cases (lit< tt)) in
    let next = byte_there c.args.text.now c.as_bytes.result.now (start + n + 1) c.begins_with.result c.as_bytes.ensures.value c.begins_with.ensures true c.if-not-begins_with.false in
    let more = literal_more c.args.text.now (string_bytes c.loop-length.literal) c.range.result.now rest start n c.range_from.ensures.value found c.range.ensures.value c.loop-length.invariant.1 next in
    let bytes : string_bytes c.push.new.self ≡ (string_bytes c.loop-length.literal ++ c.range.result.now) ++ 34 ∷ [] =
    c.in_ok-push.ensures.bytes ∙ ap (λ (bs : List ℕ). string_bytes c.push_str.new.self ++ bs) (c.in_ok-push.ensures.ascii (lit< tt))
    ∙ ap (λ (bs : List ℕ). bs ++ 34 ∷ []) c.in_ok-push_str.ensures.bytes in (
      behind_quotes c.args.text.now (start + n + 1) c.utf8.text next (start + n + 2) (omega arith),
      ap (λ (bs : List ℕ). before bs (start + n + 2) (literal_from (drop (start + n + 2) c.args.text.now))) bytes ∙ more,
    )

pub returns-clause-exact : goal.returns-clause-exact
returns-clause-exact c =
    let rest = c.range_from.result.now in
    let none = MatchOption-at_none _ _ c.in_default.is (find_char 34 rest c.find.result c.find.ensures.cases (lit< tt)) in
    literal_never c.args.text.now (string_bytes c.loop-length.literal) rest c.loop-length.start c.range_from.ensures.value none c.loop-length.invariant.1
