-- Each blank and each token is a step of the reading; it ends at a bad character or at the end of the text.
use Rattle.std.proofs.Common.{◌≡◌, [], ℕ, List, true, false, get_or, ap, sym, ◌∙◌}
use Rattle.formula_tokens.specs.Lexemes.{is_blank}
use Rattle.formula_tokens.proofs.Reading.{reads_start, reads_blank, reads_bad, reads_token, reads_end, reads_items, finish}
use Rattle.formula_tokens.proofs.lexer.read_tokens.Goals as goal

pub loop-place-init : goal.loop-place-init
loop-place-init c = reads_items c.args.sheets.now c.args.texts.now c.args.text.now c.args.texts.now [] c.new-spots.result.items _ c.new-spots.ensures.items (reads_start c.args.sheets.now c.args.texts.now c.args.text.now)

pub loop-place-preserved-then-is_blank : goal.loop-place-preserved-then-is_blank
loop-place-preserved-then-is_blank c =
    let loop = c.loop-place in
    let blank : is_blank (get_or c.args.text.now loop.place 0) ≡ true = ap (λ (bs : List ℕ). is_blank (get_or bs loop.place 0)) (sym c.as_bytes.ensures.value) ∙ sym c.is_blank.ensures ∙ c.if-is_blank.true in
    reads_blank c.args.sheets.now c.args.texts.now c.args.text.now loop.texts loop.spots.items loop.place loop.prefixed loop.invariant c.loop-place-test.true blank

pub returns-then-is_bad : goal.returns-then-is_bad
returns-then-is_bad c =
    let loop = c.loop-place in
    let read = c.in_ok-read.read in
    let names = c.args.sheets.now in
    let old = c.args.texts.now in
    let text = c.args.text.now in
    let now = c.read_token.new.texts in
    let solid : is_blank (get_or text loop.place 0) ≡ false = ap (λ (bs : List ℕ). is_blank (get_or bs loop.place 0)) (sym c.as_bytes.ensures.value) ∙ sym c.is_blank.ensures ∙ c.if-is_blank.false in
    let r = reads_bad names old text loop.texts now loop.spots.items loop.place loop.prefixed read.token read.size loop.invariant c.loop-place-test.true solid
    c.in_ok-read.ensures.token c.in_ok-read.ensures.size c.in_ok-read.ensures.interned (sym c.is_bad.ensures ∙ c.if-is_bad.true) in
    let f = finish names old text now c.push.new.self.items (reads_items names old text now _ c.push.new.self.items [] c.in_ok-push.ensures.items r) in
    record { tokens = f.tokens; interned = f.interned; there = f.there; kept = f.kept }

pub loop-place-preserved : goal.loop-place-preserved
loop-place-preserved c =
    let loop = c.loop-place in
    let read = c.in_ok-read.read in
    let names = c.args.sheets.now in
    let old = c.args.texts.now in
    let text = c.args.text.now in
    let now = c.read_token.new.texts in
    let solid : is_blank (get_or text loop.place 0) ≡ false = ap (λ (bs : List ℕ). is_blank (get_or bs loop.place 0)) (sym c.as_bytes.ensures.value) ∙ sym c.is_blank.ensures ∙ c.if-is_blank.false in
    let r = reads_token names old text loop.texts now loop.spots.items loop.place loop.prefixed read.token read.size loop.invariant c.loop-place-test.true solid
    c.in_ok-read.ensures.token c.in_ok-read.ensures.size c.in_ok-read.ensures.interned (sym c.is_bad.ensures ∙ c.if-is_bad.false) c.is_prefix-prefixed.result c.is_prefix-prefixed.ensures in
    reads_items names old text now _ c.push.new.self.items _ c.in_ok-push.ensures.items r

pub returns : goal.returns
returns c =
    let loop = c.loop-place in
    let names = c.args.sheets.now in
    let old = c.args.texts.now in
    let text = c.args.text.now in
    let f = finish names old text loop.texts loop.spots.items (reads_end names old text loop.texts loop.spots.items loop.place loop.prefixed loop.invariant c.loop-place-test.false) in
    record { tokens = f.tokens; interned = f.interned; there = f.there; kept = f.kept }
