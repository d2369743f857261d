use Rattle.std.proofs.Common.{◌++◌, ◌∷◌, [], ◌||◌, sym, ap, ◌∙◌}
use Rattle.cycle_finder.specs.Search.{has}
use Rattle.cycle_finder.proofs.Around.{loop_is_trail}
use Rattle.cycle_finder.proofs.Found.{visit_off, visit_again, visit_new}
use Rattle.cycle_finder.proofs.finder.Found.visit.Goals as goal

pub returns-in_ok-add-clause-found : goal.returns-in_ok-add-clause-found
returns-in_ok-add-clause-found c =
    let b = c.args.walker.now in
    let on = sym c.in-Some.ensures.length in
    let old = c.args.self.now in
    let whole = c.in_ok-cells.ensures.trail ∙ sym (loop_is_trail b c.args.cell c.in-Some.length on) in
    visit_new b c.loop_length.ensures.order c.args.cell c.in-Some.length on old.loops.items old.seen.keys
    (sym c.has_seen.ensures ∙ c.if-not-has_seen.true)
    c.add.new.self.loops.items c.add.new.self.seen.keys
    (c.in_ok-add.ensures.loops ∙ ap (λ z. old.loops.items ++ z ∷ []) whole)
    (λ q. c.in_ok-add.ensures.seen q ∙ ap (λ z. has q z || has q old.seen.keys) whole)

pub returns-else-not-has_seen-clause-found : goal.returns-else-not-has_seen-clause-found
returns-else-not-has_seen-clause-found c =
    let old = c.args.self.now in
    visit_again c.args.walker.now c.loop_length.ensures.order c.args.cell c.in-Some.length (sym c.in-Some.ensures.length) old.loops.items old.seen.keys (sym c.has_seen.ensures ∙ c.if-not-has_seen.false)

pub returns-in_default-clause-found : goal.returns-in_default-clause-found
returns-in_default-clause-found c = visit_off c.args.walker.now c.loop_length.ensures.order c.args.cell (sym c.in_default.ensures.length) c.args.self.now.loops.items c.args.self.now.seen.keys
