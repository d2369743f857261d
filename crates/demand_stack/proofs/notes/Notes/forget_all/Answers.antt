use Rattle.std.proofs.Common.{◌≡◌, rules, None, length, replicate, sym, ap, ◌∙◌}
use Rattle.demand_stack.specs.Open.{blank}
use Rattle.demand_stack.proofs.Beside.{unmarked, unmet, length-noted}
use Rattle.demand_stack.proofs.notes.Notes.forget_all.Goals as goal

pub returns : goal.returns
returns c =
    let s = c.self.inside in
    let all : c.fill.new.self.items ≡ replicate (length s.marks.items) unmarked = search rules in
    unmet c.forget_all.new.self c.fill.new.self.items (length s.marks.items) (c.forget_all.ensures ∙ ap (λ n. replicate n None) c.self.invariant) all
    ∙ ap (λ n. replicate n blank) (sym (length-noted s.results s.marks.items c.self.invariant) ∙ ap length c.self.view_is)
