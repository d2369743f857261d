use Rattle.std.proofs.Common.{◌≡◌, rules, length, sym, ap, ◌∙◌}
use Rattle.demand_stack.proofs.Beside.{length-noted}
use Rattle.demand_stack.proofs.notes.Notes.len.Goals as goal

pub returns : goal.returns
returns c =
    let s = c.self.inside in
    let n : c.len.result ≡ length s.marks.items = search rules in
    n ∙ sym (length-noted s.results s.marks.items c.self.invariant) ∙ ap length c.self.view_is
