use Rattle.std.proofs.Common.{◌≡◌, rules, replicate}
use Rattle.demand_stack.proofs.Beside.{unmarked, unmet}
use Rattle.demand_stack.proofs.notes.Notes.new.Goals as goal

pub returns : goal.returns
returns c =
    let all : c.in_ok-marks.marks.items ≡ replicate c.args.count unmarked = search rules in
    unmet c.in_ok-results.results c.in_ok-marks.marks.items c.args.count c.in_ok-results.ensures all
