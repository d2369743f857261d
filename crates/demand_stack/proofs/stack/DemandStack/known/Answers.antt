use Rattle.std.proofs.Common.{◌≡◌, None, get_or, sym, ◌∙◌}
use Rattle.demand_stack.specs.Recall.{known_of}
use Rattle.demand_stack.proofs.Recalls.{known_at, known_meant}
use Rattle.demand_stack.proofs.stack.DemandStack.known.Goals as goal

pub returns-clause-texts : goal.returns-clause-texts
returns-clause-texts c =
    let s = c.self.inside in
    let found : c.shown.result ≡ get_or (known_of s.notes) c.args.i None = c.shown.ensures ∙ sym (known_at s.notes c.args.i) in
    rw (← c.self.view_is) (known_meant s.book s.cells.now (known_of s.notes) c.args.i c.shown.result c.texts-texts.ensures.askable c.self.invariant.evaluation.knows.right found)
