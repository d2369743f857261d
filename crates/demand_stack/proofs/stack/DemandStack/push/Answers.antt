use Rattle.std.proofs.Common.{◌≡◌, ◌∷◌, reverse, ap, ◌∙◌, get_or, true, false}
use Rattle.demand_stack.specs.Recall.{known_of}
use Rattle.demand_stack.proofs.Downward.{reverse_push}
use Rattle.demand_stack.specs.Open.{blank}
use Rattle.demand_stack.proofs.Noted.{note_again}
use Rattle.demand_stack.proofs.Steps.{pushed_kept, room_for_one, same_known, stack_view}
use Rattle.demand_stack.proofs.stack.DemandStack.push.Goals as goal

pub push_reserved-requires : goal.push_reserved-requires
push_reserved-requires c =
    let s = c.self.inside in
    let low = rw (← c.self.view_is) at c.requires.there in
    let new = rw (← c.self.view_is) at c.requires.new in
    room_for_one s.book s.cells.now s.stored.now.entries s.first s.stack.items s.notes s.frames _ s.ahead s.passed c.self.invariant c.args.entry.cell _ low new s.stack.ok.0

pub invariant_of-self : goal.invariant_of-self
invariant_of-self c =
    let s = c.self.inside in
    let low = rw (← c.self.view_is) at c.requires.there in
    let new = rw (← c.self.view_is) at c.requires.new in
    let link = rw (← c.self.view_is) at c.requires.linked in
    let turned : reverse c.push_reserved.new.self.items ≡ c.args.entry ∷ reverse s.stack.items = ap reverse c.push_reserved.ensures.items ∙ reverse_push s.stack.items c.args.entry in
    rw c.set_on_stack.ensures (pushed_kept s.book s.cells.now s.stored.now.entries s.first s.stack.items s.notes s.frames _ s.ahead s.passed c.self.invariant c.args.entry (get_or s.notes c.args.entry.cell blank) c.push_reserved.new.self.items _ (note_again s.notes c.args.entry.cell) low new link turned c.push_reserved.ensures.capacity)

pub returns : goal.returns
returns c =
    let s = c.self.inside in
    let low = rw (← c.self.view_is) at c.requires.there in
    let turned : reverse c.push_reserved.new.self.items ≡ c.args.entry ∷ reverse s.stack.items = ap reverse c.push_reserved.ensures.items ∙ reverse_push s.stack.items c.args.entry in
    stack_view (λ fs. c.args.entry ∷ fs) c.args.self.now s.book s.cells.now s.first (reverse s.stack.items) (reverse c.push_reserved.new.self.items) (known_of s.notes) _ c.self.view_is
    (ap known_of c.set_on_stack.ensures ∙ same_known s.book s.cells.now s.stored.now.entries s.first s.stack.items s.notes s.frames _ s.ahead s.passed c.self.invariant c.args.entry.cell low (get_or s.notes c.args.entry.cell blank) (note_again s.notes c.args.entry.cell) true false) turned
