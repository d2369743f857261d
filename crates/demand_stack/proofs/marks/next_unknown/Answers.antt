use Rattle.std.proofs.Common.{◌≡◌, false, Option, Some, None, is_some, get_or, refl, sym, ap, ◌∙◌, arith}
use Rattle.cell_values.specs.declared.values.Shown.{Shown}
use Rattle.demand_stack.specs.Open.{blank}
use Rattle.demand_stack.specs.Recall.{known_of}
use Rattle.demand_stack.proofs.Recalls.{known_at}
use Rattle.demand_stack.proofs.Noted.{length-known}
use Rattle.demand_stack.proofs.Seeking.{known_here, known_more, seen_next}
use Rattle.demand_stack.proofs.marks.next_unknown.Goals as goal

pub loop-next-init : goal.loop-next-init
loop-next-init c = known_here (known_of c.args.notes.now) c.args.from (let z = length-known c.args.notes.now in let b = c.requires.bound in omega arith)

pub loop-next-preserved : goal.loop-next-preserved
loop-next-preserved c =
    known_more (known_of c.args.notes.now) c.args.from c.loop-next.next c.loop-next.invariant
    (let z = length-known c.args.notes.now in let b = c.loop-next-test.true in omega arith)
    (ap is_some (known_at c.args.notes.now c.loop-next.next) ∙ sym c.is_known.ensures ∙ c.if-is_known.true)

none_from : (o : Option Shown) → is_some o ≡ false → o ≡ None
none_from None e = refl
none_from (Some r) e = cc

pub returns-else-is_known : goal.returns-else-is_known
returns-else-is_known c = seen_next (known_of c.args.notes.now) c.args.from c.loop-next.next c.loop-next.invariant
    (λ l. known_at c.args.notes.now c.loop-next.next ∙ none_from (get_or c.args.notes.now c.loop-next.next blank).shown (sym c.is_known.ensures ∙ c.if-is_known.false))

pub returns-after-loop-next : goal.returns-after-loop-next
returns-after-loop-next c = seen_next (known_of c.args.notes.now) c.args.from c.loop-next.next c.loop-next.invariant
    (λ l. absurd (let z = length-known c.args.notes.now in let b = c.loop-next-test.false in omega arith))
