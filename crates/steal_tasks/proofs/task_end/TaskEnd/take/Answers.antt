use Rattle.std.proofs.Common.{◌≡◌, ◌∙◌, ◌+◌, ◌<◌, inr, true, Some, sym, ap, subst, refl}
use Rattle.std.specs.Vec.{with_items}
use Rattle.std.proofs.lemmas.List.{with_items_is}
use Rattle.steal_tasks.specs.Ends.{EndSeen, AddsTo, AllMissed, GotOne, parts, part_of, with_others}
use Rattle.steal_tasks.proofs.Sharing.{alone_has_all}
use Rattle.steal_tasks.proofs.Taking.{Keeps, adds, same_parts, kept_with_one, kept_with_none, found, nothing_found}
use Rattle.steal_tasks.proofs.task_end.TaskEnd.take.Goals as goal

pub invariant_of-self-in-Some : goal.invariant_of-self-in-Some
invariant_of-self-in-Some c =
    let e = c.self.inside in
    let left : (with_items e.others c.find.new.others).items ≡ c.find.new.others = with_items_is e.others c.find.new.others (c.find.auto.others ∙ c.as_mut_slice.ensures.len) in
    let got = subst (λ l. GotOne c.in-Some.number e.own c.find.new.own l c.find.new.others) c.as_mut_slice.ensures.value c.in-Some.ensures in
    subst (Keeps e.count (e.given + 1) c.find.new.own) (sym left)
    (kept_with_one e.count e.given c.in-Some.number e.own c.find.new.own e.others.items c.find.new.others c.if-self.false got c.self.invariant)

pub invariant_of-self-in-None : goal.invariant_of-self-in-None
invariant_of-self-in-None c =
    let e = c.self.inside in
    let left : (with_items e.others c.find.new.others).items ≡ c.find.new.others = with_items_is e.others c.find.new.others (c.find.auto.others ∙ c.as_mut_slice.ensures.len) in
    let missed = subst (λ l. AllMissed l c.find.new.others) c.as_mut_slice.ensures.value c.in-None.ensures.2 in
    subst (Keeps e.count e.given c.find.new.own) (sym left)
    (kept_with_none e.count e.given e.own c.find.new.own e.others.items c.find.new.others c.in-None.ensures.0 missed c.self.invariant)

pub returns-in-Some-clause-gives : goal.returns-in-Some-clause-gives
returns-in-Some-clause-gives c =
    let e = c.self.inside in
    let left : (with_items e.others c.find.new.others).items ≡ c.find.new.others = with_items_is e.others c.find.new.others (c.find.auto.others ∙ c.as_mut_slice.ensures.len) in
    let got = subst (λ l. GotOne c.in-Some.number e.own c.find.new.own l c.find.new.others) c.as_mut_slice.ensures.value c.in-Some.ensures in
    let now = adds c.in-Some.number e.own c.find.new.own e.others.items c.find.new.others got in
    subst (λ ps. AddsTo c.in-Some.number ps (with_others (part_of c.find.new.own) (with_items e.others c.find.new.others).items)) (ap parts c.self.view_is)
    (subst (λ ns. AddsTo c.in-Some.number (with_others (part_of e.own) e.others.items) (with_others (part_of c.find.new.own) ns)) (sym left) now)

pub returns-in-Some-clause-counted : goal.returns-in-Some-clause-counted
returns-in-Some-clause-counted c = (ap (λ e. e.count) c.self.view_is, (invariant_of-self-in-Some c).0)

pub returns-in-Some-clause-turn : goal.returns-in-Some-clause-turn
returns-in-Some-clause-turn c =
    let e = c.self.inside in
    let left : (with_items e.others c.find.new.others).items ≡ c.find.new.others = with_items_is e.others c.find.new.others (c.find.auto.others ∙ c.as_mut_slice.ensures.len) in
    let got = subst (λ l. GotOne c.in-Some.number e.own c.find.new.own l c.find.new.others) c.as_mut_slice.ensures.value c.in-Some.ensures in
    let now : EndSeen = record { count = e.count; own = part_of c.find.new.own; others = (with_items e.others c.find.new.others).items; given = e.given + 1; last = Some c.in-Some.number; over = e.over } in (
      subst (λ (s : EndSeen). s.given < s.count) c.self.view_is c.if-self.false,
      found c.in-Some.number e.own c.find.new.own e.others.items c.find.new.others c.args.self.now now got
          (sym (ap (λ s. s.own) c.self.view_is)) (sym (ap (λ s. s.others) c.self.view_is)) refl left,
    )

pub returns-in-None-clause-gives : goal.returns-in-None-clause-gives
returns-in-None-clause-gives c =
    let e = c.self.inside in
    let left : (with_items e.others c.find.new.others).items ≡ c.find.new.others = with_items_is e.others c.find.new.others (c.find.auto.others ∙ c.as_mut_slice.ensures.len) in
    let missed = subst (λ l. AllMissed l c.find.new.others) c.as_mut_slice.ensures.value c.in-None.ensures.2 in
    ap (λ ns. with_others (part_of c.find.new.own) ns) left
    ∙ same_parts e.own c.find.new.own e.others.items c.find.new.others c.in-None.ensures.0 missed
    ∙ ap parts c.self.view_is

pub returns-in-None-clause-counted : goal.returns-in-None-clause-counted
returns-in-None-clause-counted c = (ap (λ e. e.count) c.self.view_is, (invariant_of-self-in-None c).0)

pub returns-in-None-clause-turn : goal.returns-in-None-clause-turn
returns-in-None-clause-turn c =
    let e = c.self.inside in
    let left : (with_items e.others c.find.new.others).items ≡ c.find.new.others = with_items_is e.others c.find.new.others (c.find.auto.others ∙ c.as_mut_slice.ensures.len) in
    let missed = subst (λ l. AllMissed l c.find.new.others) c.as_mut_slice.ensures.value c.in-None.ensures.2 in
    let now : EndSeen = record { count = e.count; own = part_of c.find.new.own; others = (with_items e.others c.find.new.others).items; given = e.given; last = e.last; over = true } in
    inr (nothing_found e.own c.find.new.own e.others.items c.find.new.others c.args.self.now now c.in-None.ensures.0 c.in-None.ensures.1 missed
    (sym (ap (λ s. s.own) c.self.view_is)) (sym (ap (λ s. s.others) c.self.view_is)) refl left)

pub returns-in-None-clause-alone : goal.returns-in-None-clause-alone
returns-in-None-clause-alone c none _ =
    let alone = c.self.invariant.1 (ap (λ s. s.others) c.self.view_is ∙ none) in
    inr (subst (λ (s : EndSeen). s.own.taken ≡ s.own.dealt) c.self.view_is (alone_has_all c.self.inside.own alone c.in-None.ensures.1))
