use Rattle.std.proofs.Common.{◌≡◌, ◌∙◌, List, [], arith, ap, sym, subst}
use Rattle.std.specs.Global.{Vec}
use Rattle.std.proofs.lemmas.Grind.{common_steps}
use Rattle.cell_values.specs.declared.address.Addr.{Addr}
use Rattle.support_graph.specs.Pending.{among}
use Rattle.support_graph.specs.Steps.{IsFrontier}
use Rattle.support_graph.proofs.Reach.{spread_are, merged_as, none_found}
use Rattle.support_graph.proofs.stale.Stale.spread.Goals as goal

pub returns-then-is_empty-clause-cells : goal.returns-then-is_empty-clause-cells
returns-then-is_empty-clause-cells c =
    let old = c.args.self.now in
    let s = c.args.support.now in
    let front : IsFrontier s old (among c.args.from.now) c.in_ok-found.found.items = subst (λ (xs : List Addr). IsFrontier s xs (among c.args.from.now) c.in_ok-found.found.items) (c.deref.ensures.value ∙ c.self.view_is) c.in_ok-found.ensures.frontier in
    let none : c.in_ok-found.found.items ≡ [] = grind (arith, common_steps) in
    spread_are s old c.args.from.now c.in_ok-found.found.items old c.requires.cells c.requires.readers front (none_found old c.in_ok-found.found.items none)

pub returns-clause-cells : goal.returns-clause-cells
returns-clause-cells c =
    let old = c.args.self.now in
    let s = c.args.support.now in
    let found = c.in_ok-found.found.items in
    let new = c.in_ok-self-inside.field-0.items in
    let front : IsFrontier s old (among c.args.from.now) found = subst (λ (xs : List Addr). IsFrontier s xs (among c.args.from.now) found) (c.deref.ensures.value ∙ c.self.view_is) c.in_ok-found.ensures.frontier in
    spread_are s old c.args.from.now found new c.requires.cells c.requires.readers front
    (merged_as old found c.deref-2.result.now c.deref-3.result.now c.in_ok-merged.field-0.items new (c.deref-2.ensures.value ∙ c.self.view_is) c.deref-3.ensures.value (sym (ap (λ (v : Vec Addr). v.items) c.in_ok-self-inside.ensures.0)) c.in_ok-merged.ensures.cells)
