use Rattle.std.proofs.Common.{◌<◌, Some, Option, List, length, set, sym, ap, ◌∙◌, subst, arith}
use Rattle.std.proofs.lemmas.List.{length-map}
use Rattle.cell_values.specs.declared.values.Shown.{Shown}
use Rattle.result_list.specs.Lists.{result_of}
use Rattle.result_list.proofs.Listed.{marked_is, marked_roomy}
use Rattle.result_list.proofs.list.ResultList.mark_cycle.Goals as goal

pub invariant_of-self : goal.invariant_of-self
invariant_of-self c =
    let s = c.self.inside in
    let low = subst (λ (z : List (Option Shown)). c.args.i < length z) (sym c.self.view_is) c.requires in
    let long = length-map s.kept.items (result_of s.texts.items) in
    marked_roomy s.kept.items s.texts.items _ c.args.i c.args.length_of_cycle c.self.invariant (omega arith)

pub returns : goal.returns
returns c =
    let s = c.self.inside in
    marked_is s.kept.items s.texts.items c.args.i c.args.length_of_cycle
    ∙ ap (λ (z : List (Option Shown)). set z c.args.i (Some (Shown.Cycle c.args.length_of_cycle))) c.self.view_is
