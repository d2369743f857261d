use Rattle.std.proofs.Common.{◌≡◌, rules, None, Option, List, length, replicate, sym, ap, ◌∙◌}
use Rattle.std.proofs.lemmas.List.{length-map}
use Rattle.cell_values.specs.declared.values.Shown.{Shown}
use Rattle.result_list.specs.Lists.{result_of}
use Rattle.result_list.specs.declared.list.Kept.{Kept}
use Rattle.result_list.proofs.Listed.{unknown_is}
use Rattle.result_list.proofs.list.ResultList.forget_all.Goals as goal

pub returns : goal.returns
returns c =
    let s = c.self.inside in
    let all : c.fill.new.self.items ≡ replicate (length s.kept.items) Kept.Unknown = search rules in
    unknown_is _ c.fill.new.self.items (length s.kept.items) all
    ∙ ap (λ n. replicate n None) (sym (length-map s.kept.items (result_of s.texts.items)) ∙ ap (λ (z : List (Option Shown)). length z) c.self.view_is)
