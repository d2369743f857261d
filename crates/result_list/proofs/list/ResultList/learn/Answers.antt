use Rattle.std.proofs.Common.{◌≡◌, ◌<◌, Some, None, Option, List, length, get_or, set, sym, ap, ◌∙◌, subst, arith}
use Rattle.std.proofs.lemmas.List.{length-map}
use Rattle.cell_values.specs.declared.values.Shown.{Shown}
use Rattle.result_list.specs.Lists.{result_of}
use Rattle.result_list.proofs.Listed.{room_for_text, learnt_is, learnt_roomy}
use Rattle.result_list.proofs.list.ResultList.learn.Goals as goal

pub keep-requires : goal.keep-requires
keep-requires c =
    let s = c.self.inside in
    let low = subst (λ (z : List (Option Shown)). c.args.i < length z) (sym c.self.view_is) c.requires.there in
    let long = length-map s.kept.items (result_of s.texts.items) in
    room_for_text s.kept.items s.texts.items _ c.args.i c.self.invariant (omega arith) (subst (λ (z : List (Option Shown)). get_or z c.args.i None ≡ None) (sym c.self.view_is) c.requires.unknown)

pub invariant_of-self : goal.invariant_of-self
invariant_of-self c =
    let s = c.self.inside in
    let low = subst (λ (z : List (Option Shown)). c.args.i < length z) (sym c.self.view_is) c.requires.there in
    let long = length-map s.kept.items (result_of s.texts.items) in
    let behind = c.keep.ensures.behind in
    learnt_roomy s.kept.items s.texts.items c.keep.new.texts.items behind.0 _ _ c.args.i c.keep.result c.args.shown c.self.invariant (omega arith)
    (subst (λ (z : List (Option Shown)). get_or z c.args.i None ≡ None) (sym c.self.view_is) c.requires.unknown)
    c.keep.ensures.kept c.keep.ensures.within behind.1.0 behind.1.1 c.keep.ensures.room

pub returns : goal.returns
returns c =
    let s = c.self.inside in
    let behind = c.keep.ensures.behind in
    learnt_is s.kept.items s.texts.items c.keep.new.texts.items behind.0 _ c.args.i c.keep.result c.args.shown c.self.invariant c.keep.ensures.kept behind.1.0
    ∙ ap (λ (z : List (Option Shown)). set z c.args.i (Some c.args.shown)) c.self.view_is
