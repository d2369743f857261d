use Rattle.std.proofs.Common.{◌≡◌, Some, None, IfErr, OnOk, option_map, subst, sym, ap, ◌∙◌, rules, arith}
use Rattle.std.proofs.lemmas.Result.{on_ok_weaker, on_err_weaker, IfErr-weaker, MatchResult-from_both}
use Rattle.demand_spec.specs.Edits.{Put, IsApplied, IsTooLarge}
use Rattle.workbook_core.specs.Edits.{Puts, IsPutFault, IsTooMany}
use Rattle.workbook_core.specs.Faults.{IsRead, IsWithoutRoom}
use Rattle.workbook_core.specs.Held.{content_in, cells_in, SetsHeld}
use Rattle.workbook_core.proofs.Growth.{kept_grows, kept_cells, kept_set}
use Rattle.workbook_core.proofs.Lookups.{length-cells_in}
use Rattle.workbook_core.proofs.Puts.{put_applied, put_large, put_fault, put_kept, too_many_from_room}
use Rattle.workbook_core.proofs.workbook.Workbook.put.Goals as goal

pub invariant_of-self : goal.invariant_of-self
invariant_of-self c = kept_grows c.self.inside.cells c.self.inside.texts c.read_content.new.texts c.self.inside.sheets c.self.inside.pool c.read_content.new.pool c.read_content.ensures.kept_texts c.read_content.ensures.kept_trees c.self.invariant

pub returns-in_err-content-clause-err : goal.returns-in_err-content-clause-err
returns-in_err-content-clause-err c =
    let same : cells_in c.read_content.new.pool c.self.inside.cells ≡ c.args.self.now.book.cells =
    kept_cells c.self.inside.cells c.self.inside.texts c.self.inside.sheets c.self.inside.pool c.read_content.new.pool c.read_content.ensures.kept_trees c.self.invariant ∙ ap (λ w. w.book.cells) c.self.view_is in
    search rules

pub set_cell-requires : goal.set_cell-requires
set_cell-requires c = omega (arith, length-cells_in c.self.inside.pool c.self.inside.cells, c.self.invariant.workbook.few)

pub invariant_of-self-in-Some : goal.invariant_of-self-in-Some
invariant_of-self-in-Some c =
    let read : IsRead c.self.inside.sheets c.self.inside.texts c.read_content.new.texts c.read_content.new.pool c.args.at c.args.raw.now (Some c.in-Some.content) = subst (IsRead c.self.inside.sheets c.self.inside.texts c.read_content.new.texts c.read_content.new.pool c.args.at c.args.raw.now) c.in-Some.is c.in_ok-content.ensures.ok in
    put_kept c.self.inside.sheets c.self.inside.texts c.read_content.new.texts c.self.inside.pool c.read_content.new.pool c.self.inside.cells c.args.at c.args.raw.now c.set_cell.result c.set_cell.new.cells (Some c.in-Some.content)
    (kept_grows c.self.inside.cells c.self.inside.texts c.read_content.new.texts c.self.inside.sheets c.self.inside.pool c.read_content.new.pool c.read_content.ensures.kept_texts c.read_content.ensures.kept_trees c.self.invariant)
    read.may c.set_cell.ensures.ok c.set_cell.ensures.few c.set_cell.ensures.err

pub invariant_of-self-in-None : goal.invariant_of-self-in-None
invariant_of-self-in-None c = kept_set c.self.inside.cells c.remove.new.self c.read_content.new.texts c.self.inside.sheets c.read_content.new.pool c.args.at None
    (kept_grows c.self.inside.cells c.self.inside.texts c.read_content.new.texts c.self.inside.sheets c.self.inside.pool c.read_content.new.pool c.read_content.ensures.kept_texts c.read_content.ensures.kept_trees c.self.invariant)
    c.remove.ensures.removed (omega (arith, c.remove.ensures.len, length-cells_in c.self.inside.pool c.self.inside.cells, c.self.invariant.workbook.few)) tt

pub returns-in-Some-clause-ok : goal.returns-in-Some-clause-ok
returns-in-Some-clause-ok c =
    let read : IsRead c.self.inside.sheets c.self.inside.texts c.read_content.new.texts c.read_content.new.pool c.args.at c.args.raw.now (Some c.in-Some.content) = subst (IsRead c.self.inside.sheets c.self.inside.texts c.read_content.new.texts c.read_content.new.pool c.args.at c.args.raw.now) c.in-Some.is c.in_ok-content.ensures.ok in
    subst (λ w. OnOk c.set_cell.result ((held : _) × Puts w.names w.book.texts c.args.at c.args.raw.now held × IsApplied (Put c.args.at held) w.book.cells (cells_in c.read_content.new.pool c.set_cell.new.cells))) c.self.view_is
    (on_ok_weaker c.set_cell.result (put_applied c.self.inside.sheets c.self.inside.texts c.read_content.new.texts c.self.inside.pool c.read_content.new.pool c.self.inside.cells c.args.at c.args.raw.now c.set_cell.new.cells (Some c.in-Some.content) c.self.invariant c.read_content.ensures.kept_trees read) c.set_cell.ensures.ok)

pub returns-in-Some-clause-fault : goal.returns-in-Some-clause-fault
returns-in-Some-clause-fault c =
    let read : IsRead c.self.inside.sheets c.self.inside.texts c.read_content.new.texts c.read_content.new.pool c.args.at c.args.raw.now (Some c.in-Some.content) = subst (IsRead c.self.inside.sheets c.self.inside.texts c.read_content.new.texts c.read_content.new.pool c.args.at c.args.raw.now) c.in-Some.is c.in_ok-content.ensures.ok in
    subst (λ w. IfErr c.set_cell.result (IsPutFault w.names w.book.texts w.book.cells c.args.at c.args.raw.now)) c.self.view_is
    (IfErr-weaker c.set_cell.result (IsWithoutRoom c.self.inside.cells c.args.at) (IsPutFault c.self.inside.sheets c.self.inside.texts (cells_in c.self.inside.pool c.self.inside.cells) c.args.at c.args.raw.now)
    (λ e h. put_fault c.self.inside.sheets c.self.inside.texts c.read_content.new.texts c.self.inside.pool c.read_content.new.pool c.self.inside.cells c.args.at c.args.raw.now c.in-Some.content e c.self.invariant read h) c.set_cell.ensures.fault)

pub returns-in-Some-clause-err : goal.returns-in-Some-clause-err
returns-in-Some-clause-err c = on_err_weaker c.set_cell.result
    (λ (e : c.set_cell.new.cells ≡ c.self.inside.cells). ap (cells_in c.read_content.new.pool) e ∙ kept_cells c.self.inside.cells c.self.inside.texts c.self.inside.sheets c.self.inside.pool c.read_content.new.pool c.read_content.ensures.kept_trees c.self.invariant ∙ ap (λ w. w.book.cells) c.self.view_is)
    c.set_cell.ensures.err

pub returns-in-Some-clause-large : goal.returns-in-Some-clause-large
returns-in-Some-clause-large c = λ held puts large.
    let puts_inside : Puts c.self.inside.sheets c.self.inside.texts c.args.at c.args.raw.now held = subst (λ w. Puts w.names w.book.texts c.args.at c.args.raw.now held) (sym c.self.view_is) puts in
    let large_inside : IsTooLarge (Put c.args.at held) (cells_in c.self.inside.pool c.self.inside.cells) = subst (λ w. IsTooLarge (Put c.args.at held) w.book.cells) (sym c.self.view_is) large in
    let is : option_map (content_in c.read_content.new.pool) (Some c.in-Some.content) ≡ held = ap (option_map (content_in c.read_content.new.pool)) (sym c.in-Some.is) ∙ c.in_ok-content.ensures.read held puts_inside in
    MatchResult-from_both c.set_cell.result (λ x. ⊥) IsTooMany
    (on_ok_weaker c.set_cell.result (λ (s : SetsHeld c.args.at (Some c.in-Some.content) c.self.inside.cells c.set_cell.new.cells). put_large c.self.inside.sheets c.self.inside.texts c.read_content.new.texts c.self.inside.pool c.read_content.new.pool c.self.inside.cells c.args.at c.args.raw.now c.set_cell.new.cells (Some c.in-Some.content) held c.self.invariant c.read_content.ensures.kept_trees large_inside is s c.set_cell.ensures.few) c.set_cell.ensures.ok)
    (IfErr-weaker c.set_cell.result (IsWithoutRoom c.self.inside.cells c.args.at) IsTooMany (too_many_from_room c.self.inside.cells c.args.at) c.set_cell.ensures.fault)

pub returns-in-None-clause-ok : goal.returns-in-None-clause-ok
returns-in-None-clause-ok c =
    let read : IsRead c.self.inside.sheets c.self.inside.texts c.read_content.new.texts c.read_content.new.pool c.args.at c.args.raw.now None = subst (IsRead c.self.inside.sheets c.self.inside.texts c.read_content.new.texts c.read_content.new.pool c.args.at c.args.raw.now) c.in-None.is c.in_ok-content.ensures.ok in
    subst (λ w. (held : _) × Puts w.names w.book.texts c.args.at c.args.raw.now held × IsApplied (Put c.args.at held) w.book.cells (cells_in c.read_content.new.pool c.remove.new.self)) c.self.view_is
    (put_applied c.self.inside.sheets c.self.inside.texts c.read_content.new.texts c.self.inside.pool c.read_content.new.pool c.self.inside.cells c.args.at c.args.raw.now c.remove.new.self None c.self.invariant c.read_content.ensures.kept_trees read c.remove.ensures.removed)

pub returns-in-None-clause-large : goal.returns-in-None-clause-large
returns-in-None-clause-large c = λ held puts large.
    let puts_inside : Puts c.self.inside.sheets c.self.inside.texts c.args.at c.args.raw.now held = subst (λ w. Puts w.names w.book.texts c.args.at c.args.raw.now held) (sym c.self.view_is) puts in
    let large_inside : IsTooLarge (Put c.args.at held) (cells_in c.self.inside.pool c.self.inside.cells) = subst (λ w. IsTooLarge (Put c.args.at held) w.book.cells) (sym c.self.view_is) large in
    let is : option_map (content_in c.read_content.new.pool) None ≡ held = ap (option_map (content_in c.read_content.new.pool)) (sym c.in-None.is) ∙ c.in_ok-content.ensures.read held puts_inside in
    put_large c.self.inside.sheets c.self.inside.texts c.read_content.new.texts c.self.inside.pool c.read_content.new.pool c.self.inside.cells c.args.at c.args.raw.now c.remove.new.self None held c.self.invariant c.read_content.ensures.kept_trees large_inside is c.remove.ensures.removed
    (omega (arith, c.remove.ensures.len, length-cells_in c.self.inside.pool c.self.inside.cells, c.self.invariant.workbook.few))
