use Rattle.std.proofs.Common.{◌≡◌, ◌<◌, Some, None, IfErr, OnOk, length, subst, sym, ap, ◌∙◌, arith}
use Rattle.std.proofs.lemmas.Result.{on_ok_weaker, on_err_weaker, IfErr-weaker, MatchResult-from_both}
use Rattle.cell_values.specs.Areas.{walk, is_inside}
use Rattle.cell_values.specs.Order.{entry_at}
use Rattle.workbook_core.specs.Copies.{among, CopiesAreThere, SetsAll, StaysOn, CopiesTo, HasNoRoom}
use Rattle.demand_spec.specs.Edits.{Copy, IsApplied, IsTooLarge}
use Rattle.workbook_core.specs.Edits.{IsCopyFault, IsTooMany}
use Rattle.workbook_core.specs.Held.{content_in, cells_in}
use Rattle.workbook_core.proofs.Books.{copies_kept_on, copies_applied, copies_fault, copies_large, cleared_applied, cleared_kept, too_many_from_copies}
use Rattle.workbook_core.proofs.Growth.{held_cell, kept_cells}
use Rattle.workbook_core.proofs.Lookups.{length-cells_in, from_book}
use Rattle.workbook_core.proofs.SamePool.{there_walked, there_staying}
use Rattle.workbook_core.proofs.workbook.Workbook.copy.Goals as goal

pub copy_cells-requires-clause-order : goal.copy_cells-requires-clause-order
copy_cells-requires-clause-order c = from_book c.self.inside.pool c.self.inside.cells c.self.invariant.workbook.order

pub copy_cells-requires-clause-few : goal.copy_cells-requires-clause-few
copy_cells-requires-clause-few c = omega (arith, length-cells_in c.self.inside.pool c.self.inside.cells, c.self.invariant.workbook.few)

pub copy_cells-requires-clause-sound : goal.copy_cells-requires-clause-sound
copy_cells-requires-clause-sound c = (held_cell c.self.inside.cells c.self.inside.texts c.self.inside.sheets c.self.inside.pool c.self.invariant c.args.from c.in-Some.content (sym c.get.ensures ∙ c.in-Some.is)).1.sound

pub invariant_of-self : goal.invariant_of-self
invariant_of-self c =
    let walked = c.deref.ensures.value ∙ c.in_ok-addresses.ensures in
    let copied : OnOk c.copy_cells.result (CopiesTo c.copy_cells.new.pool (content_in c.self.inside.pool c.in-Some.content) (walk c.args.to) c.self.inside.cells c.copy_cells.new.cells) = subst (λ xs. OnOk c.copy_cells.result (CopiesTo c.copy_cells.new.pool (content_in c.self.inside.pool c.in-Some.content) xs c.self.inside.cells c.copy_cells.new.cells)) walked c.copy_cells.ensures.ok in
    copies_kept_on c.self.inside.sheets c.self.inside.texts c.self.inside.pool c.copy_cells.new.pool c.self.inside.cells c.args.from c.args.to c.copy_cells.result c.copy_cells.new.cells c.in-Some.content c.self.invariant c.copy_cells.ensures.kept_trees c.requires.area
    (subst (λ w. c.args.to.sheet < length w.names) (sym c.self.view_is) c.requires.sheet) (sym c.get.ensures ∙ c.in-Some.is) copied c.copy_cells.ensures.few c.copy_cells.ensures.err

pub returns-in-Some-clause-ok : goal.returns-in-Some-clause-ok
returns-in-Some-clause-ok c =
    let walked = c.deref.ensures.value ∙ c.in_ok-addresses.ensures in
    let copied : OnOk c.copy_cells.result (CopiesTo c.copy_cells.new.pool (content_in c.self.inside.pool c.in-Some.content) (walk c.args.to) c.self.inside.cells c.copy_cells.new.cells) = subst (λ xs. OnOk c.copy_cells.result (CopiesTo c.copy_cells.new.pool (content_in c.self.inside.pool c.in-Some.content) xs c.self.inside.cells c.copy_cells.new.cells)) walked c.copy_cells.ensures.ok in
    subst (λ w. OnOk c.copy_cells.result (IsApplied (Copy c.args.from c.args.to) w.book.cells (cells_in c.copy_cells.new.pool c.copy_cells.new.cells))) c.self.view_is
    (on_ok_weaker c.copy_cells.result (copies_applied c.self.inside.sheets c.self.inside.texts c.self.inside.pool c.copy_cells.new.pool c.self.inside.cells c.args.from c.args.to c.copy_cells.new.cells c.in-Some.content c.self.invariant c.copy_cells.ensures.kept_trees c.requires.area (sym c.get.ensures ∙ c.in-Some.is)) copied)

pub returns-in-Some-clause-fault : goal.returns-in-Some-clause-fault
returns-in-Some-clause-fault c =
    let walked = c.deref.ensures.value ∙ c.in_ok-addresses.ensures in
    let fault : IfErr c.copy_cells.result (HasNoRoom c.self.inside.cells (walk c.args.to)) = subst (λ xs. IfErr c.copy_cells.result (HasNoRoom c.self.inside.cells xs)) walked c.copy_cells.ensures.fault in
    subst (λ w. IfErr c.copy_cells.result (IsCopyFault w.book.cells c.args.from c.args.to)) c.self.view_is
    (IfErr-weaker c.copy_cells.result (HasNoRoom c.self.inside.cells (walk c.args.to)) (IsCopyFault (cells_in c.self.inside.pool c.self.inside.cells) c.args.from c.args.to)
    (λ e h. copies_fault c.self.inside.sheets c.self.inside.texts c.self.inside.pool c.copy_cells.new.pool c.self.inside.cells c.args.from c.args.to c.in-Some.content e c.self.invariant c.requires.area (sym c.get.ensures ∙ c.in-Some.is) h) fault)

pub returns-in-Some-clause-err : goal.returns-in-Some-clause-err
returns-in-Some-clause-err c = on_err_weaker c.copy_cells.result
    (λ (e : c.copy_cells.new.cells ≡ c.self.inside.cells). ap (cells_in c.copy_cells.new.pool) e ∙ kept_cells c.self.inside.cells c.self.inside.texts c.self.inside.sheets c.self.inside.pool c.copy_cells.new.pool c.copy_cells.ensures.kept_trees c.self.invariant ∙ ap (λ w. w.book.cells) c.self.view_is)
    c.copy_cells.ensures.err

pub returns-in-Some-clause-large : goal.returns-in-Some-clause-large
returns-in-Some-clause-large c = λ large.
    let walked = c.deref.ensures.value ∙ c.in_ok-addresses.ensures in
    let copied : OnOk c.copy_cells.result (CopiesTo c.copy_cells.new.pool (content_in c.self.inside.pool c.in-Some.content) (walk c.args.to) c.self.inside.cells c.copy_cells.new.cells) = subst (λ xs. OnOk c.copy_cells.result (CopiesTo c.copy_cells.new.pool (content_in c.self.inside.pool c.in-Some.content) xs c.self.inside.cells c.copy_cells.new.cells)) walked c.copy_cells.ensures.ok in
    let large_inside : IsTooLarge (Copy c.args.from c.args.to) (cells_in c.self.inside.pool c.self.inside.cells) = subst (λ w. IsTooLarge (Copy c.args.from c.args.to) w.book.cells) (sym c.self.view_is) large in
    MatchResult-from_both c.copy_cells.result (λ x. ⊥) IsTooMany
    (on_ok_weaker c.copy_cells.result (λ (d : CopiesTo c.copy_cells.new.pool (content_in c.self.inside.pool c.in-Some.content) (walk c.args.to) c.self.inside.cells c.copy_cells.new.cells).
    copies_large c.self.inside.sheets c.self.inside.texts c.self.inside.pool c.copy_cells.new.pool c.self.inside.cells c.args.from c.args.to c.copy_cells.new.cells large_inside
    (copies_applied c.self.inside.sheets c.self.inside.texts c.self.inside.pool c.copy_cells.new.pool c.self.inside.cells c.args.from c.args.to c.copy_cells.new.cells c.in-Some.content c.self.invariant c.copy_cells.ensures.kept_trees c.requires.area (sym c.get.ensures ∙ c.in-Some.is) d)
    c.copy_cells.ensures.few) copied)
    (IfErr-weaker c.copy_cells.result (HasNoRoom c.self.inside.cells c.deref.result.now) IsTooMany (too_many_from_copies c.self.inside.cells c.deref.result.now) c.copy_cells.ensures.fault)

pub returns-in-Some-clause-there : goal.returns-in-Some-clause-there
returns-in-Some-clause-there c =
    let walked = c.deref.ensures.value ∙ c.in_ok-addresses.ensures in
    let p = c.self.inside.pool in
    subst (λ w. CopiesAreThere w.pool (is_inside c.args.to) (entry_at w.book.cells c.args.from) → c.copy_cells.new.pool ≡ w.pool) c.self.view_is (λ k.
    c.copy_cells.ensures.there (subst (λ xs. CopiesAreThere p (among xs) (Some (content_in p c.in-Some.content))) (sym walked)
    (there_walked p c.self.inside.cells c.args.from c.args.to c.in-Some.content (sym c.get.ensures ∙ c.in-Some.is) k)))

pub returns-in-Some-clause-same_pool : goal.returns-in-Some-clause-same_pool
returns-in-Some-clause-same_pool c = λ stays. (returns-in-Some-clause-there c) (subst (λ w. CopiesAreThere w.pool (is_inside c.args.to) (entry_at w.book.cells c.args.from)) c.self.view_is
    (there_staying c.self.inside.pool c.self.inside.cells c.args.from c.args.to c.in-Some.content (sym c.get.ensures ∙ c.in-Some.is)
    (held_cell c.self.inside.cells c.self.inside.texts c.self.inside.sheets c.self.inside.pool c.self.invariant c.args.from c.in-Some.content (sym c.get.ensures ∙ c.in-Some.is)).0
    (subst (λ w. StaysOn (is_inside c.args.to) (entry_at w.book.cells c.args.from)) (sym c.self.view_is) stays)))

pub remove_all-requires : goal.remove_all-requires
remove_all-requires c = from_book c.self.inside.pool c.self.inside.cells c.self.invariant.workbook.order

pub invariant_of-self-in-None : goal.invariant_of-self-in-None
invariant_of-self-in-None c =
    let walked = c.deref-in-None.ensures.value ∙ c.in_ok-addresses.ensures in
    let removed : SetsAll (walk c.args.to) None c.self.inside.cells c.remove_all.new.self = subst (λ xs. SetsAll xs None c.self.inside.cells c.remove_all.new.self) walked c.remove_all.ensures.removed in
    cleared_kept c.self.inside.sheets c.self.inside.texts c.self.inside.pool c.self.inside.pool c.self.inside.cells c.args.from c.args.to c.remove_all.new.self c.self.invariant removed
    (omega (arith, c.remove_all.ensures.len, length-cells_in c.self.inside.pool c.self.inside.cells, c.self.invariant.workbook.few))

pub returns-clause-ok : goal.returns-clause-ok
returns-clause-ok c =
    let walked = c.deref-in-None.ensures.value ∙ c.in_ok-addresses.ensures in
    let removed : SetsAll (walk c.args.to) None c.self.inside.cells c.remove_all.new.self = subst (λ xs. SetsAll xs None c.self.inside.cells c.remove_all.new.self) walked c.remove_all.ensures.removed in
    subst (λ w. IsApplied (Copy c.args.from c.args.to) w.book.cells (cells_in c.self.inside.pool c.remove_all.new.self)) c.self.view_is
    (cleared_applied c.self.inside.sheets c.self.inside.texts c.self.inside.pool c.self.inside.pool c.self.inside.cells c.args.from c.args.to c.remove_all.new.self c.requires.area (sym c.get.ensures ∙ c.in-None.is) removed)

pub returns-clause-large : goal.returns-clause-large
returns-clause-large c = λ large.
    let walked = c.deref-in-None.ensures.value ∙ c.in_ok-addresses.ensures in
    let removed : SetsAll (walk c.args.to) None c.self.inside.cells c.remove_all.new.self = subst (λ xs. SetsAll xs None c.self.inside.cells c.remove_all.new.self) walked c.remove_all.ensures.removed in
    let large_inside : IsTooLarge (Copy c.args.from c.args.to) (cells_in c.self.inside.pool c.self.inside.cells) = subst (λ w. IsTooLarge (Copy c.args.from c.args.to) w.book.cells) (sym c.self.view_is) large in
    copies_large c.self.inside.sheets c.self.inside.texts c.self.inside.pool c.self.inside.pool c.self.inside.cells c.args.from c.args.to c.remove_all.new.self large_inside
    (cleared_applied c.self.inside.sheets c.self.inside.texts c.self.inside.pool c.self.inside.pool c.self.inside.cells c.args.from c.args.to c.remove_all.new.self c.requires.area (sym c.get.ensures ∙ c.in-None.is) removed)
    (omega (arith, c.remove_all.ensures.len, length-cells_in c.self.inside.pool c.self.inside.cells, c.self.invariant.workbook.few))
