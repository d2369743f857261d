use Rattle.std.proofs.Common.{◌∙◌, Some, sym, ap, subst}
use Rattle.std.specs.Map.{keys_of}
use Rattle.workbook_core.specs.Copies.{among, empty_among, SetsAll, Writes}
use Rattle.workbook_core.specs.Held.{content_in}
use Rattle.workbook_core.proofs.Copied.{empty_is_none, filled, copies_to}
use Rattle.workbook_core.proofs.copies.copy_cells.Goals as goal

pub add_all-requires-clause-empty : goal.add_all-requires-clause-empty
add_all-requires-clause-empty c = λ a e. empty_is_none c.args.cells.now c.args.addresses.now a (ap (λ xs. among xs a) (sym c.in_ok-empty.ensures ∙ sym c.deref.ensures.value) ∙ e)

pub replace_all-requires-clause-there : goal.replace_all-requires-clause-there
replace_all-requires-clause-there c = λ a e.
    let added : SetsAll (empty_among c.args.cells.now c.args.addresses.now) (Some c.args.content) c.args.cells.now c.add_all.new.self = subst (λ xs. SetsAll xs (Some c.args.content) c.args.cells.now c.add_all.new.self) (c.deref.ensures.value ∙ c.in_ok-empty.ensures) c.in_ok-add_all.ensures.ok in
    filled c.args.addresses.now c.args.content c.args.cells.now c.add_all.new.self added a (ap (λ xs. among xs a) (sym (ap keys_of c.deref-2.ensures.value ∙ c.in_ok-copies.ensures.keys)) ∙ e)

pub returns-clause-ok : goal.returns-clause-ok
returns-clause-ok c =
    let added : SetsAll (empty_among c.args.cells.now c.args.addresses.now) (Some c.args.content) c.args.cells.now c.add_all.new.self = subst (λ xs. SetsAll xs (Some c.args.content) c.args.cells.now c.add_all.new.self) (c.deref.ensures.value ∙ c.in_ok-empty.ensures) c.in_ok-add_all.ensures.ok in
    let wrote : Writes c.in_ok-copies.copies.items c.add_all.new.self c.replace_all.new.self = subst (λ cs. Writes cs c.add_all.new.self c.replace_all.new.self) c.deref-2.ensures.value c.replace_all.ensures.written in
    copies_to c.copies_of.new.pool (content_in c.args.pool.now c.args.content) c.args.addresses.now c.args.content c.in_ok-copies.copies.items c.args.cells.now c.add_all.new.self c.replace_all.new.self c.in_ok-copies.ensures.keys c.in_ok-copies.ensures.copies added wrote
