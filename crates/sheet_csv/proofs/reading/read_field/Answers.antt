use Rattle.std.proofs.Common.{◌≡◌, ◌-◌, ◌<◌, [], ◌∷◌, ◌++◌, inr, ap, sym, ◌∙◌, arith}
use Rattle.std.specs.Prelude.{vec_len}
use Rattle.std.proofs.lemmas.Result.{MatchResult-at_ok, MatchResult-at_err}
use Rattle.cell_values.specs.Fields.{raw_of}
use Rattle.sheet_csv.specs.Sheet.{first_fault}
use Rattle.sheet_csv.specs.Place.{field_of_place}
use Rattle.sheet_csv.proofs.SheetFacts.{field_no_text, field_empty, field_outside, field_full, field_fits, passed_field, with_empty, none_from_empty, some_from_empty, outside, inside, with_cell, room_same, room_less}
use Rattle.sheet_csv.proofs.reading.read_field.Goals as goal

pub returns-in_default-clause-fault : goal.returns-in_default-clause-fault
returns-in_default-clause-fault c =
    let bad = (MatchResult-at_err _ _ _ c.in_default.is c.from_utf8.ensures.cases).0 in
    inr (field_no_text (c.args.room - vec_len c.args.cells.now) (field_of_place c.args.place c.args.field.now) bad)

pub returns-then-is_empty-clause-cells : goal.returns-then-is_empty-clause-cells
returns-then-is_empty-clause-cells c =
    let (same, text) = MatchResult-at_ok _ _ _ c.in-Ok.is c.from_utf8.ensures.cases in
    let f = field_of_place c.args.place c.args.field.now in
    let none = none_from_empty c.in-Ok.text.now f.bytes c.is_empty.result same c.is_empty.ensures c.if-is_empty.true in
    sym (with_empty c.args.place.sheet c.args.texts.now c.args.cells.now.items f none)

pub returns-then-is_empty-clause-passed : goal.returns-then-is_empty-clause-passed
returns-then-is_empty-clause-passed c rest =
    let (same, text) = MatchResult-at_ok _ _ _ c.in-Ok.is c.from_utf8.ensures.cases in
    let f = field_of_place c.args.place c.args.field.now in
    let room = c.args.room - vec_len c.args.cells.now in
    let none = none_from_empty c.in-Ok.text.now f.bytes c.is_empty.result same c.is_empty.ensures c.if-is_empty.true in
    passed_field room f rest (field_empty room f text none) ∙ ap (λ r. first_fault r rest) (room_same room f none)

pub returns-in_default-cell-clause-fault : goal.returns-in_default-cell-clause-fault
returns-in_default-cell-clause-fault c =
    let (same, text) = MatchResult-at_ok _ _ _ c.in-Ok.is c.from_utf8.ensures.cases in
    let f = field_of_place c.args.place c.args.field.now in
    let room = c.args.room - vec_len c.args.cells.now in
    let some = some_from_empty c.in-Ok.text.now f.bytes c.is_empty.result same c.is_empty.ensures c.if-is_empty.false in
    let out = outside c.args.place f.bytes c.cell.result c.cell.ensures c.in_default-cell.is in
    inr (field_outside room f text some out)

pub returns-then-len-room-clause-fault : goal.returns-then-len-room-clause-fault
returns-then-len-room-clause-fault c =
    let (same, text) = MatchResult-at_ok _ _ _ c.in-Ok.is c.from_utf8.ensures.cases in
    let f = field_of_place c.args.place c.args.field.now in
    let room = c.args.room - vec_len c.args.cells.now in
    let some = some_from_empty c.in-Ok.text.now f.bytes c.is_empty.result same c.is_empty.ensures c.if-is_empty.false in
    let (in_sheet, at) = inside c.args.place f.bytes c.cell.result c.in-Some.at c.cell.ensures c.in-Some.is in
    let full : room ≡ 0 = omega arith in
    inr (field_full room f text some in_sheet full)

pub returns-clause-cells : goal.returns-clause-cells
returns-clause-cells c =
    let (same, text) = MatchResult-at_ok _ _ _ c.in-Ok.is c.from_utf8.ensures.cases in
    let f = field_of_place c.args.place c.args.field.now in
    let some = some_from_empty c.in-Ok.text.now f.bytes c.is_empty.result same c.is_empty.ensures c.if-is_empty.false in
    let (in_sheet, at) = inside c.args.place f.bytes c.cell.result c.in-Some.at c.cell.ensures c.in-Some.is in
    let ts = c.args.texts.now in
    let cells = c.args.cells.now.items in
    let made : (c.push_cell.new.texts, c.push_cell.new.cells.items) ≡ ((raw_of ts c.in-Ok.text.now).0, cells ++ (c.in-Some.at, (raw_of ts c.in-Ok.text.now).1) ∷ []) = λ i. (c.in_ok-push_cell.ensures.texts i, c.in_ok-push_cell.ensures.cells i) in
    made ∙ (λ i. ((raw_of ts (same i)).0, cells ++ (at i, (raw_of ts (same i)).1) ∷ [])) ∙ sym (with_cell c.args.place.sheet ts cells f some)

pub returns-clause-passed : goal.returns-clause-passed
returns-clause-passed c rest =
    let (same, text) = MatchResult-at_ok _ _ _ c.in-Ok.is c.from_utf8.ensures.cases in
    let f = field_of_place c.args.place c.args.field.now in
    let room = c.args.room - vec_len c.args.cells.now in
    let some = some_from_empty c.in-Ok.text.now f.bytes c.is_empty.result same c.is_empty.ensures c.if-is_empty.false in
    let (in_sheet, at) = inside c.args.place f.bytes c.cell.result c.in-Some.at c.cell.ensures c.in-Some.is in
    let left : 0 < room = omega arith in
    let one_less : room - 1 ≡ c.args.room - vec_len c.push_cell.new.cells = omega (arith, c.in_ok-push_cell.ensures.count) in
    passed_field room f rest (field_fits room f text some in_sheet left) ∙ ap (λ r. first_fault r rest) (room_less room f some ∙ one_less)
