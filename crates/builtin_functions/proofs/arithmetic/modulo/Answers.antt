use Rattle.std.proofs.Common.{◌≡◌, ◌≢◌, pos, ◌+ℤ◌, int_rem, ◌∙◌, sym, ap, arith}
use Rattle.std.proofs.lemmas.Int.{to_z-of_z, ints}
use Rattle.cell_values.specs.declared.values.Value.{Value}
use Rattle.builtin_functions.specs.Tables.{with_sign_of}
use Rattle.builtin_functions.proofs.Exact.{Held, modulo_by_zero, modulo_is, sum_held, with_sign_moved, with_sign_of_zero, with_sign_kept}
use Rattle.builtin_functions.proofs.arithmetic.modulo.Goals as goal
use Rattle.builtin_functions.proofs.arithmetic.modulo.Goals.{else-remainder-ne0-via-then-remainder-ne0+else-remainder-y, else-remainder-ne0-via-else-remainder-ne0}

pub returns-then-y-eq0 : goal.returns-then-y-eq0
returns-then-y-eq0 c =
    let y_zero : c.args.y ≡ pos 0 = omega (arith, ints) in
    sym (modulo_by_zero c.args.x c.args.y y_zero)

pub returns-then-remainder-y : goal.returns-then-remainder-y
returns-then-remainder-y c =
    let x = c.args.x in
    let y = c.args.y in
    let r = c.wrapping_rem-remainder.result in
    let x_held : Held x = c.ranges.x in
    let y_held : Held y = c.ranges.y in
    let y_not_zero : y ≢ pos 0 = omega (arith, ints) in
    let r_not_zero : r ≢ pos 0 = omega (arith, ints) in
    let r_held : Held r = record { sfits = c.wrapping_rem-remainder.type_inv } in
    let r_is : r ≡ int_rem x y = simp to_z-of_z at c.wrapping_rem-remainder.ensures in
    let signs = simp to_z-of_z at c.if-remainder-y.true in
    let moved_held : Held (r +ℤ y) = sum_held y r y_held r_held signs in
    simp to_z-of_z
    (ap Value.Number (with_sign_moved y r r_not_zero signs ∙ ap (with_sign_of y) r_is) ∙ sym (modulo_is x y y_not_zero))

pub returns-else-remainder-ne0 : goal.returns-else-remainder-ne0
returns-else-remainder-ne0 c =
    let x = c.args.x in
    let y = c.args.y in
    let r = c.wrapping_rem-remainder.result in
    let x_held : Held x = c.ranges.x in
    let y_held : Held y = c.ranges.y in
    let y_not_zero : y ≢ pos 0 = omega (arith, ints) in
    let r_held : Held r = record { sfits = c.wrapping_rem-remainder.type_inv } in
    let r_is : r ≡ int_rem x y = simp to_z-of_z at c.wrapping_rem-remainder.ensures in
    let kept : r ≡ with_sign_of y r =
    elim c.else-remainder-ne0.branch [
      | else-remainder-ne0-via-then-remainder-ne0+else-remainder-y w ↦ with_sign_kept y r (simp to_z-of_z at w.if-remainder-y.false)
      | else-remainder-ne0-via-else-remainder-ne0 w ↦ with_sign_of_zero y r (omega (arith, ints))
    ]
    in
    simp to_z-of_z (ap Value.Number (kept ∙ ap (with_sign_of y) r_is) ∙ sym (modulo_is x y y_not_zero))
