use Rattle.std.proofs.Common.{◌∙◌, ◌+◌, ◌++◌, ◌∷◌, ◌≤◌, [], List, drop, length, append_assoc, sym, ap, arith}
use Rattle.std.proofs.lemmas.List.{append-nil}
use Rattle.cell_values.specs.declared.address.Addr.{Addr}
use Rattle.cell_values.specs.Areas.{walk}
use Rattle.cell_values.proofs.Walking.{drop_past}
use Rattle.workbook_core.proofs.copies.addresses_of.Goals as goal

pub loop-n-preserved : goal.loop-n-preserved
loop-n-preserved c =
    let cells : List Addr = walk c.args.area in
    let rest : List Addr = drop (c.loop-n.n + 1) cells in
    ap (λ (xs : List Addr). xs ++ rest) c.in_ok-push.ensures.items ∙ append_assoc c.loop-n.addresses.items (c.nth.result ∷ []) rest
    ∙ ap (λ (xs : List Addr). c.loop-n.addresses.items ++ xs) (sym c.nth.ensures) ∙ c.loop-n.invariant

pub returns : goal.returns
returns c =
    let past : length (walk c.args.area) ≤ c.loop-n.n = (let a = c.size-n-end.ensures.count in let b = c.loop-n-test.false in omega (arith, a, b)) in
    sym (append-nil c.loop-n.addresses.items) ∙ ap (λ (xs : List Addr). c.loop-n.addresses.items ++ xs) (sym (drop_past (walk c.args.area) c.loop-n.n past)) ∙ c.loop-n.invariant
