use Rattle.std.proofs.Common.{rules, ◌≡◌, ◌∙◌, IfOk, List, subst}
use Rattle.std.specs.Map.{keys_of}
use Rattle.cell_values.specs.declared.address.Addr.{Addr}
use Rattle.cell_values.specs.Order.{addresses}
use Rattle.cell_values.proofs.Order.{addresses_are_keys}
use Rattle.support_graph.proofs.Cells.{addresses_listed}
use Rattle.support_graph.proofs.support.Support.cells.Goals as goal

pub returns-clause-cells : goal.returns-clause-cells
returns-clause-cells c =
    let es = c.self.inside.cells.entries in
    let keys : IfOk c.collect.result (λ v. v.items ≡ keys_of es) = search rules in
    let same : keys_of es ≡ addresses c.args.self.now = addresses_are_keys es ∙ addresses_listed es ∙ (λ i. addresses (c.self.view_is i)) in
    subst (λ (xs : List Addr). IfOk c.collect.result (λ v. v.items ≡ xs)) same keys
