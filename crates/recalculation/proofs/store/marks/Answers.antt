use Rattle.std.proofs.Common.{rules, ◌≡◌, None}
use Rattle.std.specs.BTreeMap.{IsFromIterResult}
use Rattle.std.proofs.lemmas.Iterator.{YieldsList-from_slice, YieldsList-from_map}
use Rattle.std.proofs.lemmas.Iterator.Adapters.{fact_from_collect}
use Rattle.std.proofs.lemmas.Iterator.Consumers.{YieldsList-at}
use Rattle.std.proofs.lemmas.Result.{IfOk-weaker}
use Rattle.cell_values.specs.contracts.address.AddrOrd.TheImpl as addr_ord
use Rattle.cell_values.specs.declared.address.Addr.{Addr}
use Rattle.cell_values.specs.declared.values.Shown.{Shown}
use Rattle.cell_values.specs.Order.{entry_at}
use Rattle.demand_spec.specs.Laws.{In}
use Rattle.recalculation.specs.Written.{HasRoomFor}
use Rattle.recalculation.proofs.Marked.{room_marked, others_unmarked}
use Rattle.recalculation.proofs.store.marks.Goals as goal

pub returns-clause-room : goal.returns-clause-room
returns-clause-room c =
    let road = YieldsList-from_map _ (λ (a : Addr). (a, Shown.ToCycle)) (YieldsList-at c.map.ensures.source (YieldsList-from_slice c.args.cells.now c.iter.ensures.rest)) c.map.ensures.closure (λ x r q k. search rules) in
    let made = fact_from_collect (IsFromIterResult (addr_ord.ghosts).cmp) c.collect.result c.collect.ensures.ran road in
    IfOk-weaker c.collect.result _ (λ m. HasRoomFor c.args.cells.now m.entries) (λ m h. room_marked c.args.cells.now m.entries h.0) made

pub returns-clause-others : goal.returns-clause-others
returns-clause-others c =
    let road = YieldsList-from_map _ (λ (a : Addr). (a, Shown.ToCycle)) (YieldsList-at c.map.ensures.source (YieldsList-from_slice c.args.cells.now c.iter.ensures.rest)) c.map.ensures.closure (λ x r q k. search rules) in
    let made = fact_from_collect (IsFromIterResult (addr_ord.ghosts).cmp) c.collect.result c.collect.ensures.ran road in
    IfOk-weaker c.collect.result _ (λ m. (q : Addr) → (In q c.args.cells.now → ⊥) → entry_at m.entries q ≡ None) (λ m h. others_unmarked c.args.cells.now m.entries h.0) made
