use Rattle.std.proofs.Common.{rules, ◌≡◌, ◌≤◌, ◌/◌, length, sym, ◌∙◌, subst, Some, arith}
use Rattle.std.specs.Prelude.{slice_get, slice_index_or}
use Rattle.what_if.specs.Tables.{scenario_of}
use Rattle.what_if.proofs.Working.{found_at, index_told, some_or_none}
use Rattle.what_if.proofs.gathering.found.Goals as goal

pub unreachable-requires : goal.unreachable-requires
unreachable-requires c =
    let t = found_at c.args.table.now c.requires.table c.args.all.now c.requires.count c.requires.run c.args.scenario c.requires.low c.index-all-worker.result in
    let here = subst (λ xs. slice_get xs (c.args.scenario / c.args.table.now.workers) ≡ Some (scenario_of c.args.table.now c.args.scenario)) (sym c.deref.ensures.value) t in
    let out : length c.deref.result.now ≤ c.args.scenario / c.args.table.now.workers = let z = c.in_default.ensures.lookup in grind (arith, z) in
    some_or_none c.deref.result.now (c.args.scenario / c.args.table.now.workers) (scenario_of c.args.table.now c.args.scenario) here out

pub returns : goal.returns
returns c =
    let t = found_at c.args.table.now c.requires.table c.args.all.now c.requires.count c.requires.run c.args.scenario c.requires.low c.index-all-worker.result in
    let here = subst (λ xs. slice_get xs (c.args.scenario / c.args.table.now.workers) ≡ Some (scenario_of c.args.table.now c.args.scenario)) (sym c.deref.ensures.value) t in
    let at : c.in-Some.shown.now ≡ slice_index_or c.deref.result.now (c.args.scenario / c.args.table.now.workers) c.in-Some.shown.now = search rules in
    at ∙ index_told c.deref.result.now (c.args.scenario / c.args.table.now.workers) (scenario_of c.args.table.now c.args.scenario) c.in-Some.shown.now here
