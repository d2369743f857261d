use Rattle.std.proofs.Common.{◌≡◌, ◌+◌, [], ◌∷◌, ◌∙◌, take, get_or, refl, subst, List, true}
use Rattle.std.proofs.lemmas.List.{take_all}
use Rattle.std.specs.List.{list_any}
use Rattle.cell_values.specs.declared.address.Addr.{Addr}
use Rattle.support_graph.specs.declared.block.Block.{Block}
use Rattle.support_graph.specs.Blocks.{same_block}
use Rattle.support_graph.specs.Pending.{among}
use Rattle.support_graph.specs.Steps.{IsSearch}
use Rattle.support_graph.specs.Support.{IsCell}
use Rattle.support_graph.proofs.Lists.{no_addr}
use Rattle.support_graph.proofs.Reach.{begun, nothing_begun, still_read, one_more_passes}
use Rattle.support_graph.proofs.search.Search.start_from.Goals as goal

no_block : {A : Type 0} → (b : Block) (blocks : List Block) → blocks ≡ [] → list_any (same_block b) blocks ≡ true → A
no_block b [] e h = absurd cc
no_block b (x ∷ blocks) e h = absurd cc

pub loop-cell-init : goal.loop-cell-init
loop-cell-init c = record {
  pending = refl;
  search = nothing_begun c.args.support.now (among []) c.args.self.now (λ x h. cc) c.requires.0 c.requires.1;
  done = λ b x h k. no_block b c.new-done.result.keys c.new-done.ensures.empty h;
}

pub visit_dependents-requires : goal.visit_dependents-requires
visit_dependents-requires c =
    let cell = get_or c.args.cells.now c.loop-cell.cell-index no_addr in
    still_read c.args.support.now c.loop-cell.done.keys (λ x. (x ≡ cell) × IsCell c.args.support.now x) c.loop-cell.self c.visit_cell.new.self c.in_ok-visit_cell.ensures c.loop-cell.invariant.done

pub loop-cell-preserved : goal.loop-cell-preserved
loop-cell-preserved c =
    let i = c.loop-cell.cell-index in
    let cells = c.args.cells.now in
    let cell = get_or cells i no_addr in
    record {
      pending = c.in_ok-visit_dependents.ensures.visits.pending ∙ c.in_ok-visit_cell.ensures.pending ∙ c.loop-cell.invariant.pending;
      search = begun c.args.support.now (among (take i cells)) (among (take (i + 1) cells)) cell (one_more_passes i cells c.loop-cell-test.true) c.loop-cell.self c.visit_cell.new.self c.visit_dependents.new.search c.loop-cell.invariant.search c.in_ok-visit_cell.ensures c.in_ok-visit_dependents.ensures.visits;
      done = c.in_ok-visit_dependents.ensures.done;
    }

pub returns-clause-search : goal.returns-clause-search
returns-clause-search c = subst (λ (xs : List Addr). IsSearch c.args.support.now (among xs) c.loop-cell.self) (take_all c.loop-cell.cell-index c.args.cells.now c.loop-cell-test.false) c.loop-cell.invariant.search
