use Rattle.std.proofs.Common.{rules, ◌≡◌, ◌++◌, ◌∷◌, [], Some, map, length, sym, subst, ap, ◌∙◌}
use lib.ListN.{get_elem?}
use Rattle.demand_spec.specs.Book.{shown}
use Rattle.claim_core.specs.Rule.{Setup}
use Rattle.claim_core.specs.Passes.{PassSeen, SeesAllDone}
use Rattle.parallel_evaluation.proofs.Lists.{all_known}
use Rattle.parallel_evaluation.proofs.passes.take_back.Goals as goal

pub returns-clause-first : goal.returns-clause-first
returns-clause-first g c =
    let first = c.args.first in
    let ended = c.requires.first in
    let begins : c.push_reserved.new.self.items ≡ c.into_parts-pass.result.0 ∷ [] = search rules in
    let rest = c.take_passes.ensures.first in
    let count : length first.job.pending.cells ≡ length c.args.round.now.setup.cells = ap (λ (s : Setup). length s.cells) ended.belongs.1 in (
      c.into_parts-pass.result.0,
      ap (λ xs. get_elem? xs 0) (rest.1 ∙ ap (λ xs. xs ++ rest.0) begins),
      subst (λ m. SeesAllDone m c.into_parts-pass.result.0.view) count (subst (λ (p : PassSeen). SeesAllDone (length first.job.pending.cells) p.view) (sym c.into_parts-pass.ensures.pass) ended.all.1),
    )

pub returns-clause-results : goal.returns-clause-results
returns-clause-results g c =
    let first = c.args.first in
    let ended = c.requires.first in
    c.into_parts-pass.ensures.known ∙ (all_known first.job.pending first.state.known (ap length (sym c.into_parts-pass.ensures.known) ∙ c.into_parts-pass.ensures.count) ended.all.0
    ∙ ap (λ (s : Setup). map (λ a. Some (shown s.book a)) s.cells) ended.belongs.1)
