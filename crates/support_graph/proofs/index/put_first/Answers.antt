use Rattle.std.proofs.Common.{◌≡◌, ◌∙◌, Bool, true, false, not, is_ok, refl, subst}
use Rattle.support_graph.specs.Blocks.{same_reader, has_key}
use Rattle.support_graph.specs.Steps.{Sets, SetsReaders, is_area_key}
use Rattle.support_graph.proofs.Changes.{changes_undone}
use Rattle.support_graph.proofs.Readings.{reader, cut_first, cut_undone}
use Rattle.support_graph.proofs.index.put_first.Goals as goal

pub returns-then-is_err-clause-cut : goal.returns-then-is_err-clause-cut
returns-then-is_err-clause-cut c =
    let a = c.args.area in
    let old = c.args.index.now in
    let tried = c.put_both-added.new.index in
    let failed : is_ok c.put_both-added.result ≡ false = c.is_err.ensures.negation ∙ (λ i. not (c.if-is_err.true i)) in
    let out : Sets (is_area_key a) false true tried.blocks.keys c.set_area.new.blocks.keys = subst (λ (b : Bool). Sets (is_area_key a) false b tried.blocks.keys c.set_area.new.blocks.keys) (c.set_area.ensures.out refl) c.set_area.ensures.sets in
    cut_undone a old.blocks.keys c.set_area.new.blocks.keys old.readers.keys tried.readers.keys c.requires.cut c.requires.none (c.put_both-added.ensures.err failed)
    (changes_undone has_key (is_area_key a) true (is_ok c.put_both-added.result) old.blocks.keys tried.blocks.keys c.set_area.new.blocks.keys c.put_both-added.ensures.blocks out)

pub returns-else-is_err-clause-cut : goal.returns-else-is_err-clause-cut
returns-else-is_err-clause-cut c =
    let a = c.args.area in
    let old = c.args.index.now in
    let new = c.put_both-added.new.index in
    let done : is_ok c.put_both-added.result ≡ true = c.is_err.ensures.negation ∙ (λ i. not (c.if-is_err.false i)) in
    cut_first a c.args.cell old.blocks.keys new.blocks.keys old.readers.keys new.readers.keys c.requires.cut
    (subst (λ (b : Bool). Sets (is_area_key a) true b old.blocks.keys new.blocks.keys) done c.put_both-added.ensures.blocks)
    (subst (λ (b : Bool). SetsReaders (same_reader (reader a c.args.cell)) true b old.readers.keys new.readers.keys) done c.put_both-added.ensures.readers)
