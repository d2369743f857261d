use Rattle.std.proofs.Common.{◌≡◌, ◌+◌, pos, ◌++◌, ◌∷◌, [], map, drop, slice_index_or, suc, ap, sym, ◌∙◌, arith, append_assoc}
use Rattle.std.proofs.Math.Seq.{drop-cons}
use Rattle.shared_expressions.proofs.Entries.{all_below_at}
use Rattle.shared_expressions.proofs.keys.key_of.Goals as goal

pub push_child-requires : goal.push_child-requires
push_child-requires c = all_below_at 9223372036854775808 c.loop-part.part-index c.args.parts.now c.requires c.loop-part-test.true

pub loop-part-preserved : goal.loop-part-preserved
loop-part-preserved c =
    let plus : suc c.loop-part.part-index ≡ c.loop-part.part-index + 1 = omega arith in
    ap (λ z. z ++ map pos (drop (c.loop-part.part-index + 1) c.args.parts.now)) c.in_ok-push_child.ensures
    ∙ append_assoc c.loop-part.key.items (pos (slice_index_or c.args.parts.now c.loop-part.part-index 0) ∷ []) (map pos (drop (c.loop-part.part-index + 1) c.args.parts.now))
    ∙ (λ i. c.loop-part.key.items ++ map pos (slice_index_or c.args.parts.now c.loop-part.part-index 0 ∷ drop (sym plus i) c.args.parts.now))
    ∙ ap (λ z. c.loop-part.key.items ++ map pos z) (sym (drop-cons c.args.parts.now c.loop-part.part-index 0 c.loop-part-test.true))
    ∙ c.loop-part.invariant
