use Rattle.std.proofs.Common.{◌≡◌, [], arith, refl, length, drop, ◌∙◌, get_or, ◌*◌, ◌+◌, ◌-◌, length-drop}
use Rattle.std.proofs.lemmas.List.{get_or-drop}
use borrow.Rule.Slice.PartMut.{same_len_mid}
use Rattle.cell_words.specs.TextWords.{bytes_in}
use Rattle.cell_words.proofs.Packing.{front_start, front_more}
use Rattle.cell_words.proofs.text_words.bytes_of.Goals as goal

pub loop-k-init : goal.loop-k-init
loop-k-init c = record { sized = refl; front = front_start [] [] }

pub loop-k-preserved : goal.loop-k-preserved
unfolding bytes_in
loop-k-preserved c =
    let k = c.loop-k.k in
    let words = c.args.words.now in
    let t = c.told-words in
    let e : c.copy_from_slice.new.self ≡ bytes_in (get_or words (k + 1) 0) = c.copy_from_slice.ensures.after ∙ c.to_le_bytes-eight.ensures in
    let g : get_or words (k + 1) 0 ≡ get_or (drop 1 words) k 0 = grind (arith, get_or-drop) in
    let n : length (drop 1 words) ≡ 6 = omega (arith, length-drop 1 words) in
    record {
      sized = same_len_mid (8 * k) (8 * k + 8 - 8 * k) c.loop-k.bytes c.copy_from_slice.new.self c.copy_from_slice.ensures.len ∙ c.loop-k.invariant.sized;
      front = rw e (front_more c.loop-k.bytes _ (drop 1 words) k (get_or words (k + 1) 0) c.loop-k.invariant.sized c.loop-k-test.true n g c.loop-k.invariant.front);
    }
